-- The messages of a bundle are from the resources that were added to it.
use Rattle.std.proofs.Common.{◌≡◌, refl, sym, subst, Bool, false, List, [], ◌∷◌, ◌++◌}
use Rattle.fluent_ast.specs.Tree.{Text}
use Rattle.fluent_plural_rules.specs.RuleTexts.{category_of}
use Rattle.fluent_semantics.specs.Bundle.{Bundle, add_resource, add_resource_overriding, after}
use Rattle.fluent_c_handles.specs.Answers.{OpenedByTag}
use Rattle.fluent_c_handles.specs.Calls.Opening.{OpenedByRules}
use Rattle.fluent_resource.specs.ResourceView.{entries_of}
use Rattle.fluent_c_handles.specs.declared.message_ids.Added.{Added}
use Rattle.fluent_c_handles.specs.Inside.Resources.{AllFrom, given}
use Rattle.fluent_c_handles.specs.Facts.Kept.{all_from_none, all_from_override, all_from_push}

pub opened_from : (tag : Text) (on bare : Bool) (b : Bundle Text) → OpenedByTag tag on bare b → AllFrom [] b.ids
opened_from tag on bare b o = subst (λ (x : Bundle Text). AllFrom [] x.ids) (sym o.is) (all_from_none (category_of o.rules) on bare)

pub opened_by_from : (cardinal ordinal : Text) (on : Bool) (b : Bundle Text) → OpenedByRules cardinal ordinal on b → AllFrom [] b.ids
opened_by_from cardinal ordinal on b o = subst (λ (x : Bundle Text). AllFrom [] x.ids) (sym o.is) (all_from_none (category_of o.rules) on false)

-- a resource that was added stands behind those before it
pub added_from : (all : List Added) (new : Added) (b b' : Bundle Text)
    → b' ≡ after (add_resource (entries_of new.resource.now)) b → AllFrom (given all) b.ids → AllFrom (given (all ++ new ∷ [])) b'.ids
added_from all new b b' is from =
    subst (λ (x : Bundle Text). AllFrom (given (all ++ new ∷ [])) x.ids) (sym is) (all_from_push all new (entries_of new.resource.now) b refl from)

pub overridden_from : (all : List Added) (new : Added) (b b' : Bundle Text)
    → b' ≡ after (add_resource_overriding (entries_of new.resource.now)) b → AllFrom (given all) b.ids → AllFrom (given (all ++ new ∷ [])) b'.ids
overridden_from all new b b' is from =
    subst (λ (x : Bundle Text). AllFrom (given (all ++ new ∷ [])) x.ids) (sym is) (all_from_override all new (entries_of new.resource.now) b refl from)
