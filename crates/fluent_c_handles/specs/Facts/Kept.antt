-- What stands of the messages of a bundle from its opening on. No contract cites these facts.
use Rattle.std.proofs.Common.{◌≡◌, List, [], ◌∷◌, ◌++◌, Bool, true, false, Option, Some, None, is_some, cond, ◌||◌, codes, refl, sym, ap, subst, ◌∙◌}
use Rattle.std.specs.List.{list_any}
use Rattle.std.specs.Ordering.{nat_cmp, eq_by_cmp}
use Rattle.std.specs.Cmp.Lexicographic.{slice_cmp}
use Rattle.std.proofs.lemmas.List.{map-append}
use Rattle.std.proofs.lemmas.List.Folds.{list_any-append}
use Rattle.fluent_ast.specs.Tree.{Text, Entry}
use Rattle.fluent_semantics.specs.Value.{Plurals}
use Rattle.fluent_semantics.specs.Bundle.{Bundle, number_builtin, after, add_resource, add_resource_overriding}
use Rattle.fluent_semantics.specs.Bundle as m
use Rattle.fluent_bundle_entries.specs.EntryView.{message_content}
use Rattle.fluent_c_handles.specs.Answers.{new_bundle, with_source}
use Rattle.fluent_syntax.specs.Chunks.{entries}
use Rattle.fluent_resource.specs.ResourceView.{entries_of}
use Rattle.fluent_c_handles.specs.declared.message_ids.Added.{Added}
use Rattle.fluent_c_handles.specs.Inside.Resources.{AllFrom, given, is_among, is_message_of}
use Rattle.fluent_c_handles.specs.Calls.Finding.{names_message}
use Rattle.fluent_c_handles.specs.Facts.Added.{added_there, overridden_there, or_left, or_right}

-- a bundle that was just opened has none
pub all_from_none : (plurals : Plurals) (on bare : Bool) → AllFrom [] (new_bundle plurals on bare).ids
all_from_none plurals on true id h = h
all_from_none plurals on false id h = by (eq_by_cmp (slice_cmp nat_cmp) id (codes "NUMBER")) h
  where
    by : (b : Bool) → is_some (message_content (cond {A = Option (m.Entry Text)} b (Some number_builtin) None)) ≡ true → false ≡ true
    by true j = j
    by false j = j

-- What has only the messages of another bundle and of more entries.
all_from_with : (resources : List (List Entry)) (es : List Entry) (b b' : Bundle Text) → ((id : Text) → names_message b' id ≡ true → (names_message b id || list_any (is_message_of id) es) ≡ true) → AllFrom resources b.ids → AllFrom (resources ++ es ∷ []) b'.ids
all_from_with resources es b b' there from id h =
    list_any-append (list_any (is_message_of id)) resources (es ∷ []) ∙ by (names_message b id) refl (there id h)
  where
    by : (t : Bool) → names_message b id ≡ t → (t || list_any (is_message_of id) es) ≡ true → (is_among id resources || (list_any (is_message_of id) es || false)) ≡ true
    by true k j = or_left _ _ (from id k)
    by false k j = or_right _ _ (or_left _ _ j)

-- entries that are added stand behind those before them
all_from_entries : (resources : List (List Entry)) (es : List Entry) (b : Bundle Text) → AllFrom resources b.ids → AllFrom (resources ++ es ∷ []) (after (add_resource es) b).ids
all_from_entries resources es b = all_from_with resources es b (after (add_resource es) b) (λ id. added_there id es b.ids)

-- and so do those that override them
all_from_overriding : (resources : List (List Entry)) (es : List Entry) (b : Bundle Text) → AllFrom resources b.ids → AllFrom (resources ++ es ∷ []) (after (add_resource_overriding es) b).ids
all_from_overriding resources es b = all_from_with resources es b (after (add_resource_overriding es) b) (λ id. overridden_there id es b.ids)

-- those of a source
pub all_from_add : (resources : List (List Entry)) (source : Text) (b : Bundle Text) → AllFrom resources b.ids → AllFrom (resources ++ entries source ∷ []) (with_source source b).ids
all_from_add resources source b from = all_from_entries resources (entries source) b from

-- one resource more than those that they come from
pub all_from_more : (resources : List (List Entry)) (es : List Entry) (b : Bundle Text) → AllFrom resources b.ids → AllFrom (resources ++ es ∷ []) b.ids
all_from_more resources es b from id h = list_any-append (list_any (is_message_of id)) resources (es ∷ []) ∙ or_left _ _ (from id h)

-- ---- the same of resources as the code has them

pushed : (all : List Added) (new : Added) → given (all ++ new ∷ []) ≡ given all ++ entries_of new.resource.now ∷ []
pushed all new = map-append (λ (added : Added). entries_of added.resource.now) all (new ∷ [])

-- one more was put beside them, and is not yet added
pub all_from_put : (all : List Added) (new : Added) (b : Bundle Text) → AllFrom (given all) b.ids → AllFrom (given (all ++ new ∷ [])) b.ids
all_from_put all new b from =
    subst (λ resources. AllFrom resources b.ids) (sym (pushed all new)) (all_from_more (given all) (entries_of new.resource.now) b from)

-- of the entries that were read of it
pushed_read : (all : List Added) (new : Added) (es : List Entry) → entries_of new.resource.now ≡ es → given (all ++ new ∷ []) ≡ given all ++ es ∷ []
pushed_read all new es same = pushed all new ∙ ap (λ read. given all ++ read ∷ []) same

-- it was added; of a source, this is what `with_source` makes
pub all_from_push : (all : List Added) (new : Added) (es : List Entry) (b : Bundle Text) → entries_of new.resource.now ≡ es → AllFrom (given all) b.ids → AllFrom (given (all ++ new ∷ [])) (after (add_resource es) b).ids
all_from_push all new es b same from =
    subst (λ resources. AllFrom resources (after (add_resource es) b).ids) (sym (pushed_read all new es same)) (all_from_entries (given all) es b from)

-- it was added, and its entries override what was there
pub all_from_override : (all : List Added) (new : Added) (es : List Entry) (b : Bundle Text) → entries_of new.resource.now ≡ es → AllFrom (given all) b.ids → AllFrom (given (all ++ new ∷ [])) (after (add_resource_overriding es) b).ids
all_from_override all new es b same from =
    subst (λ resources. AllFrom resources (after (add_resource_overriding es) b).ids) (sym (pushed_read all new es same)) (all_from_overriding (given all) es b from)
