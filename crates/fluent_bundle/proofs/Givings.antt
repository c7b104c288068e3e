-- What formatting answers as a text.
use Rattle.std.proofs.Common.{rules, ◌≡◌, refl, sym, ap, subst, ◌∙◌, List, [], ◌++◌, append-nil, Option, Some, None, Result, String, string_bytes, Global}
use Rattle.std.specs.Prelude.{true, false, ◌≤◌, ◌&&◌, not, is_some, if◌then◌else◌}
use Rattle.std.specs.Option.{option_map}
use Rattle.std.specs.declared.borrow.CowStr.{CowStr}
use Rattle.fluent_ast.specs.Tree.{Text, Pattern, nothing, more, text, placeable}
use Rattle.fluent_semantics.specs.Errors.{Error}
use Rattle.fluent_semantics.specs.Value.{Value, text_value}
use Rattle.fluent_semantics.specs.Arguments.{Map}
use Rattle.fluent_semantics.specs.Bundle.{Bundle, unless_formatted}
use Rattle.fluent_semantics.specs.Result.{formatted, written_pattern, substituted_pattern}
use Rattle.fluent_bundle.specs.Formatted.{AddsAll, AddsPrefix, GivesText, KeepsLimit}
use Rattle.fluent_semantics.specs.Walk.{elements}
use Rattle.fluent_semantics.specs.Meaning.{ran}
use Rattle.fluent_bundle_entries.specs.Texts.{sole_text, is_text, IsTextAlone}
use Rattle.fluent_resolver_state.specs.Status.{reported}
use Rattle.fluent_bundle_entries.specs.declared.errors.FluentError.{FluentError}

-- the same by substitution, within the limit
pub gives_within : {E : Type 0} (b : Bundle Text) (env : Map (Value Text)) (p : Pattern) (r : Result (CowStr Global) E) (list list' : List FluentError) → KeepsLimit b env p
    → GivesText (formatted b (written_pattern b env p).value) (written_pattern b env p).errors r list list' → (substituted_pattern b env p).opened ≤ b.limit → GivesText (formatted b (substituted_pattern b env p).value) (substituted_pattern b env p).errors r list list'
gives_within b env p r list list' keeps h few = subst (λ m. GivesText (formatted b m.value) m.errors r list list') (keeps.within few) h

-- where a sole text was borrowed, there is no transform and no formatter
pub borrowed_where : {X Y : Type 0} (o : Option X) (f : Option Y) (p : Pattern) (t : Text) → Some t ≡ (if not (is_some o) && not (is_some f) then sole_text p else None) → (o ≡ None) × (f ≡ None) × (sole_text p ≡ Some t)
borrowed_where None None p t h = (refl, refl, sym h)
borrowed_where None (Some f) p t h = search (rules, h)
borrowed_where (Some x) f p t h = search (rules, h)

-- of a pattern that is one text nothing else is made there
pub sole_known : {X Y : Type 0} (o : Option X) (f : Option Y) (p : Pattern) (t : Text) (r : Option Text) → r ≡ (if not (is_some o) && not (is_some f) then sole_text p else None) → sole_text p ≡ Some t → o ≡ None → f ≡ None → r ≡ Some t
sole_known None None p t r h is a b = h ∙ is
sole_known None (Some f) p t r h is a b = absurd cc
sole_known (Some x) f p t r h is a b = absurd cc

-- so where nothing was made there, it isn't one
pub never_sole : {X Y : Type 0} (o : Option X) (f : Option Y) (p : Pattern) (t : Text) → None ≡ (if not (is_some o) && not (is_some f) then sole_text p else None) → sole_text p ≡ Some t → o ≡ None → f ≡ None → ⊥
never_sole o f p t h is a b = let never : None ≡ Some t = sole_known o f p t None h is a b in cc

-- where it is written at once, there is no transform
pub at_once_where : {X : Type 0} (o : Option X) (p : Pattern) (t : Text) → Some t ≡ (if not (is_some o) then sole_text p else None) → (o ≡ None) × (sole_text p ≡ Some t)
at_once_where None p t h = (refl, sym h)
at_once_where (Some x) p t h = cc

-- where its texts are written as they stand, there is no transform and nothing else in it
pub texts_where : {X : Type 0} (o : Option X) (p : Pattern) → (not (is_some o) && is_text p) ≡ true → (o ≡ None) × (is_text p ≡ true)
texts_where None p h = (refl, h)
texts_where (Some x) p h = cc

-- where they aren't, there is one or the other
pub never_alone : {X : Type 0} (o : Option X) (p : Pattern) → (not (is_some o) && is_text p) ≡ false → IsTextAlone p → o ≡ None → ⊥
never_alone None p h texts bare = let e : true ≡ false = sym texts ∙ h in cc
never_alone (Some x) p h texts bare = cc

-- what a pattern of one text means there
pub sole_value : (b : Bundle Text) (env : Map (Value Text)) (p : Pattern) (t : Text) → ((u : Text) → b.transform u ≡ u) → sole_text p ≡ Some t → (written_pattern b env p).value ≡ t
unfolding elements ran
sole_value b env nothing t plain is = search (rules, is)
sole_value b env (more (text u) nothing) t plain is = append-nil (b.transform u) ∙ plain u ∙ cc is
sole_value b env (more (text u) (more e p)) t plain is = search (rules, is)
sole_value b env (more (placeable x) p) t plain is = search (rules, is)

pub sole_errors : (b : Bundle Text) (env : Map (Value Text)) (p : Pattern) (t : Text) → sole_text p ≡ Some t → (written_pattern b env p).errors ≡ []
unfolding elements ran
sole_errors b env nothing t is = refl
sole_errors b env (more (text u) nothing) t is = refl
sole_errors b env (more (text u) (more e p)) t is = search (rules, is)
sole_errors b env (more (placeable x) p) t is = search (rules, is)

pub sole_formatted : (b : Bundle Text) (env : Map (Value Text)) (p : Pattern) (t : Text) → ((u : Text) → b.transform u ≡ u) → ((v : Value Text) → b.formatter v ≡ None) → sole_text p ≡ Some t → t ≡ formatted b (written_pattern b env p).value
sole_formatted b env p t plain bare is = sym (ap (formatted b) (sole_value b env p t plain is) ∙ ap (λ o. unless_formatted o t) (bare (text_value t)))

pub none_added : (b : Bundle Text) (env : Map (Value Text)) (p : Pattern) (t : Text) (list : List FluentError) → sole_text p ≡ Some t → AddsAll (written_pattern b env p).errors list list
none_added b env p t list is = record { added = sym (ap (λ es. reported list ++ es) (sole_errors b env p t is) ∙ append-nil (reported list)) }

pub no_prefix_added : (errors : List Error) (list : List FluentError) → AddsPrefix errors list list
no_prefix_added errors list = record { prefix = []; rest = errors; whole = refl; adds = record { added = sym (append-nil (reported list)) } }

-- what the formatter shows a text as that was made, and that text where it shows none
module _ (b : Bundle Text) (made all : Text) (answer : Option (String Global)) (is : made ≡ all) (asked : option_map string_bytes answer ≡ b.formatter (text_value made)) where
  shown_so : (o : Option (String Global)) → answer ≡ o → unless_formatted (option_map string_bytes o) all ≡ formatted b all
  shown_so o there = ap (λ t. unless_formatted t all) (sym (ap (option_map string_bytes) there) ∙ asked ∙ ap (λ t. b.formatter (text_value t)) is)

  pub formatted_some : (shown : String Global) → answer ≡ Some shown → string_bytes shown ≡ formatted b all
  formatted_some shown there = shown_so (Some shown) there

  pub formatted_none : answer ≡ None → all ≡ formatted b all
  formatted_none there = shown_so None there
