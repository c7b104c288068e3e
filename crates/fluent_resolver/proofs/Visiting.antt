-- Patterns of one text that references lead to.
use Rattle.std.proofs.Common.{◌≡◌, refl, sym, ap, ◌∙◌, ◌+◌, max, length, [], ◌∷◌, ◌++◌, true, None, Some}
use Rattle.std.proofs.lemmas.List.{length-append}
use Rattle.fluent_ast.specs.Tree.{Text, Pattern, nothing, more, placeable, text}
use Rattle.fluent_bundle_entries.specs.Texts.{sole_text}
use Rattle.fluent_semantics.specs.Ahead.{after, begins}
use Rattle.fluent_semantics.specs.Bundle.{Bundle}
use Rattle.fluent_semantics.specs.Events.{entered}
use Rattle.fluent_semantics.specs.Meaning.{limit_reached}
use Rattle.fluent_resolver_state.specs.Facts.Happening.{with_none}
use Rattle.fluent_resolver_state.specs.Happened.{Happened}
use Rattle.fluent_path.specs.Contents.{counted}
use Rattle.fluent_resolver_state.specs.Status.{Status}
use Rattle.fluent_resolver_state.specs.Steps.{Visits}
use Rattle.fluent_values.specs.Facts.Took.{appends_none}
use Rattle.fluent_values.specs.Sinks.{Sink}
use Rattle.fluent_resolver.specs.Inside.Parts as parts
use Rattle.fluent_resolver.specs.Inside.Parts.{View, Following, text_alone, text_then}
use Rattle.fluent_resolver.proofs.Elements.{none_at_end, none_at_limit, text_first}

-- what has one text is that text
pub sole_is : (p : Pattern) (x : Text) → sole_text p ≡ Some x → p ≡ text_alone x
sole_is nothing x is = cc
sole_is (more (text y) nothing) x is = let same : y ≡ x = cc in ap text_alone same
sole_is (more (text y) (more e p)) x is = cc
sole_is (more (placeable e) p) x is = cc

-- ---- what is ahead

module _ (x : Text) (b : Bundle Text) (k : Following) (v : View) where
  abbrev then_left : Following
  then_left given u = k given (record u { path = v.path })

  abbrev within : View
  within = record v { path = v.path ++ text_alone x ∷ [] }

  -- it is written
  pub text_visited : (v.budget ≡ limit_reached → ⊥) → parts.visited (text_alone x) b k v ≡ after (entered (length (v.path ++ text_alone x ∷ [])) ∷ []) (begins (begins (text_then k v (b.transform x) v.budget)))
  text_visited h =
      ap (λ r. after (entered (length (v.path ++ text_alone x ∷ [])) ∷ []) (begins r))
      (text_first true b then_left within x nothing h
      ∙ ap (λ (next : Following). begins (text_then next within (b.transform x) v.budget)) (λ i given u. none_at_end true b then_left u nothing refl i))

  -- nothing is written past the limit
  pub none_visited : v.budget ≡ limit_reached → parts.visited (text_alone x) b k v ≡ after (entered (length (v.path ++ text_alone x ∷ [])) ∷ []) (begins (k None v))
  none_visited h = ap (λ r. after (entered (length (v.path ++ text_alone x ∷ [])) ∷ []) (begins r)) (none_at_limit true b then_left within (text_alone x) h)

-- ---- what happened

pub happened_visit : {B : Type 0} {a d : Status B} (p : Pattern) (w : Sink) → Visits a d → Happened (entered (length (a.path ++ p ∷ [])) ∷ []) w w a d
happened_visit {a = a} p w h = record {
  text = appends_none w.held;
  errors = h.elsewhere.errors ∙ sym (with_none a.errors);
  budget = h.elsewhere.budget;
  tally = h.tally ∙ ap (λ n. record { opened = a.tally.opened; longest = counted (max a.tally.longest n); entered = counted (a.tally.entered + 1) }) (sym (length-append a.path (p ∷ [])));
  beside = refl;
  borrowed = refl;
  stays = h.elsewhere.stays;
}
