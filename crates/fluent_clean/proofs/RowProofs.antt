-- The rows that are no plain computation.
use Rattle.std.proofs.Common.{◌≡◌, [], ◌∷◌, inl, inr, refl, ap, subst, true, false, codes}
use Rattle.fluent_ast.specs.Tree.{Pattern, attribute, no_attribute, pattern_of}
use Rattle.fluent_semantics.specs.Bundle.{Target, unknown, without_value, found}
use Rattle.fluent_semantics.specs.Examples.{say, put, var, msg, own, own_with, named, fun, case, choose}
use Rattle.fluent_places.specs.Needs.{a_message, AsksFor, itself, by_message}
use Rattle.fluent_clean.specs.Clean.{IsClean, clean, IsCleanAt}
use Rattle.fluent_clean.specs.Rows.{ids, one, Cleanness, Asked}
use Rattle.fluent_clean.proofs.Cleaned.{met_is_clean}
use Rattle.fluent_clean.proofs.Grounded.{unclean}

unknown_not : (q : Pattern) → unknown ≡ found q → ⊥
unknown_not q e = absurd cc

without_not : (q : Pattern) → without_value ≡ found q → ⊥
without_not q e = absurd cc

false_not : false ≡ true → ⊥
false_not e = absurd cc

no_pattern : IsCleanAt ids unknown
no_pattern q e = absurd (unknown_not q e)

abbrev pattern_at : Pattern → Target → Pattern
pattern_at p (found q) = q
pattern_at p unknown = p
pattern_at p without_value = p

this : (q : Pattern) → IsClean ids q → IsCleanAt ids (found q)
this q c p e = subst (λ z. IsClean ids z) (ap (pattern_at q) e) c

greeting : IsClean ids (pattern_of (say "Hi " ∷ put (var "user") ∷ []))
greeting = met_is_clean ids _ ((tt, no_pattern), tt)

title : IsClean ids (one (put (msg "greeting")))
title = met_is_clean ids _ (((_, refl), this _ greeting), tt)

brand : IsClean ids (pattern_of (say "Fire " ∷ put (var "x") ∷ put (var "y") ∷ []))
brand = met_is_clean ids _ ((tt, no_pattern), ((tt, no_pattern), tt))

no_value : IsClean ids (one (put (msg "only"))) → ⊥
no_value (clean there below) = without_not there.0.0 there.0.1

no_message : IsClean ids (one (put (msg "nothing"))) → ⊥
no_message (clean there below) = unknown_not there.0.0 there.0.1

no_term : IsClean ids (one (put (own "greeting"))) → ⊥
no_term (clean there below) = unknown_not there.0.0 there.0.1

no_function : IsClean ids (one (put (fun "F" [] []))) → ⊥
no_function (clean there below) = false_not there.0

no_default : IsClean ids (one (choose (var "n") (case "one" [] ∷ []))) → ⊥
no_default (clean there below) = there.1.0

abbrev loop : Pattern
loop = one (put (msg "loop"))

leads_back : IsClean ids (one (put (msg "loop"))) → ⊥
leads_back c = unclean ids (loop ∷ []) (inr (loop, (a_message (codes "loop") no_attribute, inl refl, refl), inl refl), tt) c (inl refl)

argument : IsClean ids (one (put (own_with "brand" [] (named "x" (msg "loop") ∷ [])))) → ⊥
argument (clean there below) = leads_back (below (one (put (msg "loop"))) (a_message (codes "loop") no_attribute, inr (inl refl), refl))

not_by_term : AsksFor ids (codes "x") (one (put (own "brand"))) → ⊥
not_by_term (itself (inl same)) = absurd cc
not_by_term (itself (inr never)) = never
not_by_term (by_message m a (inl same) e asks) = absurd cc
not_by_term (by_message m a (inr never) e asks) = never

pub cleanness : Cleanness
cleanness = record {
  text = met_is_clean ids _ tt;
  variable = met_is_clean ids _ ((tt, no_pattern), ((tt, no_pattern), ((tt, no_pattern), tt)));
  message = met_is_clean ids _ (((_, refl), this _ title), tt);
  builtin = met_is_clean ids _ ((refl, no_pattern), tt);
  term = met_is_clean ids _ (((_, refl), this _ brand), tt);
  no_value = no_value;
  no_message = no_message;
  no_term = no_term;
  no_function = no_function;
  no_default = no_default;
  leads_back = leads_back;
  argument = argument;
}

pub asked : Asked
asked = record {
  itself = itself (inr (inr (inl refl)));
  by_message = by_message (codes "only") (attribute (codes "title")) (inl refl) refl (by_message (codes "greeting") no_attribute (inl refl) refl (itself (inl refl)));
  not_by_term = not_by_term;
  given = itself (inr (inl refl));
}
