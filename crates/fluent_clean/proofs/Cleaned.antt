-- Where all needs of a pattern are met, it is clean.
use Rattle.std.proofs.Common.{◌≡◌, List, [], ◌∷◌, inl, inr, sym, ap, ◌∙◌}
use Rattle.std.specs.List.{AllByRecursion}
use Rattle.fluent_ast.specs.Tree.{Pattern}
use Rattle.fluent_semantics.specs.Bundle.{found}
use Rattle.fluent_places.specs.Places.{Names}
use Rattle.fluent_places.specs.Needs.{Need, needs, IsAmong}
use Rattle.fluent_clean.specs.Clean.{target, IsThere, IsClean, clean, IsMet}

module _ {C : Type 0} (named : Names C) where
  all_there : (ns : List Need) → AllByRecursion (IsMet named) ns → AllByRecursion (IsThere named) ns
  all_there [] h = tt
  all_there (n ∷ ns) h = (h.0.0, all_there ns h.1)

  clean_below : (ns : List Need) → AllByRecursion (IsMet named) ns → (n : Need) → IsAmong n ns → (q : Pattern) → target named n ≡ found q → IsClean named q
  clean_below [] h n among q e = absurd among
  clean_below (m ∷ ns) h n (inl same) q e = h.0.1 q (ap (target named) (sym same) ∙ e)
  clean_below (m ∷ ns) h n (inr later) q e = clean_below ns h.1 n later q e

  pub met_is_clean : (p : Pattern) → AllByRecursion (IsMet named) (needs p) → IsClean named p
  met_is_clean p h = clean (all_there (needs p) h) (λ q r. clean_below (needs p) h r.0 r.1 q r.2)
