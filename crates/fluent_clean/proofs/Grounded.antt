-- Patterns that are stuck among themselves are not clean.
use Rattle.std.proofs.Common.{◌⊎◌, inl, inr, List, [], ◌∷◌, sym, subst}
use Rattle.std.specs.List.{AllByRecursion}
use Rattle.fluent_ast.specs.Tree.{Pattern}
use Rattle.fluent_places.specs.Places.{Names}
use Rattle.fluent_places.specs.Needs.{needs, IsAmong}
use Rattle.fluent_clean.specs.Clean.{RefersTo, IsThere, IsClean, clean}
use Rattle.fluent_clean.specs.Laws.{Lacks, RefersAmong, AreStuck}

pub all_at : {A : Type 0} (P : A → Type 0) (xs : List A) → AllByRecursion P xs → (x : A) → IsAmong x xs → P x
all_at P [] h x among = absurd among
all_at P (y ∷ ys) h x (inl same) = subst P (sym same) h.0
all_at P (y ∷ ys) h x (inr later) = all_at P ys h.1 x later

module _ {C : Type 0} (named : Names C) (ps : List Pattern) (stuck : AreStuck named ps ps) where
  by : (p : Pattern) → AllByRecursion (IsThere named) (needs p) → ((q : Pattern) → RefersTo named p q → IsAmong q ps → ⊥) → Lacks named p ⊎ RefersAmong named ps p → ⊥
  by p there below (inl l) = l.2 (all_at (IsThere named) (needs p) there l.0 l.1)
  by p there below (inr r) = below r.0 r.1 r.2

  pub unclean : {p : Pattern} → IsClean named p → IsAmong p ps → ⊥
  unclean {p} (clean there below) among = by p there (λ q r. unclean (below q r)) (all_at (λ p. Lacks named p ⊎ RefersAmong named ps p) ps stuck p among)
