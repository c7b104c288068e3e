-- What is decided is what holds.
use Rattle.std.proofs.Common.{◌≡◌, ◌↔◌, IsTrue, Bool, true, false, refl, rules}
use Rattle.fluent_ast.specs.Tree.{is_yes}

pub decided : {P : Type 0} (r : Bool) (d : Dec P) → (IsTrue r ↔ P) → r ≡ is_yes d
decided true (yes p) h = refl
decided true (no other) h = absurd (other (h.0 (search rules)))
decided false (yes p) h = absurd (let w = h.1 p in search rules)
decided false (no other) h = refl
