-- How links and slots grow as references are linked.
use Rattle.std.specs.Prelude.{◌≡◌, ℕ, List, ◌++◌, fold, Option}
use Rattle.fluent_ast.specs.Tree.{Text}
use Rattle.fluent_ast.specs.References.{Reference}
use Rattle.fluent_references.specs.Links.{id_of}
use Rattle.fluent_references.specs.Inside.LinkNumbers.{AreNumbers}
use Rattle.fluent_references.specs.Slots.{number, with_slot}

-- with a slot for each of these references, in order
abbrev pub with_slots : {X : Type 0} → List Reference → List (Text × Option X) → List (Text × Option X)
with_slots rs ss = fold (λ ss r. with_slot (id_of r) ss) ss rs

-- each of these references has a slot, and its number comes after the links of others
abbrev pub AppendsLinks : {X : Type 0} → List (Text × Option X) → List (Text × Option X) → List ℕ → List ℕ → List Reference → Type 0
AppendsLinks before after ls ls' rs =
    (after ≡ with_slots rs before)
    × ((done : List Reference) → AreNumbers (number before) done ls → AreNumbers (number after) (done ++ rs) ls')

-- the first of these references have slots, perhaps not all
abbrev pub SlotsOfPrefix : {X : Type 0} → List (Text × Option X) → List (Text × Option X) → List Reference → Type 0
SlotsOfPrefix before after rs = (done left : List Reference) × (rs ≡ done ++ left) × (after ≡ with_slots done before)
