-- Lists in order, by a test of what comes before what. Of two of which neither does, the one comes first that came first.
use Rattle.std.specs.Prelude.{Bool, List, [], ◌∷◌, if◌then◌else◌}

-- before the first that doesn't come before it
abbrev pub put_by : {X : Type 0} → (X → X → Bool) → X → List X → List X
put_by before x [] = x ∷ []
put_by before x (y ∷ ys) = if before y x then y ∷ put_by before x ys else x ∷ (y ∷ ys)

abbrev pub sorted_by : {X : Type 0} → (X → X → Bool) → List X → List X
sorted_by before [] = []
sorted_by before (x ∷ xs) = put_by before x (sorted_by before xs)
