-- What is added to a list, by its content.
use Rattle.std.specs.Prelude.{◌≡◌, ℕ, List, [], ◌∷◌, ◌++◌, Some, None, Result, Ok, Err, Vec}
use Rattle.std.specs.Borrow.{Bor}
use Rattle.std.specs.declared.alloc.Global.{Global}
use Rattle.fluent_text.specs.Parser.{Read}
use Rattle.fluent_syntax.specs.Inside.Reading.{all}
use Rattle.fluent_syntax.specs.declared.parser.stop.Stop.{Stop}
use Rattle.fluent_syntax.specs.declared.parser.stop.Stop.TheVariants.{Absent, Memory}

-- these stand after what was there
abbrev pub Appends : {A B : Type 0} → (A → B) → Vec A Global → Vec A Global → List B → Type 0
Appends view old new xs = all view new ≡ all view old ++ xs

-- what was read stands after what was there; where nothing stands, the list is as it was
abbrev pub Pushes : {A B : Type 0} → (A → B) → Result (Bor (List ℕ)) Stop → Vec A Global → Vec A Global → Read B → Type 0
Pushes view (Ok rest) old new r = (x : _) × (r ≡ Some (x, rest.now)) × Appends view old new (x ∷ [])
Pushes view (Err Absent) old new r = (r ≡ None) × (all view new ≡ all view old)
Pushes view (Err Memory) old new r = Unit {0}
