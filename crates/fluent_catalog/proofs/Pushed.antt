-- What a list has where there was room.
use Rattle.std.proofs.Common.{◌≡◌, List, [], ◌∷◌, ◌++◌, Result, Ok, Err, IsOk, if◌then◌else◌}
use Rattle.std.specs.Prelude.{is_ok}

pub pushed : {X E : Type 0} (r : Result (Unit {0}) E) (before after : List X) (x : X) → IsOk r → after ≡ (if is_ok r then before ++ x ∷ [] else before) → after ≡ before ++ x ∷ []
pushed (Ok u) before after x ok is = is
pushed (Err e) before after x ok is = cc
