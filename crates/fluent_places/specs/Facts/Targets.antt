-- What is seen at a target stands there.
use Rattle.std.proofs.Common.{◌≡◌, Some, ap, sym}
use Rattle.fluent_ast.specs.Tree.{Pattern}
use Rattle.fluent_semantics.specs.Bundle.{Target, unknown, without_value, found}
use Rattle.fluent_places.specs.PlaceView.{pattern_in}

pub some_there : (t : Target) (p : Pattern) → Some p ≡ pattern_in t → t ≡ found p
some_there unknown p h = absurd cc
some_there without_value p h = absurd cc
some_there (found q) p h = let same : p ≡ q = cc in ap found (sym same)
