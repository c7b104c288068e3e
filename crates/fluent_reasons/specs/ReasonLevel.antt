-- A function value that reads what stands in braces or in an argument list.
use Rattle.std.specs.Prelude.{ℕ}
use Rattle.fluent_reasons.specs.Reasons.{level}
use Rattle.fluent_reasons.specs.ReasonRead.{Pre, Post, GivesRule}

abbrev pub GivesLevel : {F : Type 0} → Pre F → Post F → ℕ → F → Type 0
GivesLevel pre post depth enclosed = GivesRule (level depth) depth (pre enclosed) (post enclosed)
