-- What is wrong with the references of a pattern.
use Rattle.std.specs.Prelude.{Bool, List, ◌++◌}
use Rattle.fluent_ast.specs.Tree.{Text, Pattern}
use Rattle.fluent_places.specs.Places.{Place, Names}
use Rattle.fluent_patterns.specs.Found.{Flaw}
use Rattle.fluent_patterns.specs.Missing.{missing}
use Rattle.fluent_patterns.specs.Numbers.{no_numbers}
use Rattle.fluent_patterns.specs.Terms.{term_flaws}

-- by what ids name, functions that the application adds, and whether what stands at a place asks for a variable
abbrev pub reference_flaws : Names Text → List Text → (Place → Text → Bool) → Pattern → List Flaw
reference_flaws named functions asks p = missing named functions p ++ (term_flaws named asks p ++ no_numbers p)
