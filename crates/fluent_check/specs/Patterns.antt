-- What is wrong in patterns.
use Rattle.std.specs.Prelude.{◌≡◌, Bool, List, [], ◌∷◌, ◌++◌}
use Rattle.fluent_ast.specs.Tree.{Text, Pattern}
use Rattle.fluent_semantics.specs.Bundle.{Target, unknown, without_value, found}
use Rattle.fluent_places.specs.Asked.{texts}
use Rattle.fluent_places.specs.Places.{Place, Names, names_of, place_target}
use Rattle.fluent_places.specs.Needs.{needs}
use Rattle.fluent_patterns.specs.Categories.{Categories}
use Rattle.fluent_patterns.specs.Found.{Flaw, Found}
use Rattle.fluent_patterns.specs.References.{reference_flaws}
use Rattle.fluent_patterns.specs.Selects.{select_flaws}
use Rattle.fluent_patterns.specs.Terms.{asks_of}
use Rattle.fluent_check.specs.Bundles.{bundle_view}
use Rattle.fluent_check.specs.Called.{functions_in}
use Rattle.fluent_check.specs.Copied.{is_copied, unless_copied}
use Rattle.fluent_sources.specs.Standing.{Standing, flaws_at}
use Rattle.fluent_check.specs.declared.patterns.Against as code

-- What patterns are held against: what ids name, functions that the application adds, and whether what stands at a place asks for a variable.
pub record Against : Type 0 where
  pub named : Names Text
  pub functions : List Text
  pub asks : Place → Text → Bool

abbrev pub against_view : code.Against → Against
against_view a = record {
  named = names_of (bundle_view a.bundle.now);
  functions = texts a.functions.now;
  asks = asks_of a.terms.now;
}

-- of a pattern
abbrev pub flaws_of : Against → Pattern → List Flaw
flaws_of a p = reference_flaws a.named a.functions a.asks p

abbrev pub flaws_if : Against → Target → List Flaw
flaws_if a unknown = []
flaws_if a without_value = []
flaws_if a (found p) = flaws_of a p

-- of what stands there
abbrev pub found_in_pattern : Against → Standing → List Found
found_in_pattern a s = flaws_at s (flaws_if a (place_target a.named s.1.place))

abbrev pub found_in_patterns : Against → List Standing → List Found
found_in_patterns a [] = []
found_in_patterns a (s ∷ ss) = found_in_pattern a s ++ found_in_patterns a ss

-- ---- functions that are called

abbrev pub called_if : Target → List Text
called_if unknown = []
called_if without_value = []
called_if (found p) = functions_in (needs p)

abbrev pub called_at : Names Text → Standing → List Text
called_at named s = called_if (place_target named s.1.place)

abbrev pub called_in : Names Text → List Standing → List Text
called_in named [] = []
called_in named (s ∷ ss) = called_at named s ++ called_in named ss

-- ---- selects

abbrev pub select_flaws_if : Categories → Target → List Flaw
select_flaws_if c unknown = []
select_flaws_if c without_value = []
select_flaws_if c (found p) = select_flaws c p

-- What is wrong with the selects of what stands there, by the categories of a language. What is word for word the reference's is not translated yet,
-- and not held against them: `there` is what ids name in the reference.
abbrev pub found_selects_at : Names Text → Names Text → Categories → Standing → List Found
found_selects_at named there c s =
    flaws_at s (select_flaws_if (unless_copied (is_copied named there s.1.place) c) (place_target named s.1.place))

abbrev pub found_selects : Names Text → Names Text → Categories → List Standing → List Found
found_selects named there c [] = []
found_selects named there c (s ∷ ss) = found_selects_at named there c s ++ found_selects named there c ss
