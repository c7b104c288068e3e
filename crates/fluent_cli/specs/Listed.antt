-- What is listed.
-- Words of other crates: `listed_places`, the values and attributes of files, each where it stands first; `AreAsked`, these are all the
-- variables that one asks for, and no other; `AreDistinct`, each stands there once.
use Rattle.std.specs.Prelude.{◌≡◌, List, [], ◌∷◌, ◌++◌, flat_map, codes, string_bytes}
use Rattle.fluent_ast.specs.Tree.{Text}
use Rattle.fluent_places.specs.Asked.{AreAsked, AreDistinct}
use Rattle.fluent_places.specs.Places.{Place, Names}
use Rattle.fluent_check.specs.Listed.{listed_names, listed_places}
use Rattle.fluent_sources.specs.ReadFiles.{files_read}
use Rattle.fluent_sources.specs.Wording.{place_text}
use Rattle.fluent_sources.specs.declared.source.Sources.{Sources}
use Rattle.fluent_cli_report.specs.Reported.{fault_lines}
use Rattle.fluent_cli.specs.declared.answer.Answer.{Answer}
use Rattle.fluent_cli.specs.declared.answer.Status.TheVariants.{Fine}

abbrev pub variable_text : Text → Text
variable_text name = codes " $" ++ name

-- PLACE $VARIABLE $VARIABLE
abbrev pub list_line : Place → List Text → Text
list_line x variables = place_text x ++ (flat_map variable_text variables ++ 10 ∷ [])

-- a line is that of a place, with the variables that it asks for, each once
pub record IsLine (named : Names Text) (x : Place) (line : Text) : Type 0 where
  pub variables : List Text
  pub asked : AreAsked named x variables
  pub distinct : AreDistinct variables
  pub is : line ≡ list_line x variables

-- a text has the lines of places, in order
abbrev pub AreLines : Names Text → List Place → Text → Type 0
AreLines named [] text = text ≡ []
AreLines named (x ∷ xs) text = (line : Text) × (rest : Text) × IsLine named x line × AreLines named xs rest × (text ≡ line ++ rest)

-- The values and attributes of files, which count as one source.
pub record IsListed (sources : Sources) (answer : Answer) : Type 0 where
  pub status : answer.status ≡ Fine
  pub output : AreLines (listed_names (files_read 0 sources)) (listed_places (files_read 0 sources)) (string_bytes answer.output)
  pub errors : string_bytes answer.errors ≡ fault_lines sources
