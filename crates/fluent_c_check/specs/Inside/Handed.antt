-- What is handed over, as the code has it.
use Rattle.std.specs.Prelude.{◌≡◌, Bool, List, ◌++◌, map, Option, string_bytes}
use Rattle.std.specs.Borrow.{Bor}
use Rattle.std.specs.Option.{option_map}
use Rattle.fluent_ast.specs.Tree.{Text}
use Rattle.fluent_answers.specs.ArgumentView.{argument_view}
use Rattle.fluent_answers.specs.Records.{Are}
use Rattle.fluent_sources.specs.Files.{Read}
use Rattle.fluent_sources.specs.Reading.{AreRead, texts_read}
use Rattle.fluent_check.specs.declared.checking.Found.{Found}
use Rattle.fluent_cli_report.specs.Rows.{errors_in, warnings_in}
use Rattle.fluent_c_check.specs.Checks.{Finds, HandsOver, Lists, Wanted, all_reads, language_of, reads_of, rows_in, runs_of, told_in}
use Rattle.fluent_c_check.specs.declared.found.Inputs.{Inputs}
use Rattle.fluent_c_check.specs.declared.handed.Bytes.{Bytes}
use Rattle.fluent_c_check.specs.declared.handed.Handed.{Handed}
use Rattle.fluent_c_check.specs.declared.report.Report.{Report}

abbrev pub wanted_by : Bytes → Wanted
wanted_by b = record {
  language = b.language.now;
  sources = b.sources.now;
  beside = b.beside.now;
  references = b.references.now;
  functions = b.functions.now;
}

abbrev pub runs_in : Bytes → List Text
runs_in b = runs_of (wanted_by b)

abbrev pub handed_view : Handed → Lists
handed_view h = record {
  sources = map argument_view h.sources.items;
  beside = map argument_view h.beside.items;
  references = map argument_view h.references.items;
  functions = map argument_view h.functions.items;
}

abbrev pub reads_handed : Handed → List Read
reads_handed h = all_reads (handed_view h)

-- The runs are these records.
pub record HandsLists (tag : Text) (bytes : Bytes) (handed : Handed) : Type 0 where
  pub language : handed.language.now ≡ tag
  pub sources : Are (map argument_view handed.sources.items) bytes.sources.now
  pub beside : Are (map argument_view handed.beside.items) bytes.beside.now
  pub references : Are (map argument_view handed.references.items) bytes.references.now
  pub functions : Are (map argument_view handed.functions.items) bytes.functions.now

-- This is what bytes hand over.
pub record IsHanded (bytes : Bytes) (handed : Handed) : Type 0 where
  pub language : handed.language.now ≡ bytes.language.now
  pub hands : HandsOver (wanted_by bytes) (handed_view handed)

-- Sources were read as they are handed over.
pub record AreReadFrom (handed : Handed) (inputs : Inputs) : Type 0 where
  pub sources : AreRead (reads_of (map argument_view handed.sources.items)) inputs.sources
  pub beside : AreRead (reads_of (map argument_view handed.beside.items)) inputs.beside
  pub references : AreRead (reads_of (map argument_view handed.references.items)) inputs.references

-- the texts that were read, in the order in which sources are numbered
abbrev pub texts_in : Inputs → List Read
texts_in inputs = texts_read inputs.beside ++ (texts_read inputs.sources ++ texts_read inputs.references)

-- the language of a tag
abbrev pub IsLanguage : Text → Option (Bor Text) → Type 0
IsLanguage tag language = option_map (λ t. t.now) language ≡ language_of tag

abbrev pub FindsIn : Handed → Found → Type 0
FindsIn handed = Finds handed.language.now (handed_view handed)

-- This is told of what is found.
pub record TellsOf (handed : Handed) (json : Bool) (report : Report) : Type 0 where
  pub found : Found
  pub finds : FindsIn handed found
  pub text : string_bytes report.text ≡ told_in json (rows_in (handed_view handed) found)
  pub errors : report.counts.errors ≡ errors_in (rows_in (handed_view handed) found)
  pub warnings : report.counts.warnings ≡ warnings_in (rows_in (handed_view handed) found)
  pub clean : report.is_clean ≡ found.is_clean

-- The same of bytes.
pub record ReportsOn (bytes : Bytes) (json : Bool) (report : Report) : Type 0 where
  pub handed : Handed
  pub is : IsHanded bytes handed
  pub tells : TellsOf handed json report
