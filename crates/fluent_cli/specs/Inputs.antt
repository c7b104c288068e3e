-- What is read for a request.
use Rattle.std.specs.Prelude.{Bool, true, false, List, ◌++◌, map}
use Rattle.fluent_sources.specs.Files.{Read}
use Rattle.fluent_sources.specs.Reading.{AreRead, texts_read}
use Rattle.fluent_cli.specs.Files.{pairs, read_of, readable_pairs, reads_of, unread_in, unread_pairs}
use Rattle.fluent_cli_report.specs.Unread.{Unread}
use Rattle.fluent_cli.specs.declared.reading.File.{File}
use Rattle.fluent_cli.specs.declared.reading.Inputs.{Inputs}

-- What can be read of files, of those that are loaded with each of them, and of those that they were translated from; and those that can't be read.
pub record Readable : Type 0 where
  pub beside : List Read
  pub files : List Read
  pub references : List Read
  pub unread : List Unread

-- of pairs, those of which both files can be read; else all files that can be
abbrev pub readable : Bool → List File → List File → List File → Readable
readable true beside files references = record {
  beside = reads_of beside;
  files = map (λ pair. read_of pair.0) (readable_pairs (pairs files references));
  references = map (λ pair. read_of pair.1) (readable_pairs (pairs files references));
  unread = unread_in beside ++ unread_pairs (pairs files references);
}
readable false beside files references = record {
  beside = reads_of beside;
  files = reads_of files;
  references = reads_of references;
  unread = unread_in beside ++ (unread_in files ++ unread_in references);
}

-- all that can be read was read, and nothing else
pub record HasRead (all : Readable) (inputs : Inputs) : Type 0 where
  pub beside : AreRead all.beside inputs.beside
  pub files : AreRead all.files inputs.sources
  pub references : AreRead all.references inputs.references

-- the texts, in the order in which files are numbered
abbrev pub texts_in : Inputs → List Read
texts_in inputs = texts_read inputs.beside ++ (texts_read inputs.sources ++ texts_read inputs.references)
