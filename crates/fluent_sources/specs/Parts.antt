-- All files in one list, in three parts.
use Rattle.std.specs.Prelude.{◌≡◌, ℕ, ◌-◌, List, ◌++◌, take, drop}
use Rattle.fluent_sources.specs.Groups.{Group, all_in, read_group}
use Rattle.fluent_sources.specs.ReadFiles.{ReadFile, files_in}
use Rattle.fluent_sources.specs.declared.all.AllFiles.{AllFiles}
use Rattle.fluent_sources.specs.declared.source.Sources.{Sources}

-- so many stand beside, and so many before the references
abbrev pub parts : List ReadFile → ℕ → ℕ → Group
parts files m n = record { beside = take m files; own = take (n - m) (drop m files); references = drop n files }

abbrev pub parts_of : AllFiles → Group
parts_of files = parts (files_in files.list) files.first files.behind

-- these are the files of sources
pub record AreAll (beside sources references : Sources) (files : AllFiles) : Type 0 where
  pub all : files_in files.list ≡ all_in (read_group beside sources references)
  pub parts : parts_of files ≡ read_group beside sources references
