-- What status 0 of a check says.
use Rattle.std.specs.Prelude.{◌≡◌, List, [], map, is_some}
use Rattle.fluent_ast.specs.Tree.{Entry}
use Rattle.fluent_syntax.specs.Chunks.{entries}
use Rattle.fluent_check.specs.Faultless.{AreFaultlessBy, tag_of}
use Rattle.fluent_sources.specs.Files.{Read}
use Rattle.fluent_cli_words.specs.declared.request.CheckRequest.{CheckRequest}
use Rattle.fluent_cli_words.specs.declared.request.Request.TheVariants as request
use Rattle.fluent_cli.specs.Checked.{grouping_of}
use Rattle.fluent_cli.specs.Inputs.{Readable, readable}
use Rattle.fluent_cli.specs.Runs.{Runs}
use Rattle.fluent_cli.specs.declared.answer.Answer.{Answer}
use Rattle.fluent_cli.specs.declared.answer.Status.TheVariants.{Fine}
use Rattle.fluent_cli.specs.declared.reading.File.{File}

-- the entries of each file, as the grammar reads them
abbrev pub entries_in : List Read → List (List Entry)
entries_in reads = map (λ read. entries read.text) reads

-- All files could be read, and nothing in them and those beside them ever shows an error, in a bundle that has them and the functions that they call.
pub record IsFaultless (check : CheckRequest) (all : Readable) : Type 0 where
  pub unread : all.unread ≡ []
  pub faultless : AreFaultlessBy (grouping_of check) (tag_of check.language) (entries_in all.beside) (entries_in all.files)

-- so it is where no kind of finding is allowed, and the status is 0
abbrev pub FineIsFaultless : Type 0
FineIsFaultless =
    (check : CheckRequest) (beside files references : List File) (answer : Answer)
    → Runs (request.Check check) beside files references answer → answer.status ≡ Fine → check.allowed.items ≡ []
    → IsFaultless check (readable (is_some check.translation) beside files references)
