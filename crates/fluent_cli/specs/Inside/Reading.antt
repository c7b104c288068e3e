-- What single steps read.
use Rattle.std.specs.Prelude.{◌≡◌, ℕ, true, false, List, [], ◌∷◌, ◌++◌, map, Option, Some, None, Result, Ok, Err, is_some}
use Rattle.std.specs.Borrow.{Bor}
use Rattle.std.specs.Str.{is_utf8}
use Rattle.std.specs.declared.vec.Vec.{Vec}
use Rattle.std.proofs.Common.{Global}
use Rattle.fluent_ast.specs.Tree.{Text}
use Rattle.fluent_sources.specs.Reading.{AreRead, read_view}
use Rattle.fluent_sources.specs.declared.source.Source.{Source}
use Rattle.fluent_cli.specs.Files.{bad_byte, fault_by, read_by, read_of, readable_pairs, without_mark}
use Rattle.fluent_cli_report.specs.Unread.{Unread, unread_views}
use Rattle.fluent_cli_report.specs.declared.unread.UnreadFile.{UnreadFile}
use Rattle.fluent_cli.specs.declared.reading.File.{File}
use Rattle.fluent_cli.specs.declared.reading.Inputs.{Inputs}

-- the text that bytes are after a mark, or where they are none
abbrev pub IsTextOf : List ℕ → Result (Bor Text) ℕ → Type 0
IsTextOf bytes (Ok text) = (is_utf8 (without_mark bytes) ≡ true) × (text.now ≡ without_mark bytes)
IsTextOf bytes (Err at) = (is_utf8 (without_mark bytes) ≡ false) × (at ≡ bad_byte bytes)

-- by its name and what it has, a source was read from a file, or it can't be
abbrev pub ReadsBy : Text → Result (Bor (List ℕ)) (Bor Text) → Option Source → Type 0
ReadsBy name contents (Some source) = (fault_by name contents ≡ None) × (read_view source ≡ read_by name contents)
ReadsBy name contents None = is_some (fault_by name contents) ≡ true

abbrev pub ReadsFile : File → Option Source → Type 0
ReadsFile file = ReadsBy file.name.now file.contents

-- more can't be read
abbrev pub AddsUnread : List Unread → Vec UnreadFile Global → Vec UnreadFile Global → Type 0
AddsUnread more old new = unread_views new.items ≡ unread_views old.items ++ more

-- these were read of the first and of the second files of pairs
abbrev pub AreReadPairs : List (File × File) → Inputs → Type 0
AreReadPairs pairs inputs =
    AreRead (map (λ pair. read_of pair.0) pairs) inputs.sources × AreRead (map (λ pair. read_of pair.1) pairs) inputs.references

-- a pair was added, if both can be read
abbrev pub AddsPair : File → File → Inputs → Inputs → Type 0
AddsPair file reference old new =
    (before : List (File × File)) → AreReadPairs before old → AreReadPairs (before ++ readable_pairs ((file, reference) ∷ [])) new
