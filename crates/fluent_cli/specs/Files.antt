-- Files that are named: what is read of each, or else why it can't be.
-- Words of other crates: `Read`, the name of a file, its text, and whether that stood after a byte order mark; `utf8_valid_len`, the length of
-- the longest front that is UTF-8.
use Rattle.std.specs.Prelude.{◌≡◌, ◌==◌, ◌+◌, ◌&&◌, ℕ, Bool, true, false, not, List, [], ◌∷◌, ◌++◌, map, filter, flat_map, take, drop, Option, Some, None, Result, Ok, Err, is_some, count_by, nat_eq, codes, if◌then◌else◌}
use Rattle.std.specs.Borrow.{Bor}
use Rattle.std.specs.Fmt.{decimal}
use Rattle.std.specs.List.{starts_with, zip}
use Rattle.std.specs.Option.{option_to_list}
use Rattle.std.specs.Str.{is_utf8}
use Rattle.std.specs.Str.Lossy.{utf8_valid_len}
use Rattle.fluent_ast.specs.Tree.{Text}
use Rattle.fluent_sources.specs.Files.{Read}
use Rattle.fluent_cli_report.specs.Unread.{Unread}
use Rattle.fluent_cli.specs.declared.reading.File.{File}

-- a byte order mark
abbrev pub mark : List ℕ
mark = 239 ∷ 187 ∷ 191 ∷ []

abbrev pub has_mark : List ℕ → Bool
has_mark bytes = starts_with nat_eq bytes mark

abbrev pub without_mark : List ℕ → List ℕ
without_mark bytes = if has_mark bytes then drop 3 bytes else bytes

-- ---- why a file can't be read

-- where a text begins
abbrev pub start_of : List ℕ → ℕ
start_of bytes = if has_mark bytes then 3 else 0

-- where a text is none: at the first byte behind all that is UTF-8
abbrev pub bad_byte : List ℕ → ℕ
bad_byte bytes = start_of bytes + utf8_valid_len (without_mark bytes)

-- how many lines end in bytes
abbrev pub lines_in : List ℕ → ℕ
lines_in bytes = count_by (λ b. b == 10) bytes

-- the line of a byte
abbrev pub line_at : List ℕ → ℕ → ℕ
line_at bytes at = lines_in (take at bytes) + 1

abbrev pub no_text : Text → ℕ → ℕ → Unread
no_text name line at = record { file = name; line = Some line; reason = codes "not UTF-8 at byte " ++ decimal at }

abbrev pub no_file : Text → Text → Unread
no_file name reason = record { file = name; line = None; reason = reason }

abbrev pub fault_by : Text → Result (Bor (List ℕ)) (Bor Text) → Option Unread
fault_by name (Ok bytes) =
    if is_utf8 (without_mark bytes.now) then None
    else Some (no_text name (line_at bytes.now (bad_byte bytes.now)) (bad_byte bytes.now))
fault_by name (Err reason) = Some (no_file name reason.now)

-- why a file can't be read, if it can't
abbrev pub fault_of : File → Option Unread
fault_of file = fault_by file.name.now file.contents

abbrev pub unread_by : Text → Result (Bor (List ℕ)) (Bor Text) → List Unread
unread_by name contents = option_to_list (fault_by name contents)

abbrev pub unread_of : File → List Unread
unread_of file = unread_by file.name.now file.contents

-- those of some files that can't be read
abbrev pub unread_in : List File → List Unread
unread_in files = flat_map unread_of files

-- ---- what is read of the others

abbrev pub bytes_by : Result (Bor (List ℕ)) (Bor Text) → List ℕ
bytes_by (Ok bytes) = bytes.now
bytes_by (Err reason) = []

abbrev pub read_by : Text → Result (Bor (List ℕ)) (Bor Text) → Read
read_by name contents = record {
  name = name;
  text = without_mark (bytes_by contents);
  had_mark = has_mark (bytes_by contents);
}

abbrev pub read_of : File → Read
read_of file = read_by file.name.now file.contents

abbrev pub can_be_read : File → Bool
can_be_read file = not (is_some (fault_of file))

abbrev pub reads_of : List File → List Read
reads_of files = map read_of (filter can_be_read files)

-- ---- pairs of files

-- the files at the same places of two lists
abbrev pub pairs : List File → List File → List (File × File)
pairs files references = zip files references

abbrev pub both_can_be_read : File × File → Bool
both_can_be_read pair = can_be_read pair.0 && can_be_read pair.1

-- those of which both can be read
abbrev pub readable_pairs : List (File × File) → List (File × File)
readable_pairs pairs = filter both_can_be_read pairs

-- those that can't be read, pair by pair
abbrev pub unread_pairs : List (File × File) → List Unread
unread_pairs pairs = flat_map (λ pair. unread_of pair.0 ++ unread_of pair.1) pairs
