-- Files that can't be read.
use Rattle.std.specs.Prelude.{◌≡◌, ℕ, true, List, [], ◌∷◌, ◌++◌, map, flat_map, Option, Some, None, unwrap_or, codes, string_bytes}
use Rattle.std.specs.Fmt.{decimal}
use Rattle.fluent_ast.specs.Tree.{Text}
use Rattle.fluent_cli_report.specs.Rows.{Row}
use Rattle.fluent_cli_report.specs.declared.unread.UnreadFile.{UnreadFile}
use Rattle.fluent_cli_words.specs.declared.request.Format.{Format}
use Rattle.fluent_cli_words.specs.declared.request.Format.TheVariants as format

-- The name of the file, the line up to which it is a text, if it was read, and why it can't be.
pub record Unread : Type 0 where
  pub file : Text
  pub line : Option ℕ
  pub reason : Text

abbrev pub unread_view : UnreadFile → Unread
unread_view u = record { file = u.file.now; line = u.line; reason = string_bytes u.reason }

abbrev pub unread_views : List UnreadFile → List Unread
unread_views files = map unread_view files

-- ---- what is said

abbrev pub said_by : Text → Option ℕ → Text → Text
said_by file (Some line) reason = codes "fluent: " ++ (file ++ (codes ":" ++ (decimal line ++ (codes ": " ++ (reason ++ 10 ∷ [])))))
said_by file None reason = codes "fluent: " ++ (file ++ (codes ": " ++ (reason ++ 10 ∷ [])))

-- fluent: FILE:LINE: REASON
abbrev pub unread_line : Unread → Text
unread_line u = said_by u.file u.line u.reason

abbrev pub unread_lines : List Unread → Text
unread_lines files = flat_map unread_line files

-- ---- what is reported

abbrev pub unread_row : Unread → Row
unread_row u = record {
  file = u.file;
  line = unwrap_or u.line 1;
  column = 1;
  is_error = true;
  name = codes "unreadable-file";
  entry = [];
  text = u.reason;
  source = [];
}

-- a report for people has none of it, as it is said to them beside the report
abbrev pub unread_rows : Format → List Unread → List Row
unread_rows format.Text files = []
unread_rows format.Json files = map unread_row files
unread_rows format.Github files = map unread_row files
unread_rows format.Sarif files = map unread_row files
