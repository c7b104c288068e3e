-- Findings as they look on a screen.
use Rattle.std.specs.Prelude.{ℕ, ◌-◌, ◌==◌, ◌&&◌, Bool, true, false, not, List, [], ◌∷◌, ◌++◌, length, flat_map, nat_le, replicate, codes, encode_utf8, if◌then◌else◌}
use Rattle.std.specs.Char.{is_control}
use Rattle.std.specs.Str.{chars}
use Rattle.fluent_ast.specs.Tree.{Text}
use Rattle.fluent_cli_report.specs.Rows.{Row, line_with, severity}
use Rattle.fluent_cli_report.specs.declared.options.Look.{Look}

-- a text in red, or in yellow, by the codes of a terminal
abbrev pub colored : Bool → Text → Text
colored true text = (27 ∷ codes "[1;31m") ++ (text ++ (27 ∷ codes "[0m"))
colored false text = (27 ∷ codes "[1;33m") ++ (text ++ (27 ∷ codes "[0m"))

-- the word for an error, or for a warning, in its color if there are colors
abbrev pub word_of : Bool → Bool → Text
word_of color error = if color then colored error (severity error) else severity error

abbrev pub mark_of : Bool → Bool → Text
mark_of color error = if color then colored error (codes "^") else codes "^"

-- a space stands for a tab and other control characters, so that each character takes a place
abbrev pub in_picture : ℕ → Text
in_picture c = if is_control c then 32 ∷ [] else encode_utf8 c

abbrev pub shown_line : Text → Text
shown_line line = flat_map in_picture (chars line)

abbrev pub has_picture : Text → Bool
has_picture line = not (length line == 0) && nat_le (length line) 400

-- the line, and a mark under the place
abbrev pub caret_by : Bool → Row → Text
caret_by color r =
    codes "    " ++ (shown_line r.source ++ (codes "\n    " ++ (replicate (r.column - 1) 32 ++ (mark_of color r.is_error ++ 10 ∷ []))))

abbrev pub caret_lines : Bool → Row → Text
caret_lines color r = if has_picture r.source then caret_by color r else []

abbrev pub picture : Look → Row → Text
picture look r =
    line_with (word_of look.has_color r.is_error) r ++ (if look.has_caret then caret_lines look.has_color r else [])
