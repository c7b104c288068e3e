-- What the words give: the values of an option or an argument, by the rows that `clap` makes of the words behind a subcommand.
use Rattle.std.specs.Prelude.{◌==◌, ◌&&◌, ℕ, Bool, true, false, List, [], ◌++◌, map, length, find, Option, Some, None, option_map, option_and_then, unwrap_or, nat_lt, codes, if◌then◌else◌}
use Rattle.std.specs.Borrow.{Bor}
use Rattle.std.specs.List.{after_first, before_first, list_any, position_or_len}
use Rattle.std.specs.Str.{bytes_eq}
use Rattle.clap.specs.Walk.{Row, Text, all_of, first_of}
use Rattle.clap.specs.declared.parser.matches.ValueSource.{ValueSource}
use Rattle.clap.specs.declared.parser.matches.ValueSource.TheVariants.{CommandLine}
use Rattle.fluent_cli_words.specs.declared.request.Argument.{Argument}
use Rattle.fluent_cli_words.specs.declared.request.Format.{Format}
use Rattle.fluent_cli_words.specs.declared.request.Format.TheVariants as format

abbrev pub text_of : Option (Bor Text) → Option Text
text_of = option_map (λ s. s.now)

abbrev pub texts : List (Bor Text) → List Text
texts = map (λ s. s.now)

-- the values of an option or an argument, in order
abbrev pub values_of : Text → List Row → List Text
values_of id rows = unwrap_or (all_of id rows) []

-- what gave an option or an argument its values
abbrev pub source_of : Text → List Row → Option ValueSource
source_of id rows = option_and_then (λ row. row.source) (find (λ row. bytes_eq row.id id) rows)

abbrev pub are_words : Option ValueSource → Bool
are_words (Some CommandLine) = true
are_words _ = false

-- whether an option stands in the words
abbrev pub is_given : Text → List Row → Bool
is_given id rows = are_words (source_of id rows)

-- the format that a name has
abbrev pub format_named : Text → Option Format
format_named name =
    if bytes_eq name (codes "text") then Some format.Text
    else (if bytes_eq name (codes "json") then Some format.Json
    else (if bytes_eq name (codes "github") then Some format.Github
    else (if bytes_eq name (codes "sarif") then Some format.Sarif else None)))

-- the format that is asked for, and plain text where none is
abbrev pub format_of : List Row → Format
format_of rows = unwrap_or (option_and_then format_named (first_of (codes "format") rows)) format.Text

abbrev pub is_equals : ℕ → Bool
is_equals b = b == 61

abbrev pub is_dot : ℕ → Bool
is_dot b = b == 46

-- what a word gives a message: the name before its first `=`, the value behind that, and whether it is a text
abbrev pub argument_in : Bool → Text → Text × Text × Bool
argument_in is_text word = (before_first is_equals word, after_first is_equals word, is_text)

-- it has a `=`, and a name before it
abbrev pub is_argument : Text → Bool
is_argument word = let at = position_or_len is_equals word in nat_lt 0 at && nat_lt at (length word)

-- the arguments of a message, plain ones before texts
abbrev pub arguments_in : List Row → List (Text × Text × Bool)
arguments_in rows =
    map (argument_in false) (values_of (codes "argument") rows) ++ map (argument_in true) (values_of (codes "text") rows)

abbrev pub argument_view : Argument → Text × Text × Bool
argument_view a = (a.name.now, a.value.now, a.is_text)

-- the words that are to be arguments
abbrev pub argument_words : List Row → List Text
argument_words rows = values_of (codes "argument") rows ++ values_of (codes "text") rows

-- the message that is named, and its attribute, behind the first dot
abbrev pub id_in : List Row → Text
id_in rows = unwrap_or (first_of (codes "id") rows) []

abbrev pub attribute_in : Text → Option Text
attribute_in word = if list_any is_dot word then Some (after_first is_dot word) else None
