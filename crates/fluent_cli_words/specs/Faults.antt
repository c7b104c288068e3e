-- What is wrong with words that are of the form.
use Rattle.std.specs.Prelude.{◌==◌, ◌&&◌, ℕ, Bool, true, false, not, List, [], ◌∷◌, ◌++◌, length, find, Option, Some, None, option_map, option_and_then, is_some, codes, if◌then◌else◌}
use Rattle.std.specs.List.{list_any}
use Rattle.std.specs.Option.{option_or}
use Rattle.std.specs.Str.{bytes_eq}
use Rattle.clap.specs.Walk.{Row, Text, first_of}
use Rattle.fluent_plural_rules.specs.Languages.{Texts, rules_of}
use Rattle.fluent_plural_rules.specs.LanguageTable.{cldr_plurals}
use Rattle.fluent_cli_words.specs.Given.{argument_words, format_named, is_argument, is_given, values_of}
use Rattle.fluent_cli_words.specs.declared.request.Format.{Format}

abbrev pub tag_fault : Text → Option Texts → Option Text
tag_fault tag (Some rules) = None
tag_fault tag None = Some (codes "no plural rules are known for the language '" ++ (tag ++ codes "'"))

-- the tag of a language without plural rules
abbrev pub language_fault : List Row → Option Text
language_fault rows = option_and_then (λ tag. tag_fault tag (rules_of cldr_plurals tag)) (first_of (codes "language") rows)

abbrev pub name_fault : Text → Option Format → Option Text
name_fault name (Some format) = None
name_fault name None = Some (codes "a format is text, json, github or sarif, and '" ++ (name ++ codes "' is not"))

-- the name of no format
abbrev pub format_fault : List Row → Option Text
format_fault rows = option_and_then (λ name. name_fault name (format_named name)) (first_of (codes "format") rows)

-- the names of the kinds of findings
abbrev pub kind_names : List Text
kind_names =
    codes "unreadable" ∷ (codes "id-taken" ∷ (codes "function-id" ∷ (codes "repeated-attribute"
    ∷ (codes "missing-message" ∷ (codes "missing-attribute" ∷ (codes "missing-value" ∷ (codes "missing-term"
    ∷ (codes "missing-term-attribute" ∷ (codes "missing-function" ∷ (codes "not-a-function" ∷ (codes "cycle" ∷ (codes "too-many-placeables"
    ∷ (codes "may-open-too-many" ∷ (codes "refers-to-unclean" ∷ (codes "variable-not-given" ∷ (codes "unused-argument" ∷ (codes "not-a-number"
    ∷ (codes "plural-category" ∷ (codes "unused-category" ∷ (codes "repeated-variant" ∷ (codes "not-translated"
    ∷ (codes "not-in-reference" ∷ (codes "unknown-variable" ∷ (codes "variable-left-out" ∷ (codes "term-left-out"
    ∷ (codes "function-left-out" ∷ []))))))))))))))))))))))))))

unfoldable pub is_kind : Text → Bool
is_kind name = list_any (λ kind. bytes_eq kind name) kind_names

abbrev pub no_kind : Text → Text
no_kind name = codes "there is no kind of finding '" ++ (name ++ codes "'")

-- the first name of no kind
abbrev pub kind_fault : List Row → Option Text
kind_fault rows =
    option_map no_kind (find (λ name. not (is_kind name)) (values_of (codes "allow") rows))

-- by whether a folder of translations is given, and how many files and references there are
abbrev pub count_fault : Bool → ℕ → ℕ → Option Text
count_fault false files references = if files == 0 then Some (codes "there is no FILE to check") else None
count_fault true files references =
    if (files == 0) && (references == 1) then None else Some (codes "--translation FOLDER goes with --reference FOLDER alone")

-- no file is named; or one beside a folder of translations, or that without one folder that they were translated from
abbrev pub files_fault : List Row → Option Text
files_fault rows =
    count_fault (is_some (first_of (codes "translation") rows)) (length (values_of (codes "file") rows))
    (length (values_of (codes "reference") rows))

-- each file is to be checked for itself, and against references with which files are compared together
abbrev pub each_fault : List Row → Option Text
each_fault rows =
    if is_given (codes "each") rows && is_some (first_of (codes "reference") rows)
    then Some (codes "--each goes without --reference; --translation takes each file for itself")
    else None

-- the first fault of the words behind `check`, and behind `show`
abbrev pub check_fault : List Row → Option Text
check_fault rows =
    option_or (language_fault rows)
    (option_or (format_fault rows) (option_or (kind_fault rows) (option_or (files_fault rows) (each_fault rows))))

abbrev pub no_argument : Text → Text
no_argument word = codes "an argument is NAME=VALUE, and '" ++ (word ++ codes "' is not")

abbrev pub show_fault : List Row → Option Text
show_fault rows =
    option_or (language_fault rows) (option_map no_argument (find (λ word. not (is_argument word)) (argument_words rows)))
