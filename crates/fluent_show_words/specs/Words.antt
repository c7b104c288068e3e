-- What the words of a call ask for, and which plural rules.
-- Words of another crate: `rules`, the plural rules that a text has, and `category_of`, the category that they give a number.
use Rattle.std.specs.Prelude.{ℕ, Bool, true, false, ◌&&◌, ◌==◌, nat_eq, nat_lt, if◌then◌else◌, Option, Some, None, List, [], ◌∷◌, map, length, codes, ◌≡◌, Result, Ok, unwrap_or}
use Rattle.std.specs.List.{list_all, starts_with, before_first, after_first}
use Rattle.std.specs.Option.{option_and_then}
use Rattle.std.specs.Str.{bytes_eq}
use Rattle.fluent_ast.specs.Tree.{Text}
use Rattle.fluent_intl.specs.Plurals.{english}
use Rattle.fluent_plural_rules.specs.RuleGrammar.{rules}
use Rattle.fluent_plural_rules.specs.RuleTexts.{category_of}
use Rattle.fluent_plural_rules.specs.RuleTree.{Rule}
use Rattle.fluent_semantics.specs.Value.{Plurals}
use Rattle.fluent_show_words.specs.declared.options.Named.{Named}
use Rattle.fluent_show_words.specs.declared.options.Named.TheVariants.{Cardinal, Ordinal, Fallback}
use Rattle.fluent_show_words.specs.declared.options.Word.{Word}
use Rattle.fluent_show_words.specs.declared.options.Word.TheVariants as word

-- ---- what the words after the program's name ask for: options in any order, then `ID [NAME=VALUE]..`

-- An option is `--no-isolate`, or `--cardinal`, `--ordinal` or `--fallback` with its text after it, each at most once.

-- whether placeables are isolated, the texts of plural rules, and a second source
pub record Options : Type 0 where
  pub isolate : Bool
  pub cardinal : Option Text
  pub ordinal : Option Text
  pub fallback : Option Text

-- a message to show, how, and the arguments in their order
pub record Asked : Type 0 where
  pub options : Options
  pub id : Text
  pub arguments : List (Text × Text)

-- ---- options

abbrev pub no_options : Options
no_options = record { isolate = true; cardinal = None; ordinal = None; fallback = None }

-- which option a word is
abbrev pub word_of : Text → Word
word_of w =
    if bytes_eq w (codes "--no-isolate") then word.NoIsolate
    else (if bytes_eq w (codes "--cardinal") then word.WithText Cardinal
    else (if bytes_eq w (codes "--ordinal") then word.WithText Ordinal
    else (if bytes_eq w (codes "--fallback") then word.WithText Fallback else word.Other)))

-- what is given once, and no text before it
abbrev pub once : Option Text → Options → Option Options
once None options = Some options
once (Some before) options = None

abbrev pub without_isolation : Options → Option Options
without_isolation o = if o.isolate then Some (record o { isolate = false }) else None

abbrev pub with_text : Named → Text → Options → Option Options
with_text Cardinal t o = once o.cardinal (record o { cardinal = Some t })
with_text Ordinal t o = once o.ordinal (record o { ordinal = Some t })
with_text Fallback t o = once o.fallback (record o { fallback = Some t })

-- ---- ID and arguments

abbrev pub is_equals : ℕ → Bool
is_equals b = b == 61

-- what stands before the first `=`, and what stands after it
abbrev pub name_and_value : Text → Text × Text
name_and_value word = (before_first is_equals word, after_first is_equals word)

-- there is a `=`, and something stands before the first
abbrev pub is_argument : Text → Bool
is_argument word =
    let before = length (before_first is_equals word) in
    nat_lt 0 before && nat_lt before (length word)

-- the words from ID on; there is none, or one that is no ID or no argument: a fault of usage
abbrev pub asked_from : Options → List Text → Option Asked
asked_from options [] = None
asked_from options (id ∷ rest) =
    if starts_with nat_eq id (codes "--") then None
    else (if list_all is_argument rest
    then Some (record { options = options; id = id; arguments = map name_and_value rest }) else None)

-- ---- all words

-- by what the next word is, how the words after it go on, and what it asks for as ID
abbrev pub asked_at : Word → Options → (Options → Option Named → Option Asked) → Option Asked
    → Option Asked
asked_at word.NoIsolate options go id = option_and_then (λ o. go o None) (without_isolation options)
asked_at (word.WithText named) options go id = go options (Some named)
asked_at word.Other options go id = id

-- after these options, and before the text of this one
abbrev pub asked_after : Options → Option Named → List Text → Option Asked
asked_after options before [] = None
asked_after options (Some named) (text ∷ rest) =
    option_and_then (λ o. asked_after o None rest) (with_text named text options)
asked_after options None (word ∷ rest) =
    asked_at (word_of word) options (λ o before. asked_after o before rest)
    (asked_from options (word ∷ rest))

abbrev pub asked_by : List Text → Option Asked
asked_by words = asked_after no_options None words

-- ---- which plural rules are asked for

-- those of two texts, where both can be read
abbrev pub of_both : Result (List Rule) ℕ → Result (List Rule) ℕ → Option Plurals
of_both (Ok cardinal) (Ok ordinal) =
    Some (category_of (record { cardinal = cardinal; ordinal = ordinal }))
of_both _ _ = None

-- English where no text is given; one alone leaves the other empty
abbrev pub of_texts : Option Text → Option Text → Option Plurals
of_texts None None = Some english
of_texts cardinal ordinal = of_both (rules (unwrap_or cardinal [])) (rules (unwrap_or ordinal []))

-- the plural rules that the options give, if their texts can be read
abbrev pub plurals_asked : Options → Option Plurals
plurals_asked options = of_texts options.cardinal options.ordinal

-- the words are of the form, and a plural rule in them can't be read
abbrev pub HasBadRule : Option Asked → Type 0
HasBadRule None = ⊥
HasBadRule (Some asked) = plurals_asked asked.options ≡ None
