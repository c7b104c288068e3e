-- Worked examples: expressions as selectors and as arguments, and what arguments make of a number's options.
use Prim.Native.String.{String}
use Rattle.std.specs.Prelude.{◌≡◌, pos, negsuc, ◌*◌, ◌^◌, ◌-◌, List, [], ◌∷◌, ◌++◌, false, Option, Some, None, codes}
use Rattle.fluent_ast.specs.Tree as t
use Rattle.fluent_ast.specs.Tree.{Text, Inline, nested, inline, select, no_attribute, attribute, no_call, call, arguments, no_inlines, no_nameds, pattern_of, variants_of, term, term_entry, message_entry}
use Rattle.fluent_intl.specs.Options as options
use Rattle.fluent_intl.specs.Options.{default_options}
use Rattle.fluent_intl.specs.declared.options.FluentNumberType.TheVariants.{Ordinal}
use Rattle.fluent_intl.specs.declared.options.FluentNumberStyle.TheVariants.{Percent, Currency}
use Rattle.fluent_intl.specs.declared.options.FluentNumberCurrencyDisplayStyle.TheVariants.{Code}
use Rattle.fluent_semantics.specs.Number.{as_count}
use Rattle.fluent_semantics.specs.Value.{Value, number_value, custom_value, error_value, try_number}
use Rattle.fluent_semantics.specs.Arguments.{get, set_all, merge, number_function}
use Rattle.fluent_semantics.specs.Bundle.{Bundle, Function, add_resource, add_function}
use Rattle.fluent_semantics.specs.Examples.{NoCustom, only, Arguments, say, put, var, str, num, msg, msg_attribute, own, own_with, fun, named, case, case_number, default, choose, entry, private, bundle, whole, with, words, text_length, first_argument, F, P, unknown_variable, cyclic, MessageGives}

abbrev pub error : Text → Text
error t = codes "Resolver error: " ++ t

abbrev pub own_attribute : Text → Inline
own_attribute a = term (codes "t") (attribute a) no_call

abbrev pub yes_or_no : Inline → String → List t.Element
yes_or_no x key = choose x (case key (say "yes" ∷ []) ∷ default "o" (say "no" ∷ []) ∷ []) ∷ []

-- ---- selectors

abbrev pub selects : Bundle NoCustom
selects = bundle (add_resource (term_entry (codes "t") (pattern_of (say "v" ∷ [])) ((codes "a", pattern_of (say "w" ∷ [])) ∷ [])
    ∷ private "missing" (yes_or_no (var "n") "a")
    ∷ entry "number" (choose (var "n") (case_number "1" (say "x" ∷ []) ∷ default "other" (say "y" ∷ []) ∷ []) ∷ [])
    ∷ entry "word" (choose (var "n") (case "one" (say "x" ∷ []) ∷ default "other" (say "y" ∷ []) ∷ []) ∷ [])
    ∷ entry "name" (yes_or_no (var "n") "1")
    ∷ entry "literal" (choose (str "one") (case_number "1" (say "a" ∷ []) ∷ case "one" (say "b" ∷ []) ∷ default "other" (say "c" ∷ []) ∷ []) ∷ [])
    ∷ entry "escaped" (yes_or_no (str "\\u0041") "A")
    ∷ entry "attribute" (yes_or_no (own_attribute (codes "a")) "w") ∷ entry "no_attribute" (yes_or_no (own_attribute (codes "b")) "v")
    ∷ entry "message" (yes_or_no (msg "m") "mm") ∷ entry "m" (say "mm" ∷ [])
    ∷ entry "nested" (yes_or_no (nested (inline (str "x"))) "x")
    ∷ entry "nested_number" (choose (nested (inline (num "1"))) (case_number "1" (say "a" ∷ []) ∷ default "o" (say "b" ∷ []) ∷ []) ∷ [])
    ∷ entry "variable" (yes_or_no (var "q") "a") ∷ entry "in_a_term" (put (own "missing") ∷ [])
    ∷ entry "after_the_default" (choose (str "a") (default "o" (say "y" ∷ []) ∷ case "a" (say "x" ∷ []) ∷ []) ∷ [])
    ∷ entry "second_default" (choose (str "c") (default "b" (say "1" ∷ []) ∷ default "c" (say "2" ∷ []) ∷ []) ∷ [])
    ∷ entry "alone" (say "x" ∷ choose (str "a") (case "a" (put (var "n") ∷ []) ∷ default "o" [] ∷ []) ∷ [])
    ∷ entry "two_by_default" (choose (str "a") (default "o" (say "y" ∷ put (var "n") ∷ []) ∷ []) ∷ [])
    ∷ entry "alone_by_default" (say "x" ∷ choose (str "a") (default "o" (put (var "n") ∷ []) ∷ []) ∷ []) ∷ []) ∷ [])

-- what a select goes to
pub record Selectors : Type 0 where
  pub number_key : MessageGives selects (with "n" (whole 1)) "number" (codes "x") []
  pub text_and_number_key : MessageGives selects (with "n" (words "1")) "number" (codes "y") []
  pub number_and_name_key : MessageGives selects (with "n" (whole 1)) "name" (codes "no") []
  pub text_and_name_key : MessageGives selects (with "n" (words "1")) "name" (codes "yes") []
  pub one : MessageGives selects (with "n" (whole 1)) "word" (codes "x") []
  pub two : MessageGives selects (with "n" (whole 2)) "word" (codes "y") []
  pub word_and_number_key : MessageGives selects [] "literal" (codes "b") []
  pub escaped : MessageGives selects [] "escaped" (codes "yes") []
  pub attribute : MessageGives selects [] "attribute" (codes "yes") []
  pub no_attribute : MessageGives selects [] "no_attribute" (codes "no") (error (codes "Unknown attribute: -t.b") ∷ [])
  pub message : MessageGives selects [] "message" (codes "yes") []
  pub nested : MessageGives selects [] "nested" (codes "yes") []
  pub nested_number : MessageGives selects [] "nested_number" (codes "b") []
  pub missing : MessageGives selects [] "variable" (codes "no") (unknown_variable "q" ∷ [])
  pub missing_in_a_term : MessageGives selects (with "n" (words "a")) "in_a_term" (codes "no") []
  pub after_the_default : MessageGives selects [] "after_the_default" (codes "x") []
  pub second_default : MessageGives selects [] "second_default" (codes "2") []
  pub alone_in_a_variant : MessageGives selects (with "n" (whole 9)) "alone" (codes "x" ++ (F ++ (codes "9" ++ P))) []
  pub two_by_default : MessageGives selects (with "n" (whole 9)) "two_by_default" (codes "y" ++ (F ++ (codes "9" ++ P))) []
  pub alone_by_default : MessageGives selects (with "n" (whole 9)) "alone_by_default" (codes "x" ++ (F ++ (codes "9" ++ P))) []

-- ---- arguments

abbrev pub or_error : Option (Value NoCustom) → Value NoCustom
or_error (Some v) = v
or_error None = error_value

abbrev pub second_argument : Function NoCustom
second_argument (v ∷ w ∷ vs) named = w
second_argument _ named = error_value

abbrev pub argument_named_x : Function NoCustom
argument_named_x vs named = or_error (get (codes "x") named)

abbrev pub first_of : Inline → List t.Element
first_of x = put (fun "FIRST" (x ∷ []) []) ∷ []

abbrev pub calls : Bundle NoCustom
calls = bundle (add_function (codes "FIRST") first_argument ∷ add_function (codes "SECOND") second_argument
    ∷ add_function (codes "X") argument_named_x ∷ add_function (codes "LENGTH") text_length
    ∷ add_resource (message_entry (codes "m") (Some (pattern_of (say "mm" ∷ []))) ((codes "a", pattern_of (say "ma" ∷ [])) ∷ [])
    ∷ private "v" (put (var "n") ∷ []) ∷ private "w" (first_of (var "n"))
    ∷ message_entry (codes "empty") None [] ∷ entry "marked" (say "a" ∷ put (var "n") ∷ say "b" ∷ [])
    ∷ entry "escaped" (first_of (str "\\u0041")) ∷ entry "number" (first_of (num "1.50")) ∷ entry "length" (put (fun "LENGTH" (num "12345" ∷ []) []) ∷ [])
    ∷ entry "variable" (first_of (var "n"))
    ∷ entry "message" (first_of (msg "m")) ∷ entry "attribute" (first_of (msg_attribute "m" "a")) ∷ entry "marks" (first_of (msg "marked"))
    ∷ entry "unknown" (first_of (msg "zz")) ∷ entry "without_value" (first_of (msg "empty")) ∷ entry "itself" (first_of (msg "itself"))
    ∷ entry "term" (first_of (own "v")) ∷ entry "term_with" (first_of (own_with "v" [] (named "n" (num "1") ∷ []))) ∷ entry "inside" (put (own "w") ∷ [])
    ∷ entry "term_with_another" (put (own_with "v" [] (named "x" (num "1") ∷ [])) ∷ [])
    ∷ entry "outer" (put (own_with "v" [] (named "n" (var "n") ∷ [])) ∷ [])
    ∷ entry "nested" (first_of (nested (inline (str "x")))) ∷ entry "nested_number" (put (fun "LENGTH" (nested (inline (num "12345")) ∷ []) []) ∷ [])
    ∷ entry "nested_select" (first_of (nested (select (var "n") (variants_of (case_number "9" (say "nine" ∷ []) ∷ default "o" (say "other" ∷ []) ∷ [])))))
    ∷ entry "function" (first_of (fun "FIRST" (str "a" ∷ []) [])) ∷ entry "no_function" (first_of (fun "NONE" [] []))
    ∷ entry "two" (put (fun "SECOND" (str "a" ∷ str "b" ∷ []) []) ∷ []) ∷ entry "two_missing" (put (fun "SECOND" (var "p" ∷ var "q" ∷ []) []) ∷ [])
    ∷ entry "positional_first" (put (fun "FIRST" (var "p" ∷ []) (named "x" (var "q") ∷ [])) ∷ [])
    ∷ entry "named" (put (fun "X" [] (named "x" (var "p") ∷ named "y" (var "q") ∷ [])) ∷ [])
    ∷ entry "last" (put (fun "X" [] (named "x" (num "1") ∷ named "x" (num "2") ∷ [])) ∷ [])
    ∷ entry "other_name" (put (fun "X" [] (named "y" (num "1") ∷ [])) ∷ [])
    ∷ []) ∷ [])

-- what a function is handed
pub record Handed : Type 0 where
  pub escaped : MessageGives calls [] "escaped" (codes "A") []
  pub number : MessageGives calls [] "number" (codes "1.50") []
  pub number_is_no_text : MessageGives calls [] "length" (codes "LENGTH()") []
  pub variable : MessageGives calls (with "n" (words "\\u0041")) "variable" (codes "\\u0041") []
  pub missing : MessageGives calls [] "variable" (codes "FIRST()") (unknown_variable "n" ∷ [])
  pub message : MessageGives calls [] "message" (codes "mm") []
  pub attribute : MessageGives calls [] "attribute" (codes "ma") []
  pub marks : MessageGives calls (with "n" (whole 9)) "marks" (codes "a" ++ (F ++ (codes "9" ++ (P ++ codes "b")))) []
  pub unknown : MessageGives calls [] "unknown" (codes "{zz}") (error (codes "Unknown message: zz") ∷ [])
  pub without_value : MessageGives calls [] "without_value" (codes "{empty}") (error (codes "No value: empty") ∷ [])
  pub itself : MessageGives calls [] "itself" (codes "{itself}") (cyclic ∷ [])
  pub term : MessageGives calls (with "n" (whole 9)) "term" (codes "{$n}") []
  pub term_with_arguments : MessageGives calls (with "n" (whole 9)) "term_with" (codes "1") []
  pub term_with_another : MessageGives calls (with "n" (whole 9)) "term_with_another" (codes "{$n}") []
  pub missing_inside_a_term : MessageGives calls (with "n" (whole 9)) "inside" (codes "FIRST()") []
  pub to_a_term : MessageGives calls (with "n" (whole 9)) "outer" (codes "9") []
  pub nested : MessageGives calls [] "nested" (codes "x") []
  pub nested_number_is_a_text : MessageGives calls [] "nested_number" (codes "5") []
  pub nested_select : MessageGives calls (with "n" (whole 9)) "nested_select" (codes "nine") []
  pub function : MessageGives calls [] "function" (codes "a") []
  pub no_function : MessageGives calls [] "no_function" (codes "FIRST()") []
  pub in_order : MessageGives calls [] "two" (codes "b") []
  pub errors_in_order : MessageGives calls [] "two_missing" (codes "SECOND()") (unknown_variable "p" ∷ unknown_variable "q" ∷ [])
  pub positional_first : MessageGives calls [] "positional_first" (codes "FIRST()") (unknown_variable "p" ∷ unknown_variable "q" ∷ [])
  pub named_in_order : MessageGives calls [] "named" (codes "X()") (unknown_variable "p" ∷ unknown_variable "q" ∷ [])
  pub last_of_a_name : MessageGives calls [] "last" (codes "2") []
  pub by_its_name : MessageGives calls (with "x" (whole 9)) "other_name" (codes "X()") []

-- ---- options of a number

abbrev pub options_of : Arguments → options.Options
options_of m = merge (set_all m []) default_options

abbrev pub answer : List (Value NoCustom) → Arguments → Value NoCustom
answer vs m = number_function vs (set_all m [])

-- named arguments of NUMBER, and what it answers
pub record Options : Type 0 where
  pub ordinal : options_of (with "type" (words "ordinal")) ≡ record default_options { number_type = Ordinal }
  pub style : options_of (with "style" (words "percent")) ≡ record default_options { style = Percent }
  pub currency : options_of (with "style" (words "currency") ++ with "currency" (words "EUR")) ≡ record default_options { style = Currency; currency = Some (codes "EUR") }
  pub display : options_of (with "currencyDisplay" (words "code")) ≡ record default_options { currency_display = Code }
  pub no_grouping : options_of (with "useGrouping" (words "false")) ≡ record default_options { use_grouping = false }
  pub grouping : options_of (with "useGrouping" (words "no")) ≡ default_options
  pub whole_digits : options_of (with "minimumIntegerDigits" (whole 2)) ≡ record default_options { minimum_integer_digits = Some 2 }
  pub least_places : options_of (with "minimumFractionDigits" (whole 2)) ≡ record default_options { minimum_fraction_digits = Some 2 }
  pub least_places_cut : options_of (with "minimumFractionDigits" (whole 19)) ≡ record default_options { minimum_fraction_digits = Some 18 }
  pub most_places : options_of (with "maximumFractionDigits" (whole 400)) ≡ record default_options { maximum_fraction_digits = Some 400 }
  pub least_digits : options_of (with "minimumSignificantDigits" (whole 3)) ≡ record default_options { minimum_significant_digits = Some 3 }
  pub most_digits : options_of (with "maximumSignificantDigits" (whole 4)) ≡ record default_options { maximum_significant_digits = Some 4 }
  pub other_kinds : options_of (with "minimumFractionDigits" (words "2") ++ (with "type" (whole 1) ++ (with "style" (custom_value only) ++ with "currency" error_value))) ≡ default_options
  pub other_names : options_of (with "digits" (whole 2) ++ with "Type" (words "ordinal")) ≡ default_options
  pub cut_toward_zero : as_count (pos (19 * 10 ^ 17)) ≡ 1
  pub below_zero : as_count (negsuc (3 * 10 ^ 18 - 1)) ≡ 0
  pub most : as_count (pos (2 ^ 64 * 10 ^ 18)) ≡ 18446744073709551615
  pub kept : answer (try_number (codes "1.50") ∷ []) (with "style" (words "percent")) ≡ number_value (record { value = pos (15 * 10 ^ 17); options = record default_options { style = Percent; minimum_fraction_digits = Some 2 } })
  pub first_alone : answer (whole 1 ∷ whole 2 ∷ []) [] ≡ whole 1
  pub text : answer (words "5" ∷ []) [] ≡ error_value
  pub nothing : answer [] [] ≡ error_value
