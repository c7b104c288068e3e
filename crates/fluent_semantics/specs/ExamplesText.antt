-- Worked examples: texts, variables, literals, numbers, selects, formatters and transforms.
use Rattle.std.specs.Prelude.{◌≡◌, ℕ, zero, suc, ℤ, pos, negsuc, ◌*◌, ◌^◌, ◌-◌, ◌==◌, List, [], ◌∷◌, ◌++◌, map, Bool, true, false, Option, Some, None, codes}
use Rattle.fluent_ast.specs.Tree.{Text, Pattern, nested, inline, pattern_of}
use Rattle.fluent_text.specs.Escapes.{unescaped}
use Rattle.fluent_intl.specs.Number.{number_with}
use Rattle.fluent_intl.specs.Plurals.{english}
use Rattle.fluent_intl.specs.declared.plurals.PluralCategory.{PluralCategory}
use Rattle.fluent_intl.specs.declared.plurals.PluralCategory.TheVariants.{ZERO, ONE, TWO, FEW, MANY, OTHER}
use Rattle.fluent_semantics.specs.Number.{read_number}
use Rattle.fluent_semantics.specs.Value.{Value, text_value, number_value, custom_value, no_value, error_value, Custom, matches, same, try_number, value_text}
use Rattle.fluent_semantics.specs.Arguments.{number_function, set_all}
use Rattle.fluent_semantics.specs.Bundle.{Bundle, add_resource, add_function, set_use_isolating, set_transform, set_formatter}
use Rattle.fluent_semantics.specs.Examples.{NoCustom, only, say, put, var, str, num, msg, fun, named, case, case_number, default, choose, entry, bundle, source, whole, with, words, times, answers, bracketed, upper, F, P, many, unknown_variable, too_many, PatternWrites, MessageGives, Formats}

abbrev pub greeting : Bundle NoCustom
greeting = source (entry "hello" (say "Hello, world!" ∷ []) ∷ entry "intro" (say "Welcome, " ∷ put (var "name") ∷ say "." ∷ []) ∷ entry "one" (put (var "name") ∷ []) ∷ entry "two" (put (var "p") ∷ put (var "q") ∷ []) ∷ entry "alone" (times 101 (put (var "x"))) ∷ [])

abbrev pub many_marked : ℕ → Text
many_marked zero = []
many_marked (suc n) = F ++ (codes "a" ++ (P ++ many_marked n))

-- variables, with and without a value, alone and among other elements
pub record Variables : Type 0 where
  pub text_alone : MessageGives greeting [] "hello" (codes "Hello, world!") []
  pub there : MessageGives greeting (with "name" (words "John")) "intro" (codes "Welcome, " ++ (F ++ (codes "John" ++ (P ++ codes ".")))) []
  pub missing : MessageGives greeting [] "intro" (codes "Welcome, " ++ (F ++ (codes "{$name}" ++ (P ++ codes ".")))) (unknown_variable "name" ∷ [])
  pub missing_in_order : MessageGives greeting [] "two" (F ++ (codes "{$p}" ++ (P ++ (F ++ (codes "{$q}" ++ P))))) (unknown_variable "p" ∷ unknown_variable "q" ∷ [])
  pub one_element : MessageGives greeting (with "name" (words "z")) "one" (codes "z") []
  pub too_many_of_them : MessageGives greeting (with "x" (words "a")) "alone" (many_marked 100) (too_many ∷ [])
  pub number_in_text : MessageGives greeting (with "name" (try_number (codes "007"))) "intro" (codes "Welcome, " ++ (F ++ (codes "7" ++ (P ++ codes ".")))) []
  pub number_with_zeros : MessageGives greeting (with "name" (try_number (codes "1.50"))) "intro" (codes "Welcome, " ++ (F ++ (codes "1.50" ++ (P ++ codes ".")))) []
  pub number_with_sign : MessageGives greeting (with "name" (try_number (codes "+.5"))) "intro" (codes "Welcome, " ++ (F ++ (codes "0.5" ++ (P ++ codes ".")))) []

abbrev pub letters : Bundle NoCustom
letters = bundle (set_use_isolating false ∷ add_resource (entry "msg-key" (say "Hello, " ∷ put (var "user") ∷ say ". You have " ∷ put (var "emailCount") ∷ say " messages." ∷ []) ∷ []) ∷ [])

abbrev pub uppercase : Bundle NoCustom
uppercase = bundle (set_transform (Some upper) ∷ add_resource (entry "intro" (say "Welcome, " ∷ put (var "name") ∷ say "." ∷ []) ∷ entry "a" (say "x" ∷ put (str "x") ∷ []) ∷ []) ∷ [])

abbrev pub of_each_kind : Value NoCustom → Option Text
of_each_kind (text_value t) = Some (codes "T")
of_each_kind (number_value n) = Some (codes "N")
of_each_kind (custom_value x) = Some (codes "C")
of_each_kind no_value = Some (codes "none")
of_each_kind error_value = Some (codes "error")

abbrev pub kinds : Bundle NoCustom
kinds = bundle (set_formatter (Some of_each_kind) ∷ add_function (codes "F") (answers error_value) ∷ add_function (codes "G") (answers (words "x")) ∷ add_resource (entry "text" (say "x" ∷ []) ∷ entry "string" (put (str "x") ∷ []) ∷ entry "number" (put (num "5") ∷ []) ∷ entry "word" (put (num "abc") ∷ [])
    ∷ entry "nested" (put (nested (inline (str "x"))) ∷ [])
    ∷ entry "variable" (put (var "v") ∷ []) ∷ entry "function" (put (fun "F" [] []) ∷ []) ∷ entry "answer" (put (fun "G" [] []) ∷ []) ∷ []) ∷ [])

-- a formatter and a transform that are taken back
abbrev pub taken_back : Bundle NoCustom
taken_back = bundle (set_formatter (Some of_each_kind) ∷ set_transform (Some upper) ∷ set_formatter None ∷ set_transform None ∷ add_resource (entry "p" (say "x" ∷ []) ∷ entry "v" (put (var "v") ∷ []) ∷ []) ∷ [])

abbrev pub isolated_again : Bundle NoCustom
isolated_again = bundle (set_use_isolating false ∷ set_use_isolating true ∷ add_resource (entry "p" (say "x" ∷ put (num "1") ∷ put (msg "q") ∷ []) ∷ entry "q" (say "y" ∷ []) ∷ []) ∷ [])

abbrev pub in_brackets : Bundle NoCustom
in_brackets = bundle (set_formatter (Some bracketed) ∷ add_resource (entry "hello" (say "Hello, world!" ∷ []) ∷ entry "intro" (say "Welcome, " ∷ put (var "name") ∷ say "." ∷ []) ∷ entry "p" (put (num "5") ∷ []) ∷ entry "empty" [] ∷ []) ∷ [])

-- isolation, transform and formatter
pub record Settings : Type 0 where
  pub not_isolated : MessageGives letters (with "user" (words "John") ++ with "emailCount" (whole 5)) "msg-key" (codes "Hello, John. You have 5 messages.") []
  pub transformed : MessageGives uppercase (with "name" (words "John")) "intro" (codes "WELCOME, " ++ (F ++ (codes "John" ++ (P ++ codes ".")))) []
  pub past_literals : MessageGives uppercase [] "a" (codes "Xx") []
  pub whole_text : Formats in_brackets [] "hello" (codes "[Hello, world!]")
  pub value_and_whole_text : Formats in_brackets (with "name" (words "John")) "intro" (codes "[Welcome, " ++ (F ++ (codes "[John]" ++ (P ++ codes ".]"))))
  pub without_formatter : Formats greeting [] "hello" (codes "Hello, world!")
  pub only_written : MessageGives in_brackets [] "hello" (codes "Hello, world!") []
  pub value_written : MessageGives in_brackets (with "name" (words "John")) "intro" (codes "Welcome, " ++ (F ++ (codes "[John]" ++ (P ++ codes ".")))) []
  pub number_written : MessageGives in_brackets [] "p" (codes "5") []
  pub number_formatted : Formats in_brackets [] "p" (codes "[5]")
  pub nothing_written : MessageGives in_brackets [] "empty" [] []
  pub nothing_formatted : Formats in_brackets [] "empty" (codes "[]")
  pub text_not_asked : MessageGives kinds [] "text" (codes "x") []
  pub literal_not_asked : MessageGives kinds [] "string" (codes "x") []
  pub number_asked : MessageGives kinds [] "number" (codes "N") []
  pub word_asked : MessageGives kinds [] "word" (codes "T") []
  pub custom_asked : MessageGives kinds (with "v" (custom_value only)) "variable" (codes "C") []
  pub none_asked : MessageGives kinds (with "v" no_value) "variable" (codes "none") []
  pub error_asked : MessageGives kinds (with "v" error_value) "variable" (codes "error") []
  pub nested_not_asked : MessageGives kinds [] "nested" (codes "x") []
  pub answer_asked : MessageGives kinds [] "answer" (codes "T") []
  pub answer_of_error_not_asked : MessageGives kinds [] "function" (codes "F()") []
  pub no_transform_again : MessageGives taken_back [] "p" (codes "x") []
  pub no_formatter_again : MessageGives taken_back (with "v" (words "x")) "v" (codes "x") []
  pub error_shown : MessageGives taken_back (with "v" error_value) "v" [] []
  pub none_shown : MessageGives taken_back (with "v" no_value) "v" [] []
  pub number_and_message : MessageGives isolated_again [] "p" (codes "x" ++ (F ++ (codes "1" ++ (P ++ codes "y")))) []

-- A, U+1F602, a backslash, a quote, U+FFFD
pub record Escapes : Type 0 where
  pub all : unescaped (codes "\\u0041\\U01F602\\\\\\\"\\uD800") ≡ 65 ∷ 0xf0 ∷ 0x9f ∷ 0x98 ∷ 0x82 ∷ 92 ∷ 34 ∷ 0xef ∷ 0xbf ∷ 0xbd ∷ []
  pub unknown_letter : unescaped (codes "\\q") ≡ 0xef ∷ 0xbf ∷ 0xbd ∷ 113 ∷ []
  pub too_short : unescaped (codes "\\u00") ≡ 0xef ∷ 0xbf ∷ 0xbd ∷ 117 ∷ 48 ∷ 48 ∷ []
  pub at_the_end : unescaped (codes "\\") ≡ 0xef ∷ 0xbf ∷ 0xbd ∷ []
  pub literal : MessageGives (source (entry "p" (put (str "\\u0041") ∷ []) ∷ [])) [] "p" (codes "A") []
  pub not_a_text : MessageGives (source (entry "p" (say "\\u0041" ∷ []) ∷ [])) [] "p" (codes "\\u0041") []

abbrev pub half : ℤ
half = pos (5 * 10 ^ 17)

-- which texts are numbers
pub record Numbers : Type 0 where
  pub plain : read_number (codes "5") ≡ Some (pos (5 * 10 ^ 18), None)
  pub plus_and_point : read_number (codes "+5.") ≡ Some (pos (5 * 10 ^ 18), Some 0)
  pub fraction : read_number (codes ".50") ≡ Some (half, Some 2)
  pub minus_zero : read_number (codes "-0") ≡ Some (pos 0, None)
  pub most : read_number (codes "18446744073709551615") ≡ Some (pos (18446744073709551615 * 10 ^ 18), None)
  pub more_than_most : read_number (codes "18446744073709551616") ≡ None
  pub point_alone : read_number (codes ".") ≡ None
  pub exponent : read_number (codes "1e5") ≡ None
  pub word : read_number (codes "inf") ≡ None
  pub space : read_number (codes "1 ") ≡ None
  pub empty : read_number [] ≡ None

abbrev pub own_text : Custom NoCustom
own_text = record { text = λ x. []; same = λ x y. true }

abbrev pub goes : Value NoCustom → Value NoCustom → Bool
goes v w = matches english v w

abbrev pub equals : Value NoCustom → Value NoCustom → Bool
equals v w = same own_text v w

-- custom values that are numbers of bytes, with a byte as text
abbrev pub bytes : Custom ℕ
bytes = record { text = λ n. n ∷ []; same = λ m n. m == n }

abbrev pub always : PluralCategory → Text → Bool
always c word = matches {C = NoCustom} (λ kind o. c) (text_value word) (whole 7)

-- whether the word of each category matches a number of this one
abbrev pub of_category : PluralCategory → List Bool
of_category c = map (always c) (map (λ s. codes s) ("zero" ∷ "one" ∷ "two" ∷ "few" ∷ "many" ∷ "other" ∷ []))

-- values that match, and that are the same
pub record Values : Type 0 where
  pub number : try_number {C = NoCustom} (codes "3.141569") ≡ number_value (number_with (pos (3141569 * 10 ^ 12)) (Some 6))
  pub not_a_number : try_number {C = NoCustom} (codes "A string") ≡ words "A string"
  pub too_long : try_number {C = NoCustom} (codes "1." ++ many 19 "0") ≡ text_value (codes "1." ++ many 19 "0")
  pub word_and_one : goes (words "one") (whole 1) ≡ true
  pub two_and_two : goes (whole 2) (whole 2) ≡ true
  pub two_and_three : goes (whole 2) (whole 3) ≡ false
  pub word_and_hundred : goes (words "two") (whole 100) ≡ false
  pub number_and_word : goes (whole 1) (words "one") ≡ false
  pub custom_matches_nothing : goes (custom_value only) (custom_value only) ≡ false
  pub none_matches_nothing : goes no_value no_value ≡ false
  pub error_matches_nothing : goes error_value error_value ≡ false
  pub categories : map of_category (ZERO ∷ ONE ∷ TWO ∷ FEW ∷ MANY ∷ OTHER ∷ []) ≡ (true ∷ false ∷ false ∷ false ∷ false ∷ false ∷ []) ∷ (false ∷ true ∷ false ∷ false ∷ false ∷ false ∷ []) ∷ (false ∷ false ∷ true ∷ false ∷ false ∷ false ∷ []) ∷ (false ∷ false ∷ false ∷ true ∷ false ∷ false ∷ []) ∷ (false ∷ false ∷ false ∷ false ∷ true ∷ false ∷ []) ∷ (false ∷ false ∷ false ∷ false ∷ false ∷ true ∷ []) ∷ []
  pub none : equals no_value no_value ≡ false
  pub error : equals error_value error_value ≡ false
  pub equal_texts : equals (words "ab") (words "ab") ≡ true
  pub longer_text : equals (words "ab") (words "abc") ≡ false
  pub equal_numbers : equals (whole 2) (whole 2) ≡ true
  pub other_number : equals (whole 2) (whole 3) ≡ false
  pub text_and_number : equals (words "1") (whole 1) ≡ false
  pub word_and_number : equals (words "one") (whole 1) ≡ false
  pub equal_custom : same bytes (custom_value 65) (custom_value 65) ≡ true
  pub other_custom : same bytes (custom_value 65) (custom_value 66) ≡ false
  pub custom_text : value_text bytes (custom_value 65) ≡ codes "A"
  pub text_of_none : value_text bytes no_value ≡ []
  pub text_of_error : value_text bytes error_value ≡ []
  pub other_options : equals (whole 1) (number_value (number_with (pos (10 ^ 18)) (Some 0))) ≡ false
  pub below_zero_is_zero : value_text own_text (number_function (whole 5 ∷ []) (set_all (with "minimumFractionDigits" (number_value (number_with (negsuc (3 * 10 ^ 18 - 1)) None))) [])) ≡ codes "5."

abbrev pub ranks : Bundle NoCustom
ranks = source (entry "rank" (choose (fun "NUMBER" (var "n" ∷ []) (named "type" (str "ordinal") ∷ []))
    (case_number "1" (say "first" ∷ []) ∷ case_number "2" (say "second" ∷ []) ∷ case_number "3" (say "third" ∷ [])
    ∷ case "one" (put (var "n") ∷ say "st" ∷ []) ∷ case "two" (put (var "n") ∷ say "nd" ∷ []) ∷ case "few" (put (var "n") ∷ say "rd" ∷ []) ∷ default "other" (put (var "n") ∷ say "th" ∷ []) ∷ []) ∷ []) ∷ [])

abbrev pub decimals : Bundle NoCustom
decimals = source (entry "none" (put (fun "NUMBER" (num "5" ∷ []) (named "minimumFractionDigits" (num "0") ∷ [])) ∷ [])
    ∷ entry "most" (put (fun "NUMBER" (num "5" ∷ []) (named "minimumFractionDigits" (num "400") ∷ [])) ∷ [])
    ∷ entry "one" (choose (num "1.0") (case_number "1" (say "a" ∷ []) ∷ case "one" (say "b" ∷ []) ∷ default "other" (say "c" ∷ []) ∷ []) ∷ [])
    ∷ entry "word" (put (num "abc") ∷ []) ∷ [])

abbrev pub words_first : Pattern
words_first = pattern_of (choose (var "n") (case "one" (say "a" ∷ []) ∷ case_number "1" (say "b" ∷ []) ∷ default "other" (say "c" ∷ []) ∷ []) ∷ [])

abbrev pub no_default : Pattern
no_default = pattern_of (choose (num "7") (case_number "1" (say "x" ∷ []) ∷ []) ∷ [])

abbrev pub two_defaults : Pattern
two_defaults = pattern_of (choose (str "z") (case "a" (say "1" ∷ []) ∷ default "b" (say "2" ∷ []) ∷ default "c" (say "3" ∷ []) ∷ []) ∷ [])

-- selects, plural categories and NUMBER
pub record Selects : Type 0 where
  pub first : MessageGives ranks (with "n" (whole 1)) "rank" (F ++ (codes "1" ++ (P ++ codes "st"))) []
  pub fifth : MessageGives ranks (with "n" (whole 5)) "rank" (F ++ (codes "5" ++ (P ++ codes "th"))) []
  pub twelfth : MessageGives ranks (with "n" (whole 12)) "rank" (F ++ (codes "12" ++ (P ++ codes "th"))) []
  pub twenty_second : MessageGives ranks (with "n" (whole 22)) "rank" (F ++ (codes "22" ++ (P ++ codes "nd"))) []
  pub no_digits : MessageGives decimals [] "none" (codes "5.") []
  pub most_digits : MessageGives decimals [] "most" (codes "5." ++ many 18 "0") []
  pub one_with_a_zero : MessageGives decimals [] "one" (codes "c") []
  pub no_number : MessageGives decimals [] "word" (codes "abc") []
  pub without_default : PatternWrites decimals [] no_default [] (codes "Resolver error: No default" ∷ [])
  pub first_default : PatternWrites decimals [] two_defaults (codes "2") []
  pub written_order : PatternWrites decimals (with "n" (whole 1)) words_first (codes "a") []
