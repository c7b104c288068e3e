-- Finite maps by texts, as the arguments of a call, and the options of a number that these give (named arguments of Fluent's NUMBER).
use Rattle.std.specs.Prelude.{ℕ, min, List, [], ◌∷◌, not, Option, Some, codes, if◌then◌else◌, IsTrue}
use Rattle.std.specs.Ordering.{nat_cmp}
use Rattle.std.specs.Cmp.Lexicographic.{slice_cmp}
use Rattle.std.specs.FinMap.{find, put, is_sorted}
use Rattle.fluent_ast.specs.Tree.{Text}
use Rattle.fluent_intl.specs.Options.{Options, type_named, style_named, currency_display_named}
use Rattle.fluent_semantics.specs.Number.{as_count, is_text}
use Rattle.fluent_semantics.specs.Value.{Value, text_value, number_value, custom_value, no_value, error_value}

-- a finite map: each key once, in the order of bytes
abbrev pub Map : Type 0 → Type 0
Map A = List (Text × A)

abbrev pub get : {A : Type 0} → Text → Map A → Option A
get = find (slice_cmp nat_cmp)

-- the map with this value for the key, and all else as it was
abbrev pub set : {A : Type 0} → Text → A → Map A → Map A
set = put (slice_cmp nat_cmp)

-- the pairs set in order, so that the last of a key stands
abbrev pub set_all : {A : Type 0} → List (Text × A) → Map A → Map A
set_all [] m = m
set_all (e ∷ es) m = set_all es (set e.0 e.1 m)

-- each key stands once, and the keys rise
abbrev pub IsInOrder : {A : Type 0} → Map A → Type 0
IsInOrder m = IsTrue (is_sorted (slice_cmp nat_cmp) m)

-- ---- options of a number from arguments

-- one argument: a text for the first five names, a number for the others
abbrev pub merge_text : Text → Text → Options → Options
merge_text name t o =
    if is_text name (codes "type") then record o { number_type = type_named t } else (
    if is_text name (codes "style") then record o { style = style_named t } else (
    if is_text name (codes "currency") then record o { currency = Some t } else (
    if is_text name (codes "currencyDisplay") then record o { currency_display = currency_display_named t } else (
    if is_text name (codes "useGrouping") then record o { use_grouping = not (is_text t (codes "false")) } else o))))

abbrev pub merge_count : Text → ℕ → Options → Options
merge_count name n o =
    if is_text name (codes "minimumIntegerDigits") then record o { minimum_integer_digits = Some n } else (
    if is_text name (codes "minimumFractionDigits") then record o { minimum_fraction_digits = Some (min n 18) } else (
    if is_text name (codes "maximumFractionDigits") then record o { maximum_fraction_digits = Some n } else (
    if is_text name (codes "minimumSignificantDigits") then record o { minimum_significant_digits = Some n } else (
    if is_text name (codes "maximumSignificantDigits") then record o { maximum_significant_digits = Some n } else o))))

abbrev pub merge_one : {C : Type 0} → Text → Value C → Options → Options
merge_one name (text_value t) o = merge_text name t o
merge_one name (number_value n) o = merge_count name (as_count n.value) o
merge_one name (custom_value x) o = o
merge_one name no_value o = o
merge_one name error_value o = o

-- the options with each argument merged, in the order of names
abbrev pub merge : {C : Type 0} → Map (Value C) → Options → Options
merge [] o = o
merge (e ∷ es) o = merge es (merge_one e.0 e.1 o)

-- what NUMBER answers: its first positional argument with the named ones merged, if that is a number
abbrev pub number_function : {C : Type 0} → List (Value C) → Map (Value C) → Value C
number_function (number_value n ∷ vs) named = number_value (record n { options = merge named n.options })
number_function _ named = error_value
