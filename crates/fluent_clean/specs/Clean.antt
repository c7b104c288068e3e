-- When a pattern is clean, how many placeables it opens, and when it never shows an error: told before any arguments are there.
use Rattle.std.specs.Prelude.{◌≡◌, ℕ, zero, suc, ◌+◌, ◌-◌, ◌≤◌, max, [], true, Some}
use Rattle.std.specs.List.{AllByRecursion}
use Rattle.fluent_ast.specs.Tree.{Text, Pattern, nothing, more, Element, text, placeable, Expression, inline, select, Variants, no_variants, variant, Inline, string, number, function, message, term, variable, nested, Call, no_call, call, Arguments, arguments, Inlines, no_inlines, argument, Nameds, no_nameds, named_argument}
use Rattle.fluent_semantics.specs.Value.{Value}
use Rattle.fluent_semantics.specs.Arguments.{Map, get}
use Rattle.fluent_semantics.specs.Bundle.{Bundle, Target, unknown, without_value, found, message_target, term_target, is_function}
use Rattle.fluent_semantics.specs.Meaning.{left, settling}
use Rattle.fluent_semantics.specs.Result.{written_pattern, substituted_pattern}
use Rattle.fluent_places.specs.Places.{Place, of_message, of_term, Names, names_of, place_target}
use Rattle.fluent_places.specs.Needs.{Need, a_message, a_term, a_function, a_variable, a_default, needs, IsAmong, AsksFor}

-- ---- clean patterns

-- what a need leads to, if it is a reference to a message or a term
abbrev pub target : {C : Type 0} → Names C → Need → Target
target named (a_message m a) = message_target (named m) a
target named (a_term t a names) = term_target (named t) a
target named (a_function f) = unknown
target named (a_variable v) = unknown
target named a_default = unknown

-- A pattern refers to another.
abbrev pub RefersTo : {C : Type 0} → Names C → Pattern → Pattern → Type 0
RefersTo named p q = (n : Need) × IsAmong n (needs p) × (target named n ≡ found q)

-- a pattern stands there
abbrev pub LeadsOn : Target → Type 0
LeadsOn t = (q : Pattern) × (t ≡ found q)

-- The bundle has what is needed: a message's value or attribute, a term or its attribute, a function. Variables are asked of the arguments. A default that a select lacks is never there.
abbrev pub IsThere : {C : Type 0} → Names C → Need → Type 0
IsThere named (a_message m a) = LeadsOn (message_target (named m) a)
IsThere named (a_term t a names) = LeadsOn (term_target (named t) a)
IsThere named (a_function f) = is_function (named f) ≡ true
IsThere named (a_variable v) = Unit {0}
IsThere named a_default = ⊥

-- A pattern is clean where all that it needs is there, and each pattern that it refers to is clean. (By induction: so no reference leads back.)
pub data IsClean {C : Type 0} (named : Names C) : Pattern → Type 0 where
  clean : {p : Pattern} → AllByRecursion (IsThere named) (needs p) → ((q : Pattern) → RefersTo named p q → IsClean named q) → IsClean named p

-- what stands at a target, if a pattern does, is clean
abbrev pub IsCleanAt : {C : Type 0} → Names C → Target → Type 0
IsCleanAt named t = (p : Pattern) → t ≡ found p → IsClean named p

-- A need is met where it is there, and clean if it is a pattern.
abbrev pub IsMet : {C : Type 0} → Names C → Need → Type 0
IsMet named n = IsThere named n × IsCleanAt named (target named n)

-- ---- what the arguments give

abbrev pub IsGiven : {C : Type 0} → Map (Value C) → Text → Type 0
IsGiven {C} args v = (x : Value C) × (get v args ≡ Some x)

-- The arguments give a value to each variable that a pattern asks for.
abbrev pub AreGiven : {C : Type 0} → Names C → Map (Value C) → Pattern → Type 0
AreGiven named args p = (v : Text) → AsksFor named v p → IsGiven args v

-- ---- how many placeables a pattern opens at most

-- how many a target opens, by the counts of patterns
abbrev pub at_target : (Pattern → ℕ) → Target → ℕ
at_target count unknown = 0
at_target count without_value = 0
at_target count (found q) = count q

-- the same of what stands at a place
abbrev pub at_place : {C : Type 0} → Names C → (Pattern → ℕ) → Place → ℕ
at_place named count x = at_target count (place_target named x)

-- of a pattern by its tree, where `at` has the counts of the places that it refers to
module _ (at : Place → ℕ) where
  abbrev mutual
    pub most_in_pattern : Pattern → ℕ
    most_in_pattern nothing = 0
    most_in_pattern (more e p) = most_in_element e + most_in_pattern p

    pub most_in_element : Element → ℕ
    most_in_element (text t) = 0
    most_in_element (placeable e) = most_in_expression e + 1

    pub most_in_expression : Expression → ℕ
    most_in_expression (inline x) = most_in_inline x
    most_in_expression (select x vs) = most_in_inline x + most_in_variants vs

    -- one variant is chosen
    pub most_in_variants : Variants → ℕ
    most_in_variants no_variants = 0
    most_in_variants (variant k p d vs) = max (most_in_pattern p) (most_in_variants vs)

    pub most_in_inline : Inline → ℕ
    most_in_inline (string t) = 0
    most_in_inline (number t) = 0
    most_in_inline (function f a) = most_in_arguments a
    most_in_inline (message m a) = at (of_message m a)
    most_in_inline (term t a c) = most_in_call c + at (of_term t a)
    most_in_inline (variable v) = 0
    most_in_inline (nested e) = most_in_expression e

    pub most_in_call : Call → ℕ
    most_in_call no_call = 0
    most_in_call (call a) = most_in_arguments a

    pub most_in_arguments : Arguments → ℕ
    most_in_arguments (arguments xs ns) = most_in_positional xs + most_in_named ns

    pub most_in_positional : Inlines → ℕ
    most_in_positional no_inlines = 0
    most_in_positional (argument x xs) = most_in_inline x + most_in_positional xs

    pub most_in_named : Nameds → ℕ
    most_in_named no_nameds = 0
    most_in_named (named_argument name x ns) = most_in_inline x + most_in_named ns

-- of a pattern, with references followed n deep
unfoldable pub placeables_deep : {C : Type 0} → Names C → ℕ → Pattern → ℕ
placeables_deep named zero p = 0
placeables_deep named (suc n) p = most_in_pattern (at_place named (placeables_deep named n)) p

-- Of a pattern, with all references followed: deeper than `settling b` (fluent_semantics) no meaning of this bundle's patterns goes.
abbrev pub placeables : {C : Type 0} → Bundle C → Pattern → ℕ
placeables b p = placeables_deep (names_of b) (settling b) p

-- ---- what never shows an error

-- What stands there, if a pattern does, is clean, and opens no more placeables than the limit, however deep references are followed.
abbrev pub IsFine : Names Text → ℕ → Place → Type 0
IsFine named limit x = (p : Pattern) → place_target named x ≡ found p → IsClean named p × ((n : ℕ) → placeables_deep named n p ≤ limit)

-- What stands there, if a pattern does, never shows an error: for all arguments that give what it asks for, its text by substitution is written.
abbrev pub NeverFails : Bundle Text → Place → Type 0
NeverFails b x = (p : Pattern) → place_target (names_of b) x ≡ found p → (args : Map (Value Text)) → AreGiven (names_of b) args p →
    let means = substituted_pattern b args p in
    written_pattern b args p ≡ record { value = means.value; errors = []; budget = left (b.limit - means.opened) }
