-- How a value or an attribute of a translation differs from that of the reference.
use Rattle.std.specs.Prelude.{◌||◌, ◌+◌, ℕ, Bool, true, false, List, [], ◌∷◌, ◌++◌, filter, not, Option, Some, None, codes, if◌then◌else◌}
use Rattle.std.specs.List.{filter_map}
use Rattle.fluent_ast.specs.Tree.{Text, Pattern}
use Rattle.fluent_ast.specs.View.{pattern_view}
use Rattle.fluent_semantics.specs.Number.{is_text}
use Rattle.fluent_places.specs.Asked.{texts}
use Rattle.fluent_places.specs.Places.{Place, of_term}
use Rattle.fluent_places.specs.Needs.{Need, a_message, a_term, a_function, a_variable, a_default, needs}
use Rattle.fluent_patterns.specs.Found.{unknown_variable, variable_left_out, term_left_out, function_left_out, Flaw, whole, the_reference, flaw_view}
use Rattle.fluent_patterns.specs.Names.{once}
use Rattle.fluent_patterns.specs.Shown.{shown}
use Rattle.fluent_patterns.specs.declared.shown.Wanted.TheVariants.{Variables, Functions}
use Rattle.fluent_differences.specs.Among.{is_at, is_in}
use Rattle.fluent_differences.specs.declared.rules.Told as code_told
use Rattle.fluent_differences.specs.declared.compared.Wording as code

-- ---- what patterns refer to

abbrev pub is_reference : Need → Bool
is_reference (a_message m a) = true
is_reference (a_term t a names) = true
is_reference (a_function f) = true
is_reference (a_variable v) = true
is_reference a_default = false

-- what a pattern refers to, in the order of the tree
abbrev pub references : Pattern → List Need
references p = filter is_reference (needs p)

-- terms, by their ids
abbrev pub term_of : Need → Option Text
term_of (a_message m a) = None
term_of (a_term t a names) = Some t
term_of (a_function f) = None
term_of (a_variable v) = None
term_of a_default = None

abbrev pub function_of : Need → Option Text
function_of (a_message m a) = None
function_of (a_term t a names) = None
function_of (a_function f) = Some f
function_of (a_variable v) = None
function_of a_default = None

-- ---- rules

-- a name, and what is told of it
abbrev pub Told : Type 0
Told = Text × Flaw

abbrev pub told_view : code_told.Told → Told
told_view t = (t.name.now, flaw_view t.flaw)

-- what is told of a reference with this number
abbrev pub Rule : Type 0
Rule = ℕ → Need → Option Told

abbrev pub told_unless : Bool → Text → Flaw → Option Told
told_unless b name flaw = if b then None else Some (name, flaw)

-- a variable for which the reference doesn't ask: these are those for which it does
abbrev pub of_unknown_variables : List Text → Rule
of_unknown_variables asked n (a_message m a) = None
of_unknown_variables asked n (a_term t a names) = None
of_unknown_variables asked n (a_function f) = None
of_unknown_variables asked n (a_variable v) = told_unless (is_in v asked) v (the_reference n, unknown_variable v)
of_unknown_variables asked n a_default = None

-- a variable that the reference shows and for which the translation doesn't ask: these are those for which it does, and those that are shown
abbrev pub of_variables_left_out : List Text → List Text → Rule
of_variables_left_out asked shows n (a_message m a) = None
of_variables_left_out asked shows n (a_term t a names) = None
of_variables_left_out asked shows n (a_function f) = None
of_variables_left_out asked shows n (a_variable v) = told_unless (is_in v asked || not (is_in v shows)) v (whole, variable_left_out v)
of_variables_left_out asked shows n a_default = None

-- a term of the reference that the translation has (`places` are all of it), and to which it doesn't refer: these are those to which it does
abbrev pub of_terms_left_out : List Place → List Text → Rule
of_terms_left_out places own n (a_message m a) = None
of_terms_left_out places own n (a_term t a names) =
    if is_at (of_term t a) places then told_unless (is_in t own) t (whole, term_left_out (of_term t a)) else None
of_terms_left_out places own n (a_function f) = None
of_terms_left_out places own n (a_variable v) = None
of_terms_left_out places own n a_default = None

abbrev pub is_number : Text → Bool
is_number f = is_text f (codes "NUMBER")

-- A function that the reference calls to show what it answers, and the translation doesn't call: these are those that it does, and those that are
-- called so. A number is shown without `NUMBER` too.
abbrev pub of_functions_left_out : List Text → List Text → Rule
of_functions_left_out called shows n (a_message m a) = None
of_functions_left_out called shows n (a_term t a names) = None
of_functions_left_out called shows n (a_function f) = told_unless ((is_number f || is_in f called) || not (is_in f shows)) f (whole, function_left_out f)
of_functions_left_out called shows n (a_variable v) = None
of_functions_left_out called shows n a_default = None

-- ---- what is told by a rule

-- of references, of which the first has the number n
abbrev pub told_from : Rule → ℕ → List Need → List (Option Told)
told_from rule n [] = []
told_from rule n (x ∷ xs) = rule n x ∷ told_from rule (n + 1) xs

-- of each name the first, but of none of these
abbrev pub firsts : List Text → List (Option Told) → List Flaw
firsts names [] = []
firsts names (None ∷ xs) = firsts names xs
firsts names (Some x ∷ xs) = if is_in x.0 names then firsts names xs else x.1 ∷ firsts (names ++ x.0 ∷ []) xs

abbrev pub flaws_by : Rule → List Need → List Flaw
flaws_by rule ns = firsts [] (told_from rule 0 ns)

-- ---- what is told of a translation

-- a pattern, and the variables for which it asks
pub record Wording : Type 0 where
  pub pattern : Pattern
  pub asked : List Text

abbrev pub wording_view : code.Wording → Wording
wording_view w = record { pattern = pattern_view w.pattern.now; asked = texts w.asked.now.keys }

-- the variables that a pattern of the reference shows and for which the translation doesn't ask: these are those for which it does
abbrev pub variables_left_out : Pattern → List Text → List Need → List Flaw
variables_left_out p asked there = flaws_by (of_variables_left_out asked (once (shown Variables p))) there

-- the functions that a pattern of the reference calls to show what they answer, and that are not called
abbrev pub functions_left_out : Pattern → List Text → List Need → List Flaw
functions_left_out p called there = flaws_by (of_functions_left_out called (once (shown Functions p))) there

-- `places` are those of the translation
abbrev pub differences : List Place → Wording → Wording → List Flaw
differences places reference translation =
    let there = references reference.pattern in
    let here = references translation.pattern in
    flaws_by (of_unknown_variables reference.asked) here
    ++ (variables_left_out reference.pattern translation.asked there
    ++ (flaws_by (of_terms_left_out places (filter_map term_of here)) there
    ++ functions_left_out reference.pattern (filter_map function_of here) there))
