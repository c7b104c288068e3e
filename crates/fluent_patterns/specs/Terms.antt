-- References to terms: variables that they don't give, and arguments that the term doesn't use.
use Rattle.std.specs.Prelude.{◌≡◌, ◌↔◌, List, [], ◌++◌, map, filter, Bool, true, not, Option, Some, None, option_map, IsTrue}
use Rattle.std.specs.Borrow.{Bor}
use Rattle.std.specs.Map.{lookup}
use Rattle.std.specs.declared.vec.Vec.{Vec}
use Rattle.std.proofs.Common.{Global}
use Rattle.fluent_ast.specs.Tree.{Text, Pattern, is_yes}
use Rattle.fluent_semantics.specs.Bundle.{Target, unknown, without_value, found, term_target}
use Rattle.fluent_places.specs.Asked.{AsksForAt, list_of, texts}
use Rattle.fluent_places.specs.Places.{Place, of_term, place_same, place_target, place_view, Names}
use Rattle.fluent_places.specs.Needs.{Need, a_message, a_term, a_function, a_variable, a_default}
use Rattle.fluent_places.specs.declared.asked.Asked.{Asked}
use Rattle.fluent_places.specs.declared.place.Place as code
use Rattle.indexmap.specs.IndexSet.{IndexSet}
use Rattle.fluent_patterns.specs.Found.{Problem, problem_view, not_given, unused_argument, Flaw}
use Rattle.fluent_patterns.specs.declared.finding.Problem as code_problem
use Rattle.fluent_patterns.specs.declared.shown.Wanted.TheVariants.{Variables}
use Rattle.fluent_patterns.specs.declared.terms.Terms.{Terms}
use Rattle.fluent_patterns.specs.Names.{is_one_of, once, without}
use Rattle.fluent_patterns.specs.Numbered.{flaws_of}
use Rattle.fluent_patterns.specs.Shown.{shown}

-- ---- what is wrong

-- the variables that are shown and not given
abbrev pub not_givens : Place → List Text → List Text → List Problem
not_givens term given shows = map (λ v. not_given v term) (without given shows)

-- the names that are given and not asked for
abbrev pub unuseds : Place → List Text → (Text → Bool) → List Problem
unuseds term given asks = map (λ v. unused_argument v term) (filter (λ v. not (asks v)) given)

-- of a reference to a term
abbrev pub against : Place → List Text → List Text → (Text → Bool) → List Problem
against term given shows asks = not_givens term given shows ++ unuseds term given asks

abbrev pub at_target : Target → Place → List Text → (Text → Bool) → List Problem
at_target (found p) term given asks = against term given (once (shown Variables p)) asks
at_target unknown term given asks = []
at_target without_value term given asks = []

abbrev pub term_problems : Names Text → (Place → Text → Bool) → Need → List Problem
term_problems named asks (a_term t a names) = at_target (term_target (named t) a) (of_term t a) (once names) (asks (of_term t a))
term_problems named asks (a_message m a) = []
term_problems named asks (a_function f) = []
term_problems named asks (a_variable v) = []
term_problems named asks a_default = []

-- of each reference of a pattern, by a test of whether what stands at a place asks for a variable
abbrev pub term_flaws : Names Text → (Place → Text → Bool) → Pattern → List Flaw
term_flaws named asks p = flaws_of (term_problems named asks) p

-- ---- what is known of terms

-- the test is right of what stands there
abbrev pub TellsAskedAt : Names Text → (Place → Text → Bool) → Place → Type 0
TellsAskedAt named asks x = (v : Text) → IsTrue (asks x v) ↔ AsksForAt named x v

-- by lists: where there is none, nothing is told to be unused
abbrev pub is_asked : Option (List (Bor Text)) → Text → Bool
is_asked None v = true
is_asked (Some names) v = is_one_of (texts names) v

abbrev pub asks_by : Asked → Place → Text → Bool
asks_by asked x = is_asked (list_of asked x)

-- what is kept of a place
abbrev pub kept_of : {S : Type 0} → List (code.Place × IndexSet (Bor Text) S) → Place → Option (List Text)
kept_of table x = option_map (λ set. texts set.keys) (lookup (λ k. is_yes (place_same x (place_view k))) table)

-- these are all that a pattern shows, which stands there
abbrev pub AreShownAt : Names Text → Place → List Text → Type 0
AreShownAt named x names = (p : Pattern) × (place_target named x ≡ found p) × (names ≡ once (shown Variables p))

-- so is what is kept of each place
abbrev pub AreShown : {S : Type 0} → Names Text → List (code.Place × IndexSet (Bor Text) S) → Type 0
AreShown named table = (x : code.Place) (names : List Text) → kept_of table (place_view x) ≡ Some names → AreShownAt named (place_view x) names

-- what is kept of terms is what they show
abbrev pub AreOf : Names Text → Terms → Type 0
AreOf named terms = AreShown named terms.shown.entries

-- whether what stands at a place asks for a variable, by what is kept
abbrev pub asks_of : Terms → Place → Text → Bool
asks_of terms = asks_by terms.asked

-- problems were added, these and no other
abbrev pub AddsProblems : List Problem → Vec code_problem.Problem Global → Vec code_problem.Problem Global → Type 0
AddsProblems more old new = map problem_view new.items ≡ map problem_view old.items ++ more
