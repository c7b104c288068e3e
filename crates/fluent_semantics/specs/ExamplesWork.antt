-- Worked examples: what is meant without a limit, what stands at the limit, the work of a run and the sizes that bound it, and the calls of a scope.
use Prim.Native.String.{String}
use Rattle.std.specs.Prelude.{◌≡◌, ℕ, List, [], ◌∷◌, ◌++◌, map, Some, None, codes}
use Rattle.fluent_ast.specs.Tree as t
use Rattle.fluent_ast.specs.Tree.{Text, Inline, nested, inline, select, Expression, Pattern, nothing, inlines_of, nameds_of, variants_of, pattern_of, message_entry, term_entry}
use Rattle.fluent_semantics.specs.Errors.{Error, resolver_error, too_many_placeables, cyclic, lost, to_variable}
use Rattle.fluent_semantics.specs.Value.{error_value}
use Rattle.fluent_semantics.specs.Bundle.{Bundle, add_resource, add_function, stored}
use Rattle.fluent_semantics.specs.Walk.{application, local}
use Rattle.fluent_semantics.specs.Meaning.{Budget, Outcome, Ran, left, limit_reached, meaning}
use Rattle.fluent_semantics.specs.Limit.{Until, passed, stopped, up_to_limit}
use Rattle.fluent_semantics.specs.Work.{work, nodes, largest, most_nodes}
use Rattle.fluent_semantics.specs.Result.{tracked, maybe_tracked, arguments_of}
use Rattle.fluent_semantics.specs.Examples.{NoCustom, say, put, var, str, num, msg, own, own_with, fun, named, case, default, choose, times, entry, private, bundle, value_of, with, words, whole, first_argument, F, P}

abbrev pub small : Bundle NoCustom
small = bundle (add_function (codes "FIRST") first_argument ∷ add_resource (private "u" (say "u" ∷ []) ∷ entry "foo" (put (msg "foo") ∷ [])
    ∷ entry "m" (times 3 (put (str "a"))) ∷ entry "n" (say "x" ∷ put (msg "m") ∷ say "y" ∷ [])
    ∷ entry "nested" (say "u" ∷ put (nested (inline (msg "n"))) ∷ [])
    ∷ entry "missing" (put (var "q") ∷ put (msg "m") ∷ [])
    ∷ entry "two" (put (var "q") ∷ put (var "r") ∷ []) ∷ entry "two_arguments" (put (fun "FIRST" (var "q" ∷ var "r" ∷ []) []) ∷ [])
    ∷ entry "argument" (say "x" ∷ put (fun "FIRST" (msg "n" ∷ []) []) ∷ say "y" ∷ [])
    ∷ entry "arguments" (say "x" ∷ put (fun "FIRST" (var "q" ∷ msg "m" ∷ []) []) ∷ [])
    ∷ entry "twice" (put (own "u") ∷ put (own "u") ∷ []) ∷ entry "again" (put (fun "FIRST" (msg "m" ∷ msg "m" ∷ []) []) ∷ [])
    ∷ entry "select" (choose (str "a") (case "a" (say "x" ∷ put (msg "m") ∷ []) ∷ default "o" (say "y" ∷ []) ∷ []) ∷ [])
    ∷ entry "default" (choose (str "b") (case "a" (say "x" ∷ []) ∷ default "o" (put (msg "m") ∷ []) ∷ []) ∷ []) ∷ []) ∷ [])

abbrev pub without : String → Error
without name = resolver_error (lost (to_variable (codes name)))

abbrev pub missing : Error
missing = without "q"

-- ---- without a limit

-- a, then b, then c, each stored
abbrev pub chain : Bundle NoCustom
chain = bundle (add_resource (entry "a" (put (msg "b") ∷ []) ∷ entry "b" (put (msg "c") ∷ []) ∷ entry "c" (put (str "x") ∷ []) ∷ []) ∷ [])

abbrev pub means : Bundle NoCustom → Pattern → Outcome Text
means b p = meaning b (application []) [] p

abbrev pub outcome : Text → List Error → ℕ → Outcome Text
outcome t es n = record { value = t; errors = es; opened = n }

-- texts, errors and how many placeables are opened, by substitution
pub record Substituted : Type 0 where
  pub opened : means small (value_of small "n") ≡ outcome (codes "xaaay") [] 4
  pub marked : means small (value_of small "nested") ≡ outcome (codes "u" ++ (F ++ (codes "xaaay" ++ P))) [] 5
  pub unknown : means small (value_of small "missing") ≡ outcome (F ++ (codes "{$q}" ++ (P ++ codes "aaa"))) (missing ∷ []) 5
  pub itself : means small (value_of small "foo") ≡ outcome (codes "{foo}") (resolver_error cyclic ∷ []) 1
  pub arguments : means small (value_of small "arguments") ≡ outcome (codes "x" ++ (F ++ (codes "FIRST()" ++ P))) (missing ∷ []) 4
  pub in_order : means small (value_of small "two") ≡ outcome (F ++ (codes "{$q}" ++ (P ++ (F ++ (codes "{$r}" ++ P))))) (missing ∷ without "r" ∷ []) 2
  pub arguments_in_order : means small (value_of small "two_arguments") ≡ outcome (codes "FIRST()") (missing ∷ without "r" ∷ []) 1
  pub each_stored_once : means chain (pattern_of (put (msg "a") ∷ [])) ≡ outcome (codes "x") [] 4

-- ---- up to the limit

abbrev pub stops : String → ℕ → Until Text
stops id n = up_to_limit small (application []) [] (value_of small id) n

-- the text before the limit, the errors before it, and what closes the open placeables, innermost first
pub record ReachesLimit : Type 0 where
  pub all_opened : stops "n" 4 ≡ passed (codes "xaaay") [] 0
  pub some_left : stops "n" 6 ≡ passed (codes "xaaay") [] 2
  pub below : stops "n" 3 ≡ stopped (codes "xaa") [] (codes "{m}")
  pub at_the_first_below : stops "n" 1 ≡ stopped (codes "x") [] (codes "{m}")
  pub at_once : stops "n" 0 ≡ stopped (codes "x") [] []
  pub innermost_first : stops "nested" 3 ≡ stopped (codes "u" ++ (F ++ codes "xa")) [] (codes "{m}{n}" ++ P)
  pub error_before : stops "missing" 2 ≡ stopped (F ++ (codes "{$q}" ++ P)) (missing ∷ []) (codes "{m}")
  pub in_an_argument : stops "argument" 3 ≡ stopped (codes "x" ++ F) [] (codes "{FIRST()}" ++ P)
  pub error_of_an_argument : stops "arguments" 2 ≡ stopped (codes "x" ++ F) (missing ∷ []) (codes "{FIRST()}" ++ P)

abbrev pub result : {A : Type 0} → A → List Error → Budget → Ran A
result x es budget = record { value = x; errors = es; budget = budget }

-- ---- the work of a run

-- placeables opened, the longest path, patterns entered
abbrev pub counts : String → ℕ → ℕ × (ℕ × ℕ)
counts id n = let w = work small (application []) [] (value_of small id) (left n) in (w.opened, (w.longest, w.entered))

pub record Counts : Type 0 where
  pub not_limit_reached : counts "n" 10 ≡ (4, (2, 2))
  pub limit_reached_below : counts "n" 3 ≡ (3, (2, 2))
  pub limit_reached_at_once : counts "n" 0 ≡ (0, (1, 1))
  pub one_below_the_other : counts "nested" 10 ≡ (5, (3, 3))
  pub one_after_the_other : counts "twice" 10 ≡ (2, (2, 3))
  pub variant : counts "select" 10 ≡ (5, (2, 3))
  pub default_variant : counts "default" 10 ≡ (5, (2, 3))
  pub beside_the_run : (work small (application []) [] (value_of small "n") (left 3)).ran ≡ result (codes "xaa{m}") (resolver_error too_many_placeables ∷ []) limit_reached
  pub after_the_limit : counts "again" 1 ≡ (1, (2, 3))

-- ---- sizes

abbrev pub node : Inline → ℕ
node x = nodes (inline x)

-- a call with six arguments: seven nodes
abbrev pub seven : Inline
seven = fun "G" (times 6 (num "1")) []

abbrev pub sevens : Expression
sevens = select (var "x") (variants_of (case "a" (say "x" ∷ []) ∷ default "o" (put seven ∷ []) ∷ []))

abbrev pub largest_in : Inline → ℕ
largest_in x = largest (pattern_of (put x ∷ []))

abbrev pub stores : t.Entry → Bundle NoCustom
stores e = bundle (add_resource (entry "m" (put (var "x") ∷ []) ∷ e ∷ entry "z" [] ∷ []) ∷ [])

abbrev pub patterns : Bundle NoCustom
patterns = bundle (add_function (codes "F") first_argument ∷ add_resource (
    term_entry (codes "c") (pattern_of (say "1" ∷ [])) ((codes "x", pattern_of (say "2" ∷ [])) ∷ [])
    ∷ message_entry (codes "b") None ((codes "x", pattern_of (say "3" ∷ [])) ∷ [])
    ∷ message_entry (codes "a") (Some (pattern_of (say "4" ∷ []))) ((codes "x", pattern_of (say "5" ∷ [])) ∷ (codes "y", pattern_of (say "6" ∷ [])) ∷ [])
    ∷ []) ∷ [])

-- nodes of expressions, the most in a pattern, and the most in a bundle
pub record Sizes : Type 0 where
  pub single : map node (str "a" ∷ num "1" ∷ var "x" ∷ msg "m" ∷ own "t" ∷ []) ≡ 1 ∷ 1 ∷ 1 ∷ 1 ∷ 1 ∷ []
  pub call : node (fun "F" (num "1" ∷ var "x" ∷ []) (named "y" (str "a") ∷ named "z" (str "b") ∷ [])) ≡ 5
  pub calls_in_a_call : node (fun "F" (fun "G" (str "a" ∷ []) [] ∷ []) (named "y" (fun "H" (str "a" ∷ str "b" ∷ []) []) ∷ [])) ≡ 6
  pub term : node (own_with "t" (num "1" ∷ []) (named "n" (num "1") ∷ [])) ≡ 3
  pub in_brackets : node (nested (inline (nested (inline (var "x"))))) ≡ 3
  pub selector : nodes (select (fun "F" (var "x" ∷ []) []) (variants_of (default "o" (put seven ∷ []) ∷ []))) ≡ 3
  pub no_placeable : largest (pattern_of (say "a" ∷ [])) ≡ 0
  pub in_the_first : largest (pattern_of (put seven ∷ put (var "x") ∷ [])) ≡ 7
  pub in_the_last : largest (pattern_of (put (var "x") ∷ say "a" ∷ put seven ∷ [])) ≡ 7
  pub in_a_variant : largest (pattern_of (choose (var "x") (case "a" (put seven ∷ []) ∷ default "o" [] ∷ []) ∷ [])) ≡ 7
  pub in_the_default : largest (pattern_of (choose (var "x") (case "a" [] ∷ default "o" (put seven ∷ []) ∷ []) ∷ [])) ≡ 7
  pub below_a_selector : largest (pattern_of (choose (fun "F" (nested sevens ∷ []) []) (default "o" [] ∷ []) ∷ [])) ≡ 7
  pub below_a_nested : largest_in (nested sevens) ≡ 7
  pub below_arguments : map largest_in (fun "F" (nested sevens ∷ var "x" ∷ []) [] ∷ fun "F" (var "x" ∷ nested sevens ∷ []) (named "x" (num "1") ∷ []) ∷ []) ≡ 7 ∷ 7 ∷ []
  pub below_named : map largest_in (fun "F" [] (named "x" (nested sevens) ∷ named "y" (num "1") ∷ []) ∷ fun "F" [] (named "x" (num "1") ∷ named "y" (nested sevens) ∷ []) ∷ []) ≡ 7 ∷ 7 ∷ []
  pub below_a_term : largest_in (own_with "t" (nested sevens ∷ []) []) ≡ 7
  pub at_least_one : most_nodes (bundle []) nothing ≡ 1
  pub its_own : most_nodes (stores (entry "n" [])) (pattern_of (put seven ∷ [])) ≡ 7
  pub of_a_message : most_nodes (stores (entry "n" (put seven ∷ []))) nothing ≡ 7
  pub of_a_term : most_nodes (stores (private "n" (put seven ∷ []))) nothing ≡ 7
  pub of_an_attribute : most_nodes (stores (message_entry (codes "n") None ((codes "x", pattern_of (put seven ∷ [])) ∷ []))) nothing ≡ 7
  pub all_stored : stored patterns ≡ map (λ s. pattern_of (say s ∷ [])) ("4" ∷ "5" ∷ "6" ∷ "3" ∷ "1" ∷ "2" ∷ [])

-- ---- the calls of a scope

abbrev pub value : String → Pattern
value = value_of small

abbrev pub tracks : List Pattern → String → ℕ → Ran Text
tracks path id n = tracked small (application []) path (value id) (msg id) (left n)

abbrev pub maybe_tracks : List Pattern → String → String → Budget → Ran Text
maybe_tracks path id to budget = maybe_tracked small (application []) path (value id) (inline (msg to)) budget

-- from a scope's environment, path and budget
pub record Scopes : Type 0 where
  pub on_the_path : tracks (value "n" ∷ []) "n" 5 ≡ result (codes "{n}") (resolver_error cyclic ∷ []) (left 5)
  pub not_on_the_path : tracks (value "n" ∷ []) "m" 5 ≡ result (codes "aaa") [] (left 2)
  pub then_on_the_path : tracks (value "n" ∷ []) "foo" 5 ≡ result (codes "{foo}") (resolver_error cyclic ∷ []) (left 4)
  pub below_the_path : tracks (value "n" ∷ []) "nested" 5 ≡ result (codes "u" ++ (F ++ (codes "{n}" ++ P))) (resolver_error cyclic ∷ []) (left 4)
  pub within : maybe_tracks [] "n" "m" (left 5) ≡ result (codes "aaa") [] (left 2)
  pub limit_reached_there : maybe_tracks [] "n" "m" (left 2) ≡ result (codes "aa{m}") (resolver_error too_many_placeables ∷ []) limit_reached
  pub limit_reached_before : maybe_tracks [] "n" "m" limit_reached ≡ result (codes "{m}") [] limit_reached
  pub under_itself : maybe_tracks [] "foo" "foo" (left 5) ≡ result (codes "{foo}") (resolver_error cyclic ∷ []) (left 5)
  pub under_another : maybe_tracks (value "n" ∷ []) "foo" "foo" (left 5) ≡ result (codes "{foo}") (resolver_error cyclic ∷ []) (left 4)
  pub of_a_term : maybe_tracked small (local (with "v" (whole 1))) [] (value "n") (inline (var "v")) (left 5) ≡ result (codes "1") [] (left 5)
  pub missing_in_a_term : maybe_tracked small (local []) [] (value "n") (inline (var "v")) (left 5) ≡ result (codes "{$v}") [] (left 5)
  pub arguments : arguments_of small (application (with "v" (whole 9))) [] (t.arguments (inlines_of (var "v" ∷ str "a" ∷ [])) (nameds_of (named "y" (num "1") ∷ named "x" (str "b") ∷ []))) (left 5)
      ≡ result (whole 9 ∷ words "a" ∷ [], with "x" (words "b") ++ with "y" (whole 1)) [] (left 5)
  pub from_the_budget : arguments_of small (application []) [] (t.arguments (inlines_of (msg "m" ∷ var "q" ∷ [])) (nameds_of [])) (left 5) ≡ result (words "aaa" ∷ error_value ∷ [], []) (missing ∷ []) (left 2)
  pub arguments_below_the_path : arguments_of small (application []) (value "n" ∷ []) (t.arguments (inlines_of (msg "n" ∷ [])) (nameds_of [])) (left 5) ≡ result (words "{n}" ∷ [], []) (resolver_error cyclic ∷ []) (left 5)
