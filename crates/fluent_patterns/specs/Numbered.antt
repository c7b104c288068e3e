-- The references of a pattern, each with its number, and what is wrong with each.
use Rattle.std.specs.Prelude.{ℕ, ◌+◌, List, [], ◌∷◌, ◌++◌, map, Bool, true, false, Option, Some, None}
use Rattle.std.specs.List.{filter}
use Rattle.fluent_ast.specs.Tree.{Pattern}
use Rattle.fluent_places.specs.Needs.{Need, a_default, needs}
use Rattle.fluent_patterns.specs.Found.{Problem, Flaw, the_reference}

-- to a message, a term, a variable or a function
abbrev pub is_reference : Need → Bool
is_reference a_default = false
is_reference n = true

-- in the order of the tree: the number of a reference is its index
abbrev pub references : Pattern → List Need
references p = filter is_reference (needs p)

-- problems of the reference with this number
abbrev pub at_reference : ℕ → List Problem → List Flaw
at_reference n problems = map (λ problem. (the_reference n, problem)) problems

-- of what stands for the references from this number on, the problems of each
abbrev pub flaws_from : {A : Type 0} → (A → List Problem) → ℕ → List A → List Flaw
flaws_from problems n [] = []
flaws_from problems n (x ∷ xs) = at_reference n (problems x) ++ flaws_from problems (n + 1) xs

-- of each reference of a pattern
abbrev pub flaws_of : (Need → List Problem) → Pattern → List Flaw
flaws_of problems p = flaws_from problems 0 (references p)

-- a problem, if there is one
abbrev pub if_any : Option Problem → List Problem
if_any None = []
if_any (Some problem) = problem ∷ []
