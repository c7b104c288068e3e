-- The functions that patterns call, as an application may add them.
use Rattle.std.specs.Prelude.{◌≡◌, List, [], ◌∷◌, ◌++◌}
use Rattle.std.specs.Borrow.{Bor}
use Rattle.std.specs.declared.vec.Vec.{Vec}
use Rattle.std.proofs.Common.{Global}
use Rattle.fluent_ast.specs.Tree.{Text}
use Rattle.fluent_semantics.specs.Value.{error_value}
use Rattle.fluent_semantics.specs.Bundle.{Bundle, Function, after, add_function}
use Rattle.fluent_places.specs.Asked.{texts}
use Rattle.fluent_places.specs.Needs.{Need, a_message, a_term, a_function, a_variable, a_default}

-- the ids of those that are called
abbrev pub function_if : Need → List Text
function_if (a_message m a) = []
function_if (a_term t a names) = []
function_if (a_function f) = f ∷ []
function_if (a_variable v) = []
function_if a_default = []

abbrev pub functions_in : List Need → List Text
functions_in [] = []
functions_in (n ∷ ns) = function_if n ++ functions_in ns

abbrev pub AddsNames : List Text → Vec (Bor Text) Global → Vec (Bor Text) Global → Type 0
AddsNames more old new = texts new.items ≡ texts old.items ++ more

-- ---- bundles with functions

-- it answers an error, whatever it is asked
abbrev pub no_answer : Function Text
no_answer = λ values args. error_value

-- a bundle with a function under an id, where that is free
abbrev pub with_function : Text → Bundle Text → Bundle Text
with_function id b = after (add_function id no_answer) b

-- the same with functions in order
abbrev pub with_functions : List Text → Bundle Text → Bundle Text
with_functions [] b = b
with_functions (id ∷ ids) b = with_functions ids (with_function id b)
