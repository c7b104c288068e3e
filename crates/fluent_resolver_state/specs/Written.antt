-- What gives a text, and not a value of its own.
use Rattle.fluent_ast.specs.Tree.{Inline, string, number, function, message, term, variable, nested}

-- a message reference, a term reference or a nested placeable
abbrev pub IsWritten : Inline → Type 0
IsWritten (string t) = ⊥
IsWritten (number t) = ⊥
IsWritten (function f a) = ⊥
IsWritten (message m a) = Unit {0}
IsWritten (term t a c) = Unit {0}
IsWritten (variable v) = ⊥
IsWritten (nested e) = Unit {0}
