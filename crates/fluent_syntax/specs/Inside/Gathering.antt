-- The arguments of a call as they are gathered, by their content.
use Rattle.std.specs.Prelude.{◌≡◌, List, ℕ, Some, None, Result, Ok, Err}
use Rattle.std.specs.Borrow.{Bor}
use Rattle.fluent_text.specs.Lexical.{identifier}
use Rattle.fluent_text.specs.Parser.{Text, Read, Parser, ◌<$>◌, ◌>>◌, ◌<|>◌}
use Rattle.fluent_ast.specs.Tree.{function, message}
use Rattle.fluent_syntax.specs.declared.parser.stop.Stop.{Stop}
use Rattle.fluent_syntax.specs.declared.parser.stop.Stop.TheVariants.{Absent, Memory}
use Rattle.fluent_ast.specs.View.{inline_view, named_view}
use Rattle.fluent_syntax.specs.declared.parser.argument.Argument as of_argument
use Rattle.fluent_syntax.specs.declared.parser.argument.Argument.TheVariants as code
use Rattle.fluent_syntax.specs.declared.parser.argument.Gathered as of_gathered
use Rattle.fluent_syntax.specs.Inside.Reading.{all}
use Rattle.fluent_syntax.specs.Expressions.{Level, Argument, positional, by_name, Gathered, add, inline_expression, literal, attribute_access, provided, is_function_name}

abbrev pub argument_view : of_argument.Argument → Argument
argument_view (code.Positional x) = positional (inline_view x)
argument_view (code.Named n) = by_name (named_view n)

abbrev pub gathered_view : of_gathered.Gathered → Gathered
gathered_view g = (all inline_view g.positional, all named_view g.named, g.ordered)

abbrev pub positional_argument : Level → Parser Argument
positional_argument g = positional <$> inline_expression g

-- the value of the argument whose name and colon were read
abbrev pub value_argument : Text → Parser Argument
value_argument name = (λ v. by_name (name, v)) <$> literal

-- a call of the function whose name was read
abbrev pub call_argument : Level → Text → Parser Argument
call_argument g id = (λ a. positional (function id a)) <$> g.brackets

-- the message whose name was read
abbrev pub message_argument : Text → Parser Argument
message_argument id = (λ a. positional (message id a)) <$> attribute_access

-- what the name that was read refers to
abbrev pub reference_argument : Level → Text → Parser Argument
reference_argument g id = (provided (is_function_name id) >> call_argument g id) <|> message_argument id

-- an argument is added
abbrev pub Adds : of_gathered.Gathered → of_gathered.Gathered → Argument → Type 0
Adds old new a = gathered_view new ≡ add (gathered_view old) a

-- an argument that was read is added to those before it; where none stands, they are as they were
abbrev pub Gathers : Result (Bor (List ℕ)) Stop → of_gathered.Gathered → of_gathered.Gathered → Read Argument → Type 0
Gathers (Ok rest) old new r = (a : Argument) × (r ≡ Some (a, rest.now)) × Adds old new a
Gathers (Err Absent) old new r = (r ≡ None) × (gathered_view new ≡ gathered_view old)
Gathers (Err Memory) old new r = Unit {0}

-- the same of an argument whose name was read before what is left
abbrev pub GathersNamed : Text → List ℕ → Result (Bor (List ℕ)) Stop → of_gathered.Gathered → of_gathered.Gathered → Parser Argument → Type 0
GathersNamed name left result old new rule = (s : List ℕ) → Some (name, left) ≡ identifier s → Gathers result old new (rule s)
