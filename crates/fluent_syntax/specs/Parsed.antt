-- What the reader's answer holds.
use Rattle.std.specs.Prelude.{◌≡◌, ℕ, List, [], map, Result, Ok, Err}
use Rattle.fluent_ast.specs.Tree.{Entry}
use Rattle.fluent_ast.specs.View.{resource_view}
use Rattle.fluent_ast.specs.declared.ast.Resource.{Resource}
use Rattle.fluent_ast.specs.declared.errors.ParserError.{ParserError}
use Rattle.fluent_syntax.specs.declared.parser.errors.ParseFault.{ParseFault}
use Rattle.fluent_syntax.specs.declared.parser.errors.ParseFault.TheVariants.{Parser, Memory}

abbrev pub error_range : ParserError → ℕ × ℕ
error_range e = (e.start, e.end)

-- the resource holds these entries, with errors or without
abbrev pub HoldsEntries : Result Resource ParseFault → List Entry → Type 0
HoldsEntries (Ok r) es = resource_view r ≡ es
HoldsEntries (Err (Parser r errors)) es = resource_view r ≡ es
HoldsEntries (Err Memory) es = Unit {0}

-- the errors are these byte ranges in order: none where there is no error
abbrev pub HoldsErrors : Result Resource ParseFault → List (ℕ × ℕ) → Type 0
HoldsErrors (Ok r) ranges = ranges ≡ []
HoldsErrors (Err (Parser r errors)) ranges = map error_range errors.items ≡ ranges
HoldsErrors (Err Memory) ranges = Unit {0}

-- errors are given only where there are such ranges
abbrev pub HasSome : Result Resource ParseFault → List (ℕ × ℕ) → Type 0
HasSome (Ok r) ranges = Unit {0}
HasSome (Err (Parser r errors)) ranges = ¬ (ranges ≡ [])
HasSome (Err Memory) ranges = Unit {0}
