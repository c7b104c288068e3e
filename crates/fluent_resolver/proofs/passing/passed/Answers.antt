use Rattle.std.proofs.Common.{rules}
use Rattle.fluent_ast.specs.ReferencesOf.{of_element}
use Rattle.fluent_references.specs.Cursors.{seen}
use Rattle.fluent_resolver.proofs.NoLinks.{nothing_left}
use Rattle.fluent_resolver.proofs.passing.passed.Goals as goal

pub returns-then-is_none : goal.returns-then-is_none
returns-then-is_none c = nothing_left (seen c.args.cursor) (of_element c.args.element.now) (search (rules, c.first.ensures, c.is_none.ensures, c.if-is_none.true))
