use Rattle.std.proofs.Common.{rules, ◌∙◌}
use Rattle.fluent_ast.specs.ReferencesOf.{of_arguments}
use Rattle.fluent_references.specs.Cursors.{seen}
use Rattle.fluent_references.specs.Links.{next}
use Rattle.fluent_resolver.proofs.NoLinks.{nothing_left}
use Rattle.fluent_resolver.proofs.passing.passed_call.Goals as goal

pub returns-then-is_none : goal.returns-then-is_none
returns-then-is_none c =
    c.after_one-after.ensures
    ∙ nothing_left (next (seen c.args.cursor)) (of_arguments c.args.arguments.now) (search (rules, c.after_one-after.ensures, c.first.ensures, c.is_none.ensures, c.if-is_none.true))
