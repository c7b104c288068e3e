use Rattle.std.proofs.Common.{}
use Rattle.fluent_ast.specs.View.{element_view}
use Rattle.fluent_syntax.proofs.Ends.{kept_last}
use Rattle.fluent_syntax.proofs.parser.layout.is_trimmed.Goals as goal

pub returns-in-Some : goal.returns-in-Some
returns-in-Some c stays = kept_last element_view c.args.elements.now c.in-Some.last.now c.in-Some.ensures.value (c.stays.ensures stays)
