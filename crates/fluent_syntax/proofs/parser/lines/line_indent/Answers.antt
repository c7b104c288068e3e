use Rattle.fluent_syntax.proofs.Words.{indent_is}
use Rattle.fluent_syntax.proofs.parser.lines.line_indent.Goals as goal

pub returns-clause-indent : goal.returns-clause-indent
returns-clause-indent c = indent_is _ _ _ c.split_indent.ensures.parts
