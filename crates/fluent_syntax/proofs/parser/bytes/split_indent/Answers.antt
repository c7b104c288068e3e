use Rattle.fluent_syntax.specs.declared.parser.bytes.Class.TheVariants.{Space}
use Rattle.fluent_syntax.proofs.Runs.{boundary}
use Rattle.fluent_syntax.proofs.parser.bytes.split_indent.Goals as goal

pub split_at-requires : goal.split_at-requires
split_at-requires c = rw c.indent_len.ensures (boundary Space c.args.s.now c.utf8.s)
