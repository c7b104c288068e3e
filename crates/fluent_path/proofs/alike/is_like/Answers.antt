use Rattle.std.proofs.Common.{◌∙◌}
use Rattle.fluent_path.proofs.Classed.{unlike_lengths}
use Rattle.fluent_path.proofs.alike.is_like.Goals as goal

pub returns-then-len : goal.returns-then-len
returns-then-len c =
    unlike_lengths c.args.one.now c.args.other.now c.len.result c.len-2.result (c.len.ensures ∙ c.args.one.now.elements.ok.0) (c.len-2.ensures ∙ c.args.other.now.elements.ok.0) c.if-len.true
