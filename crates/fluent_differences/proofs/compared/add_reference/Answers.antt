use Rattle.std.proofs.Common.{sym, ◌∙◌}
use Rattle.fluent_differences.proofs.Naming.{reference_added, reference_passed}
use Rattle.fluent_differences.proofs.compared.add_reference.Goals as goal

pub returns-then-not-is_reference : goal.returns-then-not-is_reference
returns-then-not-is_reference c = reference_passed c.args.need.now c.args.list.now.items (sym c.is_reference.ensures ∙ c.if-not-is_reference.true)

pub returns : goal.returns
returns c = reference_added c.args.need.now c.args.list.now.items c.push.new.self.items (sym c.is_reference.ensures ∙ c.if-not-is_reference.false) c.in_ok-push.ensures.items
