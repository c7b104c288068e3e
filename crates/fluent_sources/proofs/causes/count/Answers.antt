use Rattle.std.proofs.Common.{◌∙◌, Some, ap, cond}
use Rattle.std.specs.Map.{lookup}
use Rattle.fluent_sources.proofs.Folding.{counted, is_same}
use Rattle.fluent_sources.proofs.causes.count.Goals as goal

pub returns : goal.returns
returns c =
    let old = c.args.table.now.entries in
    counted c.args.cause c.number_in-number.result old c.insert.new.self.entries
    (λ q. c.in_ok-insert.ensures.updates.0 q ∙ ap (λ n. cond (is_same c.args.cause q) (Some n) (lookup (is_same q) old)) c.in_ok-more.ensures)
    c.number_in-number.ensures
