use Rattle.std.proofs.Common.{ap, rules, sym}
use Rattle.fluent_semantics.specs.Bundle.{shown}
use Rattle.fluent_values.specs.Facts.Outputs.{by_writer}
use Rattle.fluent_values.specs.Facts.Took.{took_as, took_same}
use Rattle.fluent_values.specs.View.{value_view}
use Rattle.fluent_values.proofs.types.value.FluentValue.write.Goals as goal

pub returns-clause-took : goal.returns-clause-took
returns-clause-took g c =
    let took = took_as (sym c.with_error.ensures) (by_writer g.W.Write.contents c.args.w.now _ c.put_value-written.new.out _ (search rules) c.put_value-written.ensures.took) in
    took_same (ap (λ b. shown (g.S.Bundle.Context.meant b) (value_view g.C.FluentType.content c.args.self.now)) c.bundle-bundle.ensures) took
