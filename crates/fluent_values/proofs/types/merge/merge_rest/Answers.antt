use Rattle.std.proofs.Common.{◌∙◌, ap, sym}
use Rattle.fluent_intl.specs.Options.{options_of}
use Rattle.fluent_values.specs.Args.{shown_left}
use Rattle.fluent_values.specs.Inside.Merging.{with_rest}
use Rattle.fluent_values.proofs.types.merge.merge_rest.Goals as goal

pub loop-name-init : goal.loop-name-init
loop-name-init g c =
    ap (λ m. with_rest m (options_of c.args.options.now))
    (ap (shown_left g.C.FluentType.content) c.into_iter-name-iterator.ensures.into_iter_gives ∙ c.iter-name-items.ensures.all)

pub loop-name-preserved : goal.loop-name-preserved
loop-name-preserved g c =
    ap (with_rest (shown_left g.C.FluentType.content c.next.new.self)) c.merge_one.ensures
    ∙ sym (ap (λ m. with_rest m (options_of c.loop-name.options)) c.in-Some.ensures.steps) ∙ c.loop-name.invariant

pub returns : goal.returns
returns g c =
    sym (ap (λ m. with_rest m (options_of c.loop-name.options)) c.in-None.ensures.steps.0) ∙ c.loop-name.invariant
