use Rattle.fluent_places.specs.NeedsView.{need_view}
use Rattle.fluent_differences.specs.Compared.{function_of, term_of}
use Rattle.fluent_differences.proofs.Naming.{has_all, has_no_name, has_so_far, of_more}
use Rattle.fluent_differences.proofs.compared.own_of.Goals as goal

pub loop-need-init : goal.loop-need-init
loop-need-init c = (
  has_no_name term_of c.args.list.now c.new-terms.result c.new-terms.ensures.empty,
  has_no_name function_of c.args.list.now c.new-functions.result c.new-functions.ensures.empty,
)

pub loop-need-preserved : goal.loop-need-preserved
loop-need-preserved c =
    let xs = c.args.list.now in
    let i = c.loop-need.need-index in
    let x = c.need-item.result in (
      has_so_far term_of xs i x c.loop-need.terms c.add_some.new.names c.loop-need-test.true c.need-item.is c.loop-need.invariant.0
          (of_more term_of (need_view x) c.term_of.result c.loop-need.terms c.add_some.new.names c.term_of.ensures c.in_ok-add_some.ensures),
      has_so_far function_of xs i x c.loop-need.functions c.add_some-in-loop-need.new.names c.loop-need-test.true c.need-item.is c.loop-need.invariant.1
          (of_more function_of (need_view x) c.function_of.result c.loop-need.functions c.add_some-in-loop-need.new.names c.function_of.ensures c.in_ok-add_some-2.ensures),
    )

pub returns : goal.returns
returns c = record {
  terms = has_all term_of c.args.list.now c.loop-need.need-index c.loop-need.terms c.loop-need-test.false c.loop-need.invariant.0;
  functions = has_all function_of c.args.list.now c.loop-need.need-index c.loop-need.functions c.loop-need-test.false c.loop-need.invariant.1;
}
