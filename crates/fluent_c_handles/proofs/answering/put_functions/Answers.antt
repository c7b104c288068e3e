use Rattle.fluent_c_handles.specs.Answers.{bundle_view}
use Rattle.fluent_c_handles.proofs.Putting.{keeps_then, one_more}
use Rattle.fluent_c_handles.proofs.answering.put_functions.Goals as goal

pub loop-name-preserved : goal.loop-name-preserved
loop-name-preserved c = (
  one_more c.args.answers.now.value.meant.table c.args.names.now c.loop-name.name-index c.name-item.result c.as_str.result.now
      (bundle_view c.args.bundle.now) (bundle_view c.loop-name.bundle) (bundle_view c.put_function.new.bundle)
      c.loop-name-test.true c.name-item.is c.as_str.ensures.value c.loop-name.invariant.0 c.in_ok-put_function.ensures.ok,
  keeps_then c.args.bundle.now c.loop-name.bundle c.put_function.new.bundle c.loop-name.invariant.1 c.in_ok-put_function.ensures.kept,
)
