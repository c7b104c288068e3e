use Rattle.std.proofs.Common.{refl}
use Rattle.fluent_c_handles.specs.Answers.{bundle_view}
use Rattle.fluent_c_handles.specs.declared.answer.Answer.TheVariants as answer
use Rattle.fluent_c_handles.specs.declared.sources.SourceFault.TheVariants as source
use Rattle.fluent_c_handles.proofs.Giving.{texts_given}
use Rattle.fluent_c_handles.proofs.calls.format.unasked.Goals as goal

pub returns-in-Ok : goal.returns-in-Ok
returns-in-Ok c = texts_given c.args.alloc c.args.wanted.now (bundle_view c.args.stock.now.bundle) _ _ _ _ c.in-Ok.lengths c.fit_status.result c.in-Ok.ensures.ok c.fit_status.ensures

pub returns-in-Err : goal.returns-in-Err
returns-in-Err c = record {
  answer = answer.Fault (source.Format c.in-Err.fault);
  done = c.in-Err.ensures.err;
  given = (c.status.ensures.status, record { out_left = c.in-Err.ensures.left.0; err_left = c.in-Err.ensures.left.1; zero = (refl, refl) });
}
