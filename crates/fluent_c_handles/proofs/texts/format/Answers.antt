use Rattle.fluent_c_handles.specs.Answers.{bundle_view}
use Rattle.fluent_c_handles.proofs.Giving.{formats_by_lines}
use Rattle.fluent_c_handles.proofs.texts.format.Goals as goal

pub returns-clause-ok : goal.returns-clause-ok
returns-clause-ok c = formats_by_lines (bundle_view c.args.bundle.now) c.args.id.now c.args.name.now c.args.args.now _ _ _ _ c.format_in.result c.format_in.ensures.ok
