use Rattle.std.proofs.Common.{◌≡◌, ◌∙◌, [], ap, rules}
use Rattle.std.specs.Prelude.{◌≢◌}
use Rattle.fluent_syntax.specs.Chunks.{entries, chunks_within}
use Rattle.fluent_resource.specs.ResourceView.{entries_of}
use Rattle.fluent_c_handles.specs.Answers.{bundle_view}
use Rattle.fluent_c_handles.proofs.sources.try_format_source.Goals as goal

-- the bundle was opened, and there were entries to add
pub returns-then-is_err-clause-err : goal.returns-then-is_err-clause-err
unfolding chunks_within
returns-then-is_err-clause-err c =
    let added : entries_of c.in-Ok-resource_of.resource ≢ [] = search (rules, c.add_free.ensures.some, c.if-is_err.true, c.if-is_err.ensures) in
    let same : c.in-Ok.text.now ≡ c.args.source.now = search (rules, c.in-Ok.ensures) in
    record {
      text = search rules;
      some = λ none. added (c.in-Ok-resource_of.ensures.read ∙ ap entries (same ∙ none));
      bundle = bundle_view c.in-Ok-open.field-0.bundle;
      opened = c.in-Ok-open.ensures.ok;
    }
