use Rattle.std.proofs.Common.{refl, true}
use Rattle.fluent_c_handles.specs.Calls.Opening.{NotOpenedByRules, OpenedByRules}
use Rattle.fluent_c_handles.specs.Answers.{held_content}
use Rattle.fluent_c_handles.proofs.Opens.{opens_by}
use Rattle.fluent_c_handles.proofs.calls.open.open_by_rules.Goals as goal

pub returns-clause-opens : goal.returns-clause-opens
returns-clause-opens c =
    let by = c.args.by.now in
    opens_by (OpenedByRules by.cardinal.now by.ordinal.now by.isolate) (NotOpenedByRules by.cardinal.now by.ordinal.now) true refl c.open_by_rules-opened.result
    c.open_by_rules-opened.ensures.ok c.open_by_rules-opened.ensures.err (λ b o. (o.texts.0, o.texts.1, (o.rules, o.read))) (held_content c.boxed.result.0.held) c.boxed.result.2 c.boxed.ensures.boxed
