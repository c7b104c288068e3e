use Rattle.std.proofs.Common.{ap, ◌∙◌, map}
use Rattle.fluent_ast.specs.View.{entry_view}
use Rattle.fluent_semantics.specs.Arguments.{set_all}
use Rattle.fluent_bundle_entries.specs.EntryView.{ids}
use Rattle.fluent_adding.specs.Inside.WaitingEntries.{given}
use Rattle.fluent_adding.proofs.Waiting.{overridden_given}
use Rattle.fluent_adding.proofs.adding.override_entries.Goals as goal

pub returns-clause-after : goal.returns-clause-after
returns-clause-after g c = λ answer.
    c.put_all.ensures.after answer
    ∙ (ap (λ ws. set_all ws (ids answer c.override_all.new.known)) c.in_ok-waiting.ensures.given
    ∙ (ap (set_all (given (map entry_view c.args.entries.now))) (c.in_ok-waiting.ensures.same answer ∙ c.reserve.ensures.same answer)
    ∙ overridden_given (map entry_view c.args.entries.now) (ids answer c.args.known.now)))
