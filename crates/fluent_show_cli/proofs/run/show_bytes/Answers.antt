use Rattle.std.proofs.Common.{◌∙◌, ap, sym}
use Rattle.fluent_show_cli.specs.Program.{first_of_source}
use Rattle.fluent_show_words.specs.WordsView.{asked_view}
use Rattle.fluent_show_words.specs.PluralsView.{plurals_view}
use Rattle.fluent_show_cli.proofs.Coming.{ends_whole, ends_fault, ends_only, ends_of, of_text, of_no_text, is_of_text, never_unread, no_read}
use Rattle.fluent_show_cli.proofs.run.show_bytes.Goals as goal

pub returns-in-Ok-show-clause-ends : goal.returns-in-Ok-show-clause-ends
returns-in-Ok-show-clause-ends g c =
    let asked = asked_view c.args.task.request in
    let plurals = plurals_view c.args.task.plurals in
    ends_of _ _ _ _ _ _ _ _ _ (of_text asked plurals c.args.bytes.now c.in-Ok.source.now c.in-Ok.ensures.cases.1 c.in-Ok.ensures.cases.0) (ap (first_of_source asked plurals) c.in-Ok.ensures.cases.0)
    (ends_whole g.W.Write.contents _ _ _ _ _ _ c.requires c.show.result c.in-Ok-show.ending _ c.in-Ok-show.is c.in-Ok-show.ensures.ending c.show.ensures.text c.show.ensures.errors c.show.ensures.fault)

pub returns-in-Err-show-clause-ends : goal.returns-in-Err-show-clause-ends
returns-in-Err-show-clause-ends g c =
    let asked = asked_view c.args.task.request in
    let plurals = plurals_view c.args.task.plurals in
    ends_of _ _ _ _ _ _ _ _ _ (of_text asked plurals c.args.bytes.now c.in-Ok.source.now c.in-Ok.ensures.cases.1 c.in-Ok.ensures.cases.0) (ap (first_of_source asked plurals) c.in-Ok.ensures.cases.0)
    (ends_fault g.W.Write.contents _ _ _ _ _ _ c.requires c.show.result c.in-Err-show.fault _ c.in-Err-show.is c.from.ensures (is_of_text asked plurals c.in-Ok.source.now)
    c.show.ensures.text c.show.ensures.part c.show.ensures.errors c.show.ensures.stops c.show.ensures.fault)

pub returns-in-Err-clause-ends : goal.returns-in-Err-clause-ends
returns-in-Err-clause-ends g c = ends_only _ _ _ _ _ c.requires _ (of_no_text (asked_view c.args.task.request) (plurals_view c.args.task.plurals) c.args.bytes.now c.in-Err.ensures.cases.0)

pub returns-in-Ok-show-clause-read : goal.returns-in-Ok-show-clause-read
returns-in-Ok-show-clause-read g c failed =
    never_unread (asked_view c.args.task.request) (plurals_view c.args.task.plurals) c.in-Ok.source.now (sym c.in-Ok-show.ensures.ending ∙ failed)

pub returns-in-Err-show-clause-read : goal.returns-in-Err-show-clause-read
returns-in-Err-show-clause-read g c failed = no_read c.in-Err-show.fault (sym c.from.ensures ∙ failed)
