use Rattle.std.proofs.Common.{◌≡◌, ◌∙◌, ◌==◌, ap, ap₂, length, sym}
use Rattle.std.proofs.lemmas.List.{length-map}
use Rattle.fluent_sources.specs.Reading.{read_view, texts_read}
use Rattle.fluent_cli_report.specs.Unread.{unread_view, unread_views}
use Rattle.fluent_cli.specs.Runs.{is_lost_by, needs_file}
use Rattle.fluent_cli.proofs.run.is_lost.Goals as goal

pub returns : goal.returns
returns c =
    let texts = c.args.inputs.now.sources.texts in
    let unread = c.args.unread.now in
    let request = c.args.request.now in
    let read : texts.len ≡ length (texts_read c.args.inputs.now.sources) = texts.ok.0 ∙ sym (length-map texts.items read_view) in
    let noted : length unread ≡ length (unread_views unread) = sym (length-map unread unread_view) in
    c.is_lost_by.ensures
    ∙ (ap (λ needs. is_lost_by needs c.is_empty-is_nothing.result c.is_empty-is_whole.result) c.needs_file.ensures
    ∙ ap₂ (λ nothing whole. is_lost_by (needs_file request) nothing whole) (c.is_empty-is_nothing.ensures ∙ ap (λ n. n == 0) read) (c.is_empty-is_whole.ensures ∙ ap (λ n. n == 0) noted))
