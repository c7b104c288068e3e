use Rattle.std.proofs.Common.{◌≡◌, ◌∙◌, ◌==◌, ◌++◌, ap, map, refl, rules, string_bytes, sym}
use Rattle.std.proofs.lemmas.List.{length-map}
use Rattle.fluent_sources.specs.Files.{mark_lines}
use Rattle.fluent_sources.specs.Reading.{read_view}
use Rattle.fluent_cli_report.specs.Unread.{unread_lines, unread_view, unread_views}
use Rattle.fluent_cli.specs.Inputs.{texts_in}
use Rattle.fluent_cli.specs.Runs.{status_by_whole}
use Rattle.fluent_cli.proofs.run.answer_after.Goals as goal

pub returns : goal.returns
returns c =
    let inputs = c.args.inputs.now in
    let unread = unread_views c.args.unread.now in
    let given = c.in_ok-given.given in
    let texts : map read_view c.as_slice.result.now ≡ texts_in inputs = ap (map read_view) c.as_slice.ensures.value ∙ c.in_ok-texts.ensures in
    let marks : string_bytes c.push_str.new.self ≡ unread_lines unread ++ mark_lines (map read_view c.as_slice.result.now) = search rules in
    let marked : string_bytes c.push_str.new.self ≡ unread_lines unread ++ mark_lines (texts_in inputs) =
    marks ∙ ap (λ reads. unread_lines unread ++ mark_lines reads) texts in
    let pushed : string_bytes c.push_str-2.new.self ≡ string_bytes c.push_str.new.self ++ string_bytes given.errors = search rules in
    record {
      given = given;
      gives = c.in_ok-given.ensures;
      leaves = record {
        status = c.status_after.ensures ∙ (ap (λ whole. status_by_whole whole given.status) c.is_empty.ensures ∙ ap (λ n. status_by_whole (n == 0) given.status) (sym (length-map c.args.unread.now unread_view)));
        output = refl;
        errors = pushed ∙ ap (λ t. t ++ string_bytes given.errors) marked;
      };
    }
