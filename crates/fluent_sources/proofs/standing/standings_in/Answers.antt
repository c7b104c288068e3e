use Rattle.std.proofs.Common.{◌++◌, ap, map, sym, ◌∙◌}
use Rattle.fluent_sources.specs.ReadFiles.{file_view}
use Rattle.fluent_sources.specs.Standing.{standing_view, standings_in}
use Rattle.fluent_sources.proofs.Added.{standings_both}
use Rattle.fluent_sources.proofs.standing.standings_in.Goals as goal

pub returns : goal.returns
returns c =
    let beside = map file_view c.args.group.now.beside.now in
    let own = map file_view c.args.group.now.own.now in
    c.in_ok-add_files-2.ensures
    ∙ (ap (λ l. l ++ standings_in own) (c.in_ok-add_files.ensures ∙ ap (λ l. map standing_view l ++ standings_in beside) c.new-list.ensures.items)
    ∙ sym (standings_both beside own))
