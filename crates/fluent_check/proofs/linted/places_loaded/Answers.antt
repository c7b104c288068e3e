use Rattle.std.proofs.Common.{◌++◌, ap, map, sym, ◌∙◌}
use Rattle.fluent_places.specs.Places.{views}
use Rattle.fluent_check.specs.Linted.{places_of}
use Rattle.fluent_sources.specs.ReadFiles.{entries_in, file_view}
use Rattle.fluent_check.proofs.Added.{places_both}
use Rattle.fluent_check.proofs.linted.places_loaded.Goals as goal

pub returns : goal.returns
returns c =
    let beside = map file_view c.args.group.now.beside.now in
    let own = map file_view c.args.group.now.own.now in
    c.in_ok-add_places-2.ensures
    ∙ (ap (λ l. l ++ places_of (entries_in own)) (c.in_ok-add_places.ensures ∙ ap (λ l. views l ++ places_of (entries_in beside)) c.new-places.ensures.items)
    ∙ sym (places_both beside own))
