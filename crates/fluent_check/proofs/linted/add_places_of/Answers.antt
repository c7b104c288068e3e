use Rattle.std.proofs.Common.{◌++◌, ap, map, ◌∙◌}
use Rattle.std.proofs.lemmas.List.{map-append}
use Rattle.fluent_ast.specs.View.{entry_view}
use Rattle.fluent_places.specs.Places.{place_view, places_in, views}
use Rattle.fluent_check.proofs.linted.add_places_of.Goals as goal

pub returns : goal.returns
returns c =
    let old = c.args.places.now.items in
    ap views (c.in_ok-extend_from_slice.ensures.items ∙ ap (λ l. old ++ l) c.deref.ensures.value)
    ∙ (map-append place_view old c.in_ok-more.more.items
    ∙ ap (λ l. views old ++ l) (c.in_ok-more.ensures ∙ ap places_in (ap (map entry_view) c.as_slice.ensures.value ∙ c.entries.ensures)))
