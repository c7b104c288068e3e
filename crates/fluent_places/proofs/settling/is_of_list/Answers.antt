use Rattle.std.proofs.Common.{inl, refl, sym, ap}
use Rattle.fluent_ast.specs.View.{attribute_of}
use Rattle.fluent_places.specs.NeedsView.{need_view}
use Rattle.fluent_places.specs.declared.place.Place.TheVariants as place
use Rattle.fluent_places.proofs.settling.is_of_list.Goals as goal

pub returns-in-Message : goal.returns-in-Message
returns-in-Message c =
    let id = c.in-Message.id in
    let attribute = c.in-Message.attribute in
    λ yes. (place.Message id attribute, (id.name.now, attribute_of attribute, inl (sym (ap need_view c.in-Message.is)), refl), c.has_list.ensures yes)
