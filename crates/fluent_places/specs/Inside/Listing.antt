-- What is added to lists of needs and of places.
use Rattle.std.specs.Prelude.{◌≡◌, List, ◌++◌, map, Vec}
use Rattle.std.specs.declared.alloc.Global.{Global}
use Rattle.fluent_ast.specs.References.{variants_view}
use Rattle.fluent_ast.specs.View.{attribute_view}
use Rattle.fluent_ast.specs.declared.ast.Attribute as of_attribute
use Rattle.fluent_ast.specs.declared.ast.Identifier.{Identifier}
use Rattle.fluent_ast.specs.declared.ast.Variant as of_variant
use Rattle.fluent_places.specs.Places.{Place, of_message, of_term, views, attribute_places}
use Rattle.fluent_places.specs.Needs.{Need, a_default, has_default, unless}
use Rattle.fluent_places.specs.NeedsView.{needs_view}
use Rattle.fluent_places.specs.declared.listing.Need as need
use Rattle.fluent_places.specs.declared.place.Place as place

-- a default, where none of the variants is one
abbrev pub missing_default : List of_variant.Variant → List Need
missing_default vs = unless (has_default (variants_view vs)) a_default

-- the new list is the old one with these after it
abbrev pub Appends : Vec need.Need Global → Vec need.Need Global → List Need → Type 0
Appends old new these = needs_view new ≡ needs_view old ++ these

-- the same of places
abbrev pub AddsPlaces : Vec place.Place Global → Vec place.Place Global → List Place → Type 0
AddsPlaces old new these = views new.items ≡ views old.items ++ these

-- those of the attributes of a message, or of a term
abbrev pub AddsOfMessage : Identifier → List of_attribute.Attribute → Vec place.Place Global → Vec place.Place Global → Type 0
AddsOfMessage id as' old new = AddsPlaces old new (attribute_places (of_message id.name.now) (map attribute_view as'))

abbrev pub AddsOfTerm : Identifier → List of_attribute.Attribute → Vec place.Place Global → Vec place.Place Global → Type 0
AddsOfTerm id as' old new = AddsPlaces old new (attribute_places (of_term id.name.now) (map attribute_view as'))
