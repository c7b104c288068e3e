-- What the code lists of a pattern: what it needs, and to which places it refers.
use Rattle.std.specs.Prelude.{◌≡◌, List, Some, map, Vec}
use Rattle.std.specs.declared.alloc.Global.{Global}
use Rattle.fluent_ast.specs.View.{attribute_of, call_view, pattern_view}
use Rattle.fluent_ast.specs.declared.ast.Pattern as tree
use Rattle.fluent_places.specs.Places.{Place, place_view}
use Rattle.fluent_places.specs.Needs.{Need, a_message, a_term, a_function, a_variable, a_default, names_set, needs, place_of, IsAmong}
use Rattle.fluent_places.specs.declared.listing.Need as code
use Rattle.fluent_places.specs.declared.listing.Need.TheVariants as variants
use Rattle.fluent_places.specs.declared.place.Place as of_place

-- a need of the code
abbrev pub need_view : code.Need → Need
need_view (variants.Message id a) = a_message id.name.now (attribute_of a)
need_view (variants.Term id a c) = a_term id.name.now (attribute_of a) (names_set (call_view c.now))
need_view (variants.Function id) = a_function id.name.now
need_view (variants.Variable id) = a_variable id.name.now
need_view variants.Default = a_default

abbrev pub needs_view : Vec code.Need Global → List Need
needs_view list = map need_view list.items

-- a need refers to a place
abbrev pub IsOfPlace : Place → Need → Type 0
IsOfPlace x n = place_of n ≡ Some x

-- one of these does
abbrev pub RefersIn : List Need → Place → Type 0
RefersIn ns x = (n : Need) × IsAmong n ns × IsOfPlace x n

-- A pattern of the code refers to a place: a reference to it stands somewhere in the pattern itself.
abbrev pub Refers : tree.Pattern → of_place.Place → Type 0
Refers p x = RefersIn (needs (pattern_view p)) (place_view x)
