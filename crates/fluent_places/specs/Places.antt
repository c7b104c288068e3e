-- Where patterns stand, by how they are referred to.
use Rattle.std.specs.Prelude.{List, [], ◌∷◌, ◌++◌, map, Option}
use Rattle.fluent_ast.specs.Tree as tree
use Rattle.fluent_ast.specs.Tree.{Text, text_same, Attribute, no_attribute, attribute, Attribute-discrete, Attributes, message_entry, term_entry, junk_entry}
use Rattle.fluent_ast.specs.View.{attribute_of}
use Rattle.fluent_semantics.specs.Arguments.{get}
use Rattle.fluent_semantics.specs.Bundle.{Bundle, Entry, Target, message_target, term_target}
use Rattle.fluent_places.specs.declared.place.Place as code
use Rattle.fluent_places.specs.declared.place.Place.TheVariants as place

-- the value of a message or a term, or an attribute of it
pub data Place : Type 0 where
  of_message : Text → Attribute → Place
  of_term : Text → Attribute → Place
  deriving Discrete as Place-discrete

pub place_same : Discrete Place
place_same = Place-discrete text_same (Attribute-discrete text_same)

-- a place of the code, and a list of them
abbrev pub place_view : code.Place → Place
place_view (place.Message id a) = of_message id.name.now (attribute_of a)
place_view (place.Term id a) = of_term id.name.now (attribute_of a)

abbrev pub views : List code.Place → List Place
views xs = map place_view xs

-- What ids name: of each id, the message, the term or the function, or nothing. Clauses have it of a bundle of the code as
-- `B.named bundle.now`, where `named` is a ghost member of the trait GetEntry (fluent_bundle_entries/src/entry).
abbrev pub Names : Type 0 → Type 0
Names C = Text → Option (Entry C)

-- in a bundle
abbrev pub names_of : {C : Type 0} → Bundle C → Names C
names_of b id = get id b.ids

-- what stands at a place: `found p` where a pattern does
abbrev pub place_target : {C : Type 0} → Names C → Place → Target
place_target named (of_message m a) = message_target (named m) a
place_target named (of_term t a) = term_target (named t) a

-- the places of an entry of a source: of its value, then of its attributes
abbrev pub attribute_places : (Attribute → Place) → Attributes → List Place
attribute_places at as' = map (λ a. at (attribute a.0)) as'

abbrev pub places_of : tree.Entry → List Place
places_of (message_entry id v as') = of_message id no_attribute ∷ attribute_places (of_message id) as'
places_of (term_entry id p as') = of_term id no_attribute ∷ attribute_places (of_term id) as'
places_of (junk_entry source) = []

-- those of entries, in order
abbrev pub places_in : List tree.Entry → List Place
places_in [] = []
places_in (e ∷ es) = places_of e ++ places_in es
