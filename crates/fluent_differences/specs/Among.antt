-- Whether a name or a place is one of some.
use Rattle.std.specs.Prelude.{◌&&◌, Bool, true, false, List}
use Rattle.std.specs.List.{list_any}
use Rattle.fluent_ast.specs.Tree.{Text, Attribute, no_attribute, attribute}
use Rattle.fluent_semantics.specs.Number.{is_text}
use Rattle.fluent_places.specs.Places.{Place, of_message, of_term}

abbrev pub is_in : Text → List Text → Bool
is_in v vs = list_any (is_text v) vs

abbrev pub same_attribute : Attribute → Attribute → Bool
same_attribute no_attribute no_attribute = true
same_attribute no_attribute (attribute b) = false
same_attribute (attribute a) no_attribute = false
same_attribute (attribute a) (attribute b) = is_text a b

abbrev pub same_place : Place → Place → Bool
same_place (of_message m a) (of_message n b) = is_text m n && same_attribute a b
same_place (of_message m a) (of_term t b) = false
same_place (of_term t a) (of_message m b) = false
same_place (of_term t a) (of_term u b) = is_text t u && same_attribute a b

abbrev pub is_at : Place → List Place → Bool
is_at x ys = list_any (same_place x) ys
