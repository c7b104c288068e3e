-- What a pattern needs of its bundle and of the arguments, in the order of the tree, and which variables it asks the arguments for.
use Rattle.std.specs.Prelude.{◌≡◌, ◌⊎◌, Bool, true, false, List, [], ◌∷◌, ◌++◌, Option, Some, None}
use Rattle.fluent_ast.specs.Tree.{Text, Attribute, Pattern, nothing, more, Element, text, placeable, Expression, inline, select, Variants, no_variants, variant, Inline, string, number, function, message, term, variable, nested, Call, no_call, call, Arguments, arguments, Inlines, no_inlines, argument, Nameds, no_nameds, named_argument}
use Rattle.fluent_semantics.specs.Bundle.{found, message_target}
use Rattle.fluent_places.specs.Places.{Place, of_message, of_term, Names}

pub data Need : Type 0 where
  a_message : Text → Attribute → Need
  -- with the names of the variables that the reference gives it
  a_term : Text → Attribute → List Text → Need
  a_function : Text → Need
  a_variable : Text → Need
  -- of a select that has none
  a_default : Need

abbrev pub has_default : Variants → Bool
has_default no_variants = false
has_default (variant k p true vs) = true
has_default (variant k p false vs) = has_default vs

abbrev pub unless : Bool → Need → List Need
unless true n = []
unless false n = n ∷ []

abbrev pub names_in : Nameds → List Text
names_in no_nameds = []
names_in (named_argument name x ns) = name ∷ names_in ns

abbrev pub names_set : Call → List Text
names_set no_call = []
names_set (call (arguments xs ns)) = names_in ns

abbrev mutual
  pub needs : Pattern → List Need
  needs nothing = []
  needs (more e p) = in_element e ++ needs p

  pub in_element : Element → List Need
  in_element (text t) = []
  in_element (placeable e) = in_expression e

  -- those of all variants, whichever is chosen
  pub in_expression : Expression → List Need
  in_expression (inline x) = in_inline x
  in_expression (select x vs) = in_inline x ++ (in_variants vs ++ unless (has_default vs) a_default)

  pub in_variants : Variants → List Need
  in_variants no_variants = []
  in_variants (variant k p d vs) = needs p ++ in_variants vs

  pub in_inline : Inline → List Need
  in_inline (string t) = []
  in_inline (number t) = []
  in_inline (function f a) = a_function f ∷ in_arguments a
  in_inline (message m a) = a_message m a ∷ []
  in_inline (term t a c) = a_term t a (names_set c) ∷ in_call c
  in_inline (variable v) = a_variable v ∷ []
  in_inline (nested e) = in_expression e

  pub in_call : Call → List Need
  in_call no_call = []
  in_call (call a) = in_arguments a

  pub in_arguments : Arguments → List Need
  in_arguments (arguments xs ns) = in_positional xs ++ in_named ns

  pub in_positional : Inlines → List Need
  in_positional no_inlines = []
  in_positional (argument x xs) = in_inline x ++ in_positional xs

  pub in_named : Nameds → List Need
  in_named no_nameds = []
  in_named (named_argument name x ns) = in_inline x ++ in_named ns

-- the place that a need refers to
abbrev pub place_of : Need → Option Place
place_of (a_message m a) = Some (of_message m a)
place_of (a_term t a names) = Some (of_term t a)
place_of (a_function f) = None
place_of (a_variable v) = None
place_of a_default = None

-- ---- variables that the arguments are asked for

-- it is one of a list
abbrev pub IsAmong : {A : Type 0} → A → List A → Type 0
IsAmong x [] = ⊥
IsAmong x (y ∷ ys) = (x ≡ y) ⊎ IsAmong x ys

-- A pattern asks the arguments for a variable where it names it, or where a message that it refers to asks for it.
pub data AsksFor {C : Type 0} (named : Names C) (v : Text) : Pattern → Type 0 where
  itself : {p : Pattern} → IsAmong (a_variable v) (needs p) → AsksFor named v p
  by_message : {p q : Pattern} (m : Text) (a : Attribute) → IsAmong (a_message m a) (needs p) → message_target (named m) a ≡ found q → AsksFor named v q → AsksFor named v p
