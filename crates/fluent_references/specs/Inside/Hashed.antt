-- What of a pattern is hashed: each part after a byte for its kind, and 255, which is no kind, where a list ends. A
-- text ends by 255 too, which no UTF-8 has. So what is fed can be read back in one way, and contents that differ feed
-- different bytes.
use Rattle.std.specs.Prelude.{ℕ, List, [], ◌++◌}
use Rattle.std.specs.Hash as fed
use Rattle.fluent_ast.specs.Tree.{Text, Key, name_key, number_key, Attribute, no_attribute, attribute, Pattern, nothing, more, Element, text, placeable, Expression, inline, select, Variants, no_variants, variant, Inline, string, number, function, message, term, variable, nested, Call, no_call, call, Arguments, arguments, Inlines, no_inlines, argument, Nameds, no_nameds, named_argument}

-- the writes to a hasher
abbrev pub HasherInput : Type 0
HasherInput = List (List ℕ)

-- a name or a literal, after its kind
abbrev pub hashed_kind : ℕ → Text → HasherInput
hashed_kind kind t = fed.u8 kind ++ fed.str t

abbrev pub hashed_attribute : Attribute → HasherInput
hashed_attribute no_attribute = []
hashed_attribute (attribute a) = hashed_kind 7 a

abbrev pub hashed_key : Key → HasherInput
hashed_key (name_key name) = hashed_kind 9 name
hashed_key (number_key n) = hashed_kind 10 n

-- where a list ends
abbrev pub hashed_end : HasherInput
hashed_end = fed.u8 255

-- every part, in the order of the tree
abbrev mutual
  pub hashed : Pattern → HasherInput
  hashed nothing = hashed_end
  hashed (more e p) = hashed_element e ++ hashed p

  pub hashed_element : Element → HasherInput
  hashed_element (text t) = hashed_kind 8 t
  hashed_element (placeable e) = hashed_expression e

  pub hashed_expression : Expression → HasherInput
  hashed_expression (inline x) = hashed_inline x
  hashed_expression (select x vs) = fed.u8 0 ++ hashed_inline x ++ hashed_variants vs

  pub hashed_variants : Variants → HasherInput
  hashed_variants no_variants = hashed_end
  hashed_variants (variant k p d vs) = hashed_key k ++ fed.bool d ++ hashed p ++ hashed_variants vs

  pub hashed_inline : Inline → HasherInput
  hashed_inline (string t) = hashed_kind 1 t
  hashed_inline (number t) = hashed_kind 2 t
  hashed_inline (function f a) = hashed_kind 3 f ++ hashed_arguments a
  hashed_inline (message m a) = hashed_kind 4 m ++ hashed_attribute a
  hashed_inline (term t a c) = hashed_kind 5 t ++ hashed_attribute a ++ hashed_call c
  hashed_inline (variable v) = hashed_kind 6 v
  hashed_inline (nested e) = fed.u8 11 ++ hashed_expression e

  pub hashed_call : Call → HasherInput
  hashed_call no_call = []
  hashed_call (call a) = fed.u8 12 ++ hashed_arguments a

  pub hashed_arguments : Arguments → HasherInput
  hashed_arguments (arguments xs ns) = hashed_positional xs ++ hashed_named ns

  pub hashed_positional : Inlines → HasherInput
  hashed_positional no_inlines = hashed_end
  hashed_positional (argument x xs) = hashed_inline x ++ hashed_positional xs

  pub hashed_named : Nameds → HasherInput
  hashed_named no_nameds = hashed_end
  hashed_named (named_argument name x ns) = hashed_kind 13 name ++ hashed_inline x ++ hashed_named ns
