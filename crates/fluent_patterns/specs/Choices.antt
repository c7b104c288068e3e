-- What selects on variables ask.
use Rattle.std.specs.Prelude.{◌≡◌, List, [], ◌++◌, map, Vec}
use Rattle.std.specs.declared.alloc.Global.{Global}
use Rattle.fluent_ast.specs.Tree.{Text, Key, Pattern, nothing, more, Element, text, placeable, Expression, inline, select, Variants, no_variants, variant, Inline, string, number, function, message, term, variable, nested, Call, no_call, call, Arguments, arguments, Inlines, no_inlines, argument, Nameds, no_nameds, named_argument}
use Rattle.fluent_ast.specs.View.{key_view}
use Rattle.fluent_patterns.specs.Selects.{keys_of}
use Rattle.fluent_patterns.specs.declared.choices.Choice as code

-- a variable, and a key of a select on it
abbrev pub Choice : Type 0
Choice = Text × Key

-- a variable with each of these keys
abbrev pub keyed : Text → List Key → List Choice
keyed v keys = map (λ k. (v, k)) keys

-- of a select, by what it is on and its keys
abbrev pub choices_on : Inline → List Key → List Choice
choices_on (variable v) keys = keyed v keys
choices_on (string t) keys = []
choices_on (number t) keys = []
choices_on (function f a) keys = []
choices_on (message m a) keys = []
choices_on (term t a c) keys = []
choices_on (nested e) keys = []

-- each select of a pattern that is on a variable, with each of its keys, in the order of the tree: a select after those of
-- its selector, and before those in its variants
abbrev mutual
  pub choices : Pattern → List Choice
  choices nothing = []
  choices (more e p) = in_element e ++ choices p

  pub in_element : Element → List Choice
  in_element (text t) = []
  in_element (placeable e) = in_expression e

  pub in_expression : Expression → List Choice
  in_expression (inline x) = in_inline x
  in_expression (select x vs) = in_inline x ++ (choices_on x (keys_of vs) ++ in_variants vs)

  pub in_variants : Variants → List Choice
  in_variants no_variants = []
  in_variants (variant k p d vs) = choices p ++ in_variants vs

  pub in_inline : Inline → List Choice
  in_inline (string t) = []
  in_inline (number t) = []
  in_inline (function f a) = in_arguments a
  in_inline (message m a) = []
  in_inline (term t a c) = in_call c
  in_inline (variable v) = []
  in_inline (nested e) = in_expression e

  pub in_call : Call → List Choice
  in_call no_call = []
  in_call (call a) = in_arguments a

  pub in_arguments : Arguments → List Choice
  in_arguments (arguments xs ns) = in_positional xs ++ in_named ns

  pub in_positional : Inlines → List Choice
  in_positional no_inlines = []
  in_positional (argument x xs) = in_inline x ++ in_positional xs

  pub in_named : Nameds → List Choice
  in_named no_nameds = []
  in_named (named_argument name x ns) = in_inline x ++ in_named ns

-- ---- of the code

abbrev pub choice_view : code.Choice → Choice
choice_view choice = (choice.variable.now, key_view choice.key)

abbrev pub choices_in : List code.Choice → List Choice
choices_in list = map choice_view list

-- choices were added, these and no other
abbrev pub AddsChoices : List Choice → Vec code.Choice Global → Vec code.Choice Global → Type 0
AddsChoices added old new = choices_in new.items ≡ choices_in old.items ++ added
