-- What a pattern refers to, in the order of the tree.
use Rattle.std.specs.Prelude.{◌<◌, List, [], ◌∷◌, ◌++◌, length, map}
use Rattle.fluent_ast.specs.Tree.{Text, Pattern, nothing, more, Element, text, placeable, Expression, inline, select, Variants, no_variants, variant, Inline, string, number, function, message, term, variable, nested, Call, no_call, call, Arguments, arguments, Inlines, no_inlines, argument, Nameds, no_nameds, named_argument, variants_of, inlines_of, nameds_of}
use Rattle.fluent_ast.specs.View.{variant_view, inline_view, named_view}
use Rattle.fluent_ast.specs.declared.ast.Variant as of_variant
use Rattle.fluent_ast.specs.declared.ast.NamedArgument as of_named
use Rattle.fluent_ast.specs.declared.ast.InlineExpression as of_inline

-- a message, a term or a function by its id
pub data Reference : Type 0 where
  a_message : Text → Reference
  a_term : Text → Reference
  a_function : Text → Reference
  deriving Discrete as Reference-discrete

abbrev mutual
  pub references : Pattern → List Reference
  references nothing = []
  references (more e p) = in_element e ++ references p

  pub in_element : Element → List Reference
  in_element (text t) = []
  in_element (placeable e) = in_expression e

  -- the selector first
  pub in_expression : Expression → List Reference
  in_expression (inline x) = in_inline x
  in_expression (select x vs) = in_inline x ++ in_variants vs

  pub in_variants : Variants → List Reference
  in_variants no_variants = []
  in_variants (variant k p d vs) = references p ++ in_variants vs

  -- the reference itself, then what stands in its arguments
  pub in_inline : Inline → List Reference
  in_inline (string t) = []
  in_inline (number t) = []
  in_inline (function f a) = a_function f ∷ in_arguments a
  in_inline (message m a) = a_message m ∷ []
  in_inline (term t a c) = a_term t ∷ in_call c
  in_inline (variable v) = []
  in_inline (nested e) = in_expression e

  pub in_call : Call → List Reference
  in_call no_call = []
  in_call (call a) = in_arguments a

  -- the positional arguments first
  pub in_arguments : Arguments → List Reference
  in_arguments (arguments xs ns) = in_positional xs ++ in_named ns

  pub in_positional : Inlines → List Reference
  in_positional no_inlines = []
  in_positional (argument x xs) = in_inline x ++ in_positional xs

  pub in_named : Nameds → List Reference
  in_named no_nameds = []
  in_named (named_argument name x ns) = in_inline x ++ in_named ns

-- ---- of the code

abbrev pub variants_view : List of_variant.Variant → Variants
variants_view vs = variants_of (map variant_view vs)

abbrev pub inlines_view : List of_inline.InlineExpression → Inlines
inlines_view xs = inlines_of (map inline_view xs)

abbrev pub nameds_view : List of_named.NamedArgument → Nameds
nameds_view ns = nameds_of (map named_view ns)

-- there is a reference
abbrev pub AreSome : List Reference → Type 0
AreSome rs = 0 < length rs
