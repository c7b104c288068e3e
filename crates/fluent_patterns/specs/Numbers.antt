-- Calls of `NUMBER` with what is no number.
use Rattle.std.specs.Prelude.{◌≡◌, ◌&&◌, List, [], ◌∷◌, ◌++◌, Bool, true, false, Vec, codes}
use Rattle.std.specs.declared.alloc.Global.{Global}
use Rattle.fluent_ast.specs.Tree.{Text, Pattern, nothing, more, Element, text, placeable, Expression, inline, select, Variants, no_variants, variant, Inline, string, number, function, message, term, variable, nested, Call, no_call, call, Arguments, arguments, Inlines, no_inlines, argument, Nameds, no_nameds, named_argument}
use Rattle.fluent_semantics.specs.Number.{is_text}
use Rattle.fluent_patterns.specs.Found.{Problem, no_number, Flaw}
use Rattle.fluent_patterns.specs.Numbered.{flaws_from}

-- its value is a text, and no number, whatever it shows
abbrev pub is_always_text : Inline → Bool
is_always_text (string t) = true
is_always_text (number t) = false
is_always_text (function f a) = false
is_always_text (message m a) = true
is_always_text (term t a c) = true
is_always_text (variable v) = false
is_always_text (nested e) = true

-- `NUMBER` of these answers no number
abbrev pub lacks_number : Inlines → Bool
lacks_number no_inlines = true
lacks_number (argument x xs) = is_always_text x

abbrev pub is_no_number : Text → Arguments → Bool
is_no_number f (arguments xs ns) = is_text f (codes "NUMBER") && lacks_number xs

-- of each reference of a pattern, whether it is such a call: `references`, of specs/Numbered, has them in the same order
abbrev mutual
  pub calls : Pattern → List Bool
  calls nothing = []
  calls (more e p) = in_element e ++ calls p

  pub in_element : Element → List Bool
  in_element (text t) = []
  in_element (placeable e) = in_expression e

  pub in_expression : Expression → List Bool
  in_expression (inline x) = in_inline x
  in_expression (select x vs) = in_inline x ++ in_variants vs

  pub in_variants : Variants → List Bool
  in_variants no_variants = []
  in_variants (variant k p d vs) = calls p ++ in_variants vs

  pub in_inline : Inline → List Bool
  in_inline (string t) = []
  in_inline (number t) = []
  in_inline (function f a) = is_no_number f a ∷ in_arguments a
  in_inline (message m a) = false ∷ []
  in_inline (term t a c) = false ∷ in_call c
  in_inline (variable v) = false ∷ []
  in_inline (nested e) = in_expression e

  pub in_call : Call → List Bool
  in_call no_call = []
  in_call (call a) = in_arguments a

  pub in_arguments : Arguments → List Bool
  in_arguments (arguments xs ns) = in_positional xs ++ in_named ns

  pub in_positional : Inlines → List Bool
  in_positional no_inlines = []
  in_positional (argument x xs) = in_inline x ++ in_positional xs

  pub in_named : Nameds → List Bool
  in_named no_nameds = []
  in_named (named_argument name x ns) = in_inline x ++ in_named ns

abbrev pub problems_if : Bool → List Problem
problems_if true = no_number ∷ []
problems_if false = []

-- each such call of a pattern, by its number among the references
abbrev pub no_numbers : Pattern → List Flaw
no_numbers p = flaws_from problems_if 0 (calls p)

-- more was added
abbrev pub AddsCalls : List Bool → Vec Bool Global → Vec Bool Global → Type 0
AddsCalls added old new = new.items ≡ old.items ++ added
