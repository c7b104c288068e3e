-- What is shown of an expression that can't be resolved.
use Rattle.std.specs.Prelude.{[], ◌∷◌, ◌++◌}
use Rattle.fluent_ast.specs.Tree.{Text, Attribute, no_attribute, attribute, Expression, inline, select, Inline, string, number, function, message, term, variable, nested}

abbrev pub dotted : Text → Attribute → Text
dotted id no_attribute = id
dotted id (attribute name) = id ++ 46 ∷ name

abbrev mutual
  -- `id`, `id.attr`, `-id`, `-id.attr`, `F()`, `$x`; a string literal's source between quotes, a number literal's source; of a nested placeable that of its expression
  pub fallback : Inline → Text
  fallback (string t) = 34 ∷ (t ++ 34 ∷ [])
  fallback (number t) = t
  fallback (function f a) = f ++ 40 ∷ 41 ∷ []
  fallback (message m a) = dotted m a
  fallback (term t a c) = 45 ∷ dotted t a
  fallback (variable v) = 36 ∷ v
  fallback (nested e) = fallback_of e

  -- of a select that of its selector
  pub fallback_of : Expression → Text
  fallback_of (inline x) = fallback x
  fallback_of (select x vs) = fallback x

abbrev pub in_braces : Text → Text
in_braces t = 123 ∷ (t ++ 125 ∷ [])
