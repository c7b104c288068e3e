-- What is reported: the content of fluent-bundle's errors, whatever owns their texts, and their texts.
use Rattle.std.specs.Prelude.{ℕ, ◌∷◌, ◌++◌, Option, Some, None, codes}
use Rattle.fluent_ast.specs.Tree.{Text, Attribute, no_attribute, attribute, Inline, string, number, function, message, term, variable, nested}
use Rattle.fluent_ast.specs.Fallback.{dotted}
use Rattle.fluent_ast.specs.ParserError.{unreadable_text}

pub data Kind : Type 0 where
  message_kind term_kind function_kind : Kind

-- what a reference that could not be resolved named
pub data Reference : Type 0 where
  to_function : Text → Reference
  to_message : Text → Attribute → Reference
  to_term : Text → Attribute → Reference
  to_variable : Text → Reference

pub data ResolverError : Type 0 where
  lost : Reference → ResolverError
  no_value : Text → ResolverError
  missing_default cyclic too_many_placeables : ResolverError

pub data Error : Type 0 where
  overriding : Kind → Text → Error
  parser_error : ℕ → ℕ → Error
  resolver_error : ResolverError → Error

-- what an expression names, if it is a reference
abbrev pub reference_of : Inline → Option Reference
reference_of (string t) = None
reference_of (number t) = None
reference_of (function f a) = Some (to_function f)
reference_of (message m a) = Some (to_message m a)
reference_of (term t a c) = Some (to_term t a)
reference_of (variable v) = Some (to_variable v)
reference_of (nested e) = None

-- ---- texts

abbrev pub kind_text : Kind → Text
kind_text message_kind = codes "message"
kind_text term_kind = codes "term"
kind_text function_kind = codes "function"

abbrev pub reference_text : Reference → Text
reference_text (to_function f) = codes "Unknown function: " ++ (f ++ codes "()")
reference_text (to_message m no_attribute) = codes "Unknown message: " ++ m
reference_text (to_message m (attribute a)) = codes "Unknown attribute: " ++ dotted m (attribute a)
reference_text (to_term t no_attribute) = codes "Unknown term: " ++ 45 ∷ t
reference_text (to_term t (attribute a)) = codes "Unknown attribute: " ++ 45 ∷ dotted t (attribute a)
reference_text (to_variable v) = codes "Unknown variable: " ++ 36 ∷ v

abbrev pub resolver_error_text : ResolverError → Text
resolver_error_text (lost r) = reference_text r
resolver_error_text (no_value id) = codes "No value: " ++ id
resolver_error_text missing_default = codes "No default"
resolver_error_text cyclic = codes "Cyclical dependency detected"
resolver_error_text too_many_placeables = codes "Too many placeables"

abbrev pub error_text : Error → Text
error_text (overriding kind id) = codes "Attempt to override an existing " ++ (kind_text kind ++ (codes ": \"" ++ (id ++ codes "\".")))
error_text (parser_error start end) = codes "Parser error: " ++ unreadable_text start end
error_text (resolver_error e) = codes "Resolver error: " ++ resolver_error_text e
