-- The content of what is reported.
use Rattle.std.specs.Prelude.{Option, Some, None, String, string_bytes}
use Rattle.std.specs.Option.{option_map}
use Rattle.std.proofs.Common.{Global}
use Rattle.fluent_ast.specs.Tree as t
use Rattle.fluent_ast.specs.Tree.{no_attribute, attribute}
use Rattle.fluent_ast.specs.View.{inline_view}
use Rattle.fluent_ast.specs.declared.ast.InlineExpression.{InlineExpression}
use Rattle.fluent_semantics.specs.Errors as e
use Rattle.fluent_semantics.specs.Errors.{Kind, message_kind, term_kind, function_kind, Reference, to_function, to_message, to_term, to_variable, reference_of, lost, no_value, missing_default, cyclic, too_many_placeables, overriding, parser_error, resolver_error}
use Rattle.fluent_bundle_entries.specs.declared.errors.EntryKind.{EntryKind}
use Rattle.fluent_bundle_entries.specs.declared.errors.EntryKind.TheVariants as kinds
use Rattle.fluent_bundle_entries.specs.declared.errors.FluentError.{FluentError}
use Rattle.fluent_bundle_entries.specs.declared.errors.FluentError.TheVariants as errors
use Rattle.fluent_bundle_entries.specs.declared.errors.resolver.ReferenceKind.{ReferenceKind}
use Rattle.fluent_bundle_entries.specs.declared.errors.resolver.ReferenceKind.TheVariants as references
use Rattle.fluent_bundle_entries.specs.declared.errors.resolver.ResolverError.{ResolverError}
use Rattle.fluent_bundle_entries.specs.declared.errors.resolver.ResolverError.TheVariants as resolving

abbrev pub kind_view : EntryKind → Kind
kind_view kinds.Message = message_kind
kind_view kinds.Term = term_kind
kind_view kinds.Function = function_kind

abbrev pub attribute_name : Option (String Global) → t.Attribute
attribute_name None = no_attribute
attribute_name (Some name) = attribute (string_bytes name)

abbrev pub reference_view : ReferenceKind → Reference
reference_view (references.Function id) = to_function (string_bytes id)
reference_view (references.Message id a) = to_message (string_bytes id) (attribute_name a)
reference_view (references.Term id a) = to_term (string_bytes id) (attribute_name a)
reference_view (references.Variable id) = to_variable (string_bytes id)

-- what an expression refers to, if anything
abbrev pub reference_in : InlineExpression → Option Reference
reference_in x = reference_of (inline_view x)

-- the error of what an expression refers to
abbrev pub lost_in : InlineExpression → Option e.ResolverError
lost_in x = option_map lost (reference_in x)

abbrev pub resolver_error_view : ResolverError → e.ResolverError
resolver_error_view (resolving.Reference r) = lost (reference_view r)
resolver_error_view (resolving.NoValue id) = no_value (string_bytes id)
resolver_error_view resolving.MissingDefault = missing_default
resolver_error_view resolving.Cyclic = cyclic
resolver_error_view resolving.TooManyPlaceables = too_many_placeables

abbrev pub error_view : FluentError → e.Error
error_view (errors.Overriding kind id) = overriding (kind_view kind) (string_bytes id)
error_view (errors.ParserError p) = parser_error p.start p.end
error_view (errors.ResolverError r) = resolver_error (resolver_error_view r)
