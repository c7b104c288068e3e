-- Errors whose copies take no memory, so that it can't fail.
use Rattle.std.specs.Prelude.{⊤}
use Rattle.fluent_bundle_entries.specs.declared.errors.FluentError.{FluentError}
use Rattle.fluent_bundle_entries.specs.declared.errors.FluentError.TheVariants as errors
use Rattle.fluent_bundle_entries.specs.declared.errors.resolver.ResolverError.{ResolverError}
use Rattle.fluent_bundle_entries.specs.declared.errors.resolver.ResolverError.TheVariants as resolving

-- an error of the resolver that names nothing
abbrev pub NamesNothing : ResolverError → Type 0
NamesNothing (resolving.Reference r) = ⊥
NamesNothing (resolving.NoValue id) = ⊥
NamesNothing _ = ⊤

-- an error that has no text
abbrev pub HasNoText : FluentError → Type 0
HasNoText (errors.Overriding kind id) = ⊥
HasNoText (errors.ParserError p) = ⊤
HasNoText (errors.ResolverError r) = NamesNothing r
