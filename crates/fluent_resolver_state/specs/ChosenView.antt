-- A variant that was chosen, by content, and where its pattern begins.
use Rattle.std.specs.Prelude.{ℕ, Bool, List, Option, IfSome}
use Rattle.std.specs.Borrow.{Bor}
use Rattle.std.specs.Option.{option_map}
use Rattle.fluent_ast.specs.References.{in_variants, references, variants_view}
use Rattle.fluent_ast.specs.Tree.{Key, Pattern, Text}
use Rattle.fluent_ast.specs.View.{pattern_view}
use Rattle.fluent_ast.specs.declared.ast.Variant.{Variant}
use Rattle.fluent_intl.specs.Number.{number_of}
use Rattle.fluent_intl.specs.declared.number.FluentNumber.{FluentNumber}
use Rattle.fluent_semantics.specs.Bundle.{key_value}
use Rattle.fluent_semantics.specs.Value.{Value}
use Rattle.fluent_references.specs.Links.{IsBefore}
use Rattle.fluent_references.specs.Cursors.{seen}
use Rattle.fluent_references.specs.declared.cursor.Cursor.{Cursor}
use Rattle.fluent_resolver_state.specs.Choice.{choice, first_default, is_like}
use Rattle.fluent_resolver_state.specs.declared.variants.Chosen.{Chosen}

abbrev pub chosen_view : Option Chosen → Option Pattern
chosen_view o = option_map (λ c. pattern_view c.pattern.now) o

-- the first variant with such a key, else the first default
abbrev pub chosen : (Key → Bool) → List Variant → Option Pattern
chosen goes vs = choice goes (first_default (variants_view vs)) (variants_view vs)

-- whether a key, or its value, is a word, or a number like that one
abbrev pub is_like_value : Text → Option (Bor FluentNumber) → Value Text → Bool
is_like_value word n value = is_like word (option_map (λ n. number_of n.now) n) value

abbrev pub has_key : Text → Option (Bor FluentNumber) → Key → Bool
has_key word n key = is_like_value word n (key_value key)

-- its cursor stands before what its pattern refers to
abbrev pub BeginsAt : (Text → Option ℕ) → Option Chosen → Type 0
BeginsAt number o = IfSome o (λ c. IsBefore number (references (pattern_view c.pattern.now)) (seen c.cursor))

-- the same where a cursor stood before these variants
abbrev pub BeginsIn : List Variant → Cursor → Option Chosen → Type 0
BeginsIn vs cursor o = (number : Text → Option ℕ) → IsBefore number (in_variants (variants_view vs)) (seen cursor) → BeginsAt number o
