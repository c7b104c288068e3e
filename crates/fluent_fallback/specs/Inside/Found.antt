-- What a bundle has of what is asked for.
use Rattle.std.specs.Prelude.{ℕ, Option}
use Rattle.std.specs.Option.{option_map}
use Rattle.std.specs.Borrow.{Bor}
use Rattle.fluent_ast.specs.Tree.{Text, Pattern}
use Rattle.fluent_ast.specs.View.{pattern_view}
use Rattle.fluent_ast.specs.declared.ast.Pattern as tree
use Rattle.fluent_semantics.specs.Bundle.{Bundle}
use Rattle.fluent_bundle.specs.declared.bundle.FluentBundle.{FluentBundle}
use Rattle.fluent_fallback.specs.Chain.{bundles_of, index_with, pattern_of}
use Rattle.fluent_fallback.specs.declared.chain.Chain.{Chain}

-- a pattern, if there is one
abbrev pub pattern_seen : Option (Bor tree.Pattern) → Option Pattern
pattern_seen found = option_map (λ p. pattern_view p.now) found

-- the index of the first bundle of a chain that has it, by what a bundle means
abbrev pub index : {M C F G X : Type 0} → (FluentBundle M C F G X → Bundle Text) → Chain M C F G X → Text → Option (Bor Text) → Option ℕ
index of chain id name = index_with (pattern_of of id name) (bundles_of chain)
