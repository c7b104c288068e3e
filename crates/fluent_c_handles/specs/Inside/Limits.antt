-- Whether a bundle's limit was set.
use Rattle.std.specs.Prelude.{◌≡◌, ℕ, Bool, true, false}
use Rattle.fluent_ast.specs.Tree.{Text}
use Rattle.fluent_semantics.specs.Bundle.{Bundle}
use Rattle.fluent_c_handles.specs.Calls.Opening.{IsLimit, with_limit}

-- and what stands then
abbrev pub Limits : Bundle Text → ℕ → Bundle Text → Bool → Type 0
Limits bundle n new true = (new ≡ with_limit n bundle) × IsLimit n
Limits bundle n new false = (new ≡ bundle) × ¬ (IsLimit n)
