-- A rule is its parts, one after the other.
use Rattle.std.proofs.Common.{◌≡◌, ℕ, Bool, List, Some, None, length, refl, ◌∙◌, inl, inr, arith}
use Rattle.std.proofs.lemmas.Bool.{cases_lt}
use Rattle.fluent_ast.specs.Tree.{Text, Pattern}
use Rattle.fluent_text.specs.Parser.{Read, Parser, and_then, many_from, push}
use Rattle.fluent_text.specs.Facts.Turns.{none, done}
use Rattle.fluent_syntax.specs.Expressions.{Level, variant_key, variant_head, variant}
use Rattle.fluent_syntax.specs.Entries.{attribute}
use Rattle.fluent_syntax.specs.Inside.Parts.{attribute_dot, named_attribute, key_opened, opened_variant}

assoc : {A B C : Type 0} (r : Read A) (f : A → Parser B) (g : B → Parser C) → and_then (and_then r f) g ≡ and_then r (λ a t. and_then (f a t) g)
assoc None f g = refl
assoc (Some p) f g = refl

pub attribute_parts : (s : List ℕ) → attribute s ≡ and_then (attribute_dot s) (λ _. named_attribute)
unfolding attribute
attribute_parts s = simp assoc

no_attribute : (s : List ℕ) → attribute_dot s ≡ None → attribute s ≡ None
no_attribute s e = attribute_parts s ∙ rw e refl

-- where no attribute is opened, there are none
pub no_attributes : (found : List (Text × Pattern)) (s : List ℕ) → attribute_dot s ≡ None → many_from push attribute (length s) found s ≡ Some (found, s)
no_attributes found s e =
    elim (cases_lt 0 (length s)) [
      | inl some ↦ none push attribute (length s) found s some (no_attribute s e)
      | inr nothing ↦ done push attribute (length s) found s (omega arith)
    ]

pub variant_parts : (g : Level) (default : Bool) (s : List ℕ) → variant g default s ≡ and_then (key_opened default s) (λ _ t. opened_variant g default t)
unfolding variant variant_head variant_key
variant_parts g default s = simp assoc
