-- Equality of contents, type by type.
use Rattle.std.specs.Prelude.{true, List, Option, Some, None, unwrap_or, is_some}
use Rattle.std.proofs.Common.{◌≡◌, refl, sym, ap, ◌∙◌}
use Rattle.std.proofs.Math.Bool.{Bool-discrete}
use Rattle.std.proofs.lemmas.Bool.{false≢true}
use Rattle.std.specs.Cmp.{IsEquivalence}
use mathlib.Core.List.{List-discrete}
use Rattle.fluent_ast.specs.Tree.{Text, Pattern, Element, Expression, Inline, Arguments, Named, Variant, Entry, Attribute-discrete, Element-discrete, Expression-discrete, Inline-discrete, Arguments-discrete, Entry-discrete, is_yes, text_same, key_same, pattern_same}
use Rattle.fluent_ast.specs.References.{Reference, Reference-discrete}

-- ---- of pairs and options

paired : {A B : Type 0} (x y : A × B) → Dec (x.0 ≡ y.0) → Dec (x.1 ≡ y.1) → Dec (x ≡ y)
paired x y (yes p) (yes q) = yes (ap (λ a. (a, x.1)) p ∙ ap (λ b. (y.0, b)) q)
paired x y (yes p) (no h) = no (λ e. h (ap (λ z. z.1) e))
paired x y (no h) d = no (λ e. h (ap (λ z. z.0) e))

pub pair_same : {A B : Type 0} → Discrete A → Discrete B → Discrete (A × B)
pair_same a b x y = paired x y (a x.0 y.0) (b x.1 y.1)

some_same : {A : Type 0} (x y : A) → Dec (x ≡ y) → Dec (Some x ≡ Some y)
some_same x y (yes p) = yes (ap Some p)
some_same x y (no h) = no (λ e. h (ap (λ o. unwrap_or o x) e))

pub option_same : {A : Type 0} → Discrete A → Discrete (Option A)
option_same d None None = yes refl
option_same d None (Some y) = no (λ e. false≢true (ap is_some e))
option_same d (Some x) None = no (λ e. false≢true (sym (ap is_some e)))
option_same d (Some x) (Some y) = some_same x y (d x y)

-- ---- of the tree

pub element_same : Discrete Element
element_same = Element-discrete text_same key_same Bool-discrete (Attribute-discrete text_same)

pub expression_same : Discrete Expression
expression_same = Expression-discrete text_same key_same Bool-discrete (Attribute-discrete text_same)

pub inline_same : Discrete Inline
inline_same = Inline-discrete text_same key_same Bool-discrete (Attribute-discrete text_same)

pub arguments_same : Discrete Arguments
arguments_same = Arguments-discrete text_same key_same Bool-discrete (Attribute-discrete text_same)

pub named_same : Discrete Named
named_same = pair_same text_same inline_same

tripled : {A B C : Type 0} (x y : A × B × C) → Dec (x.0 ≡ y.0) → Dec (x.1 ≡ y.1) → Dec (x.2 ≡ y.2) → Dec (x ≡ y)
tripled x y (yes p) (yes q) (yes r) = yes (ap (λ a. (a, x.1, x.2)) p ∙ (ap (λ b. (y.0, b, x.2)) q ∙ ap (λ c. (y.0, y.1, c)) r))
tripled x y (yes p) (yes q) (no h) = no (λ e. h (ap (λ z. z.2) e))
tripled x y (yes p) (no h) d = no (λ e. h (ap (λ z. z.1) e))
tripled x y (no h) c d = no (λ e. h (ap (λ z. z.0) e))

pub variant_same : Discrete Variant
variant_same x y = tripled x y (key_same x.0 y.0) (pattern_same x.1 y.1) (Bool-discrete x.2 y.2)

pub attribute_same : Discrete (Text × Pattern)
attribute_same = pair_same text_same pattern_same

pub entry_same : Discrete Entry
entry_same = Entry-discrete text_same (option_same pattern_same) (List-discrete attribute_same) pattern_same

pub entries_same : Discrete (List Entry)
entries_same = List-discrete entry_same

-- two references mean the same, by kind and id, or not
pub reference_same : Discrete Reference
reference_same = Reference-discrete text_same

-- ---- equality of contents is an equivalence

holds : {P : Type 0} (d : Dec P) → is_yes d ≡ true → P
holds (yes p) h = p
holds (no other) h = absurd (false≢true h)

shows : {P : Type 0} (d : Dec P) → P → is_yes d ≡ true
shows (yes p) h = refl
shows (no other) h = absurd (other h)

alike : {P Q : Type 0} (p : Dec P) (q : Dec Q) → (P → Q) → (Q → P) → is_yes p ≡ is_yes q
alike (yes p) (yes q) f g = refl
alike (yes p) (no other) f g = absurd (other (f p))
alike (no other) (yes q) f g = absurd (other (g q))
alike (no other) (no more) f g = refl

pub equivalent : {A B : Type 0} (view : A → B) (d : Discrete B) → IsEquivalence (λ a b. is_yes (d (view a) (view b)))
equivalent view d = record {
  refl = λ x. shows (d (view x) (view x)) refl;
  symm = λ x y. alike (d (view x) (view y)) (d (view y) (view x)) (λ h. sym h) (λ h. sym h);
  congr = λ x y z h. let e = holds (d (view x) (view y)) h in alike (d (view x) (view z)) (d (view y) (view z)) (λ k. sym e ∙ k) (λ k. e ∙ k);
}
