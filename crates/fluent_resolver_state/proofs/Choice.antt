-- Values that no key is like.
use Rattle.std.proofs.Common.{◌≡◌, Option, refl, sym, Bool, false, ◌⊎◌, ⊎_elim}
use Rattle.fluent_ast.specs.Tree.{Text, Key, Pattern, Variants, no_variants, variant}
use Rattle.fluent_semantics.specs.Bundle.{Bundle, goes_to, key_value}
use Rattle.fluent_semantics.specs.Value.{Value, text_value, number_value, custom_value, no_value, error_value, Plurals, matches}
use Rattle.fluent_resolver_state.specs.Choice.{choice}
use Rattle.fluent_values.specs.View.{value_view}
use Rattle.fluent_values.specs.declared.types.value.FluentValue.{FluentValue}
use Rattle.fluent_values.specs.declared.types.value.FluentValue.TheVariants as values

none_chosen : (f : Key → Bool) (o : Option Pattern) (vs : Variants) → ((k : Key) → f k ≡ false) → choice f o vs ≡ o
none_chosen f o no_variants h = refl
none_chosen f o (variant k p d vs) h = rw (h k) (none_chosen f o vs h)

custom_unlike : (plurals : Plurals) (x : Text) (v : Value Text) → matches plurals v (custom_value x) ≡ false
custom_unlike plurals x (text_value s) = refl
custom_unlike plurals x (number_value m) = refl
custom_unlike plurals x (custom_value y) = refl
custom_unlike plurals x no_value = refl
custom_unlike plurals x error_value = refl

nothing_unlike : (plurals : Plurals) (v : Value Text) → matches plurals v no_value ≡ false
nothing_unlike plurals (text_value s) = refl
nothing_unlike plurals (number_value m) = refl
nothing_unlike plurals (custom_value y) = refl
nothing_unlike plurals no_value = refl
nothing_unlike plurals error_value = refl

error_unlike : (plurals : Plurals) (v : Value Text) → matches plurals v error_value ≡ false
error_unlike plurals (text_value s) = refl
error_unlike plurals (number_value m) = refl
error_unlike plurals (custom_value y) = refl
error_unlike plurals no_value = refl
error_unlike plurals error_value = refl

custom_chooses : (b : Bundle Text) (x : Text) (o : Option Pattern) (vs : Variants) → choice (goes_to b (custom_value x)) o vs ≡ o
custom_chooses b x o vs = none_chosen (goes_to b (custom_value x)) o vs (λ k. custom_unlike b.plurals x (key_value k))

nothing_chooses : (b : Bundle Text) (o : Option Pattern) (vs : Variants) → choice (goes_to b no_value) o vs ≡ o
nothing_chooses b o vs = none_chosen (goes_to b no_value) o vs (λ k. nothing_unlike b.plurals (key_value k))

pub error_chooses : (b : Bundle Text) (o : Option Pattern) (vs : Variants) → choice (goes_to b error_value) o vs ≡ o
error_chooses b o vs = none_chosen (goes_to b error_value) o vs (λ k. error_unlike b.plurals (key_value k))

-- a value of the application's own, or none at all, chooses nothing
pub nothing_like : {C : Type 0} (content : C → Text) (b : Bundle Text) (v : FluentValue C) (o : Option Pattern) (vs : Variants) → ((x : C) × v ≡ values.Custom x) ⊎ ((v ≡ values.None) ⊎ (v ≡ values.Error)) → o ≡ choice (goes_to b (value_view content v)) o vs
nothing_like content b v o vs h = ⊎_elim
    (λ k. rw k.1 (sym (custom_chooses b (content k.0) o vs)))
    (λ h'. ⊎_elim (λ k. rw k (sym (nothing_chooses b o vs))) (λ k. rw k (sym (error_chooses b o vs))) h')
    h
