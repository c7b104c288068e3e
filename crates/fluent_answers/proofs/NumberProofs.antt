-- Options are read, and written, one after the other.
use Rattle.std.proofs.Common.{◌≡◌, ◌∙◌, ◌≤◌, ◌+◌, ◌==◌, ◌++◌, ℕ, zero, suc, Bool, true, false, List, [], ◌∷◌, Option, length, refl, sym, ap, subst, append_assoc, arith}
use Rattle.std.specs.Prelude.{codes, if◌then◌else◌}
use Rattle.std.specs.List.{position_or_len}
use Rattle.std.proofs.lemmas.List.{length-drop}
use Rattle.std.proofs.lemmas.Grind.{common_steps}
use Rattle.fluent_ast.specs.Tree.{Text}
use Rattle.fluent_semantics.specs.Arguments.{Map, set, set_all}
use Rattle.fluent_semantics.specs.Number.{is_text}
use Rattle.fluent_semantics.specs.Value.{Value, text_value, try_number}
use Rattle.fluent_intl.specs.Options as content
use Rattle.fluent_answers.specs.Numbers.{after, before, display_word, grouping_word, is_mark, option_text, options_within, style_word, words_text}

abbrev Options : Type 0
Options = List (Text × Value Text)

-- the currency is the last
pub currency_last : (n : ℕ) (t : Text) (m : Map (Value Text)) → (t ≡ [] → ⊥) → length t ≤ n → is_text (before 61 t) (codes "currency") ≡ true
    → set_all (options_within n t) m ≡ set (before 61 t) (text_value (after 61 t)) m
currency_last zero [] m some le is = absurd (some refl)
currency_last zero (c ∷ t) m some le is = absurd (omega (arith, le))
currency_last (suc n) [] m some le is = absurd (some refl)
currency_last (suc n) (c ∷ t) m some le is =
    let all = c ∷ t in let rest : Options = (before 61 (before 59 all), try_number (after 61 (before 59 all))) ∷ options_within n (after 59 all) in
    ap (λ b. set_all (if b then (before 61 all, text_value (after 61 all)) ∷ [] else rest) m) is

-- any other option is followed by the rest
pub option_then : (n : ℕ) (t : Text) (m : Map (Value Text)) → (t ≡ [] → ⊥) → length t ≤ n → is_text (before 61 t) (codes "currency") ≡ false
    → (k : ℕ) × (length (after 59 t) ≤ k) × (set_all (options_within n t) m ≡ set_all (options_within k (after 59 t)) (set (before 61 (before 59 t)) (try_number (after 61 (before 59 t))) m))
option_then zero [] m some le is = absurd (some refl)
option_then zero (c ∷ t) m some le is = absurd (omega (arith, le))
option_then (suc n) [] m some le is = absurd (some refl)
option_then (suc n) (c ∷ t) m some le is =
    let all = c ∷ t in let rest : Options = (before 61 (before 59 all), try_number (after 61 (before 59 all))) ∷ options_within n (after 59 all) in
    (n, omega (arith, le, length-drop (position_or_len (is_mark 59) all + 1) all), ap (λ b. set_all (if b then (before 61 all, text_value (after 61 all)) ∷ [] else rest) m) is)

module _ (goal : Map (Value Text)) where
  abbrev pub Left : Text → Map (Value Text) → Type 0
  Left t m = (n : ℕ) × (length t ≤ n) × (set_all (options_within n t) m ≡ goal)

  -- a turn of the loop, by the parts that the code takes
  pub turn : (t option rest name value : Text) (v : Value Text) (m m' : Map (Value Text)) → Left t m → (t ≡ [] → ⊥) → is_text (before 61 t) (codes "currency") ≡ false
      → option ≡ before 59 t → rest ≡ after 59 t → name ≡ before 61 option → value ≡ after 61 option → v ≡ try_number value → m' ≡ set name v m → Left rest m'
  turn t option rest name value v m m' left some other is_option is_rest is_name is_value is_v is_m =
      let next = option_then left.0 t m some left.1 other in
      let names : name ≡ before 61 (before 59 t) = is_name ∙ ap (before 61) is_option in
      let values : v ≡ try_number (after 61 (before 59 t)) = is_v ∙ ap (λ s. try_number s) (is_value ∙ ap (after 61) is_option) in
      let same : m' ≡ set (before 61 (before 59 t)) (try_number (after 61 (before 59 t))) m = is_m ∙ ap (λ s. set s v m) names ∙ ap (λ w. set (before 61 (before 59 t)) w m) values in (
        next.0,
        subst (λ s. length s ≤ next.0) (sym is_rest) next.1,
        ap (λ s. set_all (options_within next.0 s) m') is_rest ∙ ap (set_all (options_within next.0 (after 59 t))) same ∙ sym next.2 ∙ left.2,
      )

pub not_empty : (t : Text) (b : Bool) → b ≡ (length t == 0) → b ≡ false → t ≡ [] → ⊥
not_empty [] b is unset none = absurd (grind (arith, common_steps))
not_empty (c ∷ t) b is unset none = cc

-- the words of a number's options, written one after the other
pub words_are : (old one two three : Text) (s d g : Option Text) (o : content.Options) → one ≡ old ++ option_text (codes "style") s → two ≡ one ++ option_text (codes "currencyDisplay") d
    → three ≡ two ++ option_text (codes "useGrouping") g → s ≡ style_word o.style → d ≡ display_word o.currency_display → g ≡ grouping_word o.use_grouping → three ≡ old ++ words_text o
words_are old one two three s d g o is_one is_two is_three is_s is_d is_g =
    let style = option_text (codes "style") in let display = option_text (codes "currencyDisplay") in let grouping = option_text (codes "useGrouping") in
    is_three ∙ ap (λ m. m ++ grouping g) (is_two ∙ ap (λ m. m ++ display d) is_one)
    ∙ ap (λ m. m ++ grouping g) (append_assoc old (style s) (display d)) ∙ append_assoc old (style s ++ display d) (grouping g)
    ∙ ap (λ w. old ++ ((style w ++ display d) ++ grouping g)) is_s
    ∙ ap (λ w. old ++ ((style (style_word o.style) ++ display w) ++ grouping g)) is_d
    ∙ ap (λ w. old ++ ((style (style_word o.style) ++ display (display_word o.currency_display)) ++ grouping w)) is_g
