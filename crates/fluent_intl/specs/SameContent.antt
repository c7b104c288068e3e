-- The test whether two options have the same content, and that it decides it. The traits' own members cite these; contracts speak of the content.
use Rattle.std.specs.Prelude.{◌≡◌, ℕ, zero, suc, Bool, true, false, ◌&&◌, ◌==◌, nat_eq, is_some, List, Option, None, Some, refl, unwrap_or}
use Rattle.std.specs.Option.{option_eq}
use Rattle.std.specs.Bool.{Decides, beq}
use Rattle.std.specs.Cmp.{IsEquivalence, decided, unsigned_Decides, booleans_Decides}
use Rattle.std.specs.Cmp.Lexicographic.{pointwise}
use Rattle.std.proofs.Common.{ap, sym, ◌∙◌}
use Rattle.std.proofs.lemmas.Slice.Eq.{slice_eq-Decides}
use mathlib.Core.Bool.{true≢false}
use Rattle.fluent_intl.specs.declared.options.FluentNumberType.{FluentNumberType}
use Rattle.fluent_intl.specs.declared.options.FluentNumberType.TheVariants.{Cardinal, Ordinal}
use Rattle.fluent_intl.specs.declared.options.FluentNumberStyle.{FluentNumberStyle}
use Rattle.fluent_intl.specs.declared.options.FluentNumberStyle.TheVariants.{Decimal, Currency, Percent}
use Rattle.fluent_intl.specs.declared.options.FluentNumberCurrencyDisplayStyle.{FluentNumberCurrencyDisplayStyle}
use Rattle.fluent_intl.specs.declared.options.FluentNumberCurrencyDisplayStyle.TheVariants.{Symbol, Code, Name}
use Rattle.fluent_intl.specs.declared.options.FluentNumberOptions.{FluentNumberOptions}
use Rattle.fluent_intl.specs.Options.{Options, options_of}

-- where a variant stands among its enum's
abbrev pub type_place : FluentNumberType → ℕ
type_place Cardinal = 0
type_place Ordinal = 1

abbrev pub style_place : FluentNumberStyle → ℕ
style_place Decimal = 0
style_place Currency = 1
style_place Percent = 2

abbrev pub currency_display_place : FluentNumberCurrencyDisplayStyle → ℕ
currency_display_place Symbol = 0
currency_display_place Code = 1
currency_display_place Name = 2

-- the test whether two contents are the same, field by field
abbrev pub same_kinds : Options → Options → Bool
same_kinds a b =
    (type_place a.number_type == type_place b.number_type)
    && (style_place a.style == style_place b.style)
    && option_eq (pointwise nat_eq) a.currency b.currency
    && (currency_display_place a.currency_display == currency_display_place b.currency_display)
    && beq a.use_grouping b.use_grouping

abbrev pub same_digits : Options → Options → Bool
same_digits a b =
    option_eq nat_eq a.minimum_integer_digits b.minimum_integer_digits
    && option_eq nat_eq a.minimum_fraction_digits b.minimum_fraction_digits
    && option_eq nat_eq a.maximum_fraction_digits b.maximum_fraction_digits
    && option_eq nat_eq a.minimum_significant_digits b.minimum_significant_digits
    && option_eq nat_eq a.maximum_significant_digits b.maximum_significant_digits

abbrev pub same_content : Options → Options → Bool
same_content a b = same_kinds a b && same_digits a b

abbrev pub same_options : FluentNumberOptions → FluentNumberOptions → Bool
same_options a b = same_content (options_of a) (options_of b)

-- a number that tells values apart decides their equality
by_place : {A : Type 0} (place : A → ℕ) (at : ℕ → A) → ((a : A) → at (place a) ≡ a) → (a b : A) → Decides (place a == place b) (a ≡ b)
by_place place at back a b = (
  λ e. sym (back a) ∙ ap at ((unsigned_Decides (place a) (place b)).0 e) ∙ back b,
  λ e. (unsigned_Decides (place a) (place b)).1 (ap place e),
)

-- the test of two tests decides both facts
both : {P Q : Type 0} (a b : Bool) → Decides a P → Decides b Q → Decides (a && b) (P × Q)
both true b p q = (λ e. (p.0 refl, q.0 e), λ h. q.1 h.1)
both false b p q = (λ e. absurd (true≢false (sym e)), λ h. absurd (true≢false (sym (p.1 h.0))))

type_at : ℕ → FluentNumberType
type_at zero = Cardinal
type_at (suc n) = Ordinal

type_back : (a : FluentNumberType) → type_at (type_place a) ≡ a
unfolding type_at
type_back Cardinal = refl
type_back Ordinal = refl

style_at : ℕ → FluentNumberStyle
style_at zero = Decimal
style_at (suc zero) = Currency
style_at (suc (suc n)) = Percent

style_back : (a : FluentNumberStyle) → style_at (style_place a) ≡ a
unfolding style_at
style_back Decimal = refl
style_back Currency = refl
style_back Percent = refl

display_at : ℕ → FluentNumberCurrencyDisplayStyle
display_at zero = Symbol
display_at (suc zero) = Code
display_at (suc (suc n)) = Name

display_back : (a : FluentNumberCurrencyDisplayStyle) → display_at (currency_display_place a) ≡ a
unfolding display_at
display_back Symbol = refl
display_back Code = refl
display_back Name = refl

-- an option, where the test of its values decides
option_decides : {A : Type 0} {E : A → A → Bool} → ((a b : A) → Decides (E a b) (a ≡ b)) → (x y : Option A) → Decides (option_eq E x y) (x ≡ y)
option_decides d None None = (λ e. refl, λ e. refl)
option_decides d None (Some y) = (λ e. absurd (true≢false (sym e)), λ e. absurd (true≢false (sym (ap is_some e))))
option_decides d (Some x) None = (λ e. absurd (true≢false (sym e)), λ e. absurd (true≢false (ap is_some e)))
option_decides d (Some x) (Some y) = (λ e. ap Some ((d x y).0 e), λ e. (d x y).1 (ap (λ o. unwrap_or o x) e))

text_decides : (x y : List ℕ) → Decides (pointwise nat_eq x y) (x ≡ y)
text_decides x y = slice_eq-Decides unsigned_Decides x y (pointwise nat_eq x y) refl

count_decides : (x y : Option ℕ) → Decides (option_eq nat_eq x y) (x ≡ y)
count_decides = option_decides unsigned_Decides

pub same_content_decides : (a b : Options) → Decides (same_content a b) (a ≡ b)
same_content_decides a b =
    let kinds =
    both _ _ (both _ _ (both _ _ (both _ _
    (by_place type_place type_at type_back a.number_type b.number_type)
    (by_place style_place style_at style_back a.style b.style))
    (option_decides text_decides a.currency b.currency))
    (by_place currency_display_place display_at display_back a.currency_display b.currency_display))
    (booleans_Decides a.use_grouping b.use_grouping)
    in
    let digits =
    both _ _ (both _ _ (both _ _ (both _ _
    (count_decides a.minimum_integer_digits b.minimum_integer_digits)
    (count_decides a.minimum_fraction_digits b.minimum_fraction_digits))
    (count_decides a.maximum_fraction_digits b.maximum_fraction_digits))
    (count_decides a.minimum_significant_digits b.minimum_significant_digits))
    (count_decides a.maximum_significant_digits b.maximum_significant_digits)
    in
    let all = both (same_kinds a b) (same_digits a b) kinds digits in (
      λ e. let h = all.0 e in λ i. record {
        number_type = h.0.0.0.0.0 i;
        style = h.0.0.0.0.1 i;
        currency = h.0.0.0.1 i;
        currency_display = h.0.0.1 i;
        use_grouping = h.0.1 i;
        minimum_integer_digits = h.1.0.0.0.0 i;
        minimum_fraction_digits = h.1.0.0.0.1 i;
        maximum_fraction_digits = h.1.0.0.1 i;
        minimum_significant_digits = h.1.0.1 i;
        maximum_significant_digits = h.1.1 i;
      },
      λ e. all.1 (
        (
          (
            (
              (
                ap (λ o. o.number_type) e,
                ap (λ o. o.style) e,
              ),
              ap (λ o. o.currency) e,
            ),
            ap (λ o. o.currency_display) e,
          ),
          ap (λ o. o.use_grouping) e,
        ),
        (
          (
            (
              (
                ap (λ o. o.minimum_integer_digits) e,
                ap (λ o. o.minimum_fraction_digits) e,
              ),
              ap (λ o. o.maximum_fraction_digits) e,
            ),
            ap (λ o. o.minimum_significant_digits) e,
          ),
          ap (λ o. o.maximum_significant_digits) e,
        ),
      ),
    )

pub same_content_equivalence : IsEquivalence same_content
same_content_equivalence = decided same_content same_content_decides
