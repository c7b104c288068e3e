-- To merge arguments in the order of their names is to look the currency up, and to merge the rest.
use Rattle.std.proofs.Common.{◌≡◌, ℕ, [], ◌∷◌, Bool, true, false, cond, not, min, Option, Some, None, T, codes, if◌then◌else◌, refl, sym, ap, subst, ◌∙◌}
use Rattle.std.specs.Ordering.{is_eq}
use Rattle.std.specs.Cmp.Lexicographic.{bytes_decides, nat_list_eq_equiv, texts_ties}
use Rattle.std.specs.FinMap.{find, is_sorted}
use Rattle.fluent_ast.specs.Tree.{Text}
use Rattle.fluent_intl.specs.Options.{Options, type_named, style_named, currency_display_named}
use Rattle.fluent_semantics.specs.Number.{as_count, is_text}
use Rattle.fluent_semantics.specs.Value.{Value, text_value, number_value, custom_value, no_value, error_value}
use Rattle.fluent_semantics.specs.Arguments.{Map, merge, merge_one}
use Rattle.fluent_values.specs.Inside.Merging.{currency_by, with_currency, with_one, with_rest}
use Rattle.fluent_values.specs.Facts.Ordered.{bytes_cmp, prefix_of, rest_of, not_below_itself}

-- ---- the chain of tests on a name, with the tests as variables

abbrev texts : Bool → Bool → Bool → Bool → Bool → Text → Options → Options
texts a b c d e t o =
    if a then record o { number_type = type_named t } else (
    if b then record o { style = style_named t } else (
    if c then record o { currency = Some t } else (
    if d then record o { currency_display = currency_display_named t } else (
    if e then record o { use_grouping = not (is_text t (codes "false")) } else o))))

abbrev counts : Bool → Bool → Bool → Bool → Bool → ℕ → Options → Options
counts a b c d e n o =
    if a then record o { minimum_integer_digits = Some n } else (
    if b then record o { minimum_fraction_digits = Some (min n 18) } else (
    if c then record o { maximum_fraction_digits = Some n } else (
    if d then record o { minimum_significant_digits = Some n } else (
    if e then record o { maximum_significant_digits = Some n } else o))))

-- ---- what an argument makes of the rest doesn't depend on the currency

abbrev in_currency : Option Text → Options → Options
in_currency c o = record o { currency = c }

texts_apart : (a b c d e : Bool) (t : Text) (o : Options) (x : Option Text) → in_currency x (texts a b c d e t (in_currency x o)) ≡ in_currency x (texts a b c d e t o)
texts_apart true b c d e t o x = refl
texts_apart false true c d e t o x = refl
texts_apart false false true d e t o x = refl
texts_apart false false false true e t o x = refl
texts_apart false false false false true t o x = refl
texts_apart false false false false false t o x = refl

counts_apart : (a b c d e : Bool) (n : ℕ) (o : Options) (x : Option Text) → in_currency x (counts a b c d e n (in_currency x o)) ≡ in_currency x (counts a b c d e n o)
counts_apart true b c d e n o x = refl
counts_apart false true c d e n o x = refl
counts_apart false false true d e n o x = refl
counts_apart false false false true e n o x = refl
counts_apart false false false false true n o x = refl
counts_apart false false false false false n o x = refl

one_apart : (k : Text) (v : Value Text) (o : Options) (x : Option Text) → with_one k v (in_currency x o) ≡ in_currency x (merge_one k v o)
one_apart k (text_value t) o x = texts_apart (is_text k (codes "type")) (is_text k (codes "style")) (is_text k (codes "currency")) (is_text k (codes "currencyDisplay")) (is_text k (codes "useGrouping")) t o x
one_apart k (number_value n) o x = counts_apart (is_text k (codes "minimumIntegerDigits")) (is_text k (codes "minimumFractionDigits")) (is_text k (codes "maximumFractionDigits")) (is_text k (codes "minimumSignificantDigits")) (is_text k (codes "maximumSignificantDigits")) (as_count n.value) o x
one_apart k (custom_value y) o x = refl
one_apart k no_value o x = refl
one_apart k error_value o x = refl

rest_apart : (m : Map (Value Text)) (o : Options) (x : Option Text) → with_rest m (in_currency x o) ≡ in_currency x (merge m o)
rest_apart [] o x = refl
rest_apart (e ∷ es) o x = ap (with_rest es) (one_apart e.0 e.1 o x) ∙ rest_apart es (merge_one e.0 e.1 o) x

-- ---- the currency is what an argument of its name makes of it

abbrev by_text : Value Text → Option Text → Option Text
by_text v = currency_by (Some v)

same_test : (k name : Text) (b : Bool) → is_eq (bytes_cmp name k) ≡ b → is_text k name ≡ b
same_test k name b h = nat_list_eq_equiv.symm k name ∙ texts_ties name k ∙ h

apart : (k one other : Text) → is_text one other ≡ false → is_text k one ≡ true → is_text k other ≡ false
apart k one other h e = subst (λ x. is_text x other ≡ false) (sym ((bytes_decides k one).0 e)) h

either : {A : Type 0} (c : Bool) (a : A) → a ≡ (if c then a else a)
either true a = refl
either false a = refl

texts_step : (a b c d e : Bool) (t : Text) (o : Options) → (a ≡ true → c ≡ false) → (b ≡ true → c ≡ false) → (texts a b c d e t o).currency ≡ (if c then Some t else o.currency)
texts_step true b c d e t o h0 h1 = ap (λ x. if x then Some t else o.currency) (sym (h0 refl))
texts_step false true c d e t o h0 h1 = ap (λ x. if x then Some t else o.currency) (sym (h1 refl))
texts_step false false true d e t o h0 h1 = refl
texts_step false false false true e t o h0 h1 = refl
texts_step false false false false true t o h0 h1 = refl
texts_step false false false false false t o h0 h1 = refl

counts_keep : (a b c d e : Bool) (n : ℕ) (o : Options) → (counts a b c d e n o).currency ≡ o.currency
counts_keep true b c d e n o = refl
counts_keep false true c d e n o = refl
counts_keep false false true d e n o = refl
counts_keep false false false true e n o = refl
counts_keep false false false false true n o = refl
counts_keep false false false false false n o = refl

step : (k : Text) (v : Value Text) (o : Options) → (merge_one k v o).currency ≡ (if is_text k (codes "currency") then by_text v o.currency else o.currency)
step k (text_value t) o = texts_step (is_text k (codes "type")) (is_text k (codes "style")) (is_text k (codes "currency")) (is_text k (codes "currencyDisplay")) (is_text k (codes "useGrouping")) t o (apart k (codes "type") (codes "currency") refl) (apart k (codes "style") (codes "currency") refl)
step k (number_value n) o = counts_keep _ _ _ _ _ (as_count n.value) o ∙ either _ _
step k (custom_value x) o = either _ _
step k no_value o = either _ _
step k error_value o = either _ _

looked_up : (m : Map (Value Text)) → T (is_sorted bytes_cmp m) → (o : Options) → (merge m o).currency ≡ currency_by (find bytes_cmp (codes "currency") m) o.currency
looked_up [] s o = refl
looked_up (e ∷ es) s o =
    looked_up es (rest_of _ _ s) (merge_one e.0 e.1 o) ∙ by (is_eq (bytes_cmp name e.0)) refl
  where
    name : Text
    name = codes "currency"

    by : (b : Bool) → is_eq (bytes_cmp name e.0) ≡ b → currency_by (find bytes_cmp name es) (merge_one e.0 e.1 o).currency ≡ currency_by (cond b (Some e.1) (find bytes_cmp name es)) o.currency
    by true j =
        let mine = same_test e.0 name true j in
        let none = subst (λ k. find bytes_cmp k es ≡ None) ((bytes_decides e.0 name).0 mine) (not_below_itself e.0 es (prefix_of _ _ s)) in
        ap (λ f. currency_by f (merge_one e.0 e.1 o).currency) none
        ∙ step e.0 e.1 o ∙ ap (λ c. if c then by_text e.1 o.currency else o.currency) mine
    by false j =
        ap (currency_by (find bytes_cmp name es)) (step e.0 e.1 o ∙ ap (λ c. if c then by_text e.1 o.currency else o.currency) (same_test e.0 name false j))

pub merged_in_one_walk : (m : Map (Value Text)) (o : Options) → T (is_sorted bytes_cmp m) → with_rest m (with_currency m o) ≡ merge m o
merged_in_one_walk m o s = rest_apart m o _ ∙ ap (λ x. in_currency x (merge m o)) (sym (looked_up m s o))
