-- Lines and columns, a byte further. No contract cites these facts.
use Rattle.std.proofs.Common.{◌≡◌, ◌⊎◌, inl, inr, ℕ, ◌+◌, ◌==◌, ◌<◌, ◌≤◌, nat_lt, nat_le, rules, Bool, true, false, ◌||◌, List, [], ◌∷◌, ◌++◌, length, get_or, take, if◌then◌else◌, refl, sym, ap, ◌∙◌, subst, arith}
use Rattle.std.proofs.lemmas.List.{take_more}
use Rattle.fluent_places.specs.Columns.{is_feed, begins, one_if, feeds, characters, has_feed, after_last, line_after, column_after}

feeds_on : (xs : List ℕ) (b : ℕ) → feeds (xs ++ b ∷ []) ≡ feeds xs + one_if (is_feed b)
feeds_on [] b = omega arith
feeds_on (x ∷ xs) b = omega (arith, feeds_on xs b)

characters_on : (xs : List ℕ) (b : ℕ) → characters (xs ++ b ∷ []) ≡ characters xs + one_if (begins b)
characters_on [] b = omega arith
characters_on (x ∷ xs) b = omega (arith, characters_on xs b)

or_assoc : (a b c : Bool) → (a || (b || c)) ≡ ((a || b) || c)
or_assoc true b c = refl
or_assoc false b c = refl

or_false : (a : Bool) → (a || false) ≡ a
or_false true = refl
or_false false = refl

has_on : (xs : List ℕ) (b : ℕ) → has_feed (xs ++ b ∷ []) ≡ (has_feed xs || is_feed b)
has_on [] b = or_false (is_feed b)
has_on (x ∷ xs) b = ap (λ z. is_feed x || z) (has_on xs b) ∙ or_assoc (is_feed x) (has_feed xs) (is_feed b)

abbrev on_from : Bool → List ℕ → ℕ → List ℕ
on_from feed rest b = if feed then [] else rest ++ b ∷ []

step : (x : ℕ) (xs : List ℕ) (b : ℕ) (f h m : Bool) → (if h || f then on_from f (after_last xs) b else (if m then xs ++ b ∷ [] else x ∷ (xs ++ b ∷ []))) ≡ on_from f (if h then after_last xs else (if m then xs else x ∷ xs)) b
step x xs b true true m = refl
step x xs b true false m = refl
step x xs b false true m = refl
step x xs b false false true = refl
step x xs b false false false = refl

after_on : (xs : List ℕ) (b : ℕ) → after_last (xs ++ b ∷ []) ≡ on_from (is_feed b) (after_last xs) b
after_on [] b = refl
after_on (x ∷ xs) b =
    ap (λ z. if z then after_last (xs ++ b ∷ []) else (if is_feed x then xs ++ b ∷ [] else x ∷ (xs ++ b ∷ []))) (has_on xs b)
    ∙ (ap (λ z. if has_feed xs || is_feed b then z else (if is_feed x then xs ++ b ∷ [] else x ∷ (xs ++ b ∷ []))) (after_on xs b)
    ∙ step x xs b (is_feed b) (has_feed xs) (is_feed x))

further : (xs : List ℕ) (i b : ℕ) → i < length xs → b ≡ get_or xs i b → take (i + 1) xs ≡ take i xs ++ b ∷ []
further xs i b h is = take_more xs i b h ∙ ap (λ u. take i xs ++ u ∷ []) (sym is)

pub line_on : (xs : List ℕ) (i b line : ℕ) → i < length xs → b ≡ get_or xs i b → line ≡ line_after (take i xs) → line + one_if (is_feed b) ≡ line_after (take (i + 1) xs)
line_on xs i b line h is e = omega (arith, e, ap feeds (further xs i b h is), feeds_on (take i xs) b)

column_as : (ys : List ℕ) (b column : ℕ) (f : Bool) → column ≡ 1 + characters ys → (if f then 1 else column + one_if (begins b)) ≡ 1 + characters (on_from f ys b)
column_as ys b column true e = refl
column_as ys b column false e = omega (arith, e, characters_on ys b)

pub column_on : (xs : List ℕ) (i b column : ℕ) → i < length xs → b ≡ get_or xs i b → column ≡ column_after (take i xs) → (if is_feed b then 1 else column + one_if (begins b)) ≡ column_after (take (i + 1) xs)
column_on xs i b column h is e =
    column_as (after_last (take i xs)) b column (is_feed b) e ∙ ap (λ ys. 1 + characters ys) (sym (ap after_last (further xs i b h is) ∙ after_on (take i xs) b))

-- ---- by what the byte is

not_as : (b : ℕ) (c : Bool) → (b == 10) ≡ c → (b ≡ 10 → ⊥) → c ≡ false
not_as b true e h = absurd (h (search (rules, e)))
not_as b false e h = refl

lt_as : (b n : ℕ) (c : Bool) → nat_lt b n ≡ c → b < n → c ≡ true
lt_as b n true e h = refl
lt_as b n false e h = absurd (let w = h in search (rules, e, w))

le_as : (b n : ℕ) (c : Bool) → nat_le n b ≡ c → n ≤ b → c ≡ true
le_as b n true e h = refl
le_as b n false e h = absurd (let w = h in search (rules, e, w))

or_true : (a : Bool) → (a || true) ≡ true
or_true true = refl
or_true false = refl

begins_low : (b : ℕ) → b < 128 → begins b ≡ true
begins_low b h = ap (λ z. z || nat_le 192 b) (lt_as b 128 (nat_lt b 128) refl h)

begins_high : (b : ℕ) → 192 ≤ b → begins b ≡ true
begins_high b h = ap (λ z. nat_lt b 128 || z) (le_as b 192 (nat_le 192 b) refl h) ∙ or_true (nat_lt b 128)

false_lt : (b n : ℕ) (c : Bool) → nat_lt b n ≡ c → (b < n → ⊥) → c ≡ false
false_lt b n true e h = absurd (h (search (rules, e)))
false_lt b n false e h = refl

false_le : (b n : ℕ) (c : Bool) → nat_le n b ≡ c → (n ≤ b → ⊥) → c ≡ false
false_le b n true e h = absurd (h (search (rules, e)))
false_le b n false e h = refl

pub begins_not : (b : ℕ) → (b < 128 → ⊥) → (192 ≤ b → ⊥) → begins b ≡ false
begins_not b h j = ap (λ z. z || nat_le 192 b) (false_lt b 128 (nat_lt b 128) refl h) ∙ false_le b 192 (nat_le 192 b) refl j

module _ (xs : List ℕ) (i b : ℕ) (h : i < length xs) where
  pub feed_line : (line : ℕ) → line ≡ line_after (take i xs) → b ≡ 10 → b ≡ get_or xs i b → line + 1 ≡ line_after (take (i + 1) xs)
  feed_line line e ten is = subst (λ c. line + one_if (is_feed c) ≡ line_after (take (i + 1) xs)) ten (line_on xs i b line h is e)

  pub feed_column : (column : ℕ) → column ≡ column_after (take i xs) → b ≡ 10 → b ≡ get_or xs i b → 1 ≡ column_after (take (i + 1) xs)
  feed_column column e ten is = subst (λ c. (if is_feed c then 1 else column + one_if (begins c)) ≡ column_after (take (i + 1) xs)) ten (column_on xs i b column h is e)

  pub same_line : (line : ℕ) → line ≡ line_after (take i xs) → (b ≡ 10 → ⊥) → b ≡ get_or xs i b → line ≡ line_after (take (i + 1) xs)
  same_line line e other is = let on : line + one_if false ≡ line_after (take (i + 1) xs) = subst (λ z. line + one_if z ≡ line_after (take (i + 1) xs)) (not_as b (is_feed b) refl other) (line_on xs i b line h is e) in omega (arith, on)

  other_column : (column : ℕ) → column ≡ column_after (take i xs) → (b ≡ 10 → ⊥) → b ≡ get_or xs i b → column + one_if (begins b) ≡ column_after (take (i + 1) xs)
  other_column column e other is = subst (λ z. (if z then 1 else column + one_if (begins b)) ≡ column_after (take (i + 1) xs)) (not_as b (is_feed b) refl other) (column_on xs i b column h is e)

  pub next_column : (column : ℕ) → column ≡ column_after (take i xs) → (b ≡ 10 → ⊥) → (b < 128) ⊎ (192 ≤ b) → b ≡ get_or xs i b → column + 1 ≡ column_after (take (i + 1) xs)
  next_column column e other (inl low) is = subst (λ z. column + one_if z ≡ column_after (take (i + 1) xs)) (begins_low b low) (other_column column e other is)
  next_column column e other (inr high) is = subst (λ z. column + one_if z ≡ column_after (take (i + 1) xs)) (begins_high b high) (other_column column e other is)

  pub same_column : (column : ℕ) → column ≡ column_after (take i xs) → (b ≡ 10 → ⊥) → (b < 128 → ⊥) → (192 ≤ b → ⊥) → b ≡ get_or xs i b → column ≡ column_after (take (i + 1) xs)
  same_column column e other low high is = let on : column + one_if false ≡ column_after (take (i + 1) xs) = subst (λ z. column + one_if z ≡ column_after (take (i + 1) xs)) (begins_not b low high) (other_column column e other is) in omega (arith, on)
