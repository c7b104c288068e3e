-- What the two tabs of a line cut.
use Rattle.std.proofs.Common.{◌≡◌, ℕ, ◌<◌, Bool, true, false, List, Some, None, length, get_or, refl, arith}
use Rattle.std.specs.List.{list_any, position_or_len, before_first, after_first}
use Rattle.std.proofs.lemmas.List.{get_or_default}
use Rattle.std.proofs.lemmas.List.Sums.{fails_before_first, passes_at_first}
use Rattle.std.proofs.lemmas.List.Folds.{list_any_none, list_any-from_Any}
use Rattle.fluent_plural_rules.specs.Languages.{is_tab, rules_in}

some_passes : (p : ℕ → Bool) (xs : List ℕ) → position_or_len p xs < length xs → list_any p xs ≡ true
some_passes p xs inside =
    let k = position_or_len p xs in
    list_any-from_Any p xs (k, get_or xs k 0, inside, get_or_default xs k _ 0 inside, passes_at_first p xs 0 inside)

none_passes : (p : ℕ → Bool) (xs : List ℕ) → position_or_len p xs ≡ length xs → list_any p xs ≡ false
none_passes p xs at_end = list_any_none p xs (λ k d below. fails_before_first p xs k d (omega arith))

-- a line with one tab has no rules
pub rules_of_one_tab : (line texts : List ℕ) → texts ≡ after_first is_tab line → position_or_len is_tab texts ≡ length texts → rules_in line ≡ None
rules_of_one_tab line texts cut at_end = let none = rw cut at (none_passes is_tab texts at_end) in rw none refl

-- a line with two tabs has those between them and after them
pub rules_of_two_tabs : (line texts cardinal ordinal : List ℕ) → texts ≡ after_first is_tab line → position_or_len is_tab texts < length texts
    → cardinal ≡ before_first is_tab texts → ordinal ≡ after_first is_tab texts → rules_in line ≡ Some (record { cardinal = cardinal; ordinal = ordinal })
rules_of_two_tabs line texts cardinal ordinal cut inside prefix back =
    let some = rw cut at (some_passes is_tab texts inside) in rw (prefix, back, cut, some) refl
