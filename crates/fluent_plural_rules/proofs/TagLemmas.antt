-- How a tag is shortened, and which rules are the first.
use Rattle.std.proofs.Common.{◌≡◌, ℕ, zero, suc, ◌<◌, List, [], ◌∷◌, ◌++◌, map, Some, true, length, get_or, take, drop, if◌then◌else◌, refl, arith}
use Rattle.fluent_intl.specs.LanguageTags.{is_separator, shortened}
use Rattle.fluent_plural_rules.specs.Languages.{Texts, rules_at, first_rules}

-- after the last separator stands one subtag, so before it stands the tag without that
pub shortened_before : (tag : List ℕ) (k : ℕ) → k < length tag → is_separator (get_or tag k 0) ≡ true
    → shortened (drop (suc k) tag) ≡ drop (suc k) tag ∷ [] → shortened tag ≡ tag ∷ shortened (take k tag)
shortened_before [] k below ends one = absurd (omega arith)
shortened_before (b ∷ more) zero below ends one = rw (one, ends) refl
shortened_before (b ∷ more) (suc k) below ends one = rw (shortened_before more k (omega arith) ends one) refl

-- a tag comes first of all
pub begins : (tag : List ℕ) → (more : List (List ℕ)) × (shortened tag ≡ tag ∷ more)
begins [] = ([], refl)
begins (b ∷ rest) = let (more, is) = begins rest in (map (λ t. b ∷ t) more ++ (if is_separator b then [] ∷ [] else []), rw is refl)

-- rules of its own come first
pub own_first : (table tag : List ℕ) (rules : Texts) → rules_at table tag ≡ Some rules → first_rules table (shortened tag) ≡ Some rules
own_first table tag rules found = let (more, is) = begins tag in rw (is, found) refl
