-- The prefixes of a tag before its separators.
use Rattle.std.proofs.Common.{◌≡◌, ℕ, zero, suc, ◌≤◌, Bool, true, false, List, [], ◌∷◌, ◌++◌, map, length, get_or, take, drop, if◌then◌else◌, refl, arith, ap}
use Rattle.std.proofs.lemmas.List.{get_or-take, length-take-le, take-take}
use Rattle.std.specs.Prelude.{not}
use Rattle.std.specs.List.{filter}
use Rattle.fluent_text.specs.Parser.{Text}
use Rattle.fluent_intl.specs.LanguageTags.{is_separator, shortened}
use Rattle.fluent_langneg.specs.Lookup.{ends_in_single, tried}

-- the prefix before one index, if a separator stands there
abbrev pub prefix_at : Bool → ℕ → Text → List Text
prefix_at true k tag = take k tag ∷ []
prefix_at false k tag = []

-- the prefixes before the separators below an index, the longest first
abbrev pub prefixes : ℕ → Text → List Text
prefixes zero tag = []
prefixes (suc k) tag = prefix_at (is_separator (get_or tag k 0)) k tag ++ prefixes k tag

-- those of a tag with one more byte at the start
abbrev with_byte : ℕ → List Text → List Text
with_byte b fs = map (λ t. b ∷ t) fs ++ (if is_separator b then [] ∷ [] else [])

one_prefix : (s : Bool) → prefix_at s 0 [] ++ [] ≡ (if s then [] ∷ [] else [])
one_prefix true = refl
one_prefix false = refl

before_it : (s : Bool) (b k : ℕ) (more : Text) (fs : List Text) → prefix_at s (suc k) (b ∷ more) ++ with_byte b fs ≡ with_byte b (prefix_at s k more ++ fs)
before_it true b k more fs = refl
before_it false b k more fs = refl

first_byte : (s : Bool) (b : ℕ) (more : Text) → prefix_at s 0 (b ∷ more) ++ [] ≡ (if s then [] ∷ [] else [])
first_byte true b more = refl
first_byte false b more = refl

prefixes-cons : (k b : ℕ) (more : Text) → prefixes (suc k) (b ∷ more) ≡ with_byte b (prefixes k more)
prefixes-cons zero b more = first_byte (is_separator b) b more
prefixes-cons (suc k) b more = rw (prefixes-cons k b more) (before_it (is_separator (get_or more k 0)) b k more (prefixes k more))

-- what is left of a tag, again and again
pub shortened-prefixes : (tag : Text) → shortened tag ≡ tag ∷ prefixes (length tag) tag
shortened-prefixes [] = refl
shortened-prefixes (b ∷ more) = rw (shortened-prefixes more, prefixes-cons (length more) b more) refl

prefix-take : (s : Bool) (j k : ℕ) (tag : Text) → j ≤ k → prefix_at s j (take k tag) ≡ prefix_at s j tag
prefix-take true j k tag below = ap (λ t. t ∷ []) (take-take j k tag below)
prefix-take false j k tag below = refl

-- those of a prefix
prefixes-take : (j k : ℕ) (tag : Text) → j ≤ k → prefixes j (take k tag) ≡ prefixes j tag
prefixes-take zero k tag below = refl
prefixes-take (suc j) k tag below =
    let at : get_or (take k tag) j 0 ≡ get_or tag j 0 = get_or-take k tag j 0 (omega arith) in
    let rest = prefixes-take j k tag (omega arith) in
    rw (at, prefix-take (is_separator (get_or tag j 0)) j k tag (omega arith), rest) refl

-- ---- what is kept of them

abbrev pub kept : List Text → List Text
kept fs = filter (λ prefix. not (ends_in_single prefix)) fs

-- before a separator after which a cut is made stands the range that is tried next
pub next_tried : (tag : Text) (k n : ℕ) → k ≤ length tag → n ≡ suc k → is_separator (get_or tag k 0) ≡ true → ends_in_single (take k tag) ≡ false
    → kept (drop 1 (shortened tag)) ≡ kept (prefixes n tag) → tried tag ≡ tag ∷ tried (take k tag)
next_tried tag k n below next ends long all =
    let len : length (take k tag) ≡ k = length-take-le k tag below in
    let rest : prefixes (length (take k tag)) (take k tag) ≡ prefixes k tag = rw len (prefixes-take k k tag (omega arith)) in
    let here : kept (prefixes (suc k) tag) ≡ take k tag ∷ kept (prefixes k tag) = rw (ends, long) refl in
    rw (all, next, here, shortened-prefixes (take k tag), rest) refl
