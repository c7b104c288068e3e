-- The languages that serve somebody, by the look-up of RFC 4647, section 3.4. Language ranges and tags are texts, as
-- `zh-Hant-CN`; letters are alike in either case, and so are `-` and `_`.
use Rattle.std.specs.Prelude.{◌≡◌, ℕ, Bool, ◌==◌, ◌&&◌, ◌||◌, ◌-◌, not, List, [], ◌∷◌, ◌++◌, length, drop, slice_index, map, Option, None}
use Rattle.std.specs.List.{filter, filter_map, position_from}
use Rattle.std.specs.Option.{option_or}
use Rattle.std.specs.declared.vec.Vec.{Vec}
use Rattle.std.proofs.Common.{Global}
use Rattle.fluent_text.specs.Parser.{Text}
use Rattle.fluent_intl.specs.LanguageTags.{is_separator, same_tag, shortened}

-- ---- what is tried for a range

-- whether the last subtag is a single letter or digit: one byte, at the start or after a separator
abbrev pub ends_in_single : Text → Bool
ends_in_single tag =
    let n = length tag in
    not (n == 0) && (not (is_separator (slice_index tag (n - 1))) && ((n == 1) || is_separator (slice_index tag (n - 2))))

-- the range, and what is left of it as its last subtag is taken off again and again, but for what ends in a single letter or digit
abbrev pub tried : Text → List Text
tried range = range ∷ filter (λ prefix. not (ends_in_single prefix)) (drop 1 (shortened range))

-- ---- which language serves it

-- the index of the first language with this tag
abbrev pub index_of : List Text → Text → Option ℕ
index_of available tag = position_from (λ t. same_tag t tag) 0 available

-- that of the first of these tags that is there
abbrev pub first_index : List Text → List Text → Option ℕ
first_index available [] = None
first_index available (tag ∷ more) = option_or (index_of available tag) (first_index available more)

abbrev pub lookup : List Text → Text → Option ℕ
lookup available range = first_index available (tried range)

-- ---- which serve a list of ranges

-- each number once, where it stands first
abbrev pub each_once : List ℕ → List ℕ
each_once [] = []
each_once (n ∷ more) = n ∷ filter (λ m. not (m == n)) (each_once more)

-- what serves each range, the one that is wanted most first, and then the default
abbrev pub negotiated : List Text → List Text → Text → List ℕ
negotiated requested available default = each_once (filter_map (lookup available) (requested ++ default ∷ []))

-- the same of what holds the ranges and the tags
abbrev pub served : {R A : Type 0} → (R → Text) → (A → Text) → List R → List A → Text → List ℕ
served range tag requested available default = negotiated (map range requested) (map tag available) default

-- these are the indices of those languages
abbrev pub AreServed : {R A : Type 0} → (R → Text) → (A → Text) → List R → List A → Text → Vec ℕ Global → Type 0
AreServed range tag requested available default indices = indices.items ≡ served range tag requested available default
