-- Language tags: when two are the same, and those that are left as the last subtag is dropped.
use Rattle.std.specs.Prelude.{ℕ, Bool, ◌==◌, ◌&&◌, if◌then◌else◌, List, [], ◌∷◌, ◌++◌, map, length}
use Rattle.std.specs.List.{list_all, zip}
use Rattle.std.specs.Char.{to_ascii_lowercase}

-- a byte of a tag as it is compared: in lower case, and `_` as `-`
abbrev pub folded : ℕ → ℕ
folded b = if b == 95 then 45 else to_ascii_lowercase b

abbrev pub is_separator : ℕ → Bool
is_separator b = folded b == 45

abbrev pub alike : ℕ × ℕ → Bool
alike p = folded p.0 == folded p.1

abbrev pub same_tag : List ℕ → List ℕ → Bool
same_tag a b = (length a == length b) && list_all alike (zip a b)

-- a tag, the tag without its last subtag, and so on down to its first subtag
abbrev pub shortened : List ℕ → List (List ℕ)
shortened [] = [] ∷ []
shortened (b ∷ more) = map (λ t. b ∷ t) (shortened more) ++ (if is_separator b then [] ∷ [] else [])
