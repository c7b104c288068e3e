-- Texts with accents.
use Rattle.std.specs.Prelude.{ℕ, ◌==◌, if◌then◌else◌, List, [], ◌∷◌, map, true, Some, chars, encode_utf8_all}
use Rattle.fluent_ast.specs.Tree.{Text, Entry}
use Rattle.fluent_intl.specs.Plurals.{english}
use Rattle.fluent_semantics.specs.Bundle.{Bundle, after_all, empty_bundle, add_resource, set_transform}

-- á, é, í, ó and ú for a, e, i, o and u
abbrev pub accented : ℕ → ℕ
accented c =
    if c == 97 then 225 else (
    if c == 101 then 233 else (
    if c == 105 then 237 else (
    if c == 111 then 243 else (
    if c == 117 then 250 else c))))

abbrev pub accented_text : Text → Text
accented_text t = encode_utf8_all (map accented (chars t))

-- a bundle in English that has these entries, and no custom values, and whose texts have accents
abbrev pub accented_english : List Entry → Bundle Text
accented_english entries = after_all
    (set_transform (Some accented_text) ∷ add_resource entries ∷ [])
    (empty_bundle english record { text = λ t. []; same = λ s t. true })
