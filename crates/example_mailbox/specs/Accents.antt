-- Texts with accents.
use Rattle.std.specs.Prelude.{ℕ, ◌==◌, if◌then◌else◌, map, chars, encode_utf8_all}
use Rattle.fluent_ast.specs.Tree.{Text}

-- á, é, í, ó and ú for a, e, i, o and u
abbrev pub accented : ℕ → ℕ
accented c =
    if c == 97 then 225 else (
    if c == 101 then 233 else (
    if c == 105 then 237 else (
    if c == 111 then 243 else (
    if c == 117 then 250 else c))))

abbrev pub accented_text : Text → Text
accented_text t = encode_utf8_all (map accented (chars t))
