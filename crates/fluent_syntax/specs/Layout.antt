-- The text of a pattern: from the pieces that it takes of the source to its elements
-- (Fluent Syntax 1.0, "Multiline Text", "Common Indent").
use Rattle.std.specs.Prelude.{ℕ, ◌-◌, min, Bool, true, false, ◌&&◌, ◌==◌, List, [], ◌∷◌, ◌++◌, length, take, drop, replicate, Option, Some, None, unwrap_or, refl}
use Rattle.std.specs.Coded.{Coded, code_by, coded×, coded_ℕ, coded_bool, coded_list, coded_option}
use Rattle.std.specs.List.{prefix_len, suffix_len}
use Rattle.std.specs.Str.{bytes_eq}
use Rattle.fluent_ast.specs.Tree.{Text, Expression, Element, text, placeable}

-- text of one line
pub record Words : Type 0 where
  -- the spaces before it, where it stands at the start of a line
  pub indent : Option ℕ
  pub bytes : Text
  -- a line feed follows it directly
  pub fed : Bool

-- What a pattern takes, in order: so many line ends, text of a line, a placeable. A placeable that begins a line stands after empty words with its indent.
pub data Piece : Type 0 where
  line : ℕ → Piece
  words : Words → Piece
  hole : Expression → Piece

-- ---- the common indent: the smallest of all lines but the first

abbrev pub smaller : Option ℕ → Option ℕ → Option ℕ
smaller None b = b
smaller (Some m) None = Some m
smaller (Some m) (Some n) = Some (min m n)

abbrev pub indent_in : Piece → Option ℕ
indent_in (words w) = w.indent
indent_in (hole x) = None
indent_in (line n) = None

abbrev pub smallest_indent : List Piece → Option ℕ
smallest_indent [] = None
smallest_indent (p ∷ ps) = smaller (indent_in p) (smallest_indent ps)

abbrev pub common_indent : List Piece → ℕ
common_indent ps = unwrap_or (smallest_indent ps) 0

-- words with what the common indent leaves of their own
abbrev pub dedented : ℕ → Words → Text
dedented common w = replicate (unwrap_or w.indent 0 - common) 32 ++ w.bytes

-- ---- elements, line by line

abbrev pub feed : Element
feed = text (10 ∷ [])

-- an empty text is no element
abbrev pub unless_empty : Text → List Element
unless_empty [] = []
unless_empty (b ∷ bs) = text (b ∷ bs) ∷ []

abbrev pub starts_line : List Piece → Bool
starts_line (line n ∷ ps) = true
starts_line _ = false

-- a text and the line feed that follows it directly are one element; every other line end is a line feed by itself
abbrev pub joined : Text → Bool → List Element → List Element
joined u true more = text (u ++ 10 ∷ []) ∷ drop 1 more
joined u false more = unless_empty u ++ more

unfoldable pub lines : ℕ → List Piece → List Element
lines common [] = []
lines common (line n ∷ ps) = replicate n feed ++ lines common ps
lines common (hole x ∷ ps) = placeable x ∷ lines common ps
lines common (words w ∷ ps) = joined (dedented common w) (w.fed && starts_line ps) (lines common ps)

-- ---- both ends

abbrev pub is_feed : Element → Bool
is_feed (text u) = bytes_eq u (10 ∷ [])
is_feed (placeable x) = false

-- without the line feeds at the start
abbrev pub trim_start : List Element → List Element
trim_start xs = drop (prefix_len is_feed xs) xs

-- without those at the end that pass
abbrev pub without_last : {A : Type 0} → (A → Bool) → List A → List A
without_last p xs = take (length xs - suffix_len p xs) xs

-- without the spaces at its end
abbrev pub trim_spaces : Text → Text
trim_spaces u = without_last (λ b. b == 32) u

abbrev pub trimmed : Element → List Element
trimmed (text u) = unless_empty (trim_spaces u)
trimmed (placeable x) = placeable x ∷ []

-- where the last element is text, without the spaces at its end
abbrev pub trim_last : List Element → List Element
trim_last [] = []
trim_last (x ∷ []) = trimmed x
trim_last (x ∷ y ∷ zs) = x ∷ trim_last (y ∷ zs)

unfoldable pub elements : List Piece → List Element
elements ps = trim_last (trim_start (lines (common_indent ps) ps))

-- a code type may stand for words
abbrev pub words_code : Coded Words
words_code = code_by (Option ℕ × (List ℕ × Bool)) (coded× (coded_option coded_ℕ) (coded× (coded_list coded_ℕ) coded_bool))
    (λ t. (t.indent, (t.bytes, t.fed))) (λ p. record { indent = p.0; bytes = p.1.0; fed = p.1.1 }) (λ _. refl)
