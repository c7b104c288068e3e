-- The rows of the Unicode CLDR, and the order that they are in.
use Rattle.std.specs.Prelude.{ℕ, Bool, true, ◌&&◌, ◌==◌, nat_lt, List, [], ◌∷◌, map, Option, Some, None, slice_index, slice_get}
use Rattle.std.specs.List.{list_all}
use Rattle.std.specs.Borrow.{Bor}
use Rattle.std.specs.Int.{from_be_bytes, w64}
use Rattle.fluent_text.specs.Parser.{Text}
use Rattle.fluent_intl.specs.LanguageTags.{folded, same_tag}
use Rattle.fluent_plural_rules.specs.declared.cldr.Known.{Known}
use Rattle.fluent_plural_rules.specs.declared.cldr.KnownRules.{KnownRules}
use Rattle.fluent_plural_rules.specs.Inside.Known.{AreOf}
use Rattle.fluent_plural_rules.specs.declared.rows.TheConstants.{ROWS, TEXTS}
use Rattle.fluent_plural_rules.specs.Languages.{Texts}

abbrev pub CodeText : Type 0
CodeText = Bor (List ℕ) × ℕ × ℕ

abbrev pub CodeRow : Type 0
CodeRow = ℕ × Bor (List ℕ) × ℕ × ℕ

-- the key of a tag, the tag, and where the texts of its cardinal and its ordinal rules stand
abbrev pub Row : Type 0
Row = ℕ × Text × ℕ × ℕ

abbrev pub row_view : CodeRow → Row
row_view r = (r.0, r.1.now, r.2, r.3)

-- a text of rules, and from where to where the rules stand that are read from it
abbrev pub ReadText : Type 0
ReadText = Text × ℕ × ℕ

abbrev pub text_view : CodeText → ReadText
text_view t = (t.0.now, t.1, t.2)

-- These are opaque, so that a proof above needn't go through them.
unfoldable pub rows : List Row
rows = map (λ r. (r.0, r.1.now, r.2, r.3)) ROWS

unfoldable pub read_texts : List ReadText
read_texts = map (λ t. (t.0.now, t.1, t.2)) TEXTS

abbrev pub texts : List Text
texts = map (λ t. t.0) read_texts

-- the rules of a text are what is read from it
abbrev pub IsRead : Known → Type 0
IsRead k = AreOf k.rules k.text.now

abbrev pub AreRead : KnownRules → Type 0
AreRead rules = IsRead rules.cardinal × IsRead rules.ordinal

-- rules as texts
abbrev pub known_content : KnownRules → Texts
known_content rules = record { cardinal = rules.cardinal.text.now; ordinal = rules.ordinal.text.now }

-- the rules of a row, where its texts are there
abbrev pub texts_of : Option Text → Option Text → Option Texts
texts_of (Some c) (Some o) = Some (record { cardinal = c; ordinal = o })
texts_of (Some c) None = None
texts_of None o = None

abbrev pub content_of : Row → Option Texts
content_of row = texts_of (slice_get texts row.2) (slice_get texts row.3)

-- ---- their order

-- a row with this tag
abbrev pub is_row_of : Text → Row → Bool
is_row_of tag row = same_tag row.1 tag

-- a byte of a tag as it is compared, which is 0 after its end
abbrev pub byte_at : ℕ → Text → ℕ
byte_at at tag = folded (slice_index tag at)

-- the first eight bytes of a tag as a number
abbrev pub key : Text → ℕ
key tag = from_be_bytes w64 (byte_at 0 tag ∷ byte_at 1 tag ∷ byte_at 2 tag ∷ byte_at 3 tag ∷ byte_at 4 tag ∷ byte_at 5 tag ∷ byte_at 6 tag ∷ byte_at 7 tag ∷ [])

-- a row has the key of its tag
abbrev pub is_keyed : Row → Bool
is_keyed row = row.0 == key row.1

-- the keys are above this one, and rise
abbrev pub rise_above : ℕ → List Row → Bool
rise_above bound [] = true
rise_above bound (r ∷ rs) = nat_lt bound r.0 && rise_above r.0 rs

abbrev pub rise : List Row → Bool
rise [] = true
rise (r ∷ rs) = rise_above r.0 rs

-- rows in order
abbrev pub are_in_order : List Row → Bool
are_in_order rs = list_all is_keyed rs && rise rs
