-- The rows have what the lines of the table have.
use Rattle.std.proofs.Common.{◌≡◌, ℕ, Bool, true, false, not, ◌&&◌, ◌==◌, List, [], ◌∷◌, Option, Some, None, unwrap_or, Ok, Err, find, slice_get, slice_index, map, length, get_or, ◌<◌, ◌≤◌, refl, sym, ap, ◌∙◌, inl, inr}
use Rattle.std.specs.List.{before_first, filter}
use Rattle.std.specs.Option.{option_map, option_and_then}
use Rattle.std.specs.Str.{bytes_eq}
use Rattle.std.specs.Str.Lines.{lines}
use Rattle.std.proofs.lemmas.Bool.{false≢true, cases_Bool, and_parts}
use Rattle.std.proofs.lemmas.Option.{slice_get-map, slice_get_past, slice_get_read}
use Rattle.std.proofs.lemmas.Slice.Eq.{bytes_eq-Decides}
use Rattle.fluent_text.specs.Parser as p
use Rattle.fluent_text.specs.Parser.{Text}
use Rattle.fluent_intl.specs.LanguageTags.{same_tag}
use Rattle.fluent_plural_rules.specs.LanguageTable.{cldr_plurals}
use Rattle.fluent_plural_rules.specs.Languages.{Texts, is_tab, is_line_of, rules_in, rules_at}
use Rattle.fluent_plural_rules.specs.Inside.Rows.{CodeText, Row, rows, read_texts, text_view, texts, content_of, is_row_of}
use Rattle.fluent_plural_rules.specs.Inside.Known.{AreOf, rules, groups, relations, ranges, rules_view}
use Rattle.fluent_plural_rules.specs.RuleGrammar as g

abbrev is_comment : Text → Bool
is_comment line = slice_index line 0 == 35

abbrev is_same : Option Texts → Option Texts → Bool
is_same (Some a) (Some b) = bytes_eq a.cardinal b.cardinal && bytes_eq a.ordinal b.ordinal
is_same (Some a) None = false
is_same None b = false

-- a line has the tag of the row, and its rules
abbrev is_row : Text → Row → Bool
is_row line row = bytes_eq (before_first is_tab line) row.1 && is_same (rules_in line) (content_of row)

abbrev are_rows : List Text → List Row → Bool
are_rows [] [] = true
are_rows [] (r ∷ rs) = false
are_rows (l ∷ ls) [] = false
are_rows (l ∷ ls) (r ∷ rs) = is_row l r && are_rows ls rs

abbrev no_comments : List Text → List Text
no_comments ls = filter (λ l. not (is_comment l)) ls

same_texts : (a b : Option Texts) → is_same a b ≡ true → a ≡ b
same_texts None b e = absurd (false≢true e)
same_texts (Some a) None e = absurd (false≢true e)
same_texts (Some a) (Some b) e =
    let parts = and_parts (bytes_eq a.cardinal b.cardinal) (bytes_eq a.ordinal b.ordinal) e in
    rw ((bytes_eq-Decides a.cardinal b.cardinal).0 parts.0, (bytes_eq-Decides a.ordinal b.ordinal).0 parts.1) refl

-- a comment is no line of a tag
find_among : (tag : Text) (ls : List Text) → find (is_line_of tag) ls ≡ find (λ l. same_tag (before_first is_tab l) tag) (no_comments ls)
find_among tag [] = refl
find_among tag (l ∷ ls) =
    elim (cases_Bool (is_comment l)) [
      | inl comment ↦ rw comment (find_among tag ls)
      | inr line ↦ rw (line, find_among tag ls) refl
    ]

-- the line of a tag and its row have the same rules
at_row : (tag : Text) (ls : List Text) (rs : List Row) → are_rows ls rs ≡ true
    → option_and_then rules_in (find (λ l. same_tag (before_first is_tab l) tag) ls) ≡ option_and_then content_of (find (is_row_of tag) rs)
at_row tag [] [] e = refl
at_row tag [] (r ∷ rs) e = absurd (false≢true e)
at_row tag (l ∷ ls) [] e = absurd (false≢true e)
at_row tag (l ∷ ls) (r ∷ rs) e =
    let parts = and_parts (is_row l r) (are_rows ls rs) e in
    let is = and_parts (bytes_eq (before_first is_tab l) r.1) (is_same (rules_in l) (content_of r)) parts.0 in
    let tags : before_first is_tab l ≡ r.1 = (bytes_eq-Decides (before_first is_tab l) r.1).0 is.0 in
    let rules : rules_in l ≡ content_of r = same_texts (rules_in l) (content_of r) is.1 in
    elim (cases_Bool (same_tag r.1 tag)) [
      | inl same ↦ rw (tags, same) rules
      | inr differs ↦ rw (tags, differs) (at_row tag ls rs parts.1)
    ]

the_rows : are_rows (no_comments (lines cldr_plurals)) rows ≡ true
unfolding cldr_plurals rows read_texts
the_rows = refl

-- the rules of a tag in the table are those of its row
pub rules_at_row : (tag : Text) → rules_at cldr_plurals tag ≡ option_and_then content_of (find (is_row_of tag) rows)
rules_at_row tag = ap (option_and_then rules_in) (find_among tag (lines cldr_plurals)) ∙ at_row tag (no_comments (lines cldr_plurals)) rows the_rows

-- ---- the texts behind a row

pub text_past : (ts : List CodeText) (i : ℕ) → map text_view ts ≡ read_texts → length ts ≤ i → slice_get texts i ≡ None
text_past ts i are past =
    slice_get-map (λ t. t.0) read_texts i ∙ ap (λ xs. option_map (λ t. t.0) (slice_get xs i)) (sym are) ∙ ap (option_map (λ t. t.0)) (slice_get-map text_view ts i ∙ ap (option_map text_view) (slice_get_past ts i past))

-- what stands at a place
there : (ts : List CodeText) (i : ℕ) (t : CodeText) → map text_view ts ≡ read_texts → i < length ts → t ≡ get_or ts i t → slice_get read_texts i ≡ Some (text_view t)
there ts i t are inside is = ap (λ xs. slice_get xs i) (sym are) ∙ slice_get-map text_view ts i ∙ ap (option_map text_view) (slice_get_read ts (length ts) i t refl inside is)

pub text_read : (ts : List CodeText) (i : ℕ) (t : CodeText) → map text_view ts ≡ read_texts → i < length ts → t ≡ get_or ts i t → slice_get texts i ≡ Some t.0.now
text_read ts i t are inside is = slice_get-map (λ t. t.0) read_texts i ∙ ap (option_map (λ t. t.0)) (there ts i t are inside is)

-- all texts are read
the_rules : map (λ t. g.rules t.0) read_texts ≡ map (λ t. Ok (rules_view (t.1, t.2))) read_texts
unfolding read_texts rules groups relations ranges p.many_from p.byte p.run1 g.symbol g.word g.digits g.named g.value g.range_end g.range g.next_range g.range_list g.operand g.divisor g.unequal g.comparison g.relation g.and_relation g.and_group g.or_group g.condition g.keyword g.samples g.rule g.line g.rules_from g.rules
the_rules = refl

-- the rules of a text are those that are read from it
pub rules_read : (ts : List CodeText) (i : ℕ) (t : CodeText) → map text_view ts ≡ read_texts → i < length ts → t ≡ get_or ts i t → AreOf (t.1, t.2) t.0.now
rules_read ts i t are inside is =
    let at = there ts i t are inside is in
    let both = ap (λ xs. slice_get xs i) the_rules in
    let read = slice_get-map (λ t. g.rules t.0) read_texts i ∙ ap (option_map (λ t. g.rules t.0)) at in
    let known : slice_get (map (λ t. Ok (rules_view (t.1, t.2))) read_texts) i ≡ Some (Ok (rules_view (t.1, t.2))) = slice_get-map (λ t. Ok (rules_view (t.1, t.2))) read_texts i ∙ ap (option_map (λ t. Ok (rules_view (t.1, t.2)))) at in
    ap (λ o. unwrap_or o (Err 0)) (sym read ∙ both ∙ known)
