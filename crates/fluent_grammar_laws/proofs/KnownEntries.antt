-- Patterns, attributes, messages, terms and entries are read by the prefix that they take, before what ends them.
use Rattle.std.proofs.Common.{◌≡◌, ◌==◌, ◌||◌, ◌&&◌, ℕ, zero, suc, ◌+◌, ◌<◌, Bool, true, false, List, [], ◌∷◌, ◌++◌, length, take, drop, Some, None, if◌then◌else◌, refl, sym, ap, ◌∙◌, subst, append_assoc, nat_lt, arith, eqb-true, ◌⊎◌, inl, inr}
use Rattle.std.specs.Prelude.{not}
use Rattle.std.proofs.lemmas.Bool.{cases_Bool}
use Rattle.std.proofs.lemmas.Bool.Decides.{nat_tests}
use Rattle.fluent_ast.specs.Tree.{Text, Pattern, Entry, Expression, message_entry, term_entry}
use Rattle.fluent_text.specs.Parser.{and_then, otherwise, Read, Parser, ◌>>◌, ◌<$>◌, ◌<|>◌, pure, skip, many_from, turn, go_on, count, one_more, push, run_len, run, run1, byte, first}
use Rattle.fluent_text.specs.Lexical.{is_letter, is_text, is_space, identifier, blank_inline, at_end, line_break, line_end, blank_line, blank_block, blank}
use Rattle.fluent_syntax.specs.Layout.{Words, Piece}
use Rattle.fluent_syntax.specs.Pieces.{words_after, is_indented, indented_text, block_text, block_placeable, pattern_element, pieces, pattern}
use Rattle.fluent_syntax.specs.Expressions.{level}
use Rattle.fluent_syntax.specs.Entries as n
use Rattle.fluent_syntax.specs.Entries.{value, name_of_value, attribute, value_first, attributes_alone, entry}
use Rattle.fluent_grammar_laws.specs.PrefixLaws.{after_spaces, ends_indented, ends_flush, no_pattern, nothing_more, line_breaks, EndsBy, EndsPattern, EndsMessage, EndsEntry, ReadBefore, entry_line, EntryReadBefore}
use Rattle.fluent_syntax.specs.Facts.Prefixes.{TakesTo}
use Rattle.fluent_syntax.specs.Facts.LexicalPrefixes.{takes-line_break}
use Rattle.fluent_grammar_laws.proofs.Near.{closes, is_read, near-byte}
use Rattle.fluent_grammar_laws.proofs.NearRules.{near-line_end, near-blanks, near-name_of_value}
use Rattle.fluent_grammar_laws.proofs.Known.{After, closed_one, taken_one, Closed, closed_after, cut, Known, Stops, Anywhere, lefts, Clash, way-clash, never, Enters, Fixed, fixed-near, fixed-bind, fixed-then, fixed-map, fixed-or, fixed-many}
use Rattle.fluent_grammar_laws.proofs.Leads.{first_read, either_read, true_false, fails_at, is_blank, next, next_is, Keeps, keep_of, keeps-bind, keeps-line_break, keeps-count, keeps-blank_line, keeps-blanks, keeps-line_end, pair_read, end_read, no_byte, line_end_text, spaces_next, Leads, leads-bind, leads-keep, leads-byte, Starts, starts-bind, starts-byte, starts-identifier, clash-start}
use Rattle.fluent_grammar_laws.proofs.KnownRules.{is}
use Rattle.fluent_grammar_laws.proofs.KnownPatterns.{Braces, braces_of, firm, NoElement, fixed-pattern, no_element, many_first, spaced, line_after, spaces_after, text_first, words_some, indented_read, text_piece, block_piece, hole_piece, brace_leads, leads-block_placeable}

is_feed : ℕ → ℕ → Bool
is_feed c after = c == 10 || (c == 13 && after == 10)

-- b: whether spaces stand before
unfoldable indented : Bool → List ℕ → Bool
indented b [] = false
indented b (c ∷ s) = if c == 32 then indented true s else (if is_feed c (first s) then indented false s else b)

indented_solid : (b : Bool) (s : List ℕ) → 0 < length s → (first s == 32) ≡ false → is_feed (first s) (first (drop 1 s)) ≡ false → indented b s ≡ b
unfolding indented
indented_solid b [] l e f = absurd (omega arith)
indented_solid b (c ∷ s) l e f = rw (e, f) refl

indented_spaces : (b : Bool) (s : List ℕ) → 0 < run_len is_space s → indented b s ≡ indented true (drop (run_len is_space s) s)
unfolding indented
indented_spaces b [] h = absurd (omega arith)
indented_spaces b (c ∷ s) h =
    elim (cases_Bool (c == 32)) [
      | inl space ↦ let k : 1 + run_len is_space s ≡ suc (run_len is_space s) = omega arith in rw (space, k) (more s)
      | inr other ↦ let h2 = rw other at h in absurd (omega arith)
    ]
  where
    more : (s : List ℕ) → indented true s ≡ indented true (drop (run_len is_space s) s)
    more [] = refl
    more (c ∷ s) =
        elim (cases_Bool (c == 32)) [
          | inl space ↦ let k : 1 + run_len is_space s ≡ suc (run_len is_space s) = omega arith in rw (space, k) (more s)
          | inr other ↦ let z : run_len is_space (c ∷ s) ≡ 0 = rw other refl in ap (λ k. indented true (drop k (c ∷ s))) (sym z)
        ]

spaces_run : (s : List ℕ) (m : Bool) (z : List ℕ × List ℕ) → (run_len is_space s == 0) ≡ m → ◌≡◌ {A = Read (List ℕ)} (if m then None else run is_space s) (Some z) → (0 < run_len is_space s) × (drop (run_len is_space s) s ≡ z.1)
spaces_run s true z e f = absurd (is_read z (sym f))
spaces_run s false z e f = (grind (arith, nat_tests), lefts (take (run_len is_space s) s) z.0 (drop (run_len is_space s) s) z.1 f)

indented_inline : (b : Bool) (s : List ℕ) (q : ℕ × List ℕ) → blank_inline s ≡ Some q → indented b s ≡ indented true q.1
unfolding blank_inline run1
indented_inline b s q e =
    let (z, f, k) = first_read (run1 is_space s) (λ x. pure (length x)) q e in
    let (some, same) = spaces_run s (run_len is_space s == 0) z refl f in
    indented_spaces b s some ∙ ap (indented true) (same ∙ lefts (length z.0) q.0 z.1 q.1 k)

indented_break : (b : Bool) (s : List ℕ) (q : Unit {0} × List ℕ) → line_break s ≡ Some q → indented b s ≡ indented false q.1
unfolding indented line_break is_feed
indented_break b s q e =
    elim (either_read ((byte 13 >> byte 10) s) (byte 10) s q e) [
      | inl pair ↦ ap (indented b) (pair_read s q pair)
      | inr feed ↦ ap (indented b) (taken_one 10 refl s q.1 feed)
    ]

quiet : Bool → ℕ → Bool
quiet true c = ends_indented c
quiet false c = not (c == 123)

solid_text : (c d : ℕ) → is_text c d ≡ true → is_feed c d ≡ false
unfolding is_feed
solid_text c d e = grind (arith, nat_tests)

text_some : (s : List ℕ) → (run_len is_text s == 0) ≡ false → 0 < length s
text_some [] e = absurd (true_false (run_len is_text [] == 0) refl e)
text_some (a ∷ s) e = omega arith

quiet_brace : (i : Bool) (c : ℕ) → (c == 123) ≡ true → quiet i c ≡ true → ⊥
unfolding quiet
quiet_brace true c e f = fails_at 123 ends_indented c e refl f
quiet_brace false c e f = fails_at 123 (λ c. not (c == 123)) c e refl f

-- the first byte of a line after its spaces, and whether a pattern goes on with it
record IsLine (line : List ℕ) : Type 0 where
  byte_after : next line ≡ first (after_spaces line)
  still : quiet (indented false line) (next line) ≡ true

solid_end : (c d : ℕ) → ends_indented c ≡ true → is_blank c d ≡ false
solid_end c d e = grind (arith, nat_tests)

line_flush : (line : List ℕ) → (first line == 32) ≡ false → ends_flush (first line) ≡ true → IsLine line
unfolding quiet is_feed next indented
line_flush [] e f = record { byte_after = refl; still = refl }
line_flush (c ∷ s) e f =
    let solid : is_blank c (first s) ≡ false = grind (arith, nat_tests) in
    let feed : is_feed c (first s) ≡ false = grind (arith, nat_tests) in
    let some : 0 < length (c ∷ s) = omega arith in
    let at : next (c ∷ s) ≡ c = next_is c s solid in
    let none : run_len is_space (c ∷ s) ≡ 0 = rw e refl in
    let flush : indented false (c ∷ s) ≡ false = indented_solid false (c ∷ s) some e feed in
    let q : quiet false c ≡ true = grind (arith, nat_tests) in
    record {
      byte_after = at ∙ ap (λ k. first (drop k (c ∷ s))) (sym none);
      still = ap (λ i. quiet i (next (c ∷ s))) flush ∙ (ap (quiet false) at ∙ q);
    }

line_after_spaces : (line rest : List ℕ) → rest ≡ after_spaces line → (first line == 32) ≡ true → ends_indented (first rest) ≡ true → IsLine line
unfolding quiet is_feed
line_after_spaces [] rest g e f = absurd (true_false false e refl)
line_after_spaces (a ∷ line) [] g e f = absurd (true_false false f refl)
line_after_spaces (a ∷ line) (c ∷ s) g e f =
    let solid : is_blank c (first s) ≡ false = solid_end c (first s) f in
    let space : (c == 32) ≡ false = grind (arith, nat_tests) in
    let feed : is_feed c (first s) ≡ false = grind (arith, nat_tests) in
    let some : 0 < length (c ∷ s) = omega arith in
    let at : next (a ∷ line) ≡ c = spaces_next (a ∷ line) ∙ (ap next (sym g) ∙ next_is c s solid) in
    let spaces : 0 < run_len is_space (a ∷ line) = rw e (omega arith) in
    let in_ : indented false (a ∷ line) ≡ true = indented_spaces false (a ∷ line) spaces ∙ (ap (indented true) (sym g) ∙ indented_solid true (c ∷ s) some space feed) in
    record {
      byte_after = at ∙ ap first g;
      still = ap (λ i. quiet i (next (a ∷ line))) in_ ∙ (ap ends_indented at ∙ f);
    }

is_line : (line : List ℕ) → no_pattern line ≡ true → IsLine line
is_line line e =
    elim (cases_Bool (first line == 32)) [
      | inl space ↦ let e2 = rw space at e in line_after_spaces line (after_spaces line) refl space e2
      | inr flush ↦ let e2 = rw flush at e in line_flush line flush e2
    ]

keeps-breaks : Keeps line_breaks
unfolding line_breaks
keeps-breaks = keeps-bind line_break _ keeps-line_break (λ _. keeps-count blank_line keeps-blank_line)

-- the line break with which a text begins
abbrev Broken : List ℕ → Type 0
Broken t = ((r : List ℕ) × (t ≡ 10 ∷ r)) ⊎ ((r : List ℕ) × (t ≡ 13 ∷ 10 ∷ r))

-- what holds of a text that ends by a line
record Ended (test : List ℕ → Bool) (t : List ℕ) : Type 0 where
  line : List ℕ
  tested : test line ≡ true
  broken : Broken t
  byte_after : next t ≡ first (after_spaces line)
  textless : run_len is_text t ≡ 0
  still : quiet (indented false t) (next t) ≡ true

broken_text : (t : List ℕ) → Broken t → run_len is_text t ≡ 0
broken_text t (inl (r, feed)) = ap (run_len is_text) feed
broken_text t (inr (r, pair)) = ap (run_len is_text) pair

abbrev B : Parser Expression
B = (level 100).braces

pub leads-attribute : Leads (is 46) attribute
unfolding attribute
leads-attribute = leads-keep (is 46) line_end _ keeps-line_end (λ _. leads-keep (is 46) (skip blank) _ keeps-blanks (λ _. leads-bind (is 46) (byte 46) _ (leads-byte (is 46) 46 refl (λ n. refl) refl)))

abbrev pub attributes_from : List (Text × Pattern) → Parser (List (Text × Pattern))
attributes_from found = λ s. many_from push attribute (length s) found s

pub value_element : (t : List ℕ) (z : Pattern × List ℕ) → value t ≡ Some z → (q : List Piece × List ℕ) × (pattern_element B t ≡ Some q)
unfolding value pieces
value_element t z e =
    let (q, f, k) = first_read (pieces B t) _ z e in
    let (p, g, l) = first_read (pattern_element B t) _ q f in
    (p, g)

pub starts-message : Starts is_letter n.message
unfolding n.message name_of_value
starts-message = starts-bind is_letter name_of_value _ (starts-bind is_letter identifier _ starts-identifier)

pub starts-term : Starts (is 45) n.term
unfolding n.term
starts-term = starts-bind (is 45) (byte 45) _ (starts-byte (is 45) 45 refl refl)

abbrev with_break : Entry → Parser Entry
with_break e = line_break >> pure e

both_true : (a b : Bool) → (a && b) ≡ true → (a ≡ true) × (b ≡ true)
both_true true b e = (refl, e)
both_true false b e = absurd (true_false false e refl)

no_dot : (c : ℕ) → not (c == 46) ≡ true → (c == 46) ≡ false
no_dot c e = grind (arith, nat_tests)

indented_end : (b : Bool) (s : List ℕ) (q : Unit {0} × List ℕ) → line_end s ≡ Some q → indented b s ≡ indented false q.1
unfolding indented line_end
indented_end b s q e =
    elim (either_read (line_break s) at_end s q e) [
      | inl broken ↦ indented_break b s q broken
      | inr over ↦ let (z, same) = end_read s (length s == 0) q over in let none = no_byte s z in ap (indented b) none ∙ ap (indented false) (sym none ∙ same)
    ]

indented_line : (b : Bool) (s : List ℕ) (q : Unit {0} × List ℕ) → blank_line s ≡ Some q → indented b s ≡ indented false q.1
unfolding spaced
indented_line b s q e = by (blank_inline s) refl
  where
    by : (r : Read ℕ) → blank_inline s ≡ r → indented b s ≡ indented false q.1
    by None f = indented_end b s q (line_after s q None f e)
    by (Some z) f = indented_inline b s z f ∙ indented_end true z.1 q (line_after s q (Some z) f e)

indented_many : (n k : ℕ) (s : List ℕ) (q : ℕ × List ℕ) → many_from one_more blank_line n k s ≡ Some q → indented false s ≡ indented false q.1
unfolding many_from
indented_many zero k s q e = ap (indented false) (lefts k q.0 s q.1 e)
indented_many (suc n) k s q e = by (blank_line s) refl e (λ m t g. indented_many n m t q g)
  where
    gone : (z : Unit {0} × List ℕ) (b : Bool) → blank_line s ≡ Some z → go_on one_more (many_from one_more blank_line n) k s z b ≡ Some q
        → ((m : ℕ) (t : List ℕ) → many_from one_more blank_line n m t ≡ Some q → indented false t ≡ indented false q.1) → indented false s ≡ indented false q.1
    gone z true f g others = indented_line false s z f ∙ others (one_more k z.0) z.1 g
    gone z false f g others = ap (indented false) (lefts k q.0 s q.1 g)

    by : (r : Read (Unit {0})) → blank_line s ≡ r → turn one_more (many_from one_more blank_line n) k s r ≡ Some q
        → ((m : ℕ) (t : List ℕ) → many_from one_more blank_line n m t ≡ Some q → indented false t ≡ indented false q.1) → indented false s ≡ indented false q.1
    by None f g others = ap (indented false) (lefts k q.0 s q.1 g)
    by (Some z) f g others = gone z (nat_lt (length z.1) (length s)) f g others

-- blank lines
indented_block : (b : Bool) (s : List ℕ) (q : ℕ × List ℕ) → blank_block s ≡ Some q → indented b s ≡ indented false q.1
unfolding blank_block
indented_block b s q e =
    let (z, f, k) = first_read (blank_line s) _ q e in
    let (m, g, l) = first_read (count blank_line z.1) _ q k in
    indented_line b s z f ∙ (indented_many (length z.1) 0 z.1 m g ∙ ap (indented false) (lefts (m.0 + 1) q.0 m.1 q.1 l))

-- the line breaks after a line
indented_breaks : (b : Bool) (s : List ℕ) (q : ℕ × List ℕ) → line_breaks s ≡ Some q → indented b s ≡ indented false q.1
unfolding line_breaks
indented_breaks b s q e =
    let (z, f, k) = first_read (line_break s) _ q e in
    indented_break b s z f ∙ indented_many (length z.1) 0 z.1 q k

-- block text is indented
block_indented : (s : List ℕ) (z : (ℕ × Words) × List ℕ) → block_text s ≡ Some z → indented false s ≡ true
unfolding block_text
block_indented s z e =
    let (q, f, k) = first_read (blank_block s) _ z e in
    let (p, g, l) = first_read (blank_inline q.1) _ z k in
    let (t, i, j) = first_read (indented_text p.0 p.1) _ z l in
    let (m, w) = indented_read p.0 p.1 (is_indented p.1) t i in
    let some = words_some (Some p.0) p.1 t w in
    indented_block false s q f ∙ (indented_inline false q.1 p g ∙ indented_solid true p.1 (text_some p.1 some) (spaces_after q.1 p g) (solid_text (first p.1) (first (drop 1 p.1)) (text_first p.1 some)))

ended : (test : List ℕ → Bool) → ((line : List ℕ) → test line ≡ true → no_pattern line ≡ true) → (t : List ℕ) → EndsBy test t → Ended test t
unfolding line_breaks line_break
ended test f t h =
    let l = is_line h.1 (f h.1 h.3) in
    let same : next t ≡ next h.1 = keep_of line_breaks t (h.0, h.1) keeps-breaks h.2 in
    let side : indented false t ≡ indented false h.1 = indented_breaks false t (h.0, h.1) h.2 in
    let (z, g, k) = first_read (line_break t) (λ _. count blank_line) (h.0, h.1) h.2 in
    let b : Broken t = elim (either_read ((byte 13 >> byte 10) t) (byte 10) t z g) [
      | inl pair ↦ inr (z.1, pair_read t z pair)
      | inr feed ↦ inl (z.1, taken_one 10 refl t z.1 feed)
    ] in
    record {
      line = h.1;
      tested = h.3;
      broken = b;
      byte_after = same ∙ l.byte_after;
      textless = broken_text t b;
      still = ap (λ i. quiet i (next t)) side ∙ (ap (quiet (indented false h.1)) same ∙ l.still);
    }

-- ---- what is read whatever of such texts follows

module _ (T : After) where
  -- ---- where no pattern goes on

  none_goes_on : (b : Parser Expression) → (Braces T) b → (t : List ℕ) (z : List Piece × List ℕ) → pattern_element b t ≡ Some z → run_len is_text t ≡ 0 → (i : Bool) → indented false t ≡ i → quiet i (next t) ≡ true → ⊥
  unfolding quiet pattern_element
  none_goes_on b h t z e n true f here = (no_element T) b h t z e n here
  none_goes_on b h t z e n false f here =
      elim (either_read (text_piece t) (block_piece <|> (hole_piece b <|> block_placeable b)) t z e) [
        | inl text ↦ let (q, g, k) = first_read (words_after None t) _ z text in true_false (run_len is_text t == 0) (ap (λ m. m == 0) n) (words_some None t q g)
        | inr others ↦ elim (either_read (block_piece t) (hole_piece b <|> block_placeable b) t z others) [
          | inl block ↦ let (q, g, k) = first_read (block_text t) _ z block in true_false (indented false t) (block_indented t q g) f
          | inr more ↦ elim (either_read (hole_piece b t) (block_placeable b) t z more) [
            | inl held ↦ quiet_brace false (next t) ((leads-bind (is 123) b _ (brace_leads b h.1)).lead t z held) here
            | inr low ↦ quiet_brace false (next t) (((leads-block_placeable T) b h).lead t z low) here
          ]
        ]
      ]

  -- ---- texts that end patterns

  ended_element : (b : Parser Expression) → (Braces T) b → (test : List ℕ → Bool) (t : List ℕ) → Ended test t → (z : List Piece × List ℕ) → pattern_element b t ≡ Some z → ⊥
  ended_element b h test t e z f = none_goes_on b h t z f e.textless (indented false t) refl e.still

  -- ---- attributes

  braced : (Braces T) B
  braced = (braces_of T) (level 100) ((firm T) 100)

  fixed-value : (Fixed T) ((NoElement T) B) value
  unfolding value
  fixed-value = (fixed-pattern T) B braced

  fixed-attribute : (Fixed T) ((NoElement T) B) attribute
  unfolding attribute
  fixed-attribute =
      (fixed-then T) ((NoElement T) B) line_end _ ((fixed-near T) line_end near-line_end) (λ _.
      (fixed-then T) ((NoElement T) B) (skip blank) _ ((fixed-near T) (skip blank) near-blanks) (λ _.
      (fixed-then T) ((NoElement T) B) (byte 46) _ ((fixed-near T) (byte 46) (near-byte 46 refl)) (λ _.
      (fixed-then T) ((NoElement T) B) name_of_value _ ((fixed-near T) name_of_value near-name_of_value) (λ id.
      (fixed-map T) ((NoElement T) B) (λ v. (id, v)) value fixed-value) (λ v h. h.0)) (λ v h. h.0)) (λ v h. h.0)) (λ v h. h.0)

  -- where an attribute is, no pattern goes on
  attribute_ends : (t : List ℕ) (z : (Text × Pattern) × List ℕ) (y : List Piece × List ℕ) → attribute t ≡ Some z → pattern_element B t ≡ Some y → ⊥
  unfolding attribute
  attribute_ends t z y e f =
      let (q, g, k) = first_read (line_end t) _ z e in
      (no_element T) B braced t y f (line_end_text t q g) (ap ends_indented (eqb-true (next t) 46 (leads-attribute.lead t z e)))

  enters-attribute : (Enters T) ((NoElement T) B) attribute
  enters-attribute = λ a s u v e known here. ((closed_after T) s u v e here.0, λ w i. never (pattern_element B) (s ++ w) (λ y f. attribute_ends (s ++ w) (a, v ++ w) y (known w i) f))

  -- ---- messages and terms

  -- at a text where neither a pattern goes on nor an attribute is
  abbrev NoMore : List ℕ → Type 0
  NoMore v = (NoElement T) B v × (Stops T) attribute v

  fixed-attributes : (found : List (Text × Pattern)) → (Fixed T) NoMore (attributes_from found)
  fixed-attributes found = (fixed-many T) ((NoElement T) B) push attribute found fixed-attribute enters-attribute

  before_attributes : {X : Type 0} (found : List (Text × Pattern)) (g : List (Text × Pattern) → X) (x : X) (v1 u v : List ℕ) → v1 ≡ u ++ v → (Known T) (g <$> attributes_from found) v1 x v → NoMore v → (NoElement T) B v1
  before_attributes found g x v1 u v e known here = (
    (closed_after T) v1 u v e here.0.0,
    λ w i. never (pattern_element B) (v1 ++ w) (λ y f.
        let (q, j, k) = first_read (attributes_from found (v1 ++ w)) (λ o. pure (g o)) (x, v ++ w) (known w i) in
        elim (many_first push attribute (length (v1 ++ w)) found (v1 ++ w) q j) [
          | inl same ↦ is_read y (sym f ∙ (ap (pattern_element B) (same ∙ lefts (g q.0) x q.1 (v ++ w) k) ∙ here.0.1 w i))
          | inr (a, l) ↦ attribute_ends (v1 ++ w) a y l f
        ]),
  )

  fixed-value_first : (Fixed T) NoMore value_first
  unfolding value_first
  fixed-value_first =
      (fixed-bind T) ((NoElement T) B) NoMore value _ fixed-value (λ v. (fixed-map T) NoMore (λ o. (Some v, o)) (attributes_from []) (fixed-attributes []))
      (λ v x v1 u v2 e known here. before_attributes [] (λ o. (Some v, o)) x v1 u v2 e known here)

  fixed-attributes_alone : (Fixed T) NoMore attributes_alone
  unfolding attributes_alone
  fixed-attributes_alone =
      (fixed-bind T) ((NoElement T) B) NoMore attribute _ fixed-attribute (λ a. (fixed-map T) NoMore (λ o. (None, o)) (attributes_from (a ∷ [])) (fixed-attributes (a ∷ [])))
      (λ a x v1 u v2 e known here. before_attributes (a ∷ []) (λ o. (None, o)) x v1 u v2 e known here)

  clash-contents : Clash Anywhere value_first attributes_alone
  unfolding value_first attributes_alone
  clash-contents t y x r e f here =
      let (q, i, k) = first_read (value t) _ y e in
      let (p, j) = value_element t q i in
      let (a, l, m) = first_read (attribute t) _ (x, r) f in
      attribute_ends t a p l j

  fixed-contents : (Fixed T) NoMore (value_first <|> attributes_alone)
  fixed-contents = (fixed-or T) NoMore value_first attributes_alone fixed-value_first fixed-attributes_alone ((way-clash T) NoMore Anywhere value_first attributes_alone (λ v w i h. tt) clash-contents)

  fixed-message : (Fixed T) NoMore n.message
  unfolding n.message
  fixed-message = (fixed-then T) NoMore name_of_value _ ((fixed-near T) name_of_value near-name_of_value) (λ id. (fixed-map T) NoMore (λ c. message_entry id c.0 c.1) (value_first <|> attributes_alone) fixed-contents) (λ v h. h.0.0)

  fixed-term : (Fixed T) NoMore n.term
  unfolding n.term
  fixed-term =
      (fixed-then T) NoMore (byte 45) _ ((fixed-near T) (byte 45) (near-byte 45 refl)) (λ _.
      (fixed-then T) NoMore name_of_value _ ((fixed-near T) name_of_value near-name_of_value) (λ id.
      (fixed-bind T) ((NoElement T) B) NoMore value _ fixed-value (λ v. (fixed-map T) NoMore (λ o. term_entry id v o) (attributes_from []) (fixed-attributes []))
      (λ v x v1 u v2 e known here. before_attributes [] (λ o. term_entry id v o) x v1 u v2 e known here)) (λ v h. h.0.0)) (λ v h. h.0.0)

  -- ---- entries

  fixed-part : (Fixed T) NoMore (n.message <|> n.term)
  fixed-part =
      (fixed-or T) NoMore n.message n.term fixed-message fixed-term
      ((way-clash T) NoMore Anywhere n.message n.term (λ v w i h. tt) (clash-start Anywhere is_letter (is 45) n.message n.term starts-message starts-term (λ c e f. absurd (grind (arith, nat_tests)))))

  -- at a text before which a line break ends messages and terms
  abbrev NoMoreLines : List ℕ → Type 0
  NoMoreLines v = NoMore (10 ∷ v) × NoMore (13 ∷ 10 ∷ v)

  break_known : (s v : List ℕ) → (s ≡ 13 ∷ 10 ∷ v) ⊎ (s ≡ 10 ∷ v) → (Known T) line_break s tt v
  unfolding line_break byte
  break_known s v (inl pair) = λ w i. ap (λ t. line_break (t ++ w)) pair
  break_known s v (inr feed) = λ w i. ap (λ t. line_break (t ++ w)) feed

  break_prefix : (s v : List ℕ) → line_break (s ++ T.here) ≡ Some (tt, v ++ T.here) → (s ≡ 13 ∷ 10 ∷ v) ⊎ (s ≡ 10 ∷ v)
  unfolding line_break
  break_prefix s v e =
      elim (either_read ((byte 13 >> byte 10) (s ++ T.here)) (byte 10) (s ++ T.here) (tt, v ++ T.here) e) [
        | inl pair ↦ inl ((cut T) s (13 ∷ 10 ∷ []) v (pair_read (s ++ T.here) (tt, v ++ T.here) pair))
        | inr feed ↦ inr ((cut T) s (10 ∷ []) v (taken_one 10 refl (s ++ T.here) (v ++ T.here) feed))
      ]

  fixed-line_break : (Fixed T) NoMoreLines line_break
  fixed-line_break = record {
    fixed = record { settled = λ s x v here e. break_known s v (break_prefix s v e) };
    takes = takes-line_break;
  }

  fixed-entry_line : (Fixed T) NoMoreLines entry_line
  unfolding entry_line
  fixed-entry_line =
      (fixed-bind T) NoMore NoMoreLines (n.message <|> n.term) with_break fixed-part (λ e. (fixed-map T) NoMoreLines (λ _. e) line_break fixed-line_break)
      (λ e x v1 u v g known here.
      let (q, i, k) = first_read (line_break (v1 ++ T.here)) (λ _. pure e) (x, v ++ T.here) (known T.here T.holds) in
      elim (break_prefix v1 v (i ∙ ap (λ t. Some (tt, t)) (lefts e x q.1 (v ++ T.here) k))) [
        | inl pair ↦ subst NoMore (sym pair) here.1
        | inr feed ↦ subst NoMore (sym feed) here.0
      ])

  -- ---- such texts by their definition

  ended_pattern : (b : Parser Expression) → (Braces T) b → (brk : List ℕ) → (Closed T) brk → ((w : List ℕ) → T.may w → EndsPattern (brk ++ w)) → (NoElement T) b brk
  ended_pattern b h brk c f = (c, λ w i. never (pattern_element b) (brk ++ w) (λ z g. ended_element b h no_pattern (brk ++ w) (ended no_pattern (λ line e. e) (brk ++ w) (f w i)) z g))

  ended_message : (brk : List ℕ) → (Closed T) brk → ((w : List ℕ) → T.may w → EndsMessage (brk ++ w)) → NoMore brk
  ended_message brk c f =
      let e : (w : List ℕ) → T.may w → Ended nothing_more (brk ++ w) = λ w i. ended nothing_more (λ line g. (both_true (no_pattern line) _ g).0) (brk ++ w) (f w i) in (
        (c, λ w i. never (pattern_element B) (brk ++ w) (λ z g. ended_element B braced nothing_more (brk ++ w) (e w i) z g)),
        λ w i. never attribute (brk ++ w) (λ z g.
            let point = no_dot (first (after_spaces (e w i).line)) (both_true (no_pattern (e w i).line) _ (e w i).tested).1 in
            true_false (next (brk ++ w) == 46) (leads-attribute.lead (brk ++ w) z g) (ap (λ c. c == 46) (e w i).byte_after ∙ point)),
      )

-- ---- the laws

-- a rule that leaves what begins by a line break, and one that holds for such texts
abbrev Ends : {A : Type 0} → (List ℕ → Type 0) → ((T : After) → List ℕ → Type 0) → Parser A → Type 1
Ends ends at p = ((T : After) → Fixed T (at T) p) × ((T : After) (brk : List ℕ) → Closed T brk → ((w : List ℕ) → T.may w → ends (brk ++ w)) → at T brk)

by_break : {A : Type 0} (ends : List ℕ → Type 0) (at : (T : After) → List ℕ → Type 0) (p : Parser A) → Ends ends at p → (s : List ℕ) (x : A) (brk r : List ℕ) → ((T : After) → Closed T brk) → ends (brk ++ r) → p s ≡ Some (x, brk ++ r)
    → (prefix : List ℕ) × (s ≡ prefix ++ (brk ++ r)) × ((w : List ℕ) → ends (brk ++ w) → p (prefix ++ (brk ++ w)) ≡ Some (x, brk ++ w))
by_break ends at p h s x brk r c here e =
    let T : After = record { may = λ w. ends (brk ++ w); here = r; holds = here } in
    let fixed = h.0 T in
    let fr : (u : List ℕ) × (s ≡ u ++ (brk ++ r)) = subst (TakesTo s) e (fixed.takes.prefix s) in
    let u = fr.0 in
    let known = fixed.fixed.settled (u ++ brk) x brk (h.1 T brk (c T) (λ w i. i)) (ap p (append_assoc u brk r ∙ sym fr.1) ∙ e) in
    (u, fr.1, λ w i. ap p (sym (append_assoc u brk w)) ∙ known w i)

closed_feed : (T : After) → Closed T (10 ∷ [])
unfolding closes
closed_feed T = closed_one T 10 [] refl

closed_pair : (T : After) → Closed T (13 ∷ 10 ∷ [])
closed_pair T = λ w w' i i'. refl

not_pair : (t : List ℕ) (r q : List ℕ) → t ≡ 13 ∷ q → first t ≡ first (10 ∷ r) → ⊥
not_pair t r q e f = absurd (omega (arith, sym (ap first e) ∙ f))

not_feed : (t : List ℕ) (r q : List ℕ) → t ≡ 10 ∷ q → first t ≡ first (13 ∷ r) → ⊥
not_feed t r q e f = absurd (omega (arith, sym (ap first e) ∙ f))

read_before : {A : Type 0} (ends : List ℕ → Type 0) (at : (T : After) → List ℕ → Type 0) (p : Parser A) → Ends ends at p → ((t : List ℕ) → ends t → Broken t) → (s : List ℕ) → ReadBefore ends p s
read_before ends at p h breaks s x past e here =
    elim (breaks past here) [
      | inl (r, feed) ↦
          let (u, f, more) = by_break ends at p h s x (10 ∷ []) r closed_feed (subst ends feed here) (e ∙ ap (λ t. Some (x, t)) feed) in (
            u,
            f ∙ ap (λ t. u ++ t) (sym feed),
            λ other i same. elim (breaks other i) [
              | inl (q, g) ↦ ap (λ t. p (u ++ t)) g ∙ (more q (subst ends g i) ∙ ap (λ t. Some (x, t)) (sym g))
              | inr (q, g) ↦ absurd (not_pair other r (10 ∷ q) g (same ∙ ap first feed))
            ],
          )
      | inr (r, pair) ↦
          let (u, f, more) = by_break ends at p h s x (13 ∷ 10 ∷ []) r closed_pair (subst ends pair here) (e ∙ ap (λ t. Some (x, t)) pair) in (
            u,
            f ∙ ap (λ t. u ++ t) (sym pair),
            λ other i same. elim (breaks other i) [
              | inl (q, g) ↦ absurd (not_feed other (10 ∷ r) q g (same ∙ ap first pair))
              | inr (q, g) ↦ ap (λ t. p (u ++ t)) g ∙ (more q (subst ends g i) ∙ ap (λ t. Some (x, t)) (sym g))
            ],
          )
    ]

pattern_breaks : (t : List ℕ) → EndsPattern t → Broken t
pattern_breaks t h = (ended no_pattern (λ line e. e) t h).broken

message_breaks : (t : List ℕ) → EndsMessage t → Broken t
message_breaks t h = (ended nothing_more (λ line e. (both_true (no_pattern line) _ e).0) t h).broken

pub pattern_before : (n : ℕ) (s : List ℕ) → ReadBefore EndsPattern (pattern (level n).braces) s
pattern_before n s =
    let b = (level n).braces in
    let h : (T : After) → Braces T b = λ T. braces_of T (level n) (firm T n) in
    read_before EndsPattern (λ T. NoElement T b) (pattern b) (λ T. fixed-pattern T b (h T), λ T brk c f. ended_pattern T b (h T) brk c f) pattern_breaks s

pub attribute_before : (s : List ℕ) → ReadBefore EndsPattern attribute s
attribute_before s = read_before EndsPattern (λ T. NoElement T B) attribute (fixed-attribute, λ T brk c f. ended_pattern T B (braced T) brk c f) pattern_breaks s

pub message_before : (s : List ℕ) → ReadBefore EndsMessage n.message s
message_before s = read_before EndsMessage NoMore n.message (fixed-message, ended_message) message_breaks s

pub term_before : (s : List ℕ) → ReadBefore EndsMessage n.term s
term_before s = read_before EndsMessage NoMore n.term (fixed-term, ended_message) message_breaks s

-- a line break is a line break
pair_breaks : (v : List ℕ) → line_breaks (13 ∷ 10 ∷ v) ≡ line_breaks (10 ∷ v)
unfolding line_breaks line_break byte
pair_breaks v = refl

-- an entry with its line break is an entry
with_line_end : (s : List ℕ) (z : Entry × List ℕ) → entry_line s ≡ Some z → entry s ≡ Some z
unfolding entry_line entry line_end
with_line_end s z e =
    let (q, f, k) = first_read ((n.message <|> n.term) s) with_break z e in
    let (p, g, l) = first_read (line_break q.1) (λ _. pure q.0) z k in
    ap (λ r. and_then r (λ e. line_end >> pure e)) f ∙ (ap (λ r. and_then (otherwise r at_end q.1) (λ _. pure q.0)) g ∙ l)

pub entry_before : (s : List ℕ) → EntryReadBefore s
entry_before s x past e here =
    let T : After = record { may = EndsEntry; here = past; holds = here } in
    let fixed = fixed-entry_line T in
    let fr : (u : List ℕ) × (s ≡ u ++ past) = subst (TakesTo s) e (fixed.takes.prefix s) in
    let feed = ended_message T (10 ∷ []) (closed_feed T) (λ w i. i) in
    let pair = ended_message T (13 ∷ 10 ∷ []) (closed_pair T) (λ w i. (i.0, i.1, pair_breaks w ∙ i.2, i.3)) in
    (fr.0, fr.1, λ other i. with_line_end (fr.0 ++ other) (x, other) (fixed.fixed.settled fr.0 x [] (feed, pair) (ap entry_line (sym fr.1) ∙ e) other i))

pub ruleset rules_before = (pattern_before, attribute_before, message_before, term_before, entry_before)
