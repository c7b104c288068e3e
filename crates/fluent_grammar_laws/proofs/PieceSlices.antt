-- The pieces of a pattern stand in the source.
use Rattle.std.proofs.Common.{◌≡◌, ◌==◌, ◌+◌, ◌<◌, ℕ, suc, Bool, true, false, [], ◌∷◌, ◌++◌, length, take, drop, Option, Some, None, if◌then◌else◌, refl, sym, ap, ◌∙◌, take-append-drop, append_assoc, append-nil, subst, arith, length-append, inl, inr}
use Rattle.std.specs.Prelude.{unwrap_or}
use Rattle.std.proofs.lemmas.List.{length-replicate}
use Rattle.std.proofs.lemmas.Bool.{cases_Bool}
use Rattle.std.proofs.lemmas.Bool.Decides.{nat_tests}
use Rattle.fluent_ast.specs.Tree.{Text, Expression, pattern_of}
use Rattle.fluent_text.specs.Parser.{Parser, ◌>>=◌, ◌>>◌, ◌<$>◌, and_then, pure, optional, skip, first, byte, run, run1, run_len}
use Rattle.fluent_text.specs.Lexical.{is_space, is_text, blank_inline, at_end, line_break, line_end, blank_line, blank_block}
use Rattle.fluent_syntax.specs.Layout.{Words, Piece, line, words, hole}
use Rattle.fluent_syntax.specs.Layout as y
use Rattle.fluent_syntax.specs.Pieces.{follows, words_after, is_indented, indented_text, block_text, indent, block_placeable, pattern_element, pieces, pattern}
use Rattle.fluent_grammar_laws.specs.SliceLaws.{IsSlice, SlicesOfExpression, SlicesOfPattern}
use Rattle.fluent_syntax.specs.Facts.Prefixes.{takes-byte}
use Rattle.fluent_text.specs.Facts.Runs.{run_len-le}
use Rattle.fluent_syntax.specs.Facts.LexicalPrefixes.{takes-spaces, more_lines, takes-more_lines}
use Rattle.fluent_grammar_laws.proofs.Slices.{EndOf, later, slice_here, Gives, gives-bind, gives-or, gives-so, After, gives-takes, Ended, Within, within-bind, within-map, within-or, within-all}
use Rattle.fluent_grammar_laws.proofs.LayoutSlices.{ending, blanks, spaces, OfPiece, OfPieces, pieces_append, slices_laid_out}

-- ---- line ends

-- where something is left, a line feed stands in the source
abbrev Fed : {A : Type 0} → Text → A → Text → Type 0
Fed w x t = EndOf w t × (0 < length t → IsSlice w (10 ∷ []))

byte_here : (c : ℕ) (s : Text) → 0 < c → (first s == c) ≡ true → s ≡ c ∷ drop 1 s
byte_here c [] n e = absurd (grind (arith, nat_tests))
byte_here c (b ∷ s) n e = let same : b ≡ c = grind (arith, nat_tests) in ap (λ x. x ∷ s) same

fed-byte : (w s : Text) → EndOf w s → Gives (Fed w) (byte 10 s)
unfolding byte
fed-byte w s o = tested (first s == 10) refl
  where
    tested : (v : Bool) → (first s == 10) ≡ v → Gives (Fed w) (if v then Some (tt {0}, drop 1 s) else None)
    tested true e =
        let here = byte_here 10 s (omega arith) e in
        (later w s (10 ∷ []) (drop 1 s) o here, λ _. slice_here w s (10 ∷ []) (drop 1 s) o here)
    tested false e = tt

fed-line_break : (w s : Text) → EndOf w s → Gives (Fed w) (line_break s)
unfolding line_break
fed-line_break w s o =
    gives-or (Fed w) ((byte 13 >> byte 10) s) (byte 10) s
    (gives-bind (After s) (Fed w) (byte 13 s) (λ _. byte 10) (gives-takes s (byte 13) (takes-byte 13)) (λ x t q. fed-byte w t (later w s q.0 t o q.1)))
    (fed-byte w s o)

fed-at_end : (w s : Text) → EndOf w s → Gives (Fed w) (at_end s)
fed-at_end w s o = tested (length s == 0) refl
  where
    tested : (v : Bool) → (length s == 0) ≡ v → Gives (Fed w) (if v then Some (tt {0}, s) else None)
    tested true e = (o, λ n. absurd (grind (arith, nat_tests)))
    tested false e = tt

fed-line_end : (w s : Text) → EndOf w s → Gives (Fed w) (line_end s)
unfolding line_end
fed-line_end w s o = gives-or (Fed w) (line_break s) at_end s (fed-line_break w s o) (fed-at_end w s o)

fed-blank_line : (w s : Text) → EndOf w s → Gives (Fed w) (blank_line s)
unfolding blank_line
fed-blank_line w s o = gives-bind (After s) (Fed w) (skip blank_inline s) (λ _. line_end) (gives-takes s (skip blank_inline) takes-spaces) (λ x t q. fed-line_end w t (later w s q.0 t o q.1))

fed-blank_block : (w s : Text) → EndOf w s → Gives (Fed w) (blank_block s)
unfolding blank_block more_lines
fed-blank_block w s o =
    gives-bind (Fed w) (Fed w) (blank_line s) (λ _. more_lines) (fed-blank_line w s o) (λ x t q.
    gives-so (After t) (Fed w) (more_lines t) (gives-takes t more_lines takes-more_lines) (λ n r k. (later w t k.0 r q.0 k.1, λ m. q.1 (omega (arith, ap length k.1, length-append k.0 r)))))

-- ---- spaces

spaces_run : (s : Text) → take (run_len is_space s) s ≡ blanks (run_len is_space s)
spaces_run [] = refl
spaces_run (c ∷ s) =
    elim (cases_Bool (is_space c (first s))) [
      | inl pass ↦
          let more = spaces_run s in
          let same : c ≡ 32 = grind (arith, nat_tests) in
          let n : 1 + run_len is_space s ≡ suc (run_len is_space s) = omega arith in
          rw (pass, n) (ap (λ x. x ∷ take (run_len is_space s) s) same ∙ ap (λ x. 32 ∷ x) more)
      | inr stop ↦ rw stop refl
    ]

-- so many spaces, of a text that has a byte
abbrev Spaced : Text → ℕ → Text → Type 0
Spaced s n t = (0 < length s) × (s ≡ blanks n ++ t)

spaced : (s : Text) → Gives (Spaced s) (blank_inline s)
unfolding blank_inline run1
spaced s = tested (run_len is_space s == 0) refl
  where
    tested : (v : Bool) → (run_len is_space s == 0) ≡ v → Gives (Spaced s) (and_then (if v then None else run is_space s) (λ x. pure (length x)))
    tested true e = tt
    tested false e =
        let n = run_len is_space s in
        let some : 0 < run_len is_space s = grind (arith, nat_tests) in
        let count : length (take n s) ≡ n = ap length (spaces_run s) ∙ length-replicate {A = ℕ} n 32 in
        (omega (arith, run_len-le is_space s), sym (take-append-drop n s) ∙ ap (λ x. x ++ drop n s) (spaces_run s ∙ ap blanks (sym count)))

-- ---- words

abbrev OfWords : Text → Words → Type 0
OfWords w x = OfPiece w (words x)

followed : (s : Text) (v : Bool) → (first s == 10) ≡ v → (rest : Text) × (s ≡ ending v ++ rest)
followed s true e = (drop 1 s, byte_here 10 s (omega arith) e)
followed s false e = (s, refl)

joins : (s b t u r e rest : Text) → s ≡ b ++ t → t ≡ u ++ r → r ≡ e ++ rest → s ≡ (b ++ (u ++ e)) ++ rest
joins s b t u r e rest h k l =
    h ∙ (ap (λ x. b ++ x) (k ∙ (ap (λ x. u ++ x) l ∙ sym (append_assoc u e rest))) ∙ sym (append_assoc b (u ++ e) rest))

-- words after the spaces of their line
words_here : (w s t : Text) (n : Option ℕ) → EndOf w s → s ≡ blanks (unwrap_or n 0) ++ t → Gives (Ended w (OfWords w)) (words_after n t)
unfolding words_after run1
words_here w s t n o e = tested (run_len is_text t == 0)
  where
    tested : (v : Bool) → Gives (Ended w (OfWords w)) (and_then (if v then None else run is_text t) (λ u. (λ r. Some (follows 10 r, r)) >>= (λ fed. pure (record { indent = n; bytes = u; fed = fed }))))
    tested true = tt
    tested false =
        let k = run_len is_text t in
        let cut : t ≡ take k t ++ drop k t = sym (take-append-drop k t) in
        let f = followed (drop k t) (follows 10 (drop k t)) refl in
        let b = blanks (unwrap_or n 0) in (
          later w t (take k t) (drop k t) (later w s b t o e) cut,
          slice_here w s (b ++ (take k t ++ ending (follows 10 (drop k t)))) f.0 o (joins s b t (take k t) (drop k t) (ending (follows 10 (drop k t))) f.0 e cut f.1),
        )

indented_here : (w s t : Text) (n : ℕ) → EndOf w s → s ≡ blanks n ++ t → Gives (Ended w (OfWords w)) (indented_text n t)
indented_here w s t n o e = tested (is_indented t)
  where
    tested : (v : Bool) → Gives (Ended w (OfWords w)) (if v then words_after (Some n) t else None)
    tested true = words_here w s t (Some n) o e
    tested false = tt

abbrev OfBlock : Text → ℕ × Words → Type 0
OfBlock w p = IsSlice w (10 ∷ []) × OfWords w p.1

block_text_here : (w s : Text) → EndOf w s → Gives (Ended w (OfBlock w)) (block_text s)
unfolding block_text
block_text_here w s o =
    gives-bind (Fed w) (Ended w (OfBlock w)) (blank_block s) _ (fed-blank_block w s o) (λ ends t q.
    gives-bind (Spaced t) (Ended w (OfBlock w)) (blank_inline t) _ (spaced t) (λ n r h.
    gives-bind (Ended w (OfWords w)) (Ended w (OfBlock w)) (indented_text n r) _ (indented_here w t r n q.0 h.1) (λ x u k. (k.0, (q.1 h.0, k.1)))))

-- ---- placeables

abbrev MaySpace : Text → Option ℕ → Text → Type 0
MaySpace s n t = s ≡ blanks (unwrap_or n 0) ++ t

may_space : (s : Text) → Gives (MaySpace s) (optional blank_inline s)
may_space s = gives-or (MaySpace s) ((Some <$> blank_inline) s) (pure None) s (gives-bind (Spaced s) (MaySpace s) (blank_inline s) (λ n. pure (Some n)) (spaced s) (λ n t h. h.1)) refl

-- the spaces before a placeable
abbrev Indented : Text → Text → Words → Text → Type 0
Indented w s x t = EndOf w t × OfWords w x × (s ≡ spaces x ++ t)

indent_here : (w s : Text) → EndOf w s → Gives (Indented w s) (indent s)
unfolding indent
indent_here w s o =
    gives-bind (MaySpace s) (Indented w s) (optional blank_inline s) _ (may_space s) (λ n t h.
    let b = blanks (unwrap_or n 0) in
    (later w s b t o h, slice_here w s (b ++ []) t o (h ∙ ap (λ x. x ++ t) (sym (append-nil b))), h))

block_here : (w : Text) (braces : Parser Expression) → Within w (SlicesOfExpression w) braces → braces [] ≡ None → (s : Text) → EndOf w s → Gives (Ended w (OfPieces w)) (block_placeable braces s)
unfolding block_placeable
block_here w braces b none s o =
    gives-bind (Fed w) (Ended w (OfPieces w)) (blank_block s) _ (fed-blank_block w s o) (λ ends t q.
    gives-bind (Indented w t) (Ended w (OfPieces w)) (indent t) _ (indent_here w t q.0) (λ x r h. hole_here ends x t r q.1 h))
  where
    hole_here : (ends : ℕ) (x : Words) (t r : Text) → (0 < length t → IsSlice w (10 ∷ [])) → Indented w t x r → Gives (Ended w (OfPieces w)) (and_then (braces r) (λ e. pure (line ends ∷ words x ∷ hole e ∷ [])))
    hole_here ends x t [] feed h = subst (λ v. Gives (Ended w (OfPieces w)) (and_then v (λ e. pure (line ends ∷ words x ∷ hole e ∷ [])))) (sym none) tt
    hole_here ends x t (c ∷ r) feed h =
        let some : 0 < length t = omega (arith, ap length h.2, length-append (spaces x) (c ∷ r)) in
        gives-bind (Ended w (SlicesOfExpression w)) (Ended w (OfPieces w)) (braces (c ∷ r)) _ (b.each (c ∷ r) h.0) (λ e u k. (k.0, (feed some, (h.1, (k.1, tt)))))

-- ---- patterns

slice-element : (w : Text) (braces : Parser Expression) → Within w (SlicesOfExpression w) braces → braces [] ≡ None → Within w (OfPieces w) (pattern_element braces)
unfolding pattern_element
slice-element w braces h none =
    within-or w (OfPieces w) _ _ (within-map w (OfWords w) (OfPieces w) (λ x. words x ∷ []) (words_after None) (record { each = λ s o. words_here w s s None o refl }) (λ x k. (k, tt)))
    (within-or w (OfPieces w) _ _ (within-map w (OfBlock w) (OfPieces w) (λ p. line p.0 ∷ words p.1 ∷ []) block_text (record { each = block_text_here w }) (λ p k. (k.0, (k.1, tt))))
    (within-or w (OfPieces w) _ (block_placeable braces) (within-map w (SlicesOfExpression w) (OfPieces w) (λ x. hole x ∷ []) braces h (λ x k. (k, tt))) (record { each = block_here w braces h none })))

slice-pieces : (w : Text) (braces : Parser Expression) → Within w (SlicesOfExpression w) braces → braces [] ≡ None → Within w (OfPieces w) (pieces braces)
unfolding pieces
slice-pieces w braces h none =
    let P = OfPieces w in
    within-bind w P P (pattern_element braces) _ (slice-element w braces h none) (λ prefix k.
    within-all w P P ◌++◌ (pattern_element braces) prefix (slice-element w braces h none) (λ ps qs a b. pieces_append w ps qs a b) k)

pub slice-pattern : (w : Text) (braces : Parser Expression) → Within w (SlicesOfExpression w) braces → braces [] ≡ None → Within w (SlicesOfPattern w) (pattern braces)
slice-pattern w braces h none = within-map w (OfPieces w) (SlicesOfPattern w) (λ ps. pattern_of (y.elements ps)) (pieces braces) (slice-pieces w braces h none) (λ ps k. slices_laid_out w ps k)
