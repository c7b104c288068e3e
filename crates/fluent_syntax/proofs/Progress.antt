-- How far a pattern was read: the pieces that stand after others.
use Rattle.std.proofs.Common.{◌≡◌, ◌==◌, ℕ, zero, suc, ◌+◌, ◌-◌, ◌<◌, ◌≤◌, Bool, true, false, nat_lt, List, [], ◌∷◌, ◌++◌, length, map, take, drop, Some, None, refl, sym, ap, ◌∙◌, subst, arith, inl, inr, append-nil, append_assoc, length-append, length-take, length-drop}
use Rattle.std.proofs.lemmas.Bool.{cases_Bool}
use Rattle.std.proofs.lemmas.Bool.Decides.{nat_tests}
use Rattle.std.proofs.lemmas.List.{map-append, length-map}
use Rattle.std.specs.List.{prefix_len}
use Rattle.fluent_text.specs.Parser.{Read, Parser, ◌<$>◌, ◌<|>◌, otherwise, pure, skip, many_from, turn, go_on, run, run1, run_len, byte, first}
use Rattle.fluent_ast.specs.Tree.{Text, Expression, Element, text, placeable, pattern_of}
use Rattle.fluent_text.specs.Lexical.{is_text, blank, blank_inline, at_end, line_break, line_end, blank_line, blank_block}
use Rattle.fluent_syntax.specs.Layout.{Words, Piece, line, words, hole, unless_empty, lines, smallest_indent, is_feed, trim_last, elements}
use Rattle.fluent_syntax.specs.Pieces.{pattern, follows, is_indented, indented_text, words_after, inline_text, block_text, indent, block_placeable, pattern_element, pieces}
use Rattle.fluent_syntax.specs.Expressions.{level, expression, inline_placeable}
use Rattle.fluent_syntax.specs.Inside.Progress.{goes_on, Reached, ended, piece_of, Plain, InLine, text_pieces, hole_pieces}
use Rattle.fluent_text.specs.Facts.Runs.{run_len-le}
use Rattle.fluent_text.specs.Facts.Turns.{more}
use Rattle.fluent_syntax.specs.Facts.OneLine.{stops, stays, not_placeable, no_words, some_words, no_feed}
use Rattle.fluent_syntax.specs.Facts.Prefixes.{Takes, takes-bind, takes-then, takes-byte, takes-pure, takes-if, Lessens, Eats, eats-bind, eats-then, eats-map, eats-or, eats-byte, eats-run1}
use Rattle.fluent_syntax.specs.Facts.LexicalPrefixes.{takes-blanks, takes-blank_inline, takes-words_after, takes-indent}
use Rattle.fluent_syntax.specs.Facts.Rules.{eats-blank_block}
use Rattle.fluent_syntax.specs.Facts.Sound.{takes-sound}
use Rattle.fluent_syntax.specs.WellFormed.{IsWellFormed}
use Rattle.fluent_syntax.specs.Facts.Trees.{sound-braces, takes-expression}

-- ---- turns to spare change nothing

go_same : {A B : Type 0} (add : B → A → B) (p : Parser A) (k j : ℕ) (acc : B) (s : List ℕ) (q : A × List ℕ) (v : Bool) → nat_lt (length q.1) (length s) ≡ v
    → ((b : B) (t : List ℕ) → length t < length s → many_from add p k b t ≡ many_from add p j b t)
    → go_on add (many_from add p k) acc s q v ≡ go_on add (many_from add p j) acc s q v
go_same add p k j acc s q true e ih = ih (add acc q.0) q.1 (grind (arith, nat_tests))
go_same add p k j acc s q false e ih = refl

turn_same : {A B : Type 0} (add : B → A → B) (p : Parser A) (k j : ℕ) (acc : B) (s : List ℕ) (r : Read A)
    → ((b : B) (t : List ℕ) → length t < length s → many_from add p k b t ≡ many_from add p j b t)
    → turn add (many_from add p k) acc s r ≡ turn add (many_from add p j) acc s r
turn_same add p k j acc s None ih = refl
turn_same add p k j acc s (Some q) ih = go_same add p k j acc s q (nat_lt (length q.1) (length s)) refl ih

turn_none : {A B : Type 0} (add : B → A → B) (m : B → Parser B) (acc : B) (s : List ℕ) (r : Read A) → length s ≤ 0 → Some (acc, s) ≡ turn add m acc s r
turn_none add m acc s None h = refl
turn_none add m acc s (Some q) h = let test : nat_lt (length q.1) (length s) ≡ false = grind (arith, nat_tests) in rw test refl

pub same_turns : {A B : Type 0} (add : B → A → B) (p : Parser A) (k j : ℕ) (acc : B) (s : List ℕ) → length s ≤ k → length s ≤ j → many_from add p k acc s ≡ many_from add p j acc s
unfolding many_from
same_turns add p zero zero acc s h i = refl
same_turns add p zero (suc j) acc s h i = turn_none add (many_from add p j) acc s (p s) h
same_turns add p (suc k) zero acc s h i = sym (turn_none add (many_from add p k) acc s (p s) i)
same_turns add p (suc k) (suc j) acc s h i = turn_same add p k j acc s (p s) (λ b t less. same_turns add p k j b t (omega arith) (omega arith))

-- ---- a turn more, and the end

abbrev element : ℕ → Parser (List Piece)
element n = pattern_element (level n).braces

first_step : (n : ℕ) (s t : List ℕ) (qs : List Piece) → element n s ≡ Some (qs, t) → pieces (level n).braces s ≡ goes_on n qs t
unfolding pieces
first_step n s t qs e = rw e refl

pub step : (n : ℕ) (whole : List ℕ) (ps : List Piece) (s t : List ℕ) (q : Piece) (qs : List Piece) → Reached n whole ps s → element n s ≡ Some (q ∷ qs, t) → length t < length s → Reached n whole (ps ++ q ∷ qs) t
step n whole [] s t q qs h e less = subst (λ w. pieces (level n).braces w ≡ goes_on n (q ∷ qs) t) h (first_step n s t (q ∷ qs) e)
step n whole (p ∷ ps) s t q qs h e less =
    h ∙ (more ◌++◌ (element n) (length s) (length s - 1) (p ∷ ps) s (q ∷ qs) t (omega arith) e less
    ∙ same_turns ◌++◌ (element n) (length s - 1) (length t) (p ∷ (ps ++ q ∷ qs)) t (omega arith) (omega arith))

first_stop : (n : ℕ) (s : List ℕ) → element n s ≡ None → pieces (level n).braces s ≡ None
unfolding pieces
first_stop n s e = rw e refl

pub stop : (n : ℕ) (whole : List ℕ) (ps : List Piece) (s : List ℕ) → Reached n whole ps s → element n s ≡ None → pieces (level n).braces whole ≡ ended ps s
stop n whole [] s h e = subst (λ w. pieces (level n).braces w ≡ None) h (first_stop n s e)
stop n whole (p ∷ ps) s h e = h ∙ stays (element n) (p ∷ ps) s e

-- ---- what stands next

text_piece : (n : ℕ) (s : List ℕ) → 0 < run_len is_text s → element n s ≡ Some (words (record { indent = None; bytes = take (run_len is_text s) s; fed = follows 10 (drop (run_len is_text s) s) }) ∷ [], drop (run_len is_text s) s)
unfolding pattern_element
text_piece n s h = rw (some_words s h) refl

no_text : (s : List ℕ) → (first s == 123) ≡ true → run_len is_text s ≡ 0
no_text [] e = refl
no_text (c ∷ cs) e = let at : is_text c (first cs) ≡ false = grind (arith, nat_tests) in rw at refl

not_end : (s : List ℕ) → 0 < length s → at_end s ≡ None
not_end s h = let some : (length s == 0) ≡ false = grind (arith, nat_tests) in rw some refl

no_blank_block : (s : List ℕ) → (first s == 123) ≡ true → blank_block s ≡ None
unfolding blank_block blank_line line_end line_break blank_inline run1 byte
no_blank_block [] e = absurd (grind (arith, nat_tests))
no_blank_block (c ∷ cs) e =
    let a : (c == 32) ≡ false = grind (arith, nat_tests) in
    let b : (c == 13) ≡ false = grind (arith, nat_tests) in
    let d : (c == 10) ≡ false = grind (arith, nat_tests) in
    rw (a, b, d, not_end (c ∷ cs) (omega arith)) refl

hole_piece : (n : ℕ) (s t : List ℕ) (x : Expression) → (first s == 123) ≡ true → (level n).braces s ≡ Some (x, t) → element n s ≡ Some (hole x ∷ [], t)
unfolding pattern_element block_text
hole_piece n s t x b e = rw (no_words None s (no_text s b), no_blank_block s b, e) refl

pub no_hole : (n : ℕ) (s : List ℕ) → (first s == 123) ≡ true → (level n).braces s ≡ None → element n s ≡ None
unfolding pattern_element block_text block_placeable
no_hole n s b e = rw (no_words None s (no_text s b), no_blank_block s b, e, no_blank_block s b) refl

-- a placeable takes a byte at least
eats-braces : (n : ℕ) → Eats (level n).braces
unfolding level inline_placeable
eats-braces zero = record { less = λ s h. tt }
eats-braces (suc n) = eats-then (byte 123) _ (eats-byte 123) (takes-then (skip blank) _ takes-blanks (takes-bind (expression (level n)) _ (takes-expression n) (λ x. takes-then (skip blank) _ takes-blanks (takes-then (byte 125) (pure x) (takes-byte 125) (takes-pure x)))))

pub placeable_shorter : (n : ℕ) (s t : List ℕ) (x : Expression) → (first s == 123) ≡ true → (level n).braces s ≡ Some (x, t) → length t < length s
placeable_shorter n [] t x b e = absurd (grind (arith, nat_tests))
placeable_shorter n (c ∷ cs) t x b e = subst (Lessens (c ∷ cs)) e ((eats-braces n).less (c ∷ cs) (omega arith))

-- ---- what a run of text gives

run_parts : (s t after : List ℕ) → run is_text s ≡ Some (t, after) → (t ≡ take (run_len is_text s) s) × (after ≡ drop (run_len is_text s) s)
run_parts s t after e = (sym (ap left e), sym (ap right e))
  where
    left : Read Text → Text
    left None = []
    left (Some p) = p.0

    right : Read Text → List ℕ
    right None = []
    right (Some p) = p.1

pub after_run : (s t after : List ℕ) → run is_text s ≡ Some (t, after) → run_len is_text after ≡ 0
after_run s t after e = ap (run_len is_text) (run_parts s t after e).1 ∙ stops is_text s

empty_run : (s after : List ℕ) → run is_text s ≡ Some ([], after) → after ≡ s
empty_run s after e =
    let parts = run_parts s [] after e in
    let none : run_len is_text s ≡ 0 = omega (arith, ap length parts.0, length-take (run_len is_text s) s, run_len-le is_text s) in
    parts.1 ∙ ap (λ k. drop k s) none

full_run : (s after t : List ℕ) (b : ℕ) → run is_text s ≡ Some (b ∷ t, after) → 0 < run_len is_text s
full_run s after t b e = omega (arith, ap length (run_parts s (b ∷ t) after e).0, length-take (run_len is_text s) s)

piece_at : (n : ℕ) (s t after : List ℕ) (b : ℕ) → run is_text s ≡ Some (b ∷ t, after) → element n s ≡ Some (words (record { indent = None; bytes = b ∷ t; fed = follows 10 after }) ∷ [], after)
piece_at n s t after b e =
    let parts = run_parts s (b ∷ t) after e in
    rw (parts.0, parts.1) (text_piece n s (full_run s after t b e))

shorter_run : (s t after : List ℕ) (b : ℕ) → run is_text s ≡ Some (b ∷ t, after) → length after < length s
shorter_run s t after b e = omega (arith, full_run s after t b e, run_len-le is_text s, ap length (run_parts s (b ∷ t) after e).1, length-drop (run_len is_text s) s)

-- a text before a brace, then what the brace begins
pub text_reached : (n : ℕ) (whole : List ℕ) (es : List Element) (s t after : List ℕ) → Reached n whole (map piece_of es) s → run is_text s ≡ Some (t, after) → (first after == 123) ≡ true → Reached n whole (map piece_of (es ++ unless_empty t)) after
text_reached n whole es s [] after h e b = rw (append-nil es, empty_run s after e) h
text_reached n whole es s (c ∷ t) after h e b =
    let alone : follows 10 after ≡ false = grind (arith, nat_tests) in
    let at : element n s ≡ Some (piece_of (text (c ∷ t)) ∷ [], after) = piece_at n s t after c e ∙ ap (λ f. Some (words (record { indent = None; bytes = c ∷ t; fed = f }) ∷ [], after)) alone in
    rw (map-append piece_of es (text (c ∷ t) ∷ [])) (step n whole (map piece_of es) s after (piece_of (text (c ∷ t))) [] h at (shorter_run s t after c e))

pub hole_reached : (n : ℕ) (whole : List ℕ) (es : List Element) (s t : List ℕ) (x : Expression) → Reached n whole (map piece_of es) s → (first s == 123) ≡ true → (level n).braces s ≡ Some (x, t) → Reached n whole (map piece_of (es ++ placeable x ∷ [])) t
hole_reached n whole es s t x h b e =
    rw (map-append piece_of es (placeable x ∷ [])) (step n whole (map piece_of es) s t (hole x) [] h (hole_piece n s t x b e) (placeable_shorter n s t x b e))

-- ---- the elements of one line

pub plain-append : (es fs : List Element) → Plain es → Plain fs → Plain (es ++ fs)
plain-append [] fs h k = k
plain-append (text u ∷ es) fs h k = (h.0, h.1, plain-append es fs h.2 k)
plain-append (placeable x ∷ es) fs h k = plain-append es fs h k

starts_text : (s : List ℕ) → 0 < run_len is_text s → (first s == 10) ≡ false
starts_text [] h = absurd (omega arith)
starts_text (c ∷ cs) h =
    elim (cases_Bool (is_text c (first cs))) [
      | inl pass ↦ no_feed c (first cs) pass
      | inr stop ↦ let h2 = rw stop at h in absurd (omega arith)
    ]

first_taken : (s : List ℕ) (k b : ℕ) (t : List ℕ) → b ∷ t ≡ take k s → b ≡ first s
first_taken s zero b t e = absurd (omega (arith, ap length e))
first_taken [] (suc k) b t e = absurd (omega (arith, ap length e))
first_taken (c ∷ cs) (suc k) b t e = ap first e

pub plain-run : (s t after : List ℕ) → run is_text s ≡ Some (t, after) → Plain (unless_empty t)
plain-run s [] after e = tt
plain-run s (b ∷ t) after e =
    let parts = run_parts s (b ∷ t) after e in
    let not_feed : (b == 10) ≡ false = ap (λ c. c == 10) (first_taken s (run_len is_text s) b t parts.0) ∙ starts_text s (full_run s after t b e) in
    (omega arith, rw not_feed refl, tt)

lines-plain : (es : List Element) (ps : List Piece) → Plain es → lines 0 (map piece_of es ++ ps) ≡ es ++ lines 0 ps
unfolding lines
lines-plain [] ps h = refl
lines-plain (text [] ∷ es) ps h = absurd (omega (arith, h.0))
lines-plain (text (b ∷ bs) ∷ es) ps h = ap (λ w. text (b ∷ bs) ∷ w) (lines-plain es ps h.2)
lines-plain (placeable x ∷ es) ps h = ap (λ w. placeable x ∷ w) (lines-plain es ps h)

indents-plain : (es : List Element) (ps : List Piece) → smallest_indent (map piece_of es ++ ps) ≡ smallest_indent ps
indents-plain [] ps = refl
indents-plain (text u ∷ es) ps = indents-plain es ps
indents-plain (placeable x ∷ es) ps = indents-plain es ps

no_feeds : (es : List Element) → Plain es → prefix_len is_feed es ≡ 0
no_feeds [] h = refl
no_feeds (text u ∷ es) h = rw h.1 refl
no_feeds (placeable x ∷ es) h = refl

laid_out : (es fs : List Element) (ps : List Piece) → Plain es → Plain fs → smallest_indent ps ≡ None → lines 0 ps ≡ fs → elements (map piece_of es ++ ps) ≡ trim_last (es ++ fs)
unfolding elements
laid_out es fs ps h k i l =
    rw (indents-plain es ps ∙ i, lines-plain es ps h, l, no_feeds (es ++ fs) (plain-append es fs h k)) refl

last_words : (u : Text) (fed : Bool) → lines 0 (words (record { indent = None; bytes = u; fed = fed }) ∷ []) ≡ unless_empty u
unfolding lines
last_words [] true = refl
last_words [] false = refl
last_words (b ∷ bs) true = refl
last_words (b ∷ bs) false = refl

nothing : (c : ℕ) → lines c [] ≡ []
unfolding lines
nothing c = refl

-- elements that are a whole pattern
abbrev pub AreWhole : ℕ → List ℕ → List Element → List ℕ → Type 0
AreWhole n whole es rest = (ps : List Piece) × (pieces (level n).braces whole ≡ ended ps rest) × (elements ps ≡ trim_last es) × (length ps ≡ length es)

pub whole_here : (n : ℕ) (whole : List ℕ) (es : List Element) (s : List ℕ) → Reached n whole (map piece_of es) s → Plain es → element n s ≡ None → AreWhole n whole es s
whole_here n whole es s h plain none = (
  map piece_of es,
  stop n whole (map piece_of es) s h none,
  ap elements (sym (append-nil (map piece_of es))) ∙ (laid_out es [] [] plain tt refl (nothing 0) ∙ ap trim_last (append-nil es)),
  length-map es piece_of,
)

-- with the text that ends the line
pub whole_line : (n : ℕ) (whole : List ℕ) (es : List Element) (s t after : List ℕ) → Reached n whole (map piece_of es) s → Plain es → run is_text s ≡ Some (t, after) → element n after ≡ None → AreWhole n whole (es ++ unless_empty t) after
whole_line n whole es s [] after h plain e none = rw (append-nil es) (whole_here n whole es after (rw (empty_run s after e) h) plain none)
whole_line n whole es s (b ∷ t) after h plain e none =
    let w = words (record { indent = None; bytes = b ∷ t; fed = follows 10 after }) in (
      map piece_of es ++ w ∷ [],
      stop n whole (map piece_of es ++ w ∷ []) after (step n whole (map piece_of es) s after w [] h (piece_at n s t after b e) (shorter_run s t after b e)) none,
      laid_out es (text (b ∷ t) ∷ []) (w ∷ []) plain (plain-run s (b ∷ t) after e) refl (last_words (b ∷ t) (follows 10 after)),
      length-append (map piece_of es) (w ∷ []) ∙ (ap (λ k. k + 1) (length-map es piece_of) ∙ sym (length-append es (text (b ∷ t) ∷ []))),
    )

-- ---- one element more on the line

-- a text before a brace
pub text_in_line : (n : ℕ) (whole : List ℕ) (es : List Element) (s t after : List ℕ) → InLine n whole es s → run is_text s ≡ Some (t, after) → (first after == 123) ≡ true → InLine n whole (es ++ unless_empty t) after
text_in_line n whole es s t after h e b = (text_reached n whole es s t after h.0 e b, plain-append es (unless_empty t) h.1 (plain-run s t after e))

-- the text that a pattern begins with, before a brace
pub text_first : (n : ℕ) (s t after : List ℕ) → run is_text s ≡ Some (t, after) → (first after == 123) ≡ true → InLine n s (unless_empty t) after
text_first n s t after e b = text_in_line n s [] s t after (refl, tt) e b

-- the placeable that the brace begins
pub hole_in_line : (n : ℕ) (whole : List ℕ) (es : List Element) (s t : List ℕ) (x : Expression) → InLine n whole es s → (first s == 123) ≡ true → (level n).braces s ≡ Some (x, t) → InLine n whole (es ++ placeable x ∷ []) t
hole_in_line n whole es s t x h b e = (hole_reached n whole es s t x h.0 b e, plain-append es (placeable x ∷ []) h.1 tt)

-- the text that ends the pattern
pub line_ended : (n : ℕ) (whole : List ℕ) (es : List Element) (s t after : List ℕ) → InLine n whole es s → run is_text s ≡ Some (t, after) → element n after ≡ None → AreWhole n whole (es ++ unless_empty t) after
line_ended n whole es s t after h e none = whole_line n whole es s t after h.0 h.1 e none

-- or no placeable after all
pub brace_ended : (n : ℕ) (whole : List ℕ) (es : List Element) (s : List ℕ) → InLine n whole es s → (first s == 123) ≡ true → (level n).braces s ≡ None → AreWhole n whole es s
brace_ended n whole es s h b e = whole_here n whole es s h.0 h.1 (no_hole n s b e)

-- nothing stands on the line
pub line_empty : (n : ℕ) (s t after : List ℕ) → length t ≤ 0 → run is_text s ≡ Some (t, after) → element n after ≡ None → AreWhole n s [] after
line_empty n s [] after h e none = line_ended n s [] s [] after (refl, tt) e none
line_empty n s (b ∷ t) after h e none = absurd (omega arith)

pub is_equal : (a b : ℕ) → a ≡ b → (a == b) ≡ true
is_equal a b e = grind (arith, nat_tests)

-- ---- elements that may stand on other lines

takes-braces : (n : ℕ) → Takes (level n).braces
takes-braces n = takes-sound (λ e. IsWellFormed e n) (level n).braces (sound-braces n)

eats-words : Eats (words_after None)
unfolding words_after
eats-words = eats-bind (run1 is_text) _ (eats-run1 is_text) (λ u. takes-bind (λ s. Some (follows 10 s, s)) _ (record { prefix = λ s. ([], refl) }) (λ fed. takes-pure (record { indent = None; bytes = u; fed = fed })))

eats-block_text : Eats block_text
unfolding block_text
eats-block_text = eats-bind blank_block _ eats-blank_block (λ ends. takes-bind blank_inline _ takes-blank_inline (λ n. takes-bind (indented_text n) _ (takes-if is_indented (words_after (Some n)) (takes-words_after (Some n))) (λ w. takes-pure (ends, w))))

eats-block_placeable : (n : ℕ) → Eats (block_placeable (level n).braces)
unfolding block_placeable
eats-block_placeable n = eats-bind blank_block _ eats-blank_block (λ ends. takes-bind indent _ takes-indent (λ w. takes-bind (level n).braces _ (takes-braces n) (λ x. takes-pure (line ends ∷ words w ∷ hole x ∷ []))))

eats-element : (n : ℕ) → Eats (element n)
unfolding pattern_element
eats-element n = eats-or _ _ (eats-map (λ w. words w ∷ []) (words_after None) eats-words) (eats-or _ _ (eats-map (λ p. line p.0 ∷ words p.1 ∷ []) block_text eats-block_text) (eats-or _ _ (eats-map (λ x. hole x ∷ []) (level n).braces (eats-braces n)) (eats-block_placeable n)))

pub element_shorter : (n : ℕ) (s t : List ℕ) (more : List Piece) → 0 < length s → element n s ≡ Some (more, t) → length t < length s
element_shorter n s t more h e = subst (Lessens s) e ((eats-element n).less s h)

pub nothing_left : (n : ℕ) (s : List ℕ) → length s ≤ 0 → element n s ≡ None
unfolding pattern_element block_text block_placeable indent words_after run1 blank_block blank_line blank_inline line_end line_break byte many_from
nothing_left n [] h = rw (not_placeable n [] refl, not_placeable n [] refl) refl
nothing_left n (c ∷ cs) h = absurd (omega arith)

first_of : (s : List ℕ) (a : Read (List Piece)) (p q : Parser (List Piece)) → otherwise (otherwise a p s) q s ≡ otherwise a (p <|> q) s
first_of s None p q = refl
first_of s (Some x) p q = refl

-- a text, else a placeable
pub element_is : (n : ℕ) (s : List ℕ) → element n s ≡ otherwise (text_pieces s) (hole_pieces n) s
unfolding pattern_element
element_is n s = sym (first_of s (((λ w. words w ∷ []) <$> inline_text) s) ((λ p. line p.0 ∷ words p.1 ∷ []) <$> block_text) (hole_pieces n))

-- ---- each of them, beside what the reader found

-- at a brace stands neither
pub no_text_here : (s : List ℕ) → (first s == 123) ≡ true → text_pieces s ≡ None
unfolding block_text
no_text_here s e = rw (no_words None s (no_text s e), no_blank_block s e) refl

pub text_here : (s t : List ℕ) (w : Words) → words_after None s ≡ Some (w, t) → text_pieces s ≡ Some (words w ∷ [], t)
text_here s t w e = rw e refl

pub text_below : (s t : List ℕ) (n : ℕ) (w : Words) → words_after None s ≡ None → block_text s ≡ Some ((n, w), t) → text_pieces s ≡ Some (line n ∷ words w ∷ [], t)
text_below s t n w e f = rw (e, f) refl

pub hole_here : (n : ℕ) (s t : List ℕ) (x : Expression) → (level n).braces s ≡ Some (x, t) → hole_pieces n s ≡ Some (hole x ∷ [], t)
hole_here n s t x e = rw e refl

pub hole_below : (n : ℕ) (s l u t : List ℕ) (k : ℕ) (w : Words) (x : Expression) → (level n).braces s ≡ None → blank_block s ≡ Some (k, l) → indent l ≡ Some (w, u) → (level n).braces u ≡ Some (x, t)
    → hole_pieces n s ≡ Some (line k ∷ words w ∷ hole x ∷ [], t)
unfolding block_placeable
hole_below n s l u t k w x e f g h = rw (e, f, g, h) refl

pub added : {A B : Type 0} (view : A → B) (old new : List A) (x : A) → new ≡ old ++ x ∷ [] → map view new ≡ map view old ++ view x ∷ []
added view old new x e = ap (map view) e ∙ map-append view old (x ∷ [])

pub added_two : {A B : Type 0} (view : A → B) (old mid new : List A) (x y : A) → mid ≡ old ++ x ∷ [] → new ≡ mid ++ y ∷ [] → map view new ≡ map view old ++ view x ∷ view y ∷ []
added_two view old mid new x y e f = added view mid new y f ∙ (ap (λ w. w ++ view y ∷ []) (added view old mid x e) ∙ append_assoc (map view old) (view x ∷ []) (view y ∷ []))

pub added_three : {A B : Type 0} (view : A → B) (old mid late new : List A) (x y z : A) → mid ≡ old ++ x ∷ [] → late ≡ mid ++ y ∷ [] → new ≡ late ++ z ∷ [] → map view new ≡ map view old ++ view x ∷ view y ∷ view z ∷ []
added_three view old mid late new x y z e f g = added view late new z g ∙ (ap (λ w. w ++ view z ∷ []) (added_two view old mid late x y e f) ∙ append_assoc (map view old) (view x ∷ view y ∷ []) (view z ∷ []))

pub as_pieces-next : {A : Type 0} (view : A → Element) (xs : List A) (x : A) → map piece_of (map view (xs ++ x ∷ [])) ≡ map piece_of (map view xs) ++ piece_of (view x) ∷ []
as_pieces-next view xs x = ap (map piece_of) (map-append view xs (x ∷ [])) ∙ map-append piece_of (map view xs) (view x ∷ [])

-- ---- the pattern itself

pub pattern_read : (n : ℕ) (whole t : List ℕ) (ps : List Piece) → pieces (level n).braces whole ≡ Some (ps, t) → pattern (level n).braces whole ≡ Some (pattern_of (elements ps), t)
pattern_read n whole t ps e = rw e refl

pub pattern_ended : (n : ℕ) (whole t : List ℕ) (ps : List Piece) → 0 < length ps → pieces (level n).braces whole ≡ ended ps t → pattern (level n).braces whole ≡ Some (pattern_of (elements ps), t)
pattern_ended n whole t [] h e = absurd (omega arith)
pattern_ended n whole t (p ∷ ps) h e = pattern_read n whole t (p ∷ ps) e

pub pattern_absent : (n : ℕ) (whole t : List ℕ) (ps : List Piece) → length ps ≤ 0 → pieces (level n).braces whole ≡ ended ps t → pattern (level n).braces whole ≡ None
pattern_absent n whole t [] h e = rw e refl
pattern_absent n whole t (p ∷ ps) h e = absurd (omega arith)
