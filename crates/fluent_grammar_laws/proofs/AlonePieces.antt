-- Elements of patterns read the same where what stands after them is taken away, but for the note of what follows.
use Rattle.std.proofs.Common.{◌≡◌, ◌==◌, ◌&&◌, ℕ, zero, suc, ◌+◌, ◌-◌, ◌<◌, ◌≤◌, Bool, true, false, List, [], ◌∷◌, ◌++◌, length, Option, Some, None, if◌then◌else◌, refl, sym, ap, ◌∙◌, subst, append_assoc, nat_lt, arith, length-append, eqb-true, inl, inr}
use Rattle.std.specs.Prelude.{unwrap_or, replicate}
use Rattle.std.proofs.lemmas.Bool.{cases_Bool}
use Rattle.std.proofs.lemmas.Bool.Decides.{nat_tests}
use Rattle.std.proofs.lemmas.List.{append_cancel_right}
use Rattle.fluent_syntax.specs.Facts.OneLine.{no_words, some_words}
use Rattle.fluent_ast.specs.Tree.{Expression, placeable, pattern_of}
use Rattle.fluent_text.specs.Parser.{Read, Parser, ◌>>=◌, ◌<$>◌, ◌<|>◌, and_then, otherwise, pure, skip, optional, many_from, turn, go_on, count, one_more, run_len, run1, byte, first}
use Rattle.fluent_text.specs.Lexical.{is_text, blank_inline, line_break, line_end, blank_line, blank_block}
use Rattle.fluent_syntax.specs.Layout.{Words, Piece, line, words, hole, lines, elements, smaller, indent_in, smallest_indent, common_indent, starts_line, joined, dedented, feed, trim_start, trim_last}
use Rattle.fluent_syntax.specs.Pieces.{follows, words_after, inline_text, is_indented, indented_text, block_text, indent, block_placeable, pattern_element, pieces, pattern}
use Rattle.fluent_syntax.specs.Expressions.{level}
use Rattle.fluent_grammar_laws.specs.ReadLaws.{taken_words, taken_piece}
use Rattle.fluent_text.specs.Facts.Turns.{more as a_turn}
use Rattle.fluent_syntax.specs.Facts.Prefixes.{TakesTo, Takes, takes-bind, takes-map, takes-or, takes-if, takes-many, takes-all, no_longer}
use Rattle.fluent_syntax.specs.Facts.LexicalPrefixes.{takes-words_after, takes-blank_inline, more_lines, takes-more_lines}
use Rattle.fluent_grammar_laws.proofs.Near.{is_read, none_of}
use Rattle.fluent_grammar_laws.proofs.Known.{lefts, values, both, unread}
use Rattle.fluent_grammar_laws.proofs.Leads.{first_read, either_read, true_false}
use Rattle.fluent_grammar_laws.proofs.KnownPatterns.{Braces, braces_of, firm, block_rest, placeable_rest, text_line, placeable_line, words_some, text_piece, block_piece, hole_piece, clash-hole, clash-block}
use Rattle.fluent_grammar_laws.proofs.Alone.{Seam, Any, Alone, alone-weaker, alone-any, alone-bind, alone-then, alone-pure, alone-map, Way, alone-or, way-lasts, way-clash, lasts-map, Rests, rested, alone-many, enters-any, Easy, Still, alone-run1}
use Rattle.fluent_grammar_laws.proofs.AloneRules.{nowhere, alone-spaces, alone-blank_inline, lasts-blank_inline, alone-line_end, alone-braces}

-- ---- the note of what follows

-- words as they are read before a text of their own, or before none
abbrev pub hushed : List ℕ → Words → Words
hushed [] w = taken_words w
hushed (a ∷ v) w = w

-- the same of the last piece
abbrev pub quieted : List Piece → List Piece
quieted [] = []
quieted (p ∷ []) = taken_piece p ∷ []
quieted (p ∷ q ∷ ps) = p ∷ quieted (q ∷ ps)

abbrev pub quiet_at : List ℕ → List Piece → List Piece
quiet_at [] ps = quieted ps
quiet_at (a ∷ v) ps = ps

-- no carriage return is left before a line feed
abbrev pub NoCut : Seam
NoCut v w = (v ≡ 13 ∷ []) → (first w ≡ 10) → ⊥

-- as `Alone`, but for what a function changes
pub record AloneBy {A : Type 0} (g : List ℕ → A → A) (at : Seam) (p : Parser A) : Type 0 where
  pub alone_by : (s : List ℕ) (x : A) (v w : List ℕ) → at v w → p (s ++ w) ≡ Some (x, v ++ w) → p s ≡ Some (g v x, v)
  pub takes_by : Takes p

by-alone : {A : Type 0} (g : List ℕ → A → A) (at : Seam) (p : Parser A) → Alone at p → ((s : List ℕ) (x : A) (v : List ℕ) → p s ≡ Some (x, v) → g v x ≡ x) → AloneBy g at p
by-alone g at p h f = record {
  alone_by = λ s x v w here e. let k = h.alone s x v w here e in k ∙ ap (λ y. Some (y, v)) (sym (f s x v k));
  takes_by = h.takes;
}

by-bind : {A B : Type 0} (g : List ℕ → B → B) (at of : Seam) (p : Parser A) (f : A → Parser B) → Alone at p → ((a : A) → AloneBy g of (f a))
    → ((a : A) (x : B) (t v w : List ℕ) → f a (t ++ w) ≡ Some (x, v ++ w) → f a t ≡ Some (g v x, v) → of v w → at t w) → AloneBy g of (p >>= f)
by-bind g at of p f h k link = record {
  alone_by = λ s x v w here e.
      let (q, i, j) = first_read (p (s ++ w)) f (x, v ++ w) e in
      let fr : (u : List ℕ) × (q.1 ≡ u ++ (v ++ w)) = subst (TakesTo q.1) j ((k q.0).takes_by.prefix q.1) in
      let t = fr.0 ++ v in
      let z : q.1 ≡ t ++ w = fr.1 ∙ sym (append_assoc fr.0 v w) in
      let before : f q.0 (t ++ w) ≡ Some (x, v ++ w) = ap (f q.0) (sym z) ∙ j in
      let second : f q.0 t ≡ Some (g v x, v) = (k q.0).alone_by t x v w here before in
      let prefix : p s ≡ Some (q.0, t) = h.alone s q.0 t w (link q.0 x t v w before second here) (i ∙ ap (λ r. Some (q.0, r)) z) in
      ap (λ r. and_then r f) prefix ∙ second;
  takes_by = takes-bind p f h.takes (λ a. (k a).takes_by);
}

by-map : {A B : Type 0} (g : List ℕ → A → A) (k : List ℕ → B → B) (at : Seam) (f : A → B) (p : Parser A) → AloneBy g at p → ((v : List ℕ) (x : A) → f (g v x) ≡ k v (f x)) → AloneBy k at (f <$> p)
by-map g k at f p h same = record {
  alone_by = λ s y v w here e.
      let (q, i, j) = first_read (p (s ++ w)) (λ x. pure (f x)) (y, v ++ w) e in
      let z : q.1 ≡ v ++ w = lefts (f q.0) y q.1 (v ++ w) j in
      let one : p s ≡ Some (g v q.0, v) = h.alone_by s q.0 v w here (i ∙ ap (λ r. Some (q.0, r)) z) in
      ap (λ r. and_then r (λ x. pure (f x))) one ∙ ap (λ b. Some (b, v)) (same v q.0 ∙ ap (k v) (values (f q.0) y q.1 (v ++ w) j));
  takes_by = takes-map f p h.takes_by;
}

by-or : {A : Type 0} (g : List ℕ → A → A) (at : Seam) (p q : Parser A) → AloneBy g at p → AloneBy g at q → Way at p q → AloneBy g at (p <|> q)
by-or {A = A} g at p q h k way = record { alone_by = λ s x v w here e. by s x v w here (p (s ++ w)) refl e; takes_by = takes-or p q h.takes_by k.takes_by }
  where
    by : (s : List ℕ) (x : A) (v w : List ℕ) → at v w → (r : Read A) → p (s ++ w) ≡ r → otherwise r q (s ++ w) ≡ Some (x, v ++ w) → otherwise (p s) q s ≡ Some (g v x, v)
    by s x v w here None e f = let second = k.alone_by s x v w here f in ap (λ r. otherwise r q s) (way s (g v x) v w here e second) ∙ second
    by s x v w here (Some z) e f = ap (λ r. otherwise r q s) (h.alone_by s x v w here (e ∙ f))

-- ---- texts of a line

easy-text : Easy is_text
easy-text = record { easy = λ a n e. grind (arith, nat_tests) }

still-text : (v w : List ℕ) → NoCut v w → Still is_text v w
still-text v w here a e f =
    elim (cases_Bool (a == 13)) [
      | inl return ↦ elim (cases_Bool (first w == 10)) [
        | inl feed ↦ absurd (here (e ∙ ap (λ c. c ∷ []) (eqb-true a 13 return)) (eqb-true (first w) 10 feed))
        | inr none ↦ grind (arith, nat_tests)
      ]
      | inr other ↦ grind (arith, nat_tests)
    ]

alone-text : Alone NoCut (run1 is_text)
alone-text = alone-weaker (Still is_text) NoCut (run1 is_text) still-text (alone-run1 is_text easy-text)

noted : Option ℕ → List ℕ → Parser Words
noted i u = (λ s. Some (follows 10 s, s)) >>= (λ fed. pure (record { indent = i; bytes = u; fed = fed }))

by-noted : (i : Option ℕ) (u : List ℕ) → AloneBy hushed NoCut (noted i u)
unfolding noted
by-noted i u = record { alone_by = λ s x v w here e. at s x v w e; takes_by = record { prefix = λ s. ([], refl) } }
  where
    by : (s : List ℕ) (x : Words) (v w : List ℕ) → ◌≡◌ {A = Read Words} (Some (record { indent = i; bytes = u; fed = follows 10 (s ++ w) }, s ++ w)) (Some (x, v ++ w)) → hushed s (record { indent = i; bytes = u; fed = follows 10 (s ++ w) }) ≡ record { indent = i; bytes = u; fed = follows 10 s } → noted i u s ≡ Some (hushed v x, v)
    by s x v w e f =
        let z : s ≡ v = append_cancel_right s v w (lefts _ x (s ++ w) (v ++ w) e) in
        both _ (hushed v x) s v (sym f ∙ (ap (λ t. hushed t (record { indent = i; bytes = u; fed = follows 10 (s ++ w) })) z ∙ ap (hushed v) (values _ x (s ++ w) (v ++ w) e))) z

    at : (s : List ℕ) (x : Words) (v w : List ℕ) → noted i u (s ++ w) ≡ Some (x, v ++ w) → noted i u s ≡ Some (hushed v x, v)
    at [] x v w e = by [] x v w e refl
    at (a ∷ s) x v w e = by (a ∷ s) x v w e refl

pub by-words_after : (i : Option ℕ) → AloneBy hushed NoCut (words_after i)
unfolding words_after noted
by-words_after i = by-bind hushed NoCut NoCut (run1 is_text) (noted i) alone-text (by-noted i) (λ a x t v w e g here. subst (λ r. NoCut r w) (sym (lefts _ (hushed v x) t v g)) here)

by-indented : (n : ℕ) → AloneBy hushed NoCut (indented_text n)
by-indented n = record { alone_by = at; takes_by = takes-if is_indented (words_after (Some n)) (takes-words_after (Some n)) }
  where
    by : (b : Bool) (s : List ℕ) (x : Words) (v w : List ℕ) → NoCut v w → (if b then words_after (Some n) (s ++ w) else None) ≡ Some (x, v ++ w) → (if b then words_after (Some n) s else None) ≡ Some (hushed v x, v)
    by true s x v w here e = (by-words_after (Some n)).alone_by s x v w here e
    by false s x v w here e = absurd (is_read (x, v ++ w) (sym e))

    first_of : (b : Bool) (x : Words) (v w : List ℕ) → NoCut v w → (if b then words_after (Some n) w else None) ≡ Some (x, v ++ w) → words_after (Some n) [] ≡ Some (hushed v x, v)
    first_of true x v w here e = (by-words_after (Some n)).alone_by [] x v w here e
    first_of false x v w here e = absurd (is_read (x, v ++ w) (sym e))

    at : (s : List ℕ) (x : Words) (v w : List ℕ) → NoCut v w → indented_text n (s ++ w) ≡ Some (x, v ++ w) → indented_text n s ≡ Some (hushed v x, v)
    at [] x v w here e = first_of (is_indented w) x v w here e
    at (a ∷ s) x v w here e = by (is_indented (a ∷ s)) (a ∷ s) x v w here e

-- ---- lines

alone-blank_line : Alone Any blank_line
unfolding blank_line
alone-blank_line = alone-then Any (skip blank_inline) _ alone-spaces (λ _. alone-line_end)

abbrev pub Lineless : Seam
Lineless v w = Any v w × Rests blank_line v

pub alone-blank_block : Alone Lineless blank_block
unfolding blank_block
alone-blank_block = alone-then Lineless blank_line _ alone-blank_line (λ _. alone-map Lineless (λ more. more + 1) (count blank_line) (alone-many Any one_more blank_line 0 alone-blank_line (enters-any blank_line)))

abbrev pub hushed_block : List ℕ → ℕ × Words → ℕ × Words
hushed_block v p = (p.0, hushed v p.1)

pub by-block_text : AloneBy hushed_block NoCut block_text
unfolding block_text
by-block_text =
    by-bind hushed_block Lineless NoCut blank_block block_rest alone-blank_block
    (λ ends. by-bind hushed_block Any NoCut blank_inline _ alone-blank_inline (λ n. by-map hushed hushed_block NoCut (λ w. (ends, w)) (indented_text n) (by-indented n) (λ v x. refl)) (λ a x t v w e g here. tt))
    (λ ends x t v w e g here. (tt, inr (unread (blank_line t) (λ y f. text_line ends t y (hushed_block v x, v) g f))))

-- ---- placeables

abbrev pub B : ℕ → Parser Expression
B n = (level n).braces

pub braced : (n : ℕ) → Braces nowhere (B n)
braced n = braces_of nowhere (level n) (firm nowhere n)

pub alone-indent : Alone Any indent
unfolding indent
alone-indent = alone-map Any _ (optional blank_inline) (alone-or Any (Some <$> blank_inline) (pure None) (alone-map Any Some blank_inline alone-blank_inline) (alone-pure Any None) (way-lasts Any (Some <$> blank_inline) (pure None) (lasts-map Some blank_inline lasts-blank_inline)))

alone-placeable_rest : (n ends : ℕ) → Alone Any (placeable_rest (B n) ends)
alone-placeable_rest n ends = alone-then Any indent _ alone-indent (λ w. alone-map Any (λ x. line ends ∷ words w ∷ hole x ∷ []) (B n) (alone-braces n))

pub alone-block_placeable : (n : ℕ) → Alone Any (block_placeable (B n))
unfolding block_placeable
alone-block_placeable n =
    alone-bind Lineless Any blank_block (placeable_rest (B n)) alone-blank_block (alone-placeable_rest n)
    (λ ends x t v w e g here. (tt, inr (unread (blank_line t) (λ y f. placeable_line nowhere (B n) (braced n) ends t y (x, v) g f))))

-- ---- elements

abbrev block_or_hole : ℕ → Parser (List Piece)
block_or_hole n = block_piece <|> (hole_piece (B n) <|> block_placeable (B n))

no_break : blank_block (13 ∷ []) ≡ None
unfolding blank_block blank_line blank_inline line_end line_break run1 byte
no_break = refl

no_lone_break : (n : ℕ) (z : List Piece × List ℕ) → block_or_hole n (13 ∷ []) ≡ Some z → ⊥
unfolding block_text block_placeable
no_lone_break n z e =
    elim (either_read (block_piece (13 ∷ [])) (hole_piece (B n) <|> block_placeable (B n)) (13 ∷ []) z e) [
      | inl block ↦
          let (p, f, g) = first_read (block_text (13 ∷ [])) _ z block in
          let (q, i, j) = first_read (blank_block (13 ∷ [])) _ p f in
          is_read q (sym i ∙ no_break)
      | inr more ↦ elim (either_read (hole_piece (B n) (13 ∷ [])) (block_placeable (B n)) (13 ∷ []) z more) [
        | inl held ↦ let (p, f, g) = first_read (B n (13 ∷ [])) _ z held in true_false (13 == 123) ((braced n).1.start (13 ∷ []) p f) refl
        | inr low ↦ let (q, i, j) = first_read (blank_block (13 ∷ [])) _ z low in is_read q (sym i ∙ no_break)
      ]
    ]

hole_same : (v : List ℕ) (x : Expression) → ◌≡◌ {A = List Piece} (hole x ∷ []) (quiet_at v (hole x ∷ []))
hole_same [] x = refl
hole_same (a ∷ v) x = refl

by-hole : (n : ℕ) → AloneBy quiet_at NoCut (hole_piece (B n))
by-hole n = by-map (λ v x. x) quiet_at NoCut (λ x. hole x ∷ []) (B n) (by-alone (λ v x. x) NoCut (B n) (alone-any NoCut (B n) (alone-braces n)) (λ s x v e. refl)) hole_same

placeable_same : (v : List ℕ) (ends : ℕ) (w : Words) (x : Expression) → quiet_at v (line ends ∷ words w ∷ hole x ∷ []) ≡ line ends ∷ words w ∷ hole x ∷ []
placeable_same [] ends w x = refl
placeable_same (a ∷ v) ends w x = refl

placeable_quiet : (n : ℕ) (s : List ℕ) (x : List Piece) (v : List ℕ) → block_placeable (B n) s ≡ Some (x, v) → quiet_at v x ≡ x
unfolding block_placeable
placeable_quiet n s x v e =
    let (q, f, g) = first_read (blank_block s) _ (x, v) e in
    let (p, i, j) = first_read (indent q.1) _ (x, v) g in
    let (y, k, l) = first_read (B n p.1) _ (x, v) j in
    let z : line q.0 ∷ words p.0 ∷ hole y.0 ∷ [] ≡ x = values (line q.0 ∷ words p.0 ∷ hole y.0 ∷ []) x y.1 v l in
    ap (quiet_at v) (sym z) ∙ (placeable_same v q.0 p.0 y.0 ∙ z)

by-block_placeable : (n : ℕ) → AloneBy quiet_at NoCut (block_placeable (B n))
by-block_placeable n = by-alone quiet_at NoCut (block_placeable (B n)) (alone-any NoCut (block_placeable (B n)) (alone-block_placeable n)) (placeable_quiet n)

text_same : (v : List ℕ) (w : Words) → ◌≡◌ {A = List Piece} (words (hushed v w) ∷ []) (quiet_at v (words w ∷ []))
text_same [] w = refl
text_same (a ∷ v) w = refl

block_same : (v : List ℕ) (p : ℕ × Words) → ◌≡◌ {A = List Piece} (line p.0 ∷ words (hushed v p.1) ∷ []) (quiet_at v (line p.0 ∷ words p.1 ∷ []))
block_same [] p = refl
block_same (a ∷ v) p = refl

text_none : (s : List ℕ) → words_after None s ≡ None → run_len is_text s ≡ 0
text_none s e = by (run_len is_text s) refl
  where
    by : (n : ℕ) → run_len is_text s ≡ n → run_len is_text s ≡ 0
    by zero g = g
    by (suc n) g = absurd (is_read _ (sym (some_words s (omega (arith, g))) ∙ e))

-- no text is there alone, if none is before what follows
still_none : (s w : List ℕ) → run_len is_text (s ++ w) ≡ 0 → ((s ≡ 13 ∷ []) → ⊥) → run_len is_text s ≡ 0
still_none [] w e f = refl
still_none (a ∷ b ∷ s) w e f =
    elim (cases_Bool (is_text a b)) [
      | inl pass ↦ let e2 = rw pass at e in absurd (omega arith)
      | inr stop ↦ rw stop refl
    ]
still_none (a ∷ []) w e f =
    elim (cases_Bool (is_text a (first w))) [
      | inl pass ↦ let e2 = rw pass at e in absurd (omega arith)
      | inr stop ↦ elim (cases_Bool (a == 13)) [
        | inl return ↦ absurd (f (ap (λ c. c ∷ []) (eqb-true a 13 return)))
        | inr other ↦ let here : is_text a 0 ≡ false = grind (arith, nat_tests) in rw here refl
      ]
    ]

way-text : (n : ℕ) → Way NoCut text_piece (block_or_hole n)
way-text n = λ s x v w here e g.
    let none : run_len is_text s ≡ 0 = still_none s w (text_none (s ++ w) (none_of (λ u. words u ∷ []) (words_after None (s ++ w)) e)) (λ z. no_lone_break n (x, v) (ap (block_or_hole n) (sym z) ∙ g)) in
    ap (λ r. and_then r (λ u. pure (words u ∷ []))) (no_words None s none)

pub by-element : (n : ℕ) → AloneBy quiet_at NoCut (pattern_element (B n))
unfolding pattern_element
by-element n =
    by-or quiet_at NoCut text_piece (block_or_hole n) (by-map hushed quiet_at NoCut (λ w. words w ∷ []) inline_text (by-words_after None) text_same)
    (by-or quiet_at NoCut block_piece (hole_piece (B n) <|> block_placeable (B n)) (by-map hushed_block quiet_at NoCut (λ p. line p.0 ∷ words p.1 ∷ []) block_text by-block_text block_same)
    (by-or quiet_at NoCut (hole_piece (B n)) (block_placeable (B n)) (by-hole n) (by-block_placeable n)
    (way-clash NoCut (hole_piece (B n)) (block_placeable (B n)) (λ t y z e g. clash-hole nowhere (B n) (braced n) t y z.0 z.1 e g tt)))
    (way-clash NoCut block_piece (hole_piece (B n) <|> block_placeable (B n)) (λ t y z e g. clash-block nowhere (B n) (braced n) t y z.0 z.1 e g tt)))
    (way-text n)

-- an element is at least a piece
abbrev Some_of : List Piece → Type 0
Some_of x = (q : Piece) × (qs : List Piece) × (q ∷ qs ≡ x)

some_pieces : (n : ℕ) (s : List ℕ) (z : List Piece × List ℕ) → pattern_element (B n) s ≡ Some z → Some_of z.0
unfolding pattern_element block_placeable
some_pieces n s z e =
    elim (either_read (text_piece s) (block_or_hole n) s z e) [
      | inl text ↦ let (q, f, g) = first_read (inline_text s) _ z text in (words q.0, [], values _ z.0 q.1 z.1 g)
      | inr others ↦ elim (either_read (block_piece s) (hole_piece (B n) <|> block_placeable (B n)) s z others) [
        | inl block ↦ let (q, f, g) = first_read (block_text s) _ z block in (line q.0.0, words q.0.1 ∷ [], values _ z.0 q.1 z.1 g)
        | inr more ↦ elim (either_read (hole_piece (B n) s) (block_placeable (B n)) s z more) [
          | inl held ↦ let (q, f, g) = first_read (B n s) _ z held in (hole q.0, [], values _ z.0 q.1 z.1 g)
          | inr low ↦
              let (q, f, g) = first_read (blank_block s) _ z low in
              let (p, i, j) = first_read (indent q.1) _ z g in
              let (y, k, l) = first_read (B n p.1) _ z j in
              (line q.0, words p.0 ∷ hole y.0 ∷ [], values _ z.0 y.1 z.1 l)
        ]
      ]
    ]

-- ---- patterns

quieted_last : (acc : List Piece) (q : Piece) (qs : List Piece) → acc ++ quieted (q ∷ qs) ≡ quieted (acc ++ (q ∷ qs))
quieted_last [] q qs = refl
quieted_last (p ∷ []) q qs = refl
quieted_last (p ∷ r ∷ acc) q qs = ap (λ t. p ∷ t) (quieted_last (r ∷ acc) q qs)

quiet_add : (v : List ℕ) (acc x : List Piece) → Some_of x → acc ++ quiet_at v x ≡ quiet_at v (acc ++ x)
quiet_add [] acc x (q, qs, e) = ap (λ t. acc ++ quieted t) (sym e) ∙ (quieted_last acc q qs ∙ ap (λ t. quieted (acc ++ t)) e)
quiet_add (a ∷ v) acc x h = refl

-- before a line feed no element ends between it and its carriage return
lines_on : (r : List ℕ) → blank_block (13 ∷ 10 ∷ r) ≡ more_lines r
unfolding blank_block blank_line blank_inline line_end line_break run1 byte more_lines
lines_on r = refl

break_left : {A : Type 0} (f : ℕ → Parser A) (r : List ℕ) (x : A) (t : List ℕ) → ((k : ℕ) → Takes (f k)) → (blank_block >>= f) (13 ∷ 10 ∷ r) ≡ Some (x, t) → length t ≤ length r
break_left f r x t h e =
    let (q, i, j) = first_read (blank_block (13 ∷ 10 ∷ r)) f (x, t) e in
    let before : length q.1 ≤ length r = no_longer r q.0 q.1 (subst (TakesTo r) (sym (lines_on r) ∙ i) (takes-more_lines.prefix r)) in
    let after : length t ≤ length q.1 = no_longer q.1 x t (subst (TakesTo q.1) j ((h q.0).prefix q.1)) in
    omega (arith, before, after)

takes-block_rest : (ends : ℕ) → Takes (block_rest ends)
takes-block_rest ends = takes-bind blank_inline _ takes-blank_inline (λ n. takes-map (λ w. (ends, w)) (indented_text n) (takes-if is_indented (words_after (Some n)) (takes-words_after (Some n))))

element_left : (n : ℕ) (r : List ℕ) (z : List Piece × List ℕ) → pattern_element (B n) (13 ∷ 10 ∷ r) ≡ Some z → length z.1 ≤ length r
unfolding pattern_element block_text block_placeable
element_left n r z e =
    let s = 13 ∷ 10 ∷ r in
    elim (either_read (text_piece s) (block_or_hole n) s z e) [
      | inl text ↦ let (q, f, g) = first_read (inline_text s) _ z text in absurd (true_false (run_len is_text s == 0) refl (words_some None s q f))
      | inr others ↦ elim (either_read (block_piece s) (hole_piece (B n) <|> block_placeable (B n)) s z others) [
        | inl block ↦
            let (q, f, g) = first_read (block_text s) _ z block in
            subst (λ t. length t ≤ length r) (lefts _ z.0 q.1 z.1 g) (break_left block_rest r q.0 q.1 takes-block_rest f)
        | inr more ↦ elim (either_read (hole_piece (B n) s) (block_placeable (B n)) s z more) [
          | inl held ↦ let (q, f, g) = first_read (B n s) _ z held in absurd (true_false (13 == 123) ((braced n).1.start s q f) refl)
          | inr low ↦ break_left (placeable_rest (B n)) r z.0 z.1 (λ k. (alone-placeable_rest n k).takes) low
        ]
      ]
    ]

cut_none : (n : ℕ) (s t w : List ℕ) (x : List Piece) → pattern_element (B n) (s ++ w) ≡ Some (x, t ++ w) → NoCut s w
cut_none n s t [] x e f g = absurd (omega (arith, g))
cut_none n s t (c ∷ w) x e f g =
    let z : s ++ (c ∷ w) ≡ 13 ∷ 10 ∷ w = ap (λ r. r ++ (c ∷ w)) f ∙ ap (λ k. 13 ∷ k ∷ w) g in
    let l = element_left n w (x, t ++ (c ∷ w)) (ap (pattern_element (B n)) (sym z) ∙ e) in
    absurd (omega (arith, l, length-append t (c ∷ w)))

-- a pattern is over, where no element goes on with what is left
abbrev pub Over : ℕ → Seam
Over n v w = NoCut v w × Rests (pattern_element (B n)) v

quiet_some : (s : List ℕ) (acc : List Piece) → 0 < length s → quiet_at s acc ≡ acc
quiet_some [] acc h = absurd (omega (arith, h))
quiet_some (a ∷ s) acc h = refl

module _ (n : ℕ) (w : List ℕ) where
  abbrev element : Parser (List Piece)
  element = pattern_element (B n)

  abbrev Turned : List Piece → List Piece → List ℕ → List ℕ → Type 0
  Turned acc y s v = ((m : ℕ) → length s ≤ m → many_from ◌++◌ element m (quiet_at s acc) s ≡ Some (quiet_at v y, v)) × NoCut s w

  stayed : (acc y : List Piece) (s v : List ℕ) → Over n v w → ◌≡◌ {A = Read (List Piece)} (Some (acc, s ++ w)) (Some (y, v ++ w)) → Turned acc y s v
  stayed acc y s v here e =
      let z : s ≡ v = append_cancel_right s v w (lefts acc y (s ++ w) (v ++ w) e) in (
        λ m room. ap (many_from ◌++◌ element m (quiet_at s acc)) z ∙ (rested ◌++◌ element m (quiet_at s acc) v here.1 ∙ ap (λ b. Some (b, v)) (ap (λ t. quiet_at t acc) z ∙ ap (quiet_at v) (values acc y (s ++ w) (v ++ w) e))),
        subst (λ t. NoCut t w) (sym z) here.0,
      )

  turns : (k : ℕ) (acc y : List Piece) (s v : List ℕ) → Over n v w → many_from ◌++◌ element k acc (s ++ w) ≡ Some (y, v ++ w) → Turned acc y s v
  unfolding many_from
  turns zero acc y s v here e = stayed acc y s v here e
  turns (suc k) acc y s v here e = by (element (s ++ w)) refl e (λ b t g. turns k b y t v here g)
    where
      gone : (q : List Piece × List ℕ) (b : Bool) → nat_lt (length q.1) (length (s ++ w)) ≡ b → element (s ++ w) ≡ Some q → go_on ◌++◌ (many_from ◌++◌ element k) acc (s ++ w) q b ≡ Some (y, v ++ w)
          → ((b : List Piece) (t : List ℕ) → many_from ◌++◌ element k b (t ++ w) ≡ Some (y, v ++ w) → Turned b y t v) → Turned acc y s v
      gone q false l g e others = stayed acc y s v here e
      gone q true l g e others =
          let fr : (u : List ℕ) × (q.1 ≡ u ++ (v ++ w)) = subst (TakesTo q.1) e ((takes-many ◌++◌ element k (acc ++ q.0) (by-element n).takes_by).prefix q.1) in
          let t = fr.0 ++ v in
          let z : q.1 ≡ t ++ w = fr.1 ∙ sym (append_assoc fr.0 v w) in
          let more = others (acc ++ q.0) t (ap (many_from ◌++◌ element k (acc ++ q.0)) (sym z) ∙ e) in
          let before : element (s ++ w) ≡ Some (q.0, t ++ w) = g ∙ ap (λ r. Some (q.0, r)) z in
          let one : element s ≡ Some (quiet_at t q.0, t) = (by-element n).alone_by s q.0 t w more.1 before in
          let j : length q.1 < length (s ++ w) = grind (arith, nat_tests) in
          let less : length t < length s = omega (arith, j, ap length z, length-append t w, length-append s w) in (
            λ m room.
                let i : m ≡ suc (m - 1) = omega (arith, less, room) in
                ap (λ b. many_from ◌++◌ element m b s) (quiet_some s acc (omega (arith, less)))
                ∙ (a_turn ◌++◌ element m (m - 1) acc s (quiet_at t q.0) t i one less
                ∙ (ap (λ b. many_from ◌++◌ element (m - 1) b t) (quiet_add t acc q.0 (some_pieces n (s ++ w) q g)) ∙ more.0 (m - 1) (omega (arith, less, room)))),
            cut_none n s t w q.0 before,
          )

      by : (r : Read (List Piece)) → element (s ++ w) ≡ r → turn ◌++◌ (many_from ◌++◌ element k) acc (s ++ w) r ≡ Some (y, v ++ w)
          → ((b : List Piece) (t : List ℕ) → many_from ◌++◌ element k b (t ++ w) ≡ Some (y, v ++ w) → Turned b y t v) → Turned acc y s v
      by None g e others = stayed acc y s v here e
      by (Some q) g e others = gone q (nat_lt (length q.1) (length (s ++ w))) refl g e others

abbrev from_start : ℕ → List Piece → Parser (List Piece)
from_start n prefix = λ s. many_from ◌++◌ (pattern_element (B n)) (length s) prefix s

by-pieces : (n : ℕ) → AloneBy quiet_at (Over n) (pieces (B n))
unfolding pieces
by-pieces n = record {
  alone_by = λ s y v w here e.
      let (q, i, j) = first_read (pattern_element (B n) (s ++ w)) (from_start n) (y, v ++ w) e in
      let fr : (u : List ℕ) × (q.1 ≡ u ++ (v ++ w)) = subst (TakesTo q.1) j ((takes-many ◌++◌ (pattern_element (B n)) (length q.1) q.0 (by-element n).takes_by).prefix q.1) in
      let t = fr.0 ++ v in
      let z : q.1 ≡ t ++ w = fr.1 ∙ sym (append_assoc fr.0 v w) in
      let more = turns n w (length q.1) q.0 y t v here (ap (many_from ◌++◌ (pattern_element (B n)) (length q.1) q.0) (sym z) ∙ j) in
      let one : pattern_element (B n) s ≡ Some (quiet_at t q.0, t) = (by-element n).alone_by s q.0 t w more.1 (i ∙ ap (λ r. Some (q.0, r)) z) in
      ap (λ r. and_then r (from_start n)) one ∙ more.0 (length t) (omega arith);
  takes_by = takes-bind (pattern_element (B n)) (from_start n) (by-element n).takes_by (λ prefix. takes-all ◌++◌ (pattern_element (B n)) prefix (by-element n).takes_by);
}

-- ---- the layout doesn't look at the note of the last words

starts_same : (ps : List Piece) → starts_line (quieted ps) ≡ starts_line ps
starts_same [] = refl
starts_same (line k ∷ []) = refl
starts_same (words w ∷ []) = refl
starts_same (hole x ∷ []) = refl
starts_same (line k ∷ q ∷ ps) = refl
starts_same (words w ∷ q ∷ ps) = refl
starts_same (hole x ∷ q ∷ ps) = refl

no_start : (b : Bool) → (b && false) ≡ false
no_start true = refl
no_start false = refl

lines_same : (common : ℕ) (ps : List Piece) → lines common (quieted ps) ≡ lines common ps
unfolding lines
lines_same common [] = refl
lines_same common (line k ∷ []) = refl
lines_same common (words w ∷ []) = ap (λ b. joined (dedented common w) b []) (sym (no_start w.fed))
lines_same common (hole x ∷ []) = refl
lines_same common (line k ∷ q ∷ ps) = ap (λ es. replicate k feed ++ es) (lines_same common (q ∷ ps))
lines_same common (words w ∷ q ∷ ps) = ap (λ b. joined (dedented common w) (w.fed && b) (lines common (quieted (q ∷ ps)))) (starts_same (q ∷ ps)) ∙ ap (joined (dedented common w) (w.fed && starts_line (q ∷ ps))) (lines_same common (q ∷ ps))
lines_same common (hole x ∷ q ∷ ps) = ap (λ es. placeable x ∷ es) (lines_same common (q ∷ ps))

indent_same : (ps : List Piece) → smallest_indent (quieted ps) ≡ smallest_indent ps
indent_same [] = refl
indent_same (line k ∷ []) = refl
indent_same (words w ∷ []) = refl
indent_same (hole x ∷ []) = refl
indent_same (p ∷ q ∷ ps) = ap (smaller (indent_in p)) (indent_same (q ∷ ps))

elements_same : (v : List ℕ) (ps : List Piece) → elements (quiet_at v ps) ≡ elements ps
unfolding elements
elements_same [] ps = ap (λ m. trim_last (trim_start (lines (unwrap_or m 0) (quieted ps)))) (indent_same ps) ∙ ap (λ es. trim_last (trim_start es)) (lines_same (common_indent ps) ps)
elements_same (a ∷ v) ps = refl

pub alone-pattern : (n : ℕ) → Alone (Over n) (pattern (B n))
alone-pattern n =
    let h = by-map quiet_at (λ v x. x) (Over n) (λ ps. pattern_of (elements ps)) (pieces (B n)) (by-pieces n) (λ v ps. ap pattern_of (elements_same v ps)) in
    record { alone = λ s x v w here e. h.alone_by s x v w here e; takes = h.takes_by }
