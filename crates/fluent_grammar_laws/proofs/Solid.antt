-- Patterns, messages and terms take no line feed last.
use Rattle.std.proofs.Common.{◌≡◌, ◌==◌, ℕ, zero, suc, ◌+◌, ◌<◌, Bool, true, false, List, [], ◌∷◌, ◌++◌, length, take, drop, Option, Some, None, if◌then◌else◌, refl, sym, ap, ◌∙◌, subst, append_assoc, nat_lt, arith, ◌⊎◌, inl, inr}
use Rattle.std.proofs.lemmas.Bool.{cases_Bool}
use Rattle.std.proofs.lemmas.Bool.Decides.{nat_tests}
use Rattle.fluent_ast.specs.Tree.{message_entry, term_entry, pattern_of}
use Rattle.fluent_text.specs.Parser.{Read, Parser, ◌>>=◌, ◌<$>◌, ◌<|>◌, pure, skip, many_from, turn, go_on, push, run_len, run, run1, byte, first}
use Rattle.fluent_text.specs.Lexical.{is_text, blank, blank_inline, blank_block, line_end}
use Rattle.fluent_syntax.specs.Layout.{line, words, hole, elements}
use Rattle.fluent_syntax.specs.Pieces.{follows, words_after, inline_text, is_indented, indented_text, block_text, indent, block_placeable, pattern_element, pieces}
use Rattle.fluent_syntax.specs.Expressions.{level, expression, inline_placeable}
use Rattle.fluent_syntax.specs.Entries as n
use Rattle.fluent_syntax.specs.Entries.{value, name_of_value, attribute, value_first, attributes_alone}
use Rattle.fluent_syntax.specs.Facts.Prefixes.{TakesTo, Takes, takes-byte}
use Rattle.fluent_syntax.specs.Facts.LexicalPrefixes.{takes-blanks, takes-blank_inline, takes-blank_block, takes-line_end}
use Rattle.fluent_grammar_laws.proofs.Near.{is_read}
use Rattle.fluent_grammar_laws.proofs.Known.{lefts, taken_one}
use Rattle.fluent_grammar_laws.proofs.Leads.{first_read, either_read}
use Rattle.fluent_grammar_laws.proofs.KnownPatterns.{indented_read}
use Rattle.fluent_grammar_laws.proofs.AlonePieces.{B, alone-indent}
use Rattle.fluent_grammar_laws.proofs.AloneEntries.{alone-expression, alone-name_of_value}

-- a byte that is no line feed stands last before what is left
abbrev pub SolidTo : List ℕ → List ℕ → Type 0
SolidTo s t = (prefix : List ℕ) × (c : ℕ) × (s ≡ prefix ++ c ∷ t) × ((c == 10) ≡ false)

pub record Solid {A : Type 0} (p : Parser A) : Type 0 where
  pub solid : (s : List ℕ) (z : A × List ℕ) → p s ≡ Some z → SolidTo s z.1

-- so, or nothing is taken
record Stays {A : Type 0} (p : Parser A) : Type 0 where
  stay : (s : List ℕ) (z : A × List ℕ) → p s ≡ Some z → (s ≡ z.1) ⊎ SolidTo s z.1

after : (u s t : List ℕ) → SolidTo s t → SolidTo (u ++ s) t
after u s t (prefix, c, e, f) = (u ++ prefix, c, ap (λ r. u ++ r) e ∙ sym (append_assoc u prefix (c ∷ t)), f)

further : (s t r : List ℕ) → SolidTo s t → SolidTo t r → SolidTo s r
further s t r (prefix, c, e, f) h = subst (λ q. SolidTo q r) (sym (e ∙ sym (append_assoc prefix (c ∷ []) t))) (after (prefix ++ c ∷ []) t r h)

solid-last : {A B : Type 0} (p : Parser A) (f : A → Parser B) → Takes p → ((a : A) → Solid (f a)) → Solid (p >>= f)
solid-last p f h k = record {
  solid = λ s z e.
      let (q, i, j) = first_read (p s) f z e in
      let fr : (u : List ℕ) × (s ≡ u ++ q.1) = subst (TakesTo s) i (h.prefix s) in
      subst (λ r. SolidTo r z.1) (sym fr.1) (after fr.0 q.1 z.1 ((k q.0).solid q.1 z j));
}

solid-first : {A B : Type 0} (p : Parser A) (f : A → Parser B) → Solid p → ((a : A) → Stays (f a)) → Solid (p >>= f)
solid-first p f h k = record {
  solid = λ s z e.
      let (q, i, j) = first_read (p s) f z e in
      elim ((k q.0).stay q.1 z j) [
        | inl same ↦ subst (SolidTo s) same (h.solid s q i)
        | inr more ↦ further s q.1 z.1 (h.solid s q i) more
      ];
}

stays-pure : {A : Type 0} (x : A) → Stays (pure x)
stays-pure x = record { stay = λ s z e. inl (lefts x z.0 s z.1 e) }

solid-map : {A B : Type 0} (f : A → B) (p : Parser A) → Solid p → Solid (f <$> p)
solid-map f p h = solid-first p (λ x. pure (f x)) h (λ x. stays-pure (f x))

stays-map : {A B : Type 0} (f : A → B) (p : Parser A) → Stays p → Stays (f <$> p)
stays-map f p h = record {
  stay = λ s z e.
      let (q, i, j) = first_read (p s) (λ x. pure (f x)) z e in
      let same : q.1 ≡ z.1 = lefts (f q.0) z.0 q.1 z.1 j in
      subst (λ r. (s ≡ r) ⊎ SolidTo s r) same (h.stay s q i);
}

solid-or : {A : Type 0} (p q : Parser A) → Solid p → Solid q → Solid (p <|> q)
solid-or p q h k = record { solid = λ s z e. elim (either_read (p s) q s z e) [ inl one ↦ h.solid s z one | inr other ↦ k.solid s z other ] }

stays-many : {A B : Type 0} (add : B → A → B) (p : Parser A) (n : ℕ) (acc : B) → Solid p → Stays (many_from add p n acc)
unfolding many_from
stays-many add p zero acc h = stays-pure acc
stays-many {A = A} {B = B} add p (suc n) acc h = record { stay = λ s z e. by s z (p s) refl e (λ b. stays-many add p n b h) }
  where
    gone : (s : List ℕ) (z : B × List ℕ) (q : A × List ℕ) (b : Bool) → p s ≡ Some q → go_on add (many_from add p n) acc s q b ≡ Some z → ((b : B) → Stays (many_from add p n b)) → (s ≡ z.1) ⊎ SolidTo s z.1
    gone s z q false f e others = inl (lefts acc z.0 s z.1 e)
    gone s z q true f e others =
        elim ((others (add acc q.0)).stay q.1 z e) [
          | inl same ↦ inr (subst (SolidTo s) same (h.solid s q f))
          | inr more ↦ inr (further s q.1 z.1 (h.solid s q f) more)
        ]

    by : (s : List ℕ) (z : B × List ℕ) (r : Read A) → p s ≡ r → turn add (many_from add p n) acc s r ≡ Some z → ((b : B) → Stays (many_from add p n b)) → (s ≡ z.1) ⊎ SolidTo s z.1
    by s z None f e others = inl (lefts acc z.0 s z.1 e)
    by s z (Some q) f e others = gone s z q (nat_lt (length q.1) (length s)) f e others

stays-all : {A B : Type 0} (add : B → A → B) (p : Parser A) (acc : B) → Solid p → Stays (λ s. many_from add p (length s) acc s)
stays-all add p acc h = record { stay = λ s z e. (stays-many add p (length s) acc h).stay s z e }

solid-byte : (c : ℕ) → (0 == c) ≡ false → (c == 10) ≡ false → Solid (byte c)
solid-byte c some e = record { solid = λ s z f. ([], c, taken_one c some s z.1 f, e) }

-- ---- texts

run_solid : (s : List ℕ) → 0 < run_len is_text s → SolidTo s (drop (run_len is_text s) s)
run_solid [] l = absurd (omega (arith, l))
run_solid (a ∷ s) l =
    elim (cases_Bool (is_text a (first s))) [
      | inl pass ↦
          let n : 1 + run_len is_text s ≡ suc (run_len is_text s) = omega arith in
          let none : (a == 10) ≡ false = grind (arith, nat_tests) in
          rw (pass, n) (by none (run_len is_text s) refl (λ k. run_solid s k))
      | inr stop ↦ let l2 = rw stop at l in absurd (omega (arith, l2))
    ]
  where
    by : (a == 10) ≡ false → (k : ℕ) → run_len is_text s ≡ k → (0 < run_len is_text s → SolidTo s (drop (run_len is_text s) s)) → SolidTo (a ∷ s) (drop (run_len is_text s) s)
    by none zero e more = ([], a, ap (λ k. a ∷ drop k s) (sym e), none)
    by none (suc k) e more = after (a ∷ []) s (drop (run_len is_text s) s) (more (omega (arith, e)))

text_solid : (s : List ℕ) (b : Bool) (z : List ℕ × List ℕ) → (run_len is_text s == 0) ≡ b → (if b then None else run is_text s) ≡ Some z → SolidTo s z.1
text_solid s true z e f = absurd (is_read z (sym f))
text_solid s false z e f = subst (SolidTo s) (lefts (take (run_len is_text s) s) z.0 (drop (run_len is_text s) s) z.1 f) (run_solid s (grind (arith, nat_tests)))

solid-text : Solid (run1 is_text)
unfolding run1
solid-text = record { solid = λ s z e. text_solid s (run_len is_text s == 0) z refl e }

solid-words_after : (i : Option ℕ) → Solid (words_after i)
unfolding words_after
solid-words_after i = solid-first (run1 is_text) _ solid-text (λ u. stays-map (λ fed. record { indent = i; bytes = u; fed = fed }) (λ s. Some (follows 10 s, s)) (record { stay = λ s z e. inl (lefts (follows 10 s) z.0 s z.1 e) }))

solid-indented : (k : ℕ) → Solid (indented_text k)
solid-indented k = record { solid = λ s z e. (solid-words_after (Some k)).solid s z (indented_read k s (is_indented s) z e).1 }

solid-block_text : Solid block_text
unfolding block_text
solid-block_text = solid-last blank_block _ takes-blank_block (λ ends. solid-last blank_inline _ takes-blank_inline (λ k. solid-map (λ w. (ends, w)) (indented_text k) (solid-indented k)))

-- ---- placeables

solid-braces : (m : ℕ) → Solid (B m)
unfolding level inline_placeable
solid-braces zero = record { solid = λ s z e. absurd (is_read z (sym e)) }
solid-braces (suc m) =
    solid-last (byte 123) _ (takes-byte 123) (λ _. solid-last (skip blank) _ takes-blanks (λ _. solid-last (expression (level m)) _ (alone-expression m).takes (λ x.
    solid-last (skip blank) _ takes-blanks (λ _. solid-map (λ _. x) (byte 125) (solid-byte 125 refl refl)))))

solid-block_placeable : (m : ℕ) → Solid (block_placeable (B m))
unfolding block_placeable
solid-block_placeable m = solid-last blank_block _ takes-blank_block (λ ends. solid-last indent _ alone-indent.takes (λ w. solid-map (λ x. line ends ∷ words w ∷ hole x ∷ []) (B m) (solid-braces m)))

-- ---- patterns and entries

solid-element : (m : ℕ) → Solid (pattern_element (B m))
unfolding pattern_element
solid-element m =
    solid-or _ _ (solid-map (λ w. words w ∷ []) inline_text (solid-words_after None)) (solid-or _ _ (solid-map (λ p. line p.0 ∷ words p.1 ∷ []) block_text solid-block_text)
    (solid-or _ _ (solid-map (λ x. hole x ∷ []) (B m) (solid-braces m)) (solid-block_placeable m)))

solid-pieces : (m : ℕ) → Solid (pieces (B m))
unfolding pieces
solid-pieces m = solid-first (pattern_element (B m)) _ (solid-element m) (λ prefix. stays-all ◌++◌ (pattern_element (B m)) prefix (solid-element m))

solid-value : Solid value
unfolding value
solid-value = solid-map (λ ps. pattern_of (elements ps)) (pieces (B 100)) (solid-pieces 100)

solid-attribute : Solid attribute
unfolding attribute
solid-attribute =
    solid-last line_end _ takes-line_end (λ _. solid-last (skip blank) _ takes-blanks (λ _. solid-last (byte 46) _ (takes-byte 46) (λ _. solid-last name_of_value _ alone-name_of_value.takes (λ id. solid-map (λ v. (id, v)) value solid-value))))

solid-value_first : Solid value_first
unfolding value_first
solid-value_first = solid-first value _ solid-value (λ v. stays-map (λ o. (Some v, o)) _ (stays-all push attribute [] solid-attribute))

solid-attributes_alone : Solid attributes_alone
unfolding attributes_alone
solid-attributes_alone = solid-first attribute _ solid-attribute (λ a. stays-map (λ o. (None, o)) _ (stays-all push attribute (a ∷ []) solid-attribute))

solid-message : Solid n.message
unfolding n.message
solid-message = solid-last name_of_value _ alone-name_of_value.takes (λ id. solid-map (λ c. message_entry id c.0 c.1) (value_first <|> attributes_alone) (solid-or value_first attributes_alone solid-value_first solid-attributes_alone))

solid-term : Solid n.term
unfolding n.term
solid-term = solid-last (byte 45) _ (takes-byte 45) (λ _. solid-last name_of_value _ alone-name_of_value.takes (λ id. solid-first value _ solid-value (λ v. stays-map (λ o. term_entry id v o) _ (stays-all push attribute [] solid-attribute))))

pub solid-part : Solid (n.message <|> n.term)
solid-part = solid-or n.message n.term solid-message solid-term
