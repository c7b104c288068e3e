-- Variants, selects, attributes, messages, terms and entries read the same where what stands after them is taken away.
use Rattle.std.proofs.Common.{◌≡◌, ◌==◌, ◌||◌, ℕ, Bool, true, false, List, [], ◌∷◌, ◌++◌, length, Some, None, refl, sym, ap, ◌∙◌, subst, arith, eqb-true, ◌⊎◌, inl, inr}
use Rattle.std.proofs.lemmas.Bool.Decides.{nat_tests}
use Rattle.fluent_ast.specs.Tree.{Text, Inline, Expression, inline, Key, Variant, Pattern, select, variants_of, name_key, number_key, message_entry, term_entry}
use Rattle.fluent_text.specs.Parser.{Parser, ◌>>=◌, ◌>>◌, ◌<$>◌, ◌<|>◌, pure, skip, many_from, push, run_len, run1, byte, first}
use Rattle.fluent_text.specs.Lexical.{is_letter, is_text, identifier, blank_inline, line_break, line_end, blank_line, blank_block, blank}
use Rattle.fluent_syntax.specs.Layout.{Piece}
use Rattle.fluent_syntax.specs.Pieces.{block_text, block_placeable, inline_text, indent, pattern_element, pattern}
use Rattle.fluent_syntax.specs.Expressions.{level, number_literal, inline_expression, key_inside, variant_key, star, variant_head, variant, variant_list, is_selector, arrow, selector, select_expression, provided, stands_alone, alone, expression}
use Rattle.fluent_syntax.specs.Entries as n
use Rattle.fluent_syntax.specs.Entries.{value, name_of_value, attribute, value_first, attributes_alone, entry}
use Rattle.fluent_grammar_laws.proofs.Near.{is_read}
use Rattle.fluent_grammar_laws.proofs.Known.{lefts, kept, unread}
use Rattle.fluent_grammar_laws.proofs.Leads.{first_read, either_read, true_false, fails_at, next, line_end_read, line_end_text, no_byte, Starts, starts-bind, starts-or, starts-byte, starts-weaker, starts-identifier, starts-number_literal, may_start_number}
use Rattle.fluent_grammar_laws.proofs.KnownRules.{is}
use Rattle.fluent_grammar_laws.proofs.KnownPatterns.{block_rest, placeable_rest, text_piece, block_piece, hole_piece, words_some, no_element, ends_pattern, leads-variant, leads-default, variant_line, over, others, selects, leads-selects, many_first}
use Rattle.fluent_grammar_laws.proofs.KnownEntries.{leads-attribute, attributes_from, value_element, starts-message, starts-term}
use Rattle.fluent_grammar_laws.proofs.Alone.{Seam, Any, Whole, Alone, alone-any, alone-bind, alone-then, alone-pure, alone-map, alone-provided, alone-or, way-clash, Rests, alone-many, alone-byte}
use Rattle.fluent_grammar_laws.proofs.AloneRules.{nowhere, way-starts, alone-identifier, alone-spaces, alone-line_end, alone-after, alone-after_byte, is_over, alone-number_literal}
use Rattle.fluent_grammar_laws.proofs.AloneInlines.{free, Free, whole_free, alone-inline}
use Rattle.fluent_grammar_laws.proofs.AlonePieces.{B, braced, NoCut, Over, alone-pattern}

-- ---- where a line ends

-- what is left at a line end begins with the whole of it
no_cut : (t w : List ℕ) (q : Unit {0} × List ℕ) → line_end t ≡ Some q → NoCut t w
unfolding line_end line_break byte
no_cut t w q e f g = is_read q (sym e ∙ ap line_end f)

-- the end of a text, or one line break
abbrev pub IsBreak : List ℕ → Type 0
IsBreak t = (t ≡ []) ⊎ ((t ≡ 10 ∷ []) ⊎ (t ≡ 13 ∷ 10 ∷ []))

pub break_here : (t : List ℕ) (q : Unit {0} × List ℕ) → line_end t ≡ Some q → q.1 ≡ [] → IsBreak t
break_here t q e none =
    elim (line_end_read t q e) [
      | inl pair ↦ inr (inr (pair ∙ ap (λ r. 13 ∷ 10 ∷ r) none))
      | inr (inl feed) ↦ inr (inl (feed ∙ ap (λ r. 10 ∷ r) none))
      | inr (inr end) ↦ inl (no_byte t end)
    ]

-- no element of a pattern is there
lone_break : (m : ℕ) (t : List ℕ) → run_len is_text t ≡ 0 → (first t == 123) ≡ false → blank_block t ≡ Some (1, []) → (z : List Piece × List ℕ) → pattern_element (B m) t ≡ Some z → ⊥
unfolding pattern_element block_text block_placeable blank_inline indent run1
lone_break m t text brace block z e =
    elim (either_read (text_piece t) (block_piece <|> (hole_piece (B m) <|> block_placeable (B m))) t z e) [
      | inl some ↦ let (q, f, g) = first_read (inline_text t) _ z some in true_false (run_len is_text t == 0) (ap (λ k. k == 0) text) (words_some None t q f)
      | inr rest ↦ elim (either_read (block_piece t) (hole_piece (B m) <|> block_placeable (B m)) t z rest) [
        | inl some ↦
            let (q, f, g) = first_read (block_text t) _ z some in
            let (p, i, j) = first_read (blank_block t) block_rest q f in
            let here : p.1 ≡ [] = sym (lefts 1 p.0 [] p.1 (sym block ∙ i)) in
            let (r, k, l) = first_read (blank_inline p.1) _ q j in
            is_read r (sym k ∙ ap blank_inline here)
        | inr more ↦ elim (either_read (hole_piece (B m) t) (block_placeable (B m)) t z more) [
          | inl some ↦ let (q, f, g) = first_read (B m t) _ z some in true_false (first t == 123) ((braced m).1.start t q f) brace
          | inr low ↦
              let (p, i, j) = first_read (blank_block t) (placeable_rest (B m)) z low in
              let here : p.1 ≡ [] = sym (lefts 1 p.0 [] p.1 (sym block ∙ i)) in
              let (r, k, l) = first_read (indent p.1) _ z j in
              let none : r.1 ≡ [] = sym (lefts _ r.0 [] r.1 (sym (ap indent here) ∙ k)) in
              let (y, c, d) = first_read (B m r.1) _ z l in
              true_false (0 == 123) (ap (λ s. first s == 123) (sym none) ∙ (braced m).1.start r.1 y c) refl
        ]
      ]
    ]

break_over : (m : ℕ) (t w : List ℕ) → IsBreak t → Over m t w
unfolding blank_block blank_line blank_inline line_end line_break run1 byte many_from
break_over m t w (inl none) = (λ e. absurd (omega (arith, ap length (sym none ∙ e))), inl none)
break_over m t w (inr (inl feed)) = (
  λ e. absurd (omega (arith, ap first (sym feed ∙ e))),
  inr (unread (pattern_element (B m) t) (λ z f. lone_break m (10 ∷ []) refl refl refl z (ap (pattern_element (B m)) (sym feed) ∙ f))),
)
break_over m t w (inr (inr pair)) = (
  λ e. absurd (omega (arith, ap length (sym pair ∙ e))),
  inr (unread (pattern_element (B m) t) (λ z f. lone_break m (13 ∷ 10 ∷ []) refl refl refl z (ap (pattern_element (B m)) (sym pair) ∙ f))),
)

-- nothing is after its blanks
break_next : (t : List ℕ) → IsBreak t → next t ≡ 0
unfolding next
break_next t (inl none) = ap next none
break_next t (inr (inl feed)) = ap next feed
break_next t (inr (inr pair)) = ap next pair

-- where a rule begins with a line end, and goes on with a byte that ends patterns
line_over : (m : ℕ) (t w : List ℕ) (q : Unit {0} × List ℕ) → line_end t ≡ Some q → ends_pattern (next t) ≡ true → Over m t w
line_over m t w q e f = (no_cut t w q e, inr (unread (pattern_element (B m) t) (λ z g. no_element nowhere (B m) (braced m) t z g (line_end_text t q e) f)))

-- ---- variants

abbrev may_start_key : ℕ → Bool
may_start_key c = may_start_number c || is_letter c

starts-number_key : Starts may_start_number (number_key <$> number_literal)
starts-number_key = starts-bind may_start_number number_literal _ starts-number_literal

starts-name_key : Starts is_letter (name_key <$> identifier)
starts-name_key = starts-bind is_letter identifier _ starts-identifier

starts-key_inside : Starts may_start_key key_inside
unfolding key_inside
starts-key_inside =
    starts-or may_start_key (number_key <$> number_literal) (name_key <$> identifier) (starts-weaker may_start_number may_start_key (number_key <$> number_literal) (λ c e. grind (arith, nat_tests)) starts-number_key)
    (starts-weaker is_letter may_start_key (name_key <$> identifier) (λ c e. grind (arith, nat_tests)) starts-name_key)

alone-key_inside : Alone Any key_inside
unfolding key_inside
alone-key_inside =
    alone-or Any (number_key <$> number_literal) (name_key <$> identifier) (alone-map Any number_key number_literal alone-number_literal) (alone-map Any name_key identifier alone-identifier)
    (way-starts Any may_start_number is_letter (number_key <$> number_literal) (name_key <$> identifier) starts-number_key starts-name_key (λ c e f. absurd (grind (arith, nat_tests))))

pub alone-variant_key : Alone Any variant_key
unfolding variant_key
alone-variant_key =
    alone-then Any (byte 91) _ (alone-byte 91 refl) (λ _.
    alone-after Any may_start_key (key_inside >>= (λ key. skip blank >> (byte 93 >> pure key))) (starts-bind may_start_key key_inside _ starts-key_inside) (λ c e. grind (arith, nat_tests))
    (alone-then Any key_inside _ alone-key_inside (λ key. alone-after_byte Any 93 (pure key) refl refl refl (alone-pure Any key))))

starts-variant_key : Starts (is 91) variant_key
unfolding variant_key
starts-variant_key = starts-bind (is 91) (byte 91) _ (starts-byte (is 91) 91 refl refl)

abbrev key_and_spaces : Parser Key
key_and_spaces = variant_key >>= (λ key. skip blank_inline >> pure key)

alone-key_and_spaces : Alone Any key_and_spaces
alone-key_and_spaces = alone-then Any variant_key _ alone-variant_key (λ key. alone-then Any (skip blank_inline) _ alone-spaces (λ _. alone-pure Any key))

alone-star : (default : Bool) → Alone Any (skip blank >> (star default >> key_and_spaces))
alone-star true = alone-after_byte Any 42 key_and_spaces refl refl refl alone-key_and_spaces
alone-star false = alone-after Any (is 91) key_and_spaces (starts-bind (is 91) variant_key _ starts-variant_key) (is_over 91 refl) alone-key_and_spaces

pub alone-variant_head : (default : Bool) → Alone Any (variant_head default)
unfolding variant_head
alone-variant_head default = alone-then Any line_end _ alone-line_end (λ _. alone-star default)

pub alone-variant : (m : ℕ) (default : Bool) → Alone (Over m) (variant (level m) default)
unfolding variant
alone-variant m default = alone-then (Over m) (variant_head default) _ (alone-variant_head default) (λ key. alone-map (Over m) (λ p. (key, p, default)) (pattern (B m)) (alone-pattern m))

variant_over : (m : ℕ) (t w : List ℕ) (z : Variant × List ℕ) → variant (level m) false t ≡ Some z → Over m t w
variant_over m t w z e = let (q, f) = variant_line (level m) false t z e in line_over m t w q f (ap ends_pattern (eqb-true (next t) 91 ((leads-variant (level m)).lead t z e)))

default_over : (m : ℕ) (t w : List ℕ) (z : Variant × List ℕ) → variant (level m) true t ≡ Some z → Over m t w
default_over m t w z e = let (q, f) = variant_line (level m) true t z e in line_over m t w q f (ap ends_pattern (eqb-true (next t) 42 ((leads-default (level m)).lead t z e)))

-- no variant is where no further byte is
no_variant : (m : ℕ) (t : List ℕ) (c : ℕ) → next t ≡ c → (c == 91) ≡ false → Rests (variant (level m) false) t
no_variant m t c e f = inr (unread (variant (level m) false t) (λ z g. true_false (next t == 91) ((leads-variant (level m)).lead t z g) (ap (λ k. k == 91) e ∙ f)))

-- variants after others
abbrev Variants_over : ℕ → Seam
Variants_over m v w = Over m v w × Rests (variant (level m) false) v

alone-variants : (m : ℕ) (before : List Variant) → Alone (Variants_over m) (λ s. many_from push (variant (level m) false) (length s) before s)
alone-variants m before = alone-many (Over m) push (variant (level m) false) before (alone-variant m false) (λ a s v w e g less here. variant_over m s w (a, v) g)

-- the line end after variants
break_of : (all : List Variant) (t : List ℕ) (z : List Variant × List ℕ) → over all t ≡ Some z → z.1 ≡ [] → IsBreak t
break_of all t z e none = let (q, f, g) = first_read (line_end t) (λ _. pure all) z e in break_here t q f (lefts all z.0 q.1 z.1 g ∙ none)

alone-over : (all : List Variant) → Alone Any (over all)
alone-over all = alone-map Any (λ _. all) line_end alone-line_end

alone-others : (m : ℕ) (before : List Variant) (d : Variant) → Alone Whole (others (level m) before d)
alone-others m before d =
    alone-bind (Variants_over m) Whole _ over (alone-variants m (before ++ d ∷ [])) (λ all. alone-any Whole (over all) (alone-over all))
    (λ all x t v w e g here. let b = break_of all t (x, v) g here in (break_over m t w b, no_variant m t 0 (break_next t b) refl))

alone-from_default : (m : ℕ) (before : List Variant) → Alone Whole (variant (level m) true >>= others (level m) before)
alone-from_default m before =
    alone-bind (Over m) Whole (variant (level m) true) (others (level m) before) (alone-variant m true) (alone-others m before)
    (λ d x t v w e g here.
    let (q, f, j) = first_read (many_from push (variant (level m) false) (length t) (before ++ d ∷ []) t) over (x, v) g in
    elim (many_first push (variant (level m) false) (length t) (before ++ d ∷ []) t q f) [
      | inl same ↦ break_over m t w (break_of q.0 t (x, v) (ap (over q.0) same ∙ j) here)
      | inr (a, i) ↦ variant_over m t w a i
    ])

pub alone-variant_list : (m : ℕ) → Alone Whole (variant_list (level m))
unfolding variant_list
alone-variant_list m =
    alone-bind (Variants_over m) Whole _ (λ before. variant (level m) true >>= others (level m) before) (alone-variants m []) (alone-from_default m)
    (λ before x t v w e g here.
    let (q, f, j) = first_read (variant (level m) true t) (others (level m) before) (x, v) g in
    (default_over m t w q f, no_variant m t 42 (eqb-true (next t) 42 ((leads-default (level m)).lead t q f)) refl))

-- ---- selects

alone-arrow : Alone Any arrow
unfolding arrow
alone-arrow = alone-after_byte Any 45 (byte 62 >> skip blank_inline) refl refl refl (alone-then Any (byte 62) _ (alone-byte 62 refl) (λ _. alone-spaces))

alone-selects : (m : ℕ) (x : Inline) → Alone Whole (selects (level m) x)
alone-selects m x = alone-then Whole arrow _ alone-arrow (λ _. alone-map Whole (λ vs. select x (variants_of vs)) (variant_list (level m)) (alone-variant_list m))

alone-selector : (m : ℕ) → Alone Free (selector (level m))
alone-selector m =
    alone-bind Free Free (inline_expression (level m)) _ (alone-inline m) (λ x. alone-provided Free (is_selector x) _ (alone-pure Free x))
    (λ a x t v w e g here. subst (λ r. Free r w) (sym (lefts a x t v (kept (is_selector a) a t (x, v) g).1)) here)

pub alone-select : (m : ℕ) → Alone Whole (select_expression (level m))
alone-select m =
    alone-bind Free Whole (selector (level m)) (selects (level m)) (alone-selector m) (alone-selects m)
    (λ a x t v w e g here. ap free (eqb-true (next t) 45 ((leads-selects (level m) a).lead t (x, v) g)))

-- where an expression stands alone, no arrow is after it
no_arrow : (m : ℕ) (t : List ℕ) (y z : Expression × List ℕ) → select_expression (level m) t ≡ Some y → (inline_expression (level m) >>= alone) t ≡ Some z → z.1 ≡ [] → ⊥
unfolding next
no_arrow m t y z e f none =
    let (q, a, b) = first_read (selector (level m) t) (selects (level m)) y e in
    let (p, c, d) = first_read (inline_expression (level m) t) (λ x. provided (is_selector x) >> pure x) q a in
    let (r, i, j) = first_read (inline_expression (level m) t) alone z f in
    let before : q.1 ≡ p.1 = sym (lefts p.0 q.0 p.1 q.1 (kept (is_selector p.0) p.0 p.1 q d).1) in
    let after : r.1 ≡ z.1 = lefts (inline r.0) z.0 r.1 z.1 (kept (stands_alone r.0) (inline r.0) r.1 z j).1 in
    fails_at 45 (is 0) (next q.1) ((leads-selects (level m) q.0).lead q.1 y b) refl (ap (λ k. next k == 0) (before ∙ (lefts p.0 r.0 p.1 r.1 (sym c ∙ i) ∙ (after ∙ none))))

alone-inline_alone : (m : ℕ) → Alone Whole (inline_expression (level m) >>= alone)
alone-inline_alone m =
    alone-bind Free Whole (inline_expression (level m)) alone (alone-inline m) (λ x. alone-provided Whole (stands_alone x) _ (alone-pure Whole (inline x)))
    (λ a x t v w e g here. whole_free t w (lefts (inline a) x t v (kept (stands_alone a) (inline a) t (x, v) g).1 ∙ here))

pub alone-expression : (m : ℕ) → Alone Whole (expression (level m))
unfolding expression
alone-expression m =
    alone-or Whole (select_expression (level m)) (inline_expression (level m) >>= alone) (alone-select m) (alone-inline_alone m)
    (λ s x v w here e g. unread (select_expression (level m) s) (λ y f. no_arrow m s y (x, v) f g here))

-- ---- attributes

pub alone-name_of_value : Alone Any name_of_value
unfolding name_of_value
alone-name_of_value = alone-then Any identifier _ alone-identifier (λ id. alone-then Any (skip blank_inline) _ alone-spaces (λ _. alone-then Any (byte 61) _ (alone-byte 61 refl) (λ _. alone-then Any (skip blank_inline) _ alone-spaces (λ _. alone-pure Any id))))

alone-value : Alone (Over 100) value
unfolding value
alone-value = alone-pattern 100

pub alone-attribute : Alone (Over 100) attribute
unfolding attribute
alone-attribute =
    alone-then (Over 100) line_end _ alone-line_end (λ _.
    alone-after_byte (Over 100) 46 (name_of_value >>= (λ id. value >>= (λ v. pure (id, v)))) refl refl refl
    (alone-then (Over 100) name_of_value _ alone-name_of_value (λ id. alone-map (Over 100) (λ v. (id, v)) value alone-value)))

attribute_over : (t w : List ℕ) (z : (Text × Pattern) × List ℕ) → attribute t ≡ Some z → Over 100 t w
unfolding attribute
attribute_over t w z e = let (q, f, g) = first_read (line_end t) _ z e in line_over 100 t w q f (ap ends_pattern (eqb-true (next t) 46 (leads-attribute.lead t z e)))

-- neither a pattern nor attributes go on with what is left
abbrev pub Ended : Seam
Ended v w = Over 100 v w × Rests attribute v

pub ended_whole : (v w : List ℕ) → Whole v w → Ended v w
ended_whole v w here = ((λ e. absurd (omega (arith, ap length (sym here ∙ e))), inl here), inl here)

alone-attributes : (found : List (Text × Pattern)) → Alone Ended (attributes_from found)
alone-attributes found = alone-many (Over 100) push attribute found alone-attribute (λ a s v w e g less here. attribute_over s w (a, v) g)

before_attributes : {X : Type 0} (found : List (Text × Pattern)) (g : List (Text × Pattern) → X) (x : X) (t v w : List ℕ) → (g <$> attributes_from found) t ≡ Some (x, v) → Ended v w → Over 100 t w
before_attributes found g x t v w e here =
    let (q, f, j) = first_read (attributes_from found t) (λ o. pure (g o)) (x, v) e in
    elim (many_first push attribute (length t) found t q f) [
      | inl same ↦ subst (λ r. Over 100 r w) (sym (same ∙ lefts (g q.0) x q.1 v j)) here.0
      | inr (a, i) ↦ attribute_over t w a i
    ]

-- ---- messages, terms and entries

alone-value_first : Alone Ended value_first
unfolding value_first
alone-value_first =
    alone-bind (Over 100) Ended value _ alone-value (λ v. alone-map Ended (λ o. (Some v, o)) (attributes_from []) (alone-attributes [])) (λ a x t v w e g here. before_attributes [] (λ o. (Some a, o)) x t v w g here)

alone-attributes_alone : Alone Ended attributes_alone
unfolding attributes_alone
alone-attributes_alone =
    alone-bind (Over 100) Ended attribute _ alone-attribute (λ a. alone-map Ended (λ o. (None, o)) (attributes_from (a ∷ [])) (alone-attributes (a ∷ []))) (λ a x t v w e g here. before_attributes (a ∷ []) (λ o. (None, o)) x t v w g here)

clash-contents : (t : List ℕ) (y z : _ × List ℕ) → value_first t ≡ Some y → attributes_alone t ≡ Some z → ⊥
unfolding value_first attributes_alone attribute
clash-contents t y z e f =
    let (q, i, j) = first_read (value t) _ y e in
    let (p, k) = value_element t q i in
    let (a, l, m) = first_read (attribute t) _ z f in
    let (r, c, d) = first_read (line_end t) _ a l in
    no_element nowhere (B 100) (braced 100) t p k (line_end_text t r c) (ap ends_pattern (eqb-true (next t) 46 (leads-attribute.lead t a l)))

pub alone-message : Alone Ended n.message
unfolding n.message
alone-message =
    alone-then Ended name_of_value _ alone-name_of_value (λ id.
    alone-map Ended (λ c. message_entry id c.0 c.1) (value_first <|> attributes_alone) (alone-or Ended value_first attributes_alone alone-value_first alone-attributes_alone (way-clash Ended value_first attributes_alone clash-contents)))

pub alone-term : Alone Ended n.term
unfolding n.term
alone-term =
    alone-then Ended (byte 45) _ (alone-byte 45 refl) (λ _. alone-then Ended name_of_value _ alone-name_of_value (λ id.
    alone-bind (Over 100) Ended value _ alone-value (λ v. alone-map Ended (λ o. term_entry id v o) (attributes_from []) (alone-attributes [])) (λ a x t v w e g here. before_attributes [] (λ o. term_entry id a o) x t v w g here)))

alone-part : Alone Ended (n.message <|> n.term)
alone-part = alone-or Ended n.message n.term alone-message alone-term (way-starts Ended is_letter (is 45) n.message n.term starts-message starts-term (λ c e f. absurd (grind (arith, nat_tests))))

break_ended : (t w : List ℕ) → IsBreak t → Ended t w
break_ended t w b = (break_over 100 t w b, inr (unread (attribute t) (λ z e. true_false (next t == 46) (leads-attribute.lead t z e) (ap (λ k. k == 46) (break_next t b)))))

pub alone-entry : Alone Whole entry
unfolding entry
alone-entry =
    alone-bind Ended Whole (n.message <|> n.term) _ alone-part (λ e. alone-map Whole (λ _. e) line_end (alone-any Whole line_end alone-line_end))
    (λ a x t v w e g here. let (q, f, j) = first_read (line_end t) (λ _. pure a) (x, v) g in break_ended t w (break_here t q f (lefts a x q.1 v j ∙ here)))
