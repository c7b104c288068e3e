-- What a chunk is, is said by its bytes: an entry, a comment or blank lines, or Junk.
use Rattle.std.proofs.Common.{◌≡◌, ◌==◌, ◌||◌, ℕ, zero, suc, ◌+◌, ◌-◌, ◌<◌, ◌≤◌, Bool, true, false, List, [], ◌∷◌, ◌++◌, length, take, drop, Some, None, if◌then◌else◌, refl, sym, ap, ◌∙◌, subst, append_assoc, append-nil, nat_lt, arith, length-append, length-drop, take-append-drop, eqb-true, ◌⊎◌, inl, inr}
use Rattle.std.proofs.lemmas.Bool.{cases_Bool}
use Rattle.std.proofs.lemmas.Bool.Decides.{nat_tests}
use Rattle.std.proofs.lemmas.List.{append_cancel_right, drop-append-le}
use Rattle.fluent_ast.specs.Tree.{Entry}
use Rattle.fluent_text.specs.Parser.{Read, Parser, ◌>>=◌, ◌>>◌, ◌<$>◌, ◌<|>◌, and_then, otherwise, pure, skip, ignore, count, one_more, many_from, turn, go_on, run_len, run, run1, byte, first}
use Rattle.fluent_text.specs.Lexical.{is_letter, is_inside, is_space, blank_inline, line_break, line_end, blank_line, blank_block}
use Rattle.fluent_syntax.specs.Chunks.{may_begin_entry, rest_of_line, comment_line, junk_line, junk, Part, entry_part, blank_part, junk_part, part, Chunk, with_bytes, chunk}
use Rattle.fluent_syntax.specs.Facts.OneLine.{stops}
use Rattle.fluent_syntax.specs.Facts.Chunked.{taken_is}
use Rattle.fluent_text.specs.Facts.Runs.{run_len-le}
use Rattle.fluent_grammar_laws.proofs.Near.{is_read, none_left, none_of}
use Rattle.fluent_grammar_laws.proofs.Known.{lefts, values, unread, taken_one}
use Rattle.fluent_grammar_laws.proofs.Leads.{first_read, true_false, line_end_read, Starts, starts-bind, starts-byte, starts-or, starts-weaker}
use Rattle.fluent_grammar_laws.proofs.KnownRules.{is}
use Rattle.fluent_grammar_laws.proofs.KnownEntries.{starts-message, starts-term, entry_before}
use Rattle.fluent_grammar_laws.proofs.Solid.{SolidTo, solid-part}
use Rattle.fluent_grammar_laws.proofs.AlonePieces.{alone-blank_block}
use Rattle.fluent_grammar_laws.proofs.AloneEntries.{break_here, alone-entry}
use Rattle.fluent_grammar_laws.specs.ReadLaws.{TreeOfPrefix}
use Rattle.fluent_grammar_laws.specs.PrefixLaws.{EndsEntry, line_breaks, nothing_more, entry_line}
use Rattle.fluent_syntax.specs.Entries as n
use Rattle.fluent_syntax.specs.Entries.{entry}
use Rattle.fluent_grammar_laws.proofs.ChunkLaws.{IsRead, read-many, read-then}
use Rattle.fluent_grammar_laws.proofs.AloneRules.{over, skip_some}

-- ---- lines of Junk

-- a text is over, or a line of the whole ends before it
abbrev LineBefore : List ℕ → List ℕ → Type 0
LineBefore s t = (t ≡ []) ⊎ ((prefix : List ℕ) × (s ≡ prefix ++ 10 ∷ t))

fed : (t : List ℕ) → run_len is_inside t ≡ 0 → (z : Unit {0} × List ℕ) → skip (byte 10) t ≡ Some z → (t ≡ []) × (z.1 ≡ []) ⊎ (t ≡ 10 ∷ z.1)
unfolding byte
fed [] e z f = inl (refl, sym (lefts tt z.0 [] z.1 f))
fed (c ∷ t) e z f =
    elim (cases_Bool (c == 10)) [
      | inl feed ↦ let f2 = rw feed at f in inr (ap (λ k. k ∷ t) (eqb-true c 10 feed) ∙ ap (λ r. 10 ∷ r) (lefts tt z.0 t z.1 f2))
      | inr other ↦ let e2 = rw other at e in absurd (omega arith)
    ]

line_before : (s : List ℕ) (z : Unit {0} × List ℕ) → rest_of_line s ≡ Some z → LineBefore s z.1
unfolding rest_of_line
line_before s z e =
    let (q, f, g) = first_read (run is_inside s) (λ _. skip (byte 10)) z e in
    let d : drop (run_len is_inside s) s ≡ q.1 = lefts (take (run_len is_inside s) s) q.0 (drop (run_len is_inside s) s) q.1 f in
    elim (fed q.1 (ap (run_len is_inside) (sym d) ∙ stops is_inside s) z g) [
      | inl none ↦ inl none.1
      | inr feed ↦ inr (take (run_len is_inside s) s, sym (take-append-drop (run_len is_inside s) s) ∙ ap (λ t. take (run_len is_inside s) s ++ t) (d ∙ feed))
    ]

-- there Junk ends
abbrev JunkEnds : List ℕ → Type 0
JunkEnds t = (t ≡ []) ⊎ (may_begin_entry (first t) ≡ true)

line_some : (s : List ℕ) → rest_of_line s ≡ None → ⊥
unfolding rest_of_line
line_some s e = skip_some (byte 10) (drop (run_len is_inside s) s) e

line_of : (s : List ℕ) (b : Bool) (z : Unit {0} × List ℕ) → (if b then None else rest_of_line s) ≡ Some z → rest_of_line s ≡ Some z
line_of s true z e = absurd (is_read z (sym e))
line_of s false z e = e

none_of_line : (s : List ℕ) (b : Bool) → (if b then None else rest_of_line s) ≡ None → b ≡ true
none_of_line s true e = refl
none_of_line s false e = absurd (line_some s e)

ends_there : (s : List ℕ) → junk_line s ≡ None → JunkEnds s
unfolding junk_line
ends_there [] e = inl refl
ends_there (c ∷ s) e =
    let b : (length (c ∷ s) == 0 || may_begin_entry c) ≡ true = none_of_line (c ∷ s) (length (c ∷ s) == 0 || may_begin_entry c) e in
    let n : (length (c ∷ s) == 0) ≡ false = grind (arith, nat_tests) in
    inr (rw n at b)

-- a line of Junk takes a byte
line_shorter : (s : List ℕ) (z : Unit {0} × List ℕ) → junk_line s ≡ Some z → length z.1 < length s
unfolding junk_line
line_shorter [] z e = absurd (is_read z (sym e))
line_shorter (c ∷ s) z e =
    elim (line_before (c ∷ s) z (line_of (c ∷ s) (length (c ∷ s) == 0 || may_begin_entry c) z e)) [
      | inl none ↦ omega (arith, ap length none)
      | inr (prefix, f) ↦ omega (arith, ap length f, length-append prefix (10 ∷ z.1))
    ]

line_after : (whole s : List ℕ) (z : Unit {0} × List ℕ) → LineBefore whole s → junk_line s ≡ Some z → LineBefore whole z.1
unfolding junk_line
line_after whole s z (inl none) e = absurd (omega (arith, line_shorter s z e, ap length none))
line_after whole s z (inr (prefix, f)) e =
    elim (line_before s z (line_of s (length s == 0 || may_begin_entry (first s)) z e)) [
      | inl none ↦ inl none
      | inr (line, g) ↦ inr (prefix ++ 10 ∷ line, f ∙ (ap (λ t. prefix ++ 10 ∷ t) g ∙ sym (append_assoc prefix (10 ∷ line) (10 ∷ z.1))))
    ]

junk_turns : (whole : List ℕ) (n k : ℕ) (s : List ℕ) (z : ℕ × List ℕ) → length s ≤ n → LineBefore whole s → many_from one_more junk_line n k s ≡ Some z → LineBefore whole z.1 × JunkEnds z.1
unfolding many_from
junk_turns whole zero k [] z l h e = let same : [] ≡ z.1 = lefts k z.0 [] z.1 e in (inl (sym same), inl (sym same))
junk_turns whole zero k (c ∷ s) z l h e = absurd (omega (arith, l))
junk_turns whole (suc n) k s z l h e = by (junk_line s) refl e (λ m t j g f. junk_turns whole n m t z j g f)
  where
    gone : (q : Unit {0} × List ℕ) (b : Bool) → nat_lt (length q.1) (length s) ≡ b → junk_line s ≡ Some q → go_on one_more (many_from one_more junk_line n) k s q b ≡ Some z
        → ((m : ℕ) (t : List ℕ) → length t ≤ n → LineBefore whole t → many_from one_more junk_line n m t ≡ Some z → LineBefore whole z.1 × JunkEnds z.1) → LineBefore whole z.1 × JunkEnds z.1
    gone q true j g f others = others (one_more k q.0) q.1 (omega (arith, line_shorter s q g, l)) (line_after whole s q h g) f
    gone q false j g f others = let less = line_shorter s q g in absurd (grind (arith, nat_tests))

    by : (r : Read (Unit {0})) → junk_line s ≡ r → turn one_more (many_from one_more junk_line n) k s r ≡ Some z
        → ((m : ℕ) (t : List ℕ) → length t ≤ n → LineBefore whole t → many_from one_more junk_line n m t ≡ Some z → LineBefore whole z.1 × JunkEnds z.1) → LineBefore whole z.1 × JunkEnds z.1
    by None g f others = let same : s ≡ z.1 = lefts k z.0 s z.1 f in (subst (LineBefore whole) same h, subst JunkEnds same (ends_there s g))
    by (Some q) g f others = gone q (nat_lt (length q.1) (length s)) refl g f others

junk_read : (s : List ℕ) (z : Unit {0} × List ℕ) → junk s ≡ Some z → LineBefore s z.1 × JunkEnds z.1
unfolding junk
junk_read s z e =
    let (q, f, g) = first_read (rest_of_line s) (λ _. ignore (count junk_line)) z e in
    let (r, i, j) = first_read (count junk_line q.1) (λ _. pure tt) z g in
    let k = junk_turns s (length q.1) 0 q.1 r (omega arith) (line_before s q f) i in
    let same : r.1 ≡ z.1 = lefts tt z.0 r.1 z.1 j in
    (subst (LineBefore s) same k.0, subst JunkEnds same k.1)

-- what Junk takes ends with a line feed, if anything stands after it
abbrev Fed : List ℕ → Type 0
Fed u = (prefix : List ℕ) × (u ≡ prefix ++ 10 ∷ [])

junk_fed : (u w : List ℕ) (x : Unit {0}) → junk (u ++ w) ≡ Some (x, w) → (w ≡ []) ⊎ (Fed u × (may_begin_entry (first w) ≡ true))
junk_fed u w x e =
    let (before, ends) = junk_read (u ++ w) (x, w) e in
    elim before [
      | inl none ↦ inl none
      | inr (prefix, f) ↦ elim ends [
        | inl none ↦ inl none
        | inr may ↦ inr ((prefix, append_cancel_right u (prefix ++ 10 ∷ []) w (f ∙ sym (append_assoc prefix (10 ∷ []) w))), may)
      ]
    ]

-- ---- blank lines

blank_line_is : (s : List ℕ) → blank_line s ≡ line_end (drop (run_len is_space s) s)
unfolding blank_line blank_inline run1
blank_line_is s = by (run_len is_space s) refl
  where
    by : (n : ℕ) → run_len is_space s ≡ n → blank_line s ≡ line_end (drop (run_len is_space s) s)
    by zero e = rw e refl
    by (suc n) e = let some : (run_len is_space s == 0) ≡ false = grind (arith, nat_tests) in rw some refl

spaces_short : (prefix t : List ℕ) → run_len is_space (prefix ++ 10 ∷ t) ≤ length prefix
spaces_short [] t = omega arith
spaces_short (c ∷ prefix) t =
    elim (cases_Bool (c == 32)) [
      | inl space ↦ rw space (omega (arith, spaces_short prefix t))
      | inr other ↦ rw other (omega arith)
    ]

spaces_on : (s w : List ℕ) → run_len is_space s < length s → run_len is_space (s ++ w) ≡ run_len is_space s
spaces_on [] w l = absurd (omega (arith, l))
spaces_on (c ∷ s) w l =
    elim (cases_Bool (c == 32)) [
      | inl space ↦ let l2 : 1 + run_len is_space s < length (c ∷ s) = subst (λ b. (if b then 1 + run_len is_space s else 0) < length (c ∷ s)) space l in rw space (ap (λ k. 1 + k) (spaces_on s w (omega (arith, l2))))
      | inr other ↦ rw other refl
    ]

line_end_on : (t w : List ℕ) (z : Unit {0} × List ℕ) → 0 < length t → line_end t ≡ Some z → line_end (t ++ w) ≡ None → ⊥
unfolding line_end line_break byte
line_end_on t w z some e none =
    elim (line_end_read t z e) [
      | inl pair ↦ is_read (tt, z.1 ++ w) (ap (λ r. line_end (r ++ w)) (sym pair) ∙ none)
      | inr (inl feed) ↦ is_read (tt, z.1 ++ w) (ap (λ r. line_end (r ++ w)) (sym feed) ∙ none)
      | inr (inr over) ↦ absurd (grind (arith, nat_tests))
    ]

-- a blank line that ends with a line feed is one before whatever follows
blank_on : (u w : List ℕ) (z : Unit {0} × List ℕ) → Fed u → blank_line u ≡ Some z → blank_line (u ++ w) ≡ None → ⊥
blank_on u w z (prefix, f) e none =
    let short : run_len is_space u ≤ length prefix = subst (λ t. run_len is_space t ≤ length prefix) (sym f) (spaces_short prefix []) in
    let less : run_len is_space u < length u = omega (arith, short, ap length f, length-append prefix (10 ∷ [])) in
    let some : 0 < length (drop (run_len is_space u) u) = omega (arith, less, length-drop (run_len is_space u) u) in
    let there : blank_line (u ++ w) ≡ line_end (drop (run_len is_space u) u ++ w) = blank_line_is (u ++ w) ∙ ap line_end (ap (λ k. drop k (u ++ w)) (spaces_on u w less) ∙ drop-append-le (run_len is_space u) u w (run_len-le is_space u)) in
    line_end_on (drop (run_len is_space u) u) w z some (sym (blank_line_is u) ∙ e) (sym there ∙ none)

abbrev more_of : Unit {0} → Parser ℕ
more_of a = count blank_line >>= (λ more. pure (more + 1))

more_read : (a : Unit {0}) (t : List ℕ) → IsRead (more_of a t)
more_read a t = read-then (count blank_line t) (λ more. pure (more + 1)) (read-many one_more blank_line (length t) 0 t) (λ more r. tt)

-- blank lines that end with a line feed are some before whatever follows
block_on : (u w : List ℕ) (z : ℕ × List ℕ) → Fed u → blank_block u ≡ Some z → blank_block (u ++ w) ≡ None → ⊥
unfolding blank_block
block_on u w z f e none =
    let (q, g, k) = first_read (blank_line u) more_of z e in
    blank_on u w q f g (unread (blank_line (u ++ w)) (λ y i. subst IsRead none (subst (λ r. IsRead (and_then r more_of)) (sym i) (more_read y.0 y.1))))

no_line : (s : List ℕ) → over (first s) ≡ true → blank_line s ≡ None
unfolding blank_line blank_inline line_end line_break run1 byte
no_line [] e = absurd (true_false (over 0) e refl)
no_line (c ∷ s) e =
    let a : (c == 32) ≡ false = grind (arith, nat_tests) in
    let b : (c == 13) ≡ false = grind (arith, nat_tests) in
    let d : (c == 10) ≡ false = grind (arith, nat_tests) in
    let f : (length (c ∷ s) == 0) ≡ false = grind (arith, nat_tests) in
    rw (a, b, d, f) refl

no_block : (s : List ℕ) (z : ℕ × List ℕ) → over (first s) ≡ true → blank_block s ≡ Some z → ⊥
unfolding blank_block
no_block s z o e = let (q, f, g) = first_read (blank_line s) more_of z e in is_read q (sym f ∙ no_line s o)

-- ---- entries

abbrev begins : ℕ → Bool
begins c = is_letter c || c == 45

starts-part : Starts begins (n.message <|> n.term)
starts-part = starts-or begins n.message n.term (starts-weaker is_letter begins n.message (λ c e. grind (arith, nat_tests)) starts-message) (starts-weaker (is 45) begins n.term (λ c e. grind (arith, nat_tests)) starts-term)

starts-entry : Starts begins entry
unfolding entry
starts-entry = starts-bind begins (n.message <|> n.term) _ starts-part

-- an entry begins with its own first byte before whatever follows
entry_first : (u w : List ℕ) (z : Entry × List ℕ) → entry u ≡ Some z → begins (first (u ++ w)) ≡ true
entry_first [] w z e = absurd (true_false (begins 0) (starts-entry.start [] z e) refl)
entry_first (c ∷ u) w z e = starts-entry.start (c ∷ u) z e

-- what may begin an entry ends the one before it
nothing_there : (w : List ℕ) → may_begin_entry (first w) ≡ true → nothing_more w ≡ true
nothing_there [] e = absurd (true_false (may_begin_entry 0) e refl)
nothing_there (c ∷ w) e = let a : (c == 32) ≡ false = grind (arith, nat_tests) in rw a (grind (arith, nat_tests))

may_over : (c : ℕ) → may_begin_entry c ≡ true → over c ≡ true
may_over c e = grind (arith, nat_tests)

ends_entry : (w : List ℕ) → may_begin_entry (first w) ≡ true → EndsEntry w
unfolding line_breaks line_break byte
ends_entry w e = (0, w, none_left one_more blank_line (length w) 0 w (no_line w (may_over (first w) e)), nothing_there w e)

ends_nothing : EndsEntry []
unfolding many_from byte run1 blank_inline line_break line_end blank_line line_breaks
ends_nothing = (0, [], refl, refl)

last : List ℕ → ℕ
last [] = 0
last (c ∷ []) = c
last (b ∷ c ∷ s) = last (c ∷ s)

last_is : (prefix : List ℕ) (c : ℕ) → last (prefix ++ c ∷ []) ≡ c
unfolding last
last_is [] c = refl
last_is (a ∷ []) c = refl
last_is (a ∷ b ∷ prefix) c = last_is (b ∷ prefix) c

break_read : (t : List ℕ) → (t ≡ 10 ∷ []) ⊎ (t ≡ 13 ∷ 10 ∷ []) → line_break t ≡ Some (tt, [])
unfolding line_break byte
break_read t (inl feed) = ap line_break feed
break_read t (inr pair) = ap line_break pair

-- what ends with a line feed ends with nothing else
fed_solid : (u : List ℕ) → Fed u → SolidTo u [] → ⊥
fed_solid u (prefix, f) (most, c, g, solid) =
    let same : c ≡ 10 = sym (last_is most c) ∙ (ap last (sym g ∙ f) ∙ last_is prefix 10) in
    true_false (c == 10) (ap (λ k. k == 10) same) solid

-- an entry with its line break is one before what may begin the next
entry_line_on : (u w : List ℕ) (e : Entry) → may_begin_entry (first w) ≡ true → entry_line u ≡ Some (e, []) → entry (u ++ w) ≡ None → ⊥
entry_line_on u w e may alone none =
    let (part, g, more) = entry_before u e [] alone ends_nothing in
    is_read (e, w) (sym (more w (ends_entry w may)) ∙ (ap (λ t. entry (t ++ w)) (sym (g ∙ append-nil part)) ∙ none))

entry_line_of : (u t : List ℕ) (q e : Entry) → (n.message <|> n.term) u ≡ Some (q, t) → line_break t ≡ Some (tt, []) → q ≡ e → entry_line u ≡ Some (e, [])
unfolding entry_line
entry_line_of u t q e f g same = ap (λ z. and_then z (λ e. line_break >> pure e)) f ∙ (ap (λ z. and_then z (λ _. pure q)) g ∙ ap (λ y. Some (y, [])) same)

-- an entry that ends with a line feed is one before what may begin the next
entry_on : (u w : List ℕ) (e : Entry) → Fed u → may_begin_entry (first w) ≡ true → entry u ≡ Some (e, []) → entry (u ++ w) ≡ None → ⊥
unfolding entry
entry_on u w e feed may read none =
    let (q, i, j) = first_read ((n.message <|> n.term) u) (λ e. line_end >> pure e) (e, []) read in
    let (r, k, l) = first_read (line_end q.1) (λ _. pure q.0) (e, []) j in
    elim (break_here q.1 r k (lefts q.0 e r.1 [] l)) [
      | inl over ↦ fed_solid u feed (subst (SolidTo u) over (solid-part.solid u q i))
      | inr broken ↦ entry_line_on u w e may (entry_line_of u q.1 q.0 e i (break_read q.1 broken) (values q.0 e r.1 [] l)) none
    ]

-- ---- what a chunk is

either_none : {A : Type 0} (r : Read A) (q : Parser A) (s : List ℕ) (z : A × List ℕ) → otherwise r q s ≡ Some z → (r ≡ Some z) ⊎ ((r ≡ None) × (q s ≡ Some z))
either_none None q s z e = inr (refl, e)
either_none (Some p) q s z e = inl e

-- a comment, or blank lines
abbrev BlankRead : List ℕ → List ℕ → Type 0
BlankRead s t = (comment_line s ≡ Some (tt, t)) ⊎ ((k : ℕ) × (blank_block s ≡ Some (k, t)))

record JunkRead (s t : List ℕ) : Type 0 where
  no_comment : comment_line s ≡ None
  no_lines : blank_block s ≡ None
  taken : junk s ≡ Some (tt, t)

abbrev PartRead : List ℕ → List ℕ → Part → Type 0
PartRead s t x = ((e : Entry) × (entry s ≡ Some (e, t)) × (entry_part e ≡ x)) ⊎ ((entry s ≡ None) × ((BlankRead s t × (blank_part ≡ x)) ⊎ (JunkRead s t × (junk_part ≡ x))))

part_read : (s t : List ℕ) (x : Part) → part s ≡ Some (x, t) → PartRead s t x
unfolding part
part_read s t x e =
    elim (either_none ((entry_part <$> entry) s) _ s (x, t) e) [
      | inl one ↦ let (q, f, g) = first_read (entry s) (λ y. pure (entry_part y)) (x, t) one in inl (q.0, f ∙ ap (λ r. Some (q.0, r)) (lefts (entry_part q.0) x q.1 t g), values (entry_part q.0) x q.1 t g)
      | inr (none, others) ↦ inr (
        none_of entry_part (entry s) none,
        elim (either_none ((comment_line >> pure blank_part) s) _ s (x, t) others) [
          | inl one ↦ let (q, f, g) = first_read (comment_line s) (λ _. pure blank_part) (x, t) one in inl (inl (f ∙ ap (λ r. Some (q.0, r)) (lefts blank_part x q.1 t g)), values blank_part x q.1 t g)
          | inr (bare, more) ↦ elim (either_none ((blank_block >> pure blank_part) s) _ s (x, t) more) [
            | inl one ↦ let (q, f, g) = first_read (blank_block s) (λ _. pure blank_part) (x, t) one in inl (inr (q.0, f ∙ ap (λ r. Some (q.0, r)) (lefts blank_part x q.1 t g)), values blank_part x q.1 t g)
            | inr (full, rest) ↦
                let (q, f, g) = first_read (junk s) (λ _. pure junk_part) (x, t) rest in
                inr (record { no_comment = none_of (λ _. blank_part) (comment_line s) bare; no_lines = none_of (λ _. blank_part) (blank_block s) full; taken = f ∙ ap (λ r. Some (q.0, r)) (lefts junk_part x q.1 t g) }, values junk_part x q.1 t g)
          ]
        ],
      )
    ]

starts-comment : Starts (is 35) comment_line
unfolding comment_line
starts-comment = starts-bind (is 35) (byte 35) _ (starts-byte (is 35) 35 refl refl)

entry_alone : (u w : List ℕ) (e : Entry) → entry (u ++ w) ≡ Some (e, w) → entry u ≡ Some (e, [])
entry_alone u w e f = alone-entry.alone u e [] w refl f

entry_blank : (u w o : List ℕ) (e : Entry) → entry (u ++ w) ≡ Some (e, w) → BlankRead (u ++ o) o → ⊥
entry_blank u w o e f (inl comment) = let a = entry_first u o (e, []) (entry_alone u w e f) in let b = starts-comment.start (u ++ o) (tt, o) comment in absurd (grind (arith, nat_tests))
entry_blank u w o e f (inr (k, block)) = no_block (u ++ o) (k, o) (begins_over (first (u ++ o)) (entry_first u o (e, []) (entry_alone u w e f))) block
  where
    begins_over : (c : ℕ) → begins c ≡ true → over c ≡ true
    begins_over c e = grind (arith, nat_tests)

entry_junk : (u w o : List ℕ) (e : Entry) → entry (u ++ w) ≡ Some (e, w) → entry (u ++ o) ≡ None → JunkRead (u ++ o) o → ⊥
entry_junk u w o e f none h =
    elim (junk_fed u o tt h.taken) [
      | inl over ↦ is_read (e, []) (sym (entry_alone u w e f) ∙ (ap entry (sym (append-nil u) ∙ ap (λ t. u ++ t) (sym over)) ∙ none))
      | inr (feed, may) ↦ entry_on u o e feed may (entry_alone u w e f) none
    ]

comment_junk : (u w o : List ℕ) → comment_line (u ++ w) ≡ Some (tt, w) → comment_line (u ++ o) ≡ None → ⊥
unfolding comment_line byte
comment_junk [] w o e none =
    let (q, f, g) = first_read (byte 35 w) (λ _. rest_of_line) (tt, w) e in
    let z : w ≡ 35 ∷ q.1 = taken_one 35 refl w q.1 f in
    elim (line_before q.1 (tt, w) g) [
      | inl over ↦ absurd (omega (arith, ap length (sym over ∙ z)))
      | inr (prefix, h) ↦ absurd (omega (arith, ap length h, ap length z, length-append prefix (10 ∷ w)))
    ]
comment_junk (c ∷ u) w o e none =
    let z : c ≡ 35 = eqb-true c 35 (starts-comment.start (c ∷ (u ++ w)) (tt, w) e) in
    line_some (u ++ o) (ap (λ k. comment_line (k ∷ (u ++ o))) (sym z) ∙ none)

blank_junk : (u w o : List ℕ) → BlankRead (u ++ w) w → JunkRead (u ++ o) o → ⊥
blank_junk u w o (inl comment) h = comment_junk u w o comment h.no_comment
blank_junk u w o (inr (k, block)) h =
    let alone : blank_block u ≡ Some (k, []) = alone-blank_block.alone u k [] w (tt, inl refl) block in
    elim (junk_fed u o tt h.taken) [
      | inl over ↦ is_read (k, []) (sym alone ∙ (ap blank_block (sym (append-nil u) ∙ ap (λ t. u ++ t) (sym over)) ∙ h.no_lines))
      | inr (feed, may) ↦ block_on u o (k, []) feed alone h.no_lines
    ]

same_part : (u w o : List ℕ) (x y : Part) → PartRead (u ++ w) w x → PartRead (u ++ o) o y → x ≡ y
same_part u w o x y (inl (e, f, g)) (inl (d, h, i)) = sym g ∙ (ap entry_part (values e d [] [] (sym (entry_alone u w e f) ∙ entry_alone u o d h)) ∙ i)
same_part u w o x y (inl (e, f, g)) (inr (none, inl (blank, i))) = absurd (entry_blank u w o e f blank)
same_part u w o x y (inl (e, f, g)) (inr (none, inr (junked, i))) = absurd (entry_junk u w o e f none junked)
same_part u w o x y (inr (none, inl (blank, i))) (inl (e, f, g)) = absurd (entry_blank u o w e f blank)
same_part u w o x y (inr (none, inr (junked, i))) (inl (e, f, g)) = absurd (entry_junk u o w e f none junked)
same_part u w o x y (inr (none, inl (blank, g))) (inr (bare, inl (other, i))) = sym g ∙ i
same_part u w o x y (inr (none, inl (blank, g))) (inr (bare, inr (junked, i))) = absurd (blank_junk u w o blank junked)
same_part u w o x y (inr (none, inr (junked, g))) (inr (bare, inl (blank, i))) = absurd (blank_junk u o w blank junked)
same_part u w o x y (inr (none, inr (junked, g))) (inr (bare, inr (other, i))) = sym g ∙ i

part_tree : TreeOfPrefix part
part_tree prefix one other x y e f = same_part prefix one other x y (part_read (prefix ++ one) one x e) (part_read (prefix ++ other) other y f)

-- with its bytes
bytes_of : (s : List ℕ) (r : Read Part) (x : Chunk) (t : List ℕ) → part s ≡ r → with_bytes s r ≡ Some (x, t) → (y : Part) × (part s ≡ Some (y, t)) × ((record { bytes = take (length s - length t) s; part = y }) ≡ x)
bytes_of s None x t e f = absurd (is_read (x, t) (sym f))
bytes_of s (Some p) x t e f = let z : p.1 ≡ t = lefts _ x p.1 t f in (p.0, e ∙ ap (λ r. Some (p.0, r)) z, ap (λ r. record { bytes = take (length s - length r) s; part = p.0 }) (sym z) ∙ values _ x p.1 t f)

pub chunk_tree : TreeOfPrefix chunk
chunk_tree prefix one other x y e f =
    let (p, g, h) = bytes_of (prefix ++ one) (part (prefix ++ one)) x one refl e in
    let (q, i, j) = bytes_of (prefix ++ other) (part (prefix ++ other)) y other refl f in
    sym h ∙ (ap (λ b. record { bytes = b; part = p }) (taken_is (prefix ++ one) prefix one refl ∙ sym (taken_is (prefix ++ other) prefix other refl)) ∙ (ap (λ z. record { bytes = take (length (prefix ++ other) - length other) (prefix ++ other); part = z }) (part_tree prefix one other p q g i) ∙ j))
