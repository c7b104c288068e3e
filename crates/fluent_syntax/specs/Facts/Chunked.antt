-- What a chunk takes, and how a source goes on after it.
use Rattle.std.proofs.Common.{◌≡◌, ◌==◌, ◌||◌, ℕ, zero, suc, ◌+◌, ◌-◌, ◌<◌, ◌≤◌, List, [], ◌∷◌, ◌++◌, length, drop, Some, None, refl, sym, ap, ◌∙◌, subst, arith, length-append, length-drop, append_assoc, append-nil, IsUtf8}
use Rattle.std.proofs.Math.Seq.{take-append_seam}
use Rattle.std.proofs.lemmas.Str.{IsCharBoundary-at_seam}
use Rattle.std.specs.Str.{IsCharBoundary}
use Rattle.std.proofs.lemmas.Bool.Decides.{nat_tests}
use Rattle.fluent_ast.specs.Tree.{Entry}
use Rattle.fluent_text.specs.Parser.{Read, ◌>>◌, ◌<$>◌, pure, ignore, skip, count, run_len, run, byte, first}
use Rattle.fluent_text.specs.Lexical.{is_inside, blank_block}
use Rattle.fluent_syntax.specs.Entries.{entry}
use Rattle.fluent_syntax.specs.Chunks.{may_begin_entry, rest_of_line, comment_line, junk_line, junk, Part, part, entry_part, blank_part, junk_part, Chunk, chunk, with_bytes, taken, followed_by, chunks_within, chunks, entry_of, entries_of, junk_range, ranges_from, start_of_part, starts_from}
use Rattle.fluent_text.specs.Facts.Runs.{run_len-stops}
use Rattle.fluent_syntax.specs.Facts.Prefixes.{TakesTo, Takes, takes-then, takes-map, takes-or, takes-pure, takes-ignore, takes-skip, takes-unless, takes-count, takes-run, takes-byte, Lessens, Eats, eats-then, eats-map, eats-or, eats-byte, run_less, then_less, no_longer}
use Rattle.fluent_syntax.specs.Facts.LexicalPrefixes.{takes-blank_block}
use Rattle.fluent_syntax.specs.Facts.Rules.{eats-blank_block, takes-entry, eats-entry}

-- ---- lines

takes-rest_of_line : Takes rest_of_line
unfolding rest_of_line
takes-rest_of_line = takes-then (run is_inside) (skip (byte 10)) (takes-run is_inside) (takes-skip (byte 10) (takes-byte 10))

feed_here : (s : List ℕ) → 0 < length s → run_len is_inside s ≡ 0 → first s ≡ 10
feed_here s n e =
    let stop = run_len-stops is_inside s (omega arith) in
    let stop0 = rw e at stop in
    grind (arith, nat_tests)

feed_less : (s : List ℕ) → 0 < length s → first s ≡ 10 → Lessens s (skip (byte 10) s)
unfolding byte
feed_less s n e = rw e (omega (arith, length-drop 1 s))

eats-rest_of_line : Eats rest_of_line
unfolding rest_of_line
eats-rest_of_line = record { less = λ s n. by_len s n (run_len is_inside s) refl }
  where
    by_len : (s : List ℕ) → 0 < length s → (k : ℕ) → run_len is_inside s ≡ k → Lessens s (rest_of_line s)
    by_len s n zero e = rw e (feed_less s n (feed_here s n e))
    by_len s n (suc k) e =
        let rest = drop (run_len is_inside s) s in
        then_less s rest (skip (byte 10) rest) (run_less is_inside s (omega arith)) ((takes-skip (byte 10) (takes-byte 10)).prefix rest)

pub takes-comment_line : Takes comment_line
unfolding comment_line
takes-comment_line = takes-then (byte 35) rest_of_line (takes-byte 35) takes-rest_of_line

eats-comment_line : Eats comment_line
unfolding comment_line
eats-comment_line = eats-then (byte 35) rest_of_line (eats-byte 35) takes-rest_of_line

pub takes-junk_line : Takes junk_line
unfolding junk_line
takes-junk_line = takes-unless (λ s. length s == 0 || may_begin_entry (first s)) rest_of_line takes-rest_of_line

pub takes-junk : Takes junk
unfolding junk
takes-junk = takes-then rest_of_line (ignore (count junk_line)) takes-rest_of_line (takes-ignore (count junk_line) (takes-count junk_line takes-junk_line))

eats-junk : Eats junk
unfolding junk
eats-junk = eats-then rest_of_line (ignore (count junk_line)) eats-rest_of_line (takes-ignore (count junk_line) (takes-count junk_line takes-junk_line))

-- ---- chunks

pub takes-part : Takes part
unfolding part
takes-part =
    takes-or (entry_part <$> entry) _ (takes-map entry_part entry takes-entry) (
    takes-or (comment_line >> pure blank_part) _ (takes-then comment_line (pure blank_part) takes-comment_line (takes-pure blank_part)) (
    takes-or (blank_block >> pure blank_part) (junk >> pure junk_part) (takes-then blank_block (pure blank_part) takes-blank_block (takes-pure blank_part))
    (takes-then junk (pure junk_part) takes-junk (takes-pure junk_part))))

pub eats-part : Eats part
unfolding part
eats-part =
    eats-or (entry_part <$> entry) _ (eats-map entry_part entry eats-entry) (
    eats-or (comment_line >> pure blank_part) _ (eats-then comment_line (pure blank_part) eats-comment_line (takes-pure blank_part)) (
    eats-or (blank_block >> pure blank_part) (junk >> pure junk_part) (eats-then blank_block (pure blank_part) eats-blank_block (takes-pure blank_part))
    (eats-then junk (pure junk_part) eats-junk (takes-pure junk_part))))

-- what was taken, where it is a prefix
pub taken_is : (s u rest : List ℕ) → s ≡ u ++ rest → taken s rest ≡ u
taken_is s u rest e =
    let n : length s - length rest ≡ length u = omega (arith, ap length e, length-append u rest) in
    rw (n, e) (take-append_seam u rest)

-- a chunk's bytes and what follows them are the text
abbrev pub CutsTo : List ℕ → Read Chunk → Type 0
CutsTo s None = Unit {0}
CutsTo s (Some p) = s ≡ p.0.bytes ++ p.1

cuts : (s : List ℕ) (r : Read Part) → TakesTo s r → CutsTo s (with_bytes s r)
cuts s None h = tt
cuts s (Some p) h = h.1 ∙ ap (λ u. u ++ p.1) (sym (taken_is s h.0 p.1 h.1))

pub chunk-cuts : (s : List ℕ) → CutsTo s (chunk s)
chunk-cuts s = cuts s (part s) (takes-part.prefix s)

lessens : (s : List ℕ) (r : Read Part) → Lessens s r → Lessens s (with_bytes s r)
lessens s None h = tt
lessens s (Some p) h = h

pub chunk-less : (s : List ℕ) → 0 < length s → Lessens s (chunk s)
chunk-less s n = lessens s (part s) (eats-part.less s n)

-- more turns than bytes change nothing
fuel : (n m : ℕ) (s : List ℕ) → length s ≤ n → length s ≤ m → chunks_within n s ≡ chunks_within m s
unfolding chunks_within
fuel zero zero s h k = refl
fuel zero (suc m) [] h k = refl
fuel (suc n) zero [] h k = refl
fuel (suc n) (suc m) [] h k = refl
fuel zero (suc m) (b ∷ s) h k = absurd (omega arith)
fuel (suc n) zero (b ∷ s) h k = absurd (omega arith)
fuel (suc n) (suc m) (b ∷ s) h k = followed_same (chunk (b ∷ s)) (chunk-less (b ∷ s) (omega arith)) (λ rest l. fuel n m rest (omega arith) (omega arith))
  where
    followed_same : (r : Read Chunk) → Lessens (b ∷ s) r → ((rest : List ℕ) → length rest < length (b ∷ s) → chunks_within n rest ≡ chunks_within m rest) → followed_by r (chunks_within n) ≡ followed_by r (chunks_within m)
    followed_same None l more = refl
    followed_same (Some p) l more = ap (λ cs. p.0 ∷ cs) (more p.1 l)

pub chunks-none : chunks [] ≡ []
unfolding chunks_within
chunks-none = refl

-- the chunks of a text that begins with this one
pub chunks-next : (s : List ℕ) (c : Chunk) (rest : List ℕ) → 0 < length s → chunk s ≡ Some (c, rest) → chunks s ≡ c ∷ chunks rest
unfolding chunks_within
chunks-next [] c rest n e = absurd (omega arith)
chunks-next (b ∷ s) c rest n e =
    let shorter : length rest < length (b ∷ s) = subst (Lessens (b ∷ s)) e (chunk-less (b ∷ s) n) in
    fuel (length (b ∷ s)) (suc (length (b ∷ s))) (b ∷ s) (omega arith) (omega arith)
    ∙ (ap (λ r. followed_by r (chunks_within (length (b ∷ s)))) e ∙ ap (λ cs. c ∷ cs) (fuel (length (b ∷ s)) (length rest) rest (omega arith) (omega arith)))

-- ---- the reader's loop

prefix_of : (s : List ℕ) (p : Part) (rest : List ℕ) → part s ≡ Some (p, rest) → TakesTo s (Some (p, rest))
prefix_of s p rest e = subst (TakesTo s) e (takes-part.prefix s)

pub part_le : (s : List ℕ) (p : Part) (rest : List ℕ) → part s ≡ Some (p, rest) → length rest ≤ length s
part_le s p rest e = no_longer s p rest (prefix_of s p rest e)

pub part_boundary : (s : List ℕ) (p : Part) (rest : List ℕ) → part s ≡ Some (p, rest) → IsUtf8 rest → IsCharBoundary s (length s - length rest)
part_boundary s p rest e utf8 =
    let f = prefix_of s p rest e in
    let n : length f.0 ≡ length s - length rest = omega (arith, ap length f.1, length-append f.0 rest) in
    subst (IsCharBoundary s) n (IsCharBoundary-at_seam s f.0 rest f.1 utf8)

pub chunk_lens : (s : List ℕ) (c : Chunk) (rest : List ℕ) → chunk s ≡ Some (c, rest) → length s ≡ length c.bytes + length rest
chunk_lens s c rest e =
    let cut = subst (CutsTo s) e (chunk-cuts s) in
    ap length cut ∙ length-append c.bytes rest

pub chunk_shorter : (s : List ℕ) (c : Chunk) (rest : List ℕ) → 0 < length s → chunk s ≡ Some (c, rest) → length rest < length s
chunk_shorter s c rest n e = subst (Lessens s) e (chunk-less s n)

pub entries-step : (found longer : List Entry) (s : List ℕ) (c : Chunk) (rest : List ℕ) (whole : List Entry)
    → 0 < length s → chunk s ≡ Some (c, rest) → longer ≡ found ++ entry_of c → found ++ entries_of (chunks s) ≡ whole → longer ++ entries_of (chunks rest) ≡ whole
entries-step found longer s c rest whole n e l w =
    ap (λ es. es ++ entries_of (chunks rest)) l
    ∙ (append_assoc found (entry_of c) (entries_of (chunks rest))
    ∙ (ap (λ cs. found ++ entries_of cs) (sym (chunks-next s c rest n e)) ∙ w))

pub ranges-step : (found longer : List (ℕ × ℕ)) (at next : ℕ) (s : List ℕ) (c : Chunk) (rest : List ℕ) (whole : List (ℕ × ℕ))
    → 0 < length s → chunk s ≡ Some (c, rest) → next ≡ at + length c.bytes → longer ≡ found ++ junk_range at c → found ++ ranges_from at (chunks s) ≡ whole → longer ++ ranges_from next (chunks rest) ≡ whole
ranges-step found longer at next s c rest whole n e m l w =
    rw m (ap (λ es. es ++ ranges_from (at + length c.bytes) (chunks rest)) l
    ∙ (append_assoc found (junk_range at c) (ranges_from (at + length c.bytes) (chunks rest))
    ∙ (ap (λ cs. found ++ ranges_from at cs) (sym (chunks-next s c rest n e)) ∙ w)))

pub starts-step : (found longer : List ℕ) (at next : ℕ) (s : List ℕ) (c : Chunk) (rest : List ℕ) (whole : List ℕ)
    → 0 < length s → chunk s ≡ Some (c, rest) → next ≡ at + length c.bytes → longer ≡ found ++ start_of_part at c.part → found ++ starts_from at (chunks s) ≡ whole → longer ++ starts_from next (chunks rest) ≡ whole
starts-step found longer at next s c rest whole n e m l w =
    rw m (ap (λ es. es ++ starts_from (at + length c.bytes) (chunks rest)) l
    ∙ (append_assoc found (start_of_part at c.part) (starts_from (at + length c.bytes) (chunks rest))
    ∙ (ap (λ cs. found ++ starts_from at cs) (sym (chunks-next s c rest n e)) ∙ w)))

pub starts-end : (found : List ℕ) (at : ℕ) (s : List ℕ) (whole : List ℕ) → length s ≡ 0 → found ++ starts_from at (chunks s) ≡ whole → found ≡ whole
starts-end found at [] whole n w = sym (append-nil found) ∙ (ap (λ cs. found ++ starts_from at cs) (sym chunks-none) ∙ w)
starts-end found at (b ∷ s) whole n w = absurd (omega arith)

pub entries-end : (found : List Entry) (s : List ℕ) (whole : List Entry) → length s ≡ 0 → found ++ entries_of (chunks s) ≡ whole → found ≡ whole
entries-end found [] whole n w = sym (append-nil found) ∙ (ap (λ cs. found ++ entries_of cs) (sym chunks-none) ∙ w)
entries-end found (b ∷ s) whole n w = absurd (omega arith)

pub ranges-end : (found : List (ℕ × ℕ)) (at : ℕ) (s : List ℕ) (whole : List (ℕ × ℕ)) → length s ≡ 0 → found ++ ranges_from at (chunks s) ≡ whole → found ≡ whole
ranges-end found at [] whole n w = sym (append-nil found) ∙ (ap (λ cs. found ++ ranges_from at cs) (sym chunks-none) ∙ w)
ranges-end found at (b ∷ s) whole n w = absurd (omega arith)
