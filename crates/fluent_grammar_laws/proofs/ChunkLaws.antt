-- The laws of chunks.
use Rattle.std.proofs.Common.{◌≡◌, ℕ, zero, suc, ◌+◌, ◌<◌, ◌≤◌, List, [], ◌∷◌, ◌++◌, length, Some, None, All, refl, sym, ap, ◌∙◌, subst, arith, zero-add}
use Rattle.fluent_text.specs.Parser.{Read, Parser, ◌>>◌, ◌<$>◌, and_then, otherwise, pure, ignore, skip, many_from, turn, go_on, count, one_more, run, byte}
use Rattle.fluent_text.specs.Lexical.{is_inside, blank_block}
use Rattle.fluent_syntax.specs.Entries.{entry}
use Rattle.fluent_syntax.specs.Chunks.{rest_of_line, comment_line, junk_line, junk, Part, part, entry_part, blank_part, junk_part, Chunk, chunk, with_bytes, chunks, part_range, ranges_from, junk_ranges}
use Rattle.fluent_grammar_laws.specs.ChunkLaws.{bytes_of, MadeOfChunks, NoneEmpty, InOrder, RangesWithin}
use Rattle.fluent_syntax.specs.Facts.Chunked.{CutsTo, chunk-cuts, chunk_lens, chunk_shorter, chunks-none, chunks-next}
use Rattle.std.specs.Prelude.{nat_lt, Bool, true, false}
use Rattle.std.proofs.lemmas.List.Elements.{All-nil, All-cons}

-- ---- there is a chunk at each place

abbrev pub IsRead : {A : Type 0} → Read A → Type 0
IsRead None = ⊥
IsRead (Some p) = Unit {0}

pub read-many : {A B : Type 0} (add : B → A → B) (p : Parser A) (n : ℕ) (acc : B) (s : List ℕ) → IsRead (many_from add p n acc s)
unfolding many_from
read-many add p zero acc s = tt
read-many {A = A} {B = B} add p (suc n) acc s = turned (p s) (λ b t. read-many add p n b t)
  where
    gone : (q : A × List ℕ) (v : Bool) → ((b : B) (t : List ℕ) → IsRead (many_from add p n b t)) → IsRead (go_on add (many_from add p n) acc s q v)
    gone q true more = more (add acc q.0) q.1
    gone q false more = tt

    turned : (r : Read A) → ((b : B) (t : List ℕ) → IsRead (many_from add p n b t)) → IsRead (turn add (many_from add p n) acc s r)
    turned None more = tt
    turned (Some q) more = gone q (nat_lt (length q.1) (length s)) more

pub read-otherwise : {A : Type 0} (r : Read A) (q : Parser A) (s : List ℕ) → IsRead (q s) → IsRead (otherwise r q s)
read-otherwise None q s h = h
read-otherwise (Some p) q s h = tt

pub read-then : {A B : Type 0} (r : Read A) (f : A → Parser B) → IsRead r → ((a : A) (t : List ℕ) → IsRead (f a t)) → IsRead (and_then r f)
read-then None f h k = absurd h
read-then (Some p) f h k = k p.0 p.1

read-skip : {A : Type 0} (p : Parser A) (s : List ℕ) → IsRead (skip p s)
read-skip p s = read-otherwise (ignore p s) (pure tt) s tt

read-rest_of_line : (s : List ℕ) → IsRead (rest_of_line s)
unfolding rest_of_line
read-rest_of_line s = read-then (run is_inside s) (λ _. skip (byte 10)) tt (λ _ t. read-skip (byte 10) t)

read-junk : (s : List ℕ) → IsRead (junk s)
unfolding junk
read-junk s = read-then (rest_of_line s) (λ _. ignore (count junk_line)) (read-rest_of_line s)
    (λ _ t. read-then (count junk_line t) (λ _. pure (tt {0})) (read-many one_more junk_line (length t) 0 t) (λ _ u. tt))

read-part : (s : List ℕ) → IsRead (part s)
unfolding part
read-part s =
    read-otherwise ((entry_part <$> entry) s) _ s (
    read-otherwise ((comment_line >> pure blank_part) s) _ s (
    read-otherwise ((blank_block >> pure blank_part) s) (junk >> pure junk_part) s (
    read-then (junk s) (λ _. pure junk_part) (read-junk s) (λ _ t. tt))))

read-with_bytes : (s : List ℕ) (r : Read Part) → IsRead r → IsRead (with_bytes s r)
read-with_bytes s None h = h
read-with_bytes s (Some p) h = tt

at_read : (P : Type 0) (s : List ℕ) (r : Read Chunk) → chunk s ≡ r → IsRead r → ((c : Chunk) (rest : List ℕ) → chunk s ≡ Some (c, rest) → P) → P
at_read P s None e h k = absurd h
at_read P s (Some p) e h k = k p.0 p.1 e

-- what holds whatever the chunk at the start is
pub by_chunk : (P : Type 0) (s : List ℕ) → ((c : Chunk) (rest : List ℕ) → chunk s ≡ Some (c, rest) → P) → P
by_chunk P s k = at_read P s (chunk s) refl (read-with_bytes s (part s) (read-part s)) k

-- ---- the laws, by the length of what is left

made : (n : ℕ) (s : List ℕ) → length s ≤ n → bytes_of (chunks s) ≡ s
made n [] h = ap bytes_of chunks-none
made zero (b ∷ s) h = absurd (omega arith)
made (suc n) (b ∷ s) h = by_chunk _ (b ∷ s) (λ c rest e.
    let shorter = chunk_shorter (b ∷ s) c rest (omega arith) e in
    ap bytes_of (chunks-next (b ∷ s) c rest (omega arith) e)
    ∙ (ap (λ u. c.bytes ++ u) (made n rest (omega arith)) ∙ sym (subst (CutsTo (b ∷ s)) e (chunk-cuts (b ∷ s)))))

pub made_of_chunks : (s : List ℕ) → MadeOfChunks s
made_of_chunks s = made (length s) s (omega arith)

full : (n : ℕ) (s : List ℕ) → length s ≤ n → NoneEmpty s
full n [] h = subst (All (λ c. 0 < length c.bytes)) (sym chunks-none) (All-nil (λ c. 0 < length c.bytes))
full zero (b ∷ s) h = absurd (omega arith)
full (suc n) (b ∷ s) h = by_chunk _ (b ∷ s) (λ c rest e.
    let shorter = chunk_shorter (b ∷ s) c rest (omega arith) e in
    let lens = chunk_lens (b ∷ s) c rest e in
    subst (All (λ c. 0 < length c.bytes)) (sym (chunks-next (b ∷ s) c rest (omega arith) e)) (All-cons (λ c. 0 < length c.bytes) c (chunks rest) (omega arith) (full n rest (omega arith))))

pub none_empty : (s : List ℕ) → NoneEmpty s
none_empty s = full (length s) s (omega arith)

first_in_order : (low at next high : ℕ) (p : Part) (rs : List (ℕ × ℕ)) → low ≤ at → at < next → ((from : ℕ) → from ≤ next → InOrder from high rs) → InOrder low high (part_range at next p ++ rs)
first_in_order low at next high junk_part rs l h more = (l, h, more next (omega arith))
first_in_order low at next high blank_part rs l h more = more low (omega arith)
first_in_order low at next high (entry_part e) rs l h more = more low (omega arith)

in_order : (n at low : ℕ) (s : List ℕ) → length s ≤ n → low ≤ at → InOrder low (at + length s) (ranges_from at (chunks s))
in_order n at low [] h l = subst (λ cs. InOrder low (at + 0) (ranges_from at cs)) (sym chunks-none) (omega arith)
in_order zero at low (b ∷ s) h l = absurd (omega arith)
in_order (suc n) at low (b ∷ s) h l = by_chunk _ (b ∷ s) (λ c rest e.
    let shorter = chunk_shorter (b ∷ s) c rest (omega arith) e in
    let lens = chunk_lens (b ∷ s) c rest e in
    let next : ℕ = at + length c.bytes in
    let high : next + length rest ≡ at + length (b ∷ s) = omega arith in
    subst (λ cs. InOrder low (at + length (b ∷ s)) (ranges_from at cs)) (sym (chunks-next (b ∷ s) c rest (omega arith) e))
    (first_in_order low at next (at + length (b ∷ s)) c.part (ranges_from next (chunks rest)) l (omega arith)
    (λ from k. subst (λ m. InOrder from m (ranges_from next (chunks rest))) high (in_order n next from rest (omega arith) k))))

pub ranges_within : (s : List ℕ) → RangesWithin s
ranges_within s = subst (λ m. InOrder 0 m (junk_ranges s)) (zero-add (length s)) (in_order (length s) 0 0 s (omega arith) (omega arith))

pub ruleset chunk_laws = (made_of_chunks, none_empty, ranges_within)
