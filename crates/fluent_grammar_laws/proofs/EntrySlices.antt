-- Every text in the entries of a source is a slice of it.
use Rattle.std.proofs.Common.{ℕ, zero, suc, ◌≤◌, [], ◌∷◌, ◌++◌, length, Option, Some, None, All, refl, sym, subst, arith}
use Rattle.std.proofs.lemmas.List.Elements.{All-nil, All-cons, All-append}
use Rattle.fluent_text.specs.Parser.{Read, ◌<|>◌, pure, skip, many, push, byte}
use Rattle.fluent_ast.specs.Tree.{Text, Pattern, Attributes, message_entry, term_entry}
use Rattle.fluent_text.specs.Lexical.{identifier, blank_inline, line_end, blank, blank_block}
use Rattle.fluent_syntax.specs.Entries as n
use Rattle.fluent_syntax.specs.Entries.{value, name_of_value, attribute, value_first, attributes_alone, entry}
use Rattle.fluent_syntax.specs.Chunks.{comment_line, junk, Part, part, entry_part, blank_part, junk_part, part_entry, Chunk, with_bytes, chunks, entries_of}
use Rattle.fluent_grammar_laws.specs.SliceLaws.{IsSlice, SlicesOfPattern, SlicesOfAttributes, SlicesOfValue, SlicesOfEntry, AllSlices}
use Rattle.fluent_syntax.specs.Facts.Prefixes.{takes-byte}
use Rattle.fluent_syntax.specs.Facts.LexicalPrefixes.{takes-line_end, takes-blanks, takes-spaces, takes-blank_block}
use Rattle.fluent_grammar_laws.proofs.Slices.{EndOf, later, slice_here, Gives, Ended, Within, within-bind, within-then, within-pure, within-map, within-or, within-all}
use Rattle.fluent_grammar_laws.proofs.TreeSlices.{slice-identifier, slice-pattern_at}
use Rattle.fluent_syntax.specs.Facts.Chunked.{CutsTo, chunk-cuts, takes-comment_line, takes-junk, chunks-none, chunks-next, chunk_shorter}
use Rattle.fluent_grammar_laws.proofs.ChunkLaws.{by_chunk}

abbrev OfAttribute : Text → Text × Pattern → Type 0
OfAttribute w a = IsSlice w a.0 × SlicesOfPattern w a.1

abbrev OfContent : Text → Option Pattern × Attributes → Type 0
OfContent w c = SlicesOfValue w c.0 × SlicesOfAttributes w c.1

attributes_push : (w : Text) (xs : Attributes) (x : Text × Pattern) → SlicesOfAttributes w xs → OfAttribute w x → SlicesOfAttributes w (xs ++ x ∷ [])
attributes_push w [] x h k = (k.0, k.1, tt)
attributes_push w (y ∷ ys) x h k = (h.0, h.1, attributes_push w ys x h.2 k)

slice-value : (w : Text) → Within w (SlicesOfPattern w) value
unfolding value
slice-value w = slice-pattern_at w 100

slice-name : (w : Text) → Within w (IsSlice w) name_of_value
unfolding name_of_value
slice-name w =
    let P = IsSlice w in
    within-bind w P P identifier _ (slice-identifier w) (λ id k. within-then w P (skip blank_inline) _ takes-spaces (within-then w P (byte 61) _ (takes-byte 61)
    (within-then w P (skip blank_inline) (pure id) takes-spaces (within-pure w P id k))))

slice-attribute : (w : Text) → Within w (OfAttribute w) attribute
unfolding attribute
slice-attribute w =
    let P = OfAttribute w in
    within-then w P line_end _ takes-line_end (within-then w P (skip blank) _ takes-blanks (within-then w P (byte 46) _ (takes-byte 46)
    (within-bind w (IsSlice w) P name_of_value _ (slice-name w) (λ id i. within-bind w (SlicesOfPattern w) P value _ (slice-value w) (λ v k. within-pure w P (id, v) (i, k))))))

slice-attributes : (w : Text) → Within w (SlicesOfAttributes w) (many attribute)
slice-attributes w = within-all w (OfAttribute w) (SlicesOfAttributes w) push attribute [] (slice-attribute w) (attributes_push w) tt

slice-value_first : (w : Text) → Within w (OfContent w) value_first
unfolding value_first
slice-value_first w =
    let P = OfContent w in
    within-bind w (SlicesOfPattern w) P value _ (slice-value w) (λ v k. within-bind w (SlicesOfAttributes w) P (many attribute) _ (slice-attributes w) (λ others u. within-pure w P (Some v, others) (k, u)))

slice-attributes_alone : (w : Text) → Within w (OfContent w) attributes_alone
unfolding attributes_alone
slice-attributes_alone w =
    let P = OfContent w in
    within-bind w (OfAttribute w) P attribute _ (slice-attribute w) (λ a k.
    within-bind w (SlicesOfAttributes w) P _ _ (within-all w (OfAttribute w) (SlicesOfAttributes w) push attribute (a ∷ []) (slice-attribute w) (attributes_push w) (k.0, k.1, tt)) (λ others u. within-pure w P (None, others) (tt, u)))

slice-message : (w : Text) → Within w (SlicesOfEntry w) n.message
unfolding n.message
slice-message w =
    let P = SlicesOfEntry w in
    within-bind w (IsSlice w) P name_of_value _ (slice-name w) (λ id i.
    within-bind w (OfContent w) P (value_first <|> attributes_alone) _ (within-or w (OfContent w) value_first attributes_alone (slice-value_first w) (slice-attributes_alone w)) (λ c k. within-pure w P (message_entry id c.0 c.1) (i, k.0, k.1)))

slice-term : (w : Text) → Within w (SlicesOfEntry w) n.term
unfolding n.term
slice-term w =
    let P = SlicesOfEntry w in
    within-then w P (byte 45) _ (takes-byte 45) (within-bind w (IsSlice w) P name_of_value _ (slice-name w) (λ id i.
    within-bind w (SlicesOfPattern w) P value _ (slice-value w) (λ v k. within-bind w (SlicesOfAttributes w) P (many attribute) _ (slice-attributes w) (λ others u. within-pure w P (term_entry id v others) (i, k, u)))))

slice-entry : (w : Text) → Within w (SlicesOfEntry w) entry
unfolding entry
slice-entry w =
    let P = SlicesOfEntry w in
    within-bind w P P (n.message <|> n.term) _ (within-or w P n.message n.term (slice-message w) (slice-term w)) (λ e k. within-then w P line_end (pure e) takes-line_end (within-pure w P e k))

-- ---- chunks

abbrev OfPart : Text → Part → Type 0
OfPart w (entry_part e) = SlicesOfEntry w e
OfPart w blank_part = Unit {0}
OfPart w junk_part = Unit {0}

slice-part : (w : Text) → Within w (OfPart w) part
unfolding part
slice-part w =
    let P = OfPart w in
    within-or w P _ _ (within-map w (SlicesOfEntry w) P entry_part entry (slice-entry w) (λ e k. k))
    (within-or w P _ _ (within-then w P comment_line (pure blank_part) takes-comment_line (within-pure w P blank_part tt))
    (within-or w P _ _ (within-then w P blank_block (pure blank_part) takes-blank_block (within-pure w P blank_part tt))
    (within-then w P junk (pure junk_part) takes-junk (within-pure w P junk_part tt))))

abbrev OfChunk : Text → Read Chunk → Type 0
OfChunk w None = Unit {0}
OfChunk w (Some p) = OfPart w p.0.part

of_chunk : (w s : Text) (r : Read Part) → Gives (Ended w (OfPart w)) r → OfChunk w (with_bytes s r)
of_chunk w s None h = tt
of_chunk w s (Some p) h = h.1

left : (w u : Text) (p : Part) → IsSlice w u → OfPart w p → All (SlicesOfEntry w) (part_entry u p)
left w u (entry_part e) k h = All-cons (SlicesOfEntry w) e [] h (All-nil (SlicesOfEntry w))
left w u blank_part k h = All-nil (SlicesOfEntry w)
left w u junk_part k h = All-cons (SlicesOfEntry w) _ [] k (All-nil (SlicesOfEntry w))

slices_from : (w : Text) (n : ℕ) (s : Text) → length s ≤ n → EndOf w s → All (SlicesOfEntry w) (entries_of (chunks s))
slices_from w n [] h o = subst (λ cs. All (SlicesOfEntry w) (entries_of cs)) (sym chunks-none) (All-nil (SlicesOfEntry w))
slices_from w zero (b ∷ s) h o = absurd (omega arith)
slices_from w (suc n) (b ∷ s) h o = by_chunk _ (b ∷ s) (λ c rest e.
    let shorter = chunk_shorter (b ∷ s) c rest (omega arith) e in
    let cut = subst (CutsTo (b ∷ s)) e (chunk-cuts (b ∷ s)) in
    subst (λ cs. All (SlicesOfEntry w) (entries_of cs)) (sym (chunks-next (b ∷ s) c rest (omega arith) e))
    (All-append (SlicesOfEntry w) (part_entry c.bytes c.part) (entries_of (chunks rest))
    (left w c.bytes c.part (slice_here w (b ∷ s) c.bytes rest o cut) (subst (OfChunk w) e (of_chunk w (b ∷ s) (part (b ∷ s)) ((slice-part w).each (b ∷ s) o))))
    (slices_from w n rest (omega arith) (later w (b ∷ s) c.bytes rest o cut))))

pub all_slices : (s : Text) → AllSlices s
all_slices s = slices_from s (length s) s (omega arith) ([], refl)
