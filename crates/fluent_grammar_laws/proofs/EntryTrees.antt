-- Every entry of a source is well-formed, and its placeables and argument lists stand no deeper than 100.
use Rattle.std.proofs.Common.{ℕ, zero, suc, ◌<◌, ◌≤◌, List, [], ◌∷◌, ◌++◌, length, Option, Some, None, All, sym, subst, arith}
use Rattle.std.proofs.lemmas.List.Elements.{All-nil, All-cons, All-append}
use Rattle.fluent_text.specs.Parser.{Read, ◌<|>◌, pure, skip, many, push, byte}
use Rattle.fluent_ast.specs.Tree.{Text, Pattern, Attributes, message_entry, term_entry}
use Rattle.fluent_text.specs.Lexical.{line_end, blank, blank_block}
use Rattle.fluent_syntax.specs.Expressions.{level}
use Rattle.fluent_syntax.specs.Entries as n
use Rattle.fluent_syntax.specs.Entries.{value, name_of_value, attribute, value_first, attributes_alone, entry}
use Rattle.fluent_syntax.specs.Chunks.{comment_line, junk, Part, part, entry_part, blank_part, junk_part, part_entry, Chunk, with_bytes, chunks, entries_of}
use Rattle.fluent_syntax.specs.WellFormed.{IsWellFormedPattern, AreWellFormedAttributes, IsWellFormedValue, IsWellFormedEntry}
use Rattle.fluent_grammar_laws.specs.TreeLaws.{AllWellFormed}
use Rattle.fluent_syntax.specs.Facts.Prefixes.{takes-byte}
use Rattle.fluent_syntax.specs.Facts.LexicalPrefixes.{takes-line_end, takes-blanks, takes-blank_block}
use Rattle.fluent_syntax.specs.Facts.Sound.{Holds, Sound, sound-bind, sound-read, sound-then, sound-pure, sound-map, sound-or, sound-all}
use Rattle.fluent_syntax.specs.Facts.Trees.{sound-braces, sound-pattern}
use Rattle.fluent_syntax.specs.Facts.Rules.{takes-name_of_value}
use Rattle.fluent_syntax.specs.Facts.Chunked.{takes-comment_line, takes-junk, chunks-none, chunks-next, chunk_lens, chunk_shorter}
use Rattle.fluent_grammar_laws.proofs.ChunkLaws.{by_chunk}

abbrev Whole : Pattern → Type 0
Whole p = IsWellFormedPattern p 100

abbrev OfAttribute : Text × Pattern → Type 0
OfAttribute a = Whole a.1

abbrev OfContent : Option Pattern × Attributes → Type 0
OfContent c = IsWellFormedValue c.0 c.1 × AreWellFormedAttributes c.1

attributes_push : (xs : Attributes) (x : Text × Pattern) → AreWellFormedAttributes xs → OfAttribute x → AreWellFormedAttributes (xs ++ x ∷ [])
attributes_push [] x h k = (k, tt)
attributes_push (y ∷ ys) x h k = (h.0, attributes_push ys x h.1 k)

-- some attributes
abbrev Some_ : Attributes → Type 0
Some_ xs = IsWellFormedValue None xs × AreWellFormedAttributes xs

some_push : (xs : Attributes) (x : Text × Pattern) → Some_ xs → OfAttribute x → Some_ (xs ++ x ∷ [])
some_push [] x h k = absurd h.0
some_push (y ∷ ys) x h k = (tt, attributes_push (y ∷ ys) x h.1 k)

sound-value : Sound Whole value
unfolding value
sound-value = sound-pattern (level 100).braces 100 (sound-braces 100)

sound-attribute : Sound OfAttribute attribute
unfolding attribute
sound-attribute =
    sound-then OfAttribute line_end _ takes-line_end (sound-then OfAttribute (skip blank) _ takes-blanks (sound-then OfAttribute (byte 46) _ (takes-byte 46)
    (sound-read OfAttribute name_of_value _ takes-name_of_value (λ id. sound-bind Whole OfAttribute value _ sound-value (λ v w. sound-pure OfAttribute (id, v) w)))))

sound-attributes : Sound AreWellFormedAttributes (many attribute)
sound-attributes = sound-all OfAttribute AreWellFormedAttributes push attribute [] sound-attribute attributes_push tt

sound-value_first : Sound OfContent value_first
unfolding value_first
sound-value_first = sound-bind Whole OfContent value _ sound-value (λ v w. sound-bind AreWellFormedAttributes OfContent (many attribute) _ sound-attributes (λ others u. sound-pure OfContent (Some v, others) (w, u)))

sound-attributes_alone : Sound OfContent attributes_alone
unfolding attributes_alone
sound-attributes_alone = sound-bind OfAttribute OfContent attribute _ sound-attribute (λ a w. sound-bind Some_ OfContent _ _ (sound-all OfAttribute Some_ push attribute (a ∷ []) sound-attribute some_push (tt, (w, tt))) (λ others u. sound-pure OfContent (None, others) u))

sound-message : Sound IsWellFormedEntry n.message
unfolding n.message
sound-message =
    sound-read IsWellFormedEntry name_of_value _ takes-name_of_value (λ id.
    sound-bind OfContent IsWellFormedEntry (value_first <|> attributes_alone) _ (sound-or OfContent value_first attributes_alone sound-value_first sound-attributes_alone) (λ c w. sound-pure IsWellFormedEntry (message_entry id c.0 c.1) w))

sound-term : Sound IsWellFormedEntry n.term
unfolding n.term
sound-term =
    sound-then IsWellFormedEntry (byte 45) _ (takes-byte 45) (sound-read IsWellFormedEntry name_of_value _ takes-name_of_value (λ id.
    sound-bind Whole IsWellFormedEntry value _ sound-value (λ v w. sound-bind AreWellFormedAttributes IsWellFormedEntry (many attribute) _ sound-attributes (λ others u. sound-pure IsWellFormedEntry (term_entry id v others) (w, u)))))

sound-entry : Sound IsWellFormedEntry entry
unfolding entry
sound-entry = sound-bind IsWellFormedEntry IsWellFormedEntry (n.message <|> n.term) _ (sound-or IsWellFormedEntry n.message n.term sound-message sound-term) (λ e w. sound-then IsWellFormedEntry line_end (pure e) takes-line_end (sound-pure IsWellFormedEntry e w))

-- ---- chunks

abbrev OfPart : Part → Type 0
OfPart (entry_part e) = IsWellFormedEntry e
OfPart blank_part = Unit {0}
OfPart junk_part = Unit {0}

sound-part : Sound OfPart part
unfolding part
sound-part =
    sound-or OfPart _ _ (sound-map IsWellFormedEntry OfPart entry_part entry sound-entry (λ e w. w))
    (sound-or OfPart _ _ (sound-then OfPart comment_line (pure blank_part) takes-comment_line (sound-pure OfPart blank_part tt))
    (sound-or OfPart _ _ (sound-then OfPart blank_block (pure blank_part) takes-blank_block (sound-pure OfPart blank_part tt))
    (sound-then OfPart junk (pure junk_part) takes-junk (sound-pure OfPart junk_part tt))))

abbrev OfChunk : Read Chunk → Type 0
OfChunk None = Unit {0}
OfChunk (Some p) = OfPart p.0.part

of_chunk : (s : List ℕ) (r : Read Part) → Holds OfPart s r → OfChunk (with_bytes s r)
of_chunk s None h = tt
of_chunk s (Some p) h = h.1

left : (u : Text) (p : Part) → 0 < length u → OfPart p → All IsWellFormedEntry (part_entry u p)
left u (entry_part e) n h = All-cons IsWellFormedEntry e [] h (All-nil IsWellFormedEntry)
left u blank_part n h = All-nil IsWellFormedEntry
left u junk_part n h = All-cons IsWellFormedEntry _ [] n (All-nil IsWellFormedEntry)

well_formed : (n : ℕ) (s : List ℕ) → length s ≤ n → All IsWellFormedEntry (entries_of (chunks s))
well_formed n [] h = subst (λ cs. All IsWellFormedEntry (entries_of cs)) (sym chunks-none) (All-nil IsWellFormedEntry)
well_formed zero (b ∷ s) h = absurd (omega arith)
well_formed (suc n) (b ∷ s) h = by_chunk _ (b ∷ s) (λ c rest e.
    let shorter = chunk_shorter (b ∷ s) c rest (omega arith) e in
    let lens = chunk_lens (b ∷ s) c rest e in
    subst (λ cs. All IsWellFormedEntry (entries_of cs)) (sym (chunks-next (b ∷ s) c rest (omega arith) e))
    (All-append IsWellFormedEntry (part_entry c.bytes c.part) (entries_of (chunks rest)) (left c.bytes c.part (omega arith) (subst OfChunk e (of_chunk (b ∷ s) (part (b ∷ s)) (sound-part.each (b ∷ s))))) (well_formed n rest (omega arith))))

pub all_well_formed : (s : List ℕ) → AllWellFormed s
all_well_formed s = well_formed (length s) s (omega arith)
