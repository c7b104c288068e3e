-- The tree that a rule reads is said by the bytes that it takes: each rule reads it of these bytes alone.
use Rattle.std.proofs.Common.{◌≡◌, ℕ, Bool, List, [], ◌∷◌, ◌++◌, length, Some, refl, sym, ap, ◌∙◌, arith, inl}
use Rattle.std.specs.Prelude.{map}
use Rattle.fluent_text.specs.Parser.{Parser, ◌<$>◌, pure}
use Rattle.fluent_text.specs.Lexical.{identifier, blank_inline, line_end, blank_block, blank}
use Rattle.fluent_syntax.specs.Layout.{Piece, line, words, hole}
use Rattle.fluent_syntax.specs.Pieces.{inline_text, block_text, block_placeable, pattern_element, pattern}
use Rattle.fluent_syntax.specs.Expressions.{level, digits, string_literal, number_literal, literal, attribute_access, message_reference, function_reference, term_reference, variable_reference, inline_expression, named_argument, argument, argument_list, variant_key, variant_head, variant, variant_list, select_expression, expression}
use Rattle.fluent_syntax.specs.Entries as n
use Rattle.fluent_syntax.specs.Entries.{name_of_value, attribute, entry}
use Rattle.fluent_syntax.specs.Chunks.{comment_line, junk_line, junk}
use Rattle.fluent_grammar_laws.specs.ReadLaws.{TreeOfPrefix, taken_words, taken_piece, text_taken, block_taken, element_taken}
use Rattle.fluent_grammar_laws.proofs.Known.{lefts, values}
use Rattle.fluent_grammar_laws.proofs.Leads.{first_read}
use Rattle.fluent_grammar_laws.proofs.Alone.{Seam, Any, Whole, Alone}
use Rattle.fluent_grammar_laws.proofs.AloneRules.{alone-identifier, alone-blank_inline, alone-digits, alone-string_literal, alone-number_literal, alone-literal, alone-attribute_access, alone-message_reference, alone-function, alone-term_reference, alone-variable_reference, alone-braces, alone-brackets}
use Rattle.fluent_grammar_laws.proofs.AloneInlines.{whole_free, alone-inline, alone-named_argument, alone-argument, alone-argument_list}
use Rattle.fluent_grammar_laws.proofs.AlonePieces.{NoCut, Over, AloneBy, quieted, quiet_at, hushed, hushed_block, by-words_after, by-block_text, by-element, alone-blank_block, alone-block_placeable, alone-pattern}
use Rattle.fluent_grammar_laws.proofs.AloneChunks.{chunk_tree}
use Rattle.fluent_grammar_laws.proofs.AloneEntries.{alone-variant_key, alone-variant_head, alone-expression, alone-name_of_value, alone-variant, alone-variant_list, alone-select, alone-attribute, ended_whole, alone-message, alone-term, alone-entry}

-- both trees are the one that is read of the prefix alone
by_alone : {A : Type 0} (at : Seam) (p : Parser A) → Alone at p → ((v w : List ℕ) → Whole v w → at v w) → TreeOfPrefix p
by_alone at p h f prefix one other x y e g = values x y [] [] (sym (h.alone prefix x [] one (f [] one refl) e) ∙ h.alone prefix y [] other (f [] other refl) g)

by_any : {A : Type 0} (p : Parser A) → Alone Any p → TreeOfPrefix p
by_any p h = by_alone Any p h (λ v w here. tt)

by_whole : {A : Type 0} (p : Parser A) → Alone Whole p → TreeOfPrefix p
by_whole p h = by_alone Whole p h (λ v w here. here)

-- A tree without its note is that of the tree that is read of the prefix alone.
record OfPrefix {A B : Type 0} (g : List ℕ → A → A) (f : A → B) (p : Parser A) (prefix : List ℕ) (x : B) : Type 0 where
  tree : A
  alone : p prefix ≡ Some (g [] tree, [])
  shown : f (g [] tree) ≡ x

of_prefix : {A B : Type 0} (g : List ℕ → A → A) (f : A → B) (p : Parser A) → AloneBy g NoCut p → ((x : A) → f (g [] x) ≡ f x) → (prefix w : List ℕ) (x : B) → (f <$> p) (prefix ++ w) ≡ Some (x, w) → OfPrefix g f p prefix x
of_prefix g f p h same prefix w x e =
    let (q, i, j) = first_read (p (prefix ++ w)) (λ z. pure (f z)) (x, w) e in
    record {
      tree = q.0;
      alone = h.alone_by prefix q.0 [] w (λ z. absurd (omega (arith, ap length z))) (i ∙ ap (λ r. Some (q.0, r)) (lefts (f q.0) x q.1 w j));
      shown = same q.0 ∙ values (f q.0) x q.1 w j;
    }

by_note : {A B : Type 0} (g : List ℕ → A → A) (f : A → B) (p : Parser A) → AloneBy g NoCut p → ((x : A) → f (g [] x) ≡ f x) → TreeOfPrefix (f <$> p)
by_note g f p h same prefix one other x y e i =
    let a = of_prefix g f p h same prefix one x e in
    let b = of_prefix g f p h same prefix other y i in
    sym a.shown ∙ (ap f (values (g [] a.tree) (g [] b.tree) [] [] (sym a.alone ∙ b.alone)) ∙ b.shown)

-- ---- names, lines and blanks

pub identifier_tree : TreeOfPrefix identifier
identifier_tree = by_any identifier alone-identifier

pub blank_inline_tree : TreeOfPrefix blank_inline
blank_inline_tree = by_any blank_inline alone-blank_inline

pub line_end_tree : TreeOfPrefix line_end
line_end_tree = λ prefix one other x y e f. refl

pub blank_block_tree : TreeOfPrefix blank_block
blank_block_tree = by_alone _ blank_block alone-blank_block (λ v w here. (tt, inl here))

pub blank_tree : TreeOfPrefix blank
blank_tree = λ prefix one other x y e f. refl

-- ---- literals and references

pub string_tree : TreeOfPrefix string_literal
string_tree = by_any string_literal alone-string_literal

pub number_tree : TreeOfPrefix number_literal
number_tree = by_any number_literal alone-number_literal

pub literal_tree : TreeOfPrefix literal
literal_tree = by_any literal alone-literal

pub digits_tree : TreeOfPrefix digits
digits_tree = by_any digits alone-digits

pub accessor_tree : TreeOfPrefix attribute_access
accessor_tree = by_any attribute_access alone-attribute_access

pub variable_tree : TreeOfPrefix variable_reference
variable_tree = by_any variable_reference alone-variable_reference

pub message_reference_tree : TreeOfPrefix message_reference
message_reference_tree = by_any message_reference alone-message_reference

pub function_tree : (m : ℕ) → TreeOfPrefix (function_reference (level m))
function_tree m = by_any (function_reference (level m)) (alone-function m)

pub term_reference_tree : (m : ℕ) → TreeOfPrefix (term_reference (level m))
term_reference_tree m = by_any (term_reference (level m)) (alone-term_reference m)

pub inline_expression_tree : (m : ℕ) → TreeOfPrefix (inline_expression (level m))
inline_expression_tree m = by_alone _ (inline_expression (level m)) (alone-inline m) whole_free

-- ---- arguments

pub named_argument_tree : TreeOfPrefix named_argument
named_argument_tree = by_any named_argument alone-named_argument

pub argument_tree : (m : ℕ) → TreeOfPrefix (argument (level m))
argument_tree m = by_alone _ (argument (level m)) (alone-argument m) whole_free

pub argument_list_tree : (m : ℕ) → TreeOfPrefix (argument_list (level m))
argument_list_tree m = by_whole (argument_list (level m)) (alone-argument_list m)

pub call_arguments_tree : (m : ℕ) → TreeOfPrefix (level m).brackets
call_arguments_tree m = by_any (level m).brackets (alone-brackets m)

-- ---- patterns

over_whole : (m : ℕ) (v w : List ℕ) → Whole v w → Over m v w
over_whole m v w here = (λ e. absurd (omega (arith, ap length (sym here ∙ e))), inl here)

pub inline_text_tree : TreeOfPrefix text_taken
unfolding text_taken
inline_text_tree = by_note hushed taken_words inline_text (by-words_after _) (λ x. refl)

pub block_text_tree : TreeOfPrefix block_taken
unfolding block_taken
block_text_tree = by_note hushed_block (λ p. (p.0, taken_words p.1)) block_text by-block_text (λ x. refl)

pub block_placeable_tree : (m : ℕ) → TreeOfPrefix (block_placeable (level m).braces)
block_placeable_tree m = by_any (block_placeable (level m).braces) (alone-block_placeable m)

shown_once : (p : Piece) → taken_piece (taken_piece p) ≡ taken_piece p
shown_once (words w) = refl
shown_once (line k) = refl
shown_once (hole x) = refl

shown_quieted : (ps : List Piece) → map taken_piece (quieted ps) ≡ map taken_piece ps
shown_quieted [] = refl
shown_quieted (p ∷ []) = ap (λ q. q ∷ []) (shown_once p)
shown_quieted (p ∷ q ∷ ps) = ap (λ qs. taken_piece p ∷ qs) (shown_quieted (q ∷ ps))

pub pattern_element_tree : (m : ℕ) → TreeOfPrefix (element_taken (level m).braces)
unfolding element_taken
pattern_element_tree m = by_note quiet_at (λ ps. map taken_piece ps) (pattern_element (level m).braces) (by-element m) shown_quieted

pub pattern_tree : (m : ℕ) → TreeOfPrefix (pattern (level m).braces)
pattern_tree m = by_alone _ (pattern (level m).braces) (alone-pattern m) (over_whole m)

-- ---- placeables, variants and selects

pub placeable_tree : (m : ℕ) → TreeOfPrefix (level m).braces
placeable_tree m = by_any (level m).braces (alone-braces m)

pub variant_key_tree : TreeOfPrefix variant_key
variant_key_tree = by_any variant_key alone-variant_key

pub variant_head_tree : (default : Bool) → TreeOfPrefix (variant_head default)
variant_head_tree default = by_any (variant_head default) (alone-variant_head default)

pub variant_tree : (m : ℕ) (default : Bool) → TreeOfPrefix (variant (level m) default)
variant_tree m default = by_alone _ (variant (level m) default) (alone-variant m default) (over_whole m)

pub variant_list_tree : (m : ℕ) → TreeOfPrefix (variant_list (level m))
variant_list_tree m = by_whole (variant_list (level m)) (alone-variant_list m)

pub select_tree : (m : ℕ) → TreeOfPrefix (select_expression (level m))
select_tree m = by_whole (select_expression (level m)) (alone-select m)

pub expression_tree : (m : ℕ) → TreeOfPrefix (expression (level m))
expression_tree m = by_whole (expression (level m)) (alone-expression m)

-- ---- entries

pub name_of_value_tree : TreeOfPrefix name_of_value
name_of_value_tree = by_any name_of_value alone-name_of_value

pub attribute_tree : TreeOfPrefix attribute
attribute_tree = by_alone _ attribute alone-attribute (over_whole 100)

pub message_tree : TreeOfPrefix n.message
message_tree = by_alone _ n.message alone-message ended_whole

pub term_tree : TreeOfPrefix n.term
term_tree = by_alone _ n.term alone-term ended_whole

pub entry_tree : TreeOfPrefix entry
entry_tree = by_whole entry alone-entry

pub comment_tree : TreeOfPrefix comment_line
comment_tree = λ prefix one other x y e f. refl

pub junk_line_tree : TreeOfPrefix junk_line
junk_line_tree = λ prefix one other x y e f. refl

pub junk_tree : TreeOfPrefix junk
junk_tree = λ prefix one other x y e f. refl

pub ruleset rules_by_tree = (literal_tree, variant_head_tree, expression_tree, name_of_value_tree, identifier_tree, blank_inline_tree, line_end_tree, blank_block_tree, blank_tree, string_tree, number_tree, digits_tree, accessor_tree, variable_tree, message_reference_tree, function_tree, term_reference_tree, inline_expression_tree, named_argument_tree, argument_tree, argument_list_tree, call_arguments_tree, inline_text_tree, block_text_tree, block_placeable_tree, pattern_element_tree, pattern_tree, placeable_tree, variant_key_tree, variant_tree, variant_list_tree, select_tree, attribute_tree, message_tree, term_tree, entry_tree, comment_tree, junk_line_tree, junk_tree, chunk_tree)
