-- Every tree that is read is well-formed and no deeper than its level.
use Rattle.std.proofs.Common.{◌≡◌, ℕ, zero, suc, ◌+◌, Bool, true, false, None, ◌&&◌, List, [], ◌∷◌, ◌++◌, refl, ap, ◌∙◌, arith}
use Rattle.std.specs.Prelude.{IsTrue}
use Rattle.fluent_ast.specs.Tree.{Text, Named, Variant, Pattern, Expression, inline, select, Inline, string, number, function, message, term, variable, nested, Call, no_call, call, Arguments, pattern_of, variants_of, inlines_of, nameds_of}
use Rattle.fluent_text.specs.Parser.{Parser, ◌>>=◌, ◌>>◌, pure, skip, many, push, byte}
use Rattle.fluent_text.specs.Lexical.{identifier, line_end, blank, blank_block}
use Rattle.fluent_syntax.specs.Layout.{Piece, line, words, hole}
use Rattle.fluent_syntax.specs.Layout as y
use Rattle.fluent_syntax.specs.Pieces.{words_after, block_text, indent, block_placeable, pattern_element, pieces, pattern}
use Rattle.fluent_syntax.specs.Expressions.{Level, level, string_literal, number_literal, literal, attribute_access, message_reference, is_function_name, function_reference, optional_call, term_reference, inline_expression, named_argument, Argument, positional, by_name, argument, Gathered, add, names, differ, is_well_formed, arguments_of, comma, argument_comma, last_argument, argument_list, call_arguments, variant_head, variant, variant_list, is_selector, arrow, selector, select_expression, stands_alone, alone, expression, inline_placeable, variable_reference}
use Rattle.fluent_syntax.specs.WellFormed.{is_literal, one_if, defaults, names_of, AreLiterals, IsWellFormed, IsWellFormedInline, IsWellFormedCall, AreWellFormedArguments, AreWellFormedInlines, AreWellFormedVariants, IsWellFormedPattern}
use Rattle.fluent_syntax.specs.Facts.Prefixes.{Takes, takes-then, takes-byte}
use Rattle.fluent_syntax.specs.Facts.LexicalPrefixes.{takes-identifier, takes-blanks, takes-line_end, takes-string_literal, takes-number_literal, takes-attribute_access, takes-comma, takes-variant_head, takes-arrow, takes-blank_block, takes-words_after, takes-block_text, takes-indent}
use Rattle.fluent_syntax.specs.Facts.LayoutTrees.{OfPieces, pieces_append, laid_out}
use Rattle.fluent_syntax.specs.Facts.Sound.{Sound, sound-any, sound-bind, sound-read, sound-then, sound-pure, sound-map, sound-refuse, sound-or, sound-provided, sound-all, takes-sound}

-- ---- the facts, at a number of levels

abbrev pub Any : {A : Type 0} → A → Type 0
Any x = Unit {0}

abbrev pub Whole : ℕ → Expression → Type 0
Whole n e = IsWellFormed e n

abbrev pub List_ : ℕ → Arguments → Type 0
List_ n a = AreWellFormedArguments a n

abbrev pub One : ℕ → Inline → Type 0
One n x = IsWellFormedInline x n

abbrev pub MayCall : ℕ → Call → Type 0
MayCall n c = IsWellFormedCall c n

abbrev pub OfPattern : ℕ → Pattern → Type 0
OfPattern n p = IsWellFormedPattern p n

abbrev pub Valued : Named → Type 0
Valued m = IsTrue (is_literal m.1)

abbrev pub OfArgument : ℕ → Argument → Type 0
OfArgument n (positional x) = One n x
OfArgument n (by_name m) = Valued m

abbrev pub OfGathered : ℕ → Gathered → Type 0
OfGathered n g = AreWellFormedInlines (inlines_of g.0) n × AreLiterals (nameds_of g.1)

abbrev pub OfVariant : ℕ → Bool → Variant → Type 0
OfVariant n d v = IsWellFormedPattern v.1 n × (v.2 ≡ d)

abbrev pub OfVariants : ℕ → ℕ → List Variant → Type 0
OfVariants n k vs = AreWellFormedVariants (variants_of vs) n × (defaults (variants_of vs) ≡ k)

abbrev pub Selects : ℕ → Inline → Type 0
Selects n x = IsTrue (is_selector x) × One n x

pub record Good (g : Level) (n : ℕ) : Type 0 where
  pub braces : Sound (Whole n) g.braces
  pub brackets : Sound (List_ n) g.brackets

-- ---- lists that grow at their end

inlines_push : (n : ℕ) (xs : List Inline) (x : Inline) → AreWellFormedInlines (inlines_of xs) n → One n x → AreWellFormedInlines (inlines_of (xs ++ x ∷ [])) n
inlines_push n [] x h k = (k, tt)
inlines_push n (y ∷ ys) x h k = (h.0, inlines_push n ys x h.1 k)

nameds_push : (xs : List Named) (x : Named) → AreLiterals (nameds_of xs) → Valued x → AreLiterals (nameds_of (xs ++ x ∷ []))
nameds_push [] x h k = (k, tt)
nameds_push (y ∷ ys) x h k = (h.0, nameds_push ys x h.1 k)

patterns_push : (n : ℕ) (xs : List Variant) (x : Variant) → AreWellFormedVariants (variants_of xs) n → IsWellFormedPattern x.1 n → AreWellFormedVariants (variants_of (xs ++ x ∷ [])) n
patterns_push n [] x h k = (k, tt)
patterns_push n (y ∷ ys) x h k = (h.0, patterns_push n ys x h.1 k)

defaults_push : (xs : List Variant) (x : Variant) → defaults (variants_of (xs ++ x ∷ [])) ≡ one_if x.2 + defaults (variants_of xs)
defaults_push [] x = refl
defaults_push (y ∷ ys) x = omega (arith, defaults_push ys x)

variants_push : (n k : ℕ) (d : Bool) (xs : List Variant) (x : Variant) → OfVariants n k xs → OfVariant n d x → OfVariants n (one_if d + k) (xs ++ x ∷ [])
variants_push n k d xs x h v =
    (patterns_push n xs x h.0 v.0, defaults_push xs x ∙ ap (λ b. one_if b + defaults (variants_of xs)) v.1 ∙ ap (λ m. one_if d + m) h.1)

gathered_push : (n : ℕ) (g : Gathered) (x : Argument) → OfGathered n g → OfArgument n x → OfGathered n (add g x)
gathered_push n g (positional x) h k = (inlines_push n g.0 x h.0 k, h.1)
gathered_push n g (by_name m) h k = (h.0, nameds_push g.1 m h.1 k)

names_same : (ns : List Named) → names_of (nameds_of ns) ≡ names ns
names_same [] = refl
names_same (n ∷ ns) = ap (λ l. n.0 ∷ l) (names_same ns)

second : (a b : Bool) → (a && b) ≡ true → b ≡ true
second true b h = h
second false true h = refl
second false false h = h

-- ---- the rules

pub sound-literal : (P : Inline → Type 0) → ((t : Text) → P (string t)) → ((t : Text) → P (number t)) → Sound P literal
unfolding literal
sound-literal P s n =
    sound-or P _ _ (sound-map Any P string string_literal (sound-any string_literal takes-string_literal) (λ t _. s t)) (sound-map Any P number number_literal (sound-any number_literal takes-number_literal) (λ t _. n t))

pub sound-function : (g : Level) (n : ℕ) → Good g n → Sound (One n) (function_reference g)
unfolding function_reference
sound-function g n h =
    sound-read (One n) identifier _ takes-identifier (λ id. sound-provided (One n) (is_function_name id) _ (λ ok.
    sound-bind (List_ n) (One n) g.brackets _ h.brackets (λ a w. sound-pure (One n) (function id a) (ok, w))))

pub sound-message : (n : ℕ) → Sound (One n) message_reference
unfolding message_reference
sound-message n = sound-read (One n) identifier _ takes-identifier (λ id. sound-read (One n) attribute_access _ takes-attribute_access (λ a. sound-pure (One n) (message id a) tt))

pub sound-call : (g : Level) (n : ℕ) → Good g n → Sound (MayCall n) (optional_call g)
unfolding optional_call
sound-call g n h = sound-or (MayCall n) _ _ (sound-map (List_ n) (MayCall n) call g.brackets h.brackets (λ a w. w)) (sound-pure (MayCall n) no_call tt)

pub sound-term : (g : Level) (n : ℕ) → Good g n → Sound (One n) (term_reference g)
unfolding term_reference
sound-term g n h =
    sound-then (One n) (byte 45) _ (takes-byte 45) (sound-read (One n) identifier _ takes-identifier (λ id. sound-read (One n) attribute_access _ takes-attribute_access (λ a.
    sound-bind (MayCall n) (One n) (optional_call g) _ (sound-call g n h) (λ c w. sound-pure (One n) (term id a c) w))))

pub sound-variable : (n : ℕ) → Sound (One n) variable_reference
unfolding variable_reference
sound-variable n = sound-map Any (One n) variable (byte 36 >> identifier) (sound-any (byte 36 >> identifier) (takes-then (byte 36) identifier (takes-byte 36) takes-identifier)) (λ v _. tt)

pub sound-inline : (g : Level) (n : ℕ) → Good g n → Sound (One n) (inline_expression g)
unfolding inline_expression
sound-inline g n h =
    sound-or (One n) literal _ (sound-literal (One n) (λ t. tt) (λ t. tt))
    (sound-or (One n) (function_reference g) _ (sound-function g n h)
    (sound-or (One n) message_reference _ (sound-message n)
    (sound-or (One n) (term_reference g) _ (sound-term g n h)
    (sound-or (One n) variable_reference _ (sound-variable n)
    (sound-map (Whole n) (One n) nested g.braces h.braces (λ e w. w))))))

pub sound-named : Sound Valued named_argument
unfolding named_argument
sound-named =
    sound-read Valued identifier _ takes-identifier (λ name. sound-then Valued (skip blank) _ takes-blanks (sound-then Valued (byte 58) _ (takes-byte 58) (sound-then Valued (skip blank) _ takes-blanks
    (sound-bind (λ v. IsTrue (is_literal v)) Valued literal _ (sound-literal (λ v. IsTrue (is_literal v)) (λ t. refl) (λ t. refl)) (λ v w. sound-pure Valued (name, v) w)))))

pub sound-argument : (g : Level) (n : ℕ) → Good g n → Sound (OfArgument n) (argument g)
unfolding argument
sound-argument g n h =
    sound-or (OfArgument n) _ _ (sound-map Valued (OfArgument n) by_name named_argument sound-named (λ m w. w)) (sound-map (One n) (OfArgument n) positional (inline_expression g) (sound-inline g n h) (λ x w. w))

pub sound-comma : (g : Level) (n : ℕ) → Good g n → Sound (OfArgument n) (argument_comma g)
unfolding argument_comma
sound-comma g n h =
    sound-bind (OfArgument n) (OfArgument n) (argument g) _ (sound-argument g n h) (λ a w. sound-then (OfArgument n) comma (pure a) takes-comma (sound-pure (OfArgument n) a w))

pub sound-list : (g : Level) (n : ℕ) → Good g n → Sound (OfGathered n) (argument_list g)
unfolding argument_list
sound-list g n h =
    sound-bind (OfGathered n) (OfGathered n) _ (last_argument g) (sound-all (OfArgument n) (OfGathered n) add (argument_comma g) ([], [], true) (sound-comma g n h) (gathered_push n) (tt, tt))
    (λ before w. sound-or (OfGathered n) _ (pure before) (sound-map (OfArgument n) (OfGathered n) (add before) (argument g) (sound-argument g n h) (λ x v. gathered_push n before x w v)) (sound-pure (OfGathered n) before w))

pub sound-arguments : (g : Level) (n : ℕ) → Good g n → Sound (List_ (suc n)) (call_arguments g)
unfolding call_arguments
sound-arguments g n h =
    let P = List_ (suc n) in
    sound-then P (skip blank) _ takes-blanks (sound-then P (byte 40) _ (takes-byte 40) (sound-then P (skip blank) _ takes-blanks
    (sound-bind (OfGathered n) P (argument_list g) _ (sound-list g n h) (λ l w. sound-provided P (is_well_formed l) _ (λ ok.
    sound-then P (skip blank) _ takes-blanks (sound-then P (byte 41) _ (takes-byte 41) (sound-pure P (arguments_of l) (w.0, ap differ (names_same l.1) ∙ second l.2 (differ (names l.1)) ok, w.1))))))))

-- a pattern over placeables that are well-formed
pub sound-block : (braces : Parser Expression) (n : ℕ) → Sound (Whole n) braces → Sound (OfPieces n) (block_placeable braces)
unfolding block_placeable
sound-block braces n h =
    sound-read (OfPieces n) blank_block _ takes-blank_block (λ ends. sound-read (OfPieces n) indent _ takes-indent (λ w.
    sound-bind (Whole n) (OfPieces n) braces _ h (λ x v. sound-pure (OfPieces n) (line ends ∷ words w ∷ hole x ∷ []) (tt, (tt, (v, tt))))))

pub sound-element : (braces : Parser Expression) (n : ℕ) → Sound (Whole n) braces → Sound (OfPieces n) (pattern_element braces)
unfolding pattern_element
sound-element braces n h =
    sound-or (OfPieces n) _ _ (sound-map Any (OfPieces n) (λ w. words w ∷ []) (words_after None) (sound-any (words_after None) (takes-words_after None)) (λ w _. (tt, tt)))
    (sound-or (OfPieces n) _ _ (sound-map Any (OfPieces n) (λ p. line p.0 ∷ words p.1 ∷ []) block_text (sound-any block_text takes-block_text) (λ p _. (tt, (tt, tt))))
    (sound-or (OfPieces n) _ (block_placeable braces) (sound-map (Whole n) (OfPieces n) (λ x. hole x ∷ []) braces h (λ x v. (v, tt))) (sound-block braces n h)))

pub sound-pieces : (braces : Parser Expression) (n : ℕ) → Sound (Whole n) braces → Sound (OfPieces n) (pieces braces)
unfolding pieces
sound-pieces braces n h =
    sound-bind (OfPieces n) (OfPieces n) (pattern_element braces) _ (sound-element braces n h) (λ prefix w.
    sound-all (OfPieces n) (OfPieces n) ◌++◌ (pattern_element braces) prefix (sound-element braces n h) (λ ps qs a b. pieces_append n ps qs a b) w)

pub sound-pattern : (braces : Parser Expression) (n : ℕ) → Sound (Whole n) braces → Sound (OfPattern n) (pattern braces)
sound-pattern braces n h = sound-map (OfPieces n) (OfPattern n) (λ ps. pattern_of (y.elements ps)) (pieces braces) (sound-pieces braces n h) (λ ps w. laid_out n ps w)

pub sound-variant : (g : Level) (n : ℕ) (d : Bool) → Good g n → Sound (OfVariant n d) (variant g d)
unfolding variant
sound-variant g n d h =
    sound-read (OfVariant n d) (variant_head d) _ (takes-variant_head d) (λ key.
    sound-bind (OfPattern n) (OfVariant n d) (pattern g.braces) _ (sound-pattern g.braces n h.braces) (λ p w. sound-pure (OfVariant n d) (key, p, d) (w, refl)))

pub sound-variants : (g : Level) (n : ℕ) → Good g n → Sound (OfVariants n 1) (variant_list g)
unfolding variant_list
sound-variants g n h =
    let P = OfVariants n 1 in
    sound-bind (OfVariants n 0) P (many (variant g false)) _ (sound-all (OfVariant n false) (OfVariants n 0) push (variant g false) [] (sound-variant g n false h) (λ vs v. variants_push n 0 false vs v) (tt, refl)) (λ before w.
    sound-bind (OfVariant n true) P (variant g true) _ (sound-variant g n true h) (λ d v.
    sound-bind P P _ _ (sound-all (OfVariant n false) P push (variant g false) (before ++ d ∷ []) (sound-variant g n false h) (λ vs x. variants_push n 1 false vs x) (variants_push n 0 true before d w v)) (λ l u.
    sound-then P line_end (pure l) takes-line_end (sound-pure P l u))))

pub sound-expression : (g : Level) (n : ℕ) → Good g n → Sound (Whole (suc n)) (expression g)
unfolding expression
sound-expression g n h =
    let P = Whole (suc n) in
    sound-or P (select_expression g) (inline_expression g >>= alone)
    (sound-bind (Selects n) P (selector g) _
    (sound-bind (One n) (Selects n) (inline_expression g) _ (sound-inline g n h) (λ x w. sound-provided (Selects n) (is_selector x) (pure x) (λ ok. sound-pure (Selects n) x (ok, w))))
    (λ x w. sound-then P arrow _ takes-arrow (sound-bind (OfVariants n 1) P (variant_list g) _ (sound-variants g n h) (λ vs v. sound-pure P (select x (variants_of vs)) (w.0, w.1, v.1, v.0)))))
    (sound-bind (One n) P (inline_expression g) alone (sound-inline g n h) (λ x w. sound-provided P (stands_alone x) (pure (inline x)) (λ ok. sound-pure P (inline x) (ok, w))))

pub sound-placeable : (g : Level) (n : ℕ) → Good g n → Sound (Whole (suc n)) (inline_placeable g)
unfolding inline_placeable
sound-placeable g n h =
    let P = Whole (suc n) in
    sound-then P (byte 123) _ (takes-byte 123) (sound-then P (skip blank) _ takes-blanks (sound-bind P P (expression g) _ (sound-expression g n h) (λ x w.
    sound-then P (skip blank) _ takes-blanks (sound-then P (byte 125) (pure x) (takes-byte 125) (sound-pure P x w)))))

pub good : (n : ℕ) → Good (level n) n
unfolding level
good zero = record { braces = sound-refuse (Whole zero); brackets = sound-refuse (List_ zero) }
good (suc n) = record { braces = sound-placeable (level n) n (good n); brackets = sound-arguments (level n) n (good n) }

pub sound-braces : (n : ℕ) → Sound (λ e. IsWellFormed e n) (level n).braces
sound-braces n = (good n).braces

pub sound-brackets : (n : ℕ) → Sound (λ a. AreWellFormedArguments a n) (level n).brackets
sound-brackets n = (good n).brackets

pub takes-expression : (n : ℕ) → Takes (expression (level n))
takes-expression n = takes-sound (Whole (suc n)) (expression (level n)) (sound-expression (level n) n (good n))
