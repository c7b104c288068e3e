-- Every text in a tree that is read is a slice of the source.
use Rattle.std.proofs.Common.{◌≡◌, ℕ, zero, suc, Bool, true, false, None, List, [], ◌∷◌, ◌++◌, refl}
use Rattle.fluent_ast.specs.Tree.{Text, Named, Variant, name_key, number_key, no_attribute, attribute, inline, select, Inline, string, number, function, message, term, variable, nested, no_call, call, variants_of, inlines_of, nameds_of}
use Rattle.fluent_text.specs.Parser.{◌>>=◌, ◌>>◌, pure, skip, many, count, push, byte, run, first}
use Rattle.fluent_text.specs.Lexical.{is_letter, is_identifier_byte, identifier, blank_inline, line_end, blank}
use Rattle.fluent_syntax.specs.Pieces.{pattern}
use Rattle.fluent_syntax.specs.Expressions.{Level, level, quoted_turn, string_literal, number_parts, number_literal, literal, attribute_access, message_reference, is_function_name, function_reference, optional_call, term_reference, inline_expression, named_argument, Argument, positional, by_name, argument, Gathered, add, is_well_formed, arguments_of, comma, argument_comma, last_argument, argument_list, call_arguments, key_inside, variant_key, star, variant_head, variant, variant_list, is_selector, arrow, selector, select_expression, stands_alone, alone, expression, inline_placeable, variable_reference}
use Rattle.fluent_grammar_laws.specs.SliceLaws.{IsSlice, SlicesOfKey, SlicesOfAttribute, SlicesOfPattern, SlicesOfExpression, SlicesOfVariants, SlicesOfInline, SlicesOfCall, SlicesOfArguments, SlicesOfInlines, SlicesOfNameds}
use Rattle.fluent_syntax.specs.Facts.Prefixes.{takes-byte, takes-count}
use Rattle.fluent_syntax.specs.Facts.Literals.{takes-quoted_turn, takes-number_parts}
use Rattle.fluent_syntax.specs.Facts.LexicalPrefixes.{takes-blanks, takes-spaces, takes-line_end, takes-star, takes-comma, takes-arrow}
use Rattle.fluent_grammar_laws.proofs.Slices.{Within, within-bind, within-then, within-pure, within-map, within-refuse, within-or, within-if, within-provided, within-all, slice-run, slice-source_of}
use Rattle.fluent_grammar_laws.proofs.PieceSlices.{slice-pattern}

-- ---- the facts

abbrev OfNamed : Text → Named → Type 0
OfNamed w m = IsSlice w m.0 × SlicesOfInline w m.1

abbrev OfArgument : Text → Argument → Type 0
OfArgument w (positional x) = SlicesOfInline w x
OfArgument w (by_name m) = OfNamed w m

abbrev OfGathered : Text → Gathered → Type 0
OfGathered w g = SlicesOfInlines w (inlines_of g.0) × SlicesOfNameds w (nameds_of g.1)

abbrev OfVariant : Text → Variant → Type 0
OfVariant w v = SlicesOfKey w v.0 × SlicesOfPattern w v.1

abbrev OfVariants : Text → List Variant → Type 0
OfVariants w vs = SlicesOfVariants w (variants_of vs)

-- a level whose placeables begin with a byte
record Good (w : Text) (g : Level) : Type 0 where
  braces : Within w (SlicesOfExpression w) g.braces
  brackets : Within w (SlicesOfArguments w) g.brackets
  none : g.braces [] ≡ None

-- ---- lists that grow at their end

inlines_push : (w : Text) (xs : List Inline) (x : Inline) → SlicesOfInlines w (inlines_of xs) → SlicesOfInline w x → SlicesOfInlines w (inlines_of (xs ++ x ∷ []))
inlines_push w [] x h k = (k, tt)
inlines_push w (y ∷ ys) x h k = (h.0, inlines_push w ys x h.1 k)

nameds_push : (w : Text) (xs : List Named) (x : Named) → SlicesOfNameds w (nameds_of xs) → OfNamed w x → SlicesOfNameds w (nameds_of (xs ++ x ∷ []))
nameds_push w [] x h k = (k.0, k.1, tt)
nameds_push w (y ∷ ys) x h k = (h.0, h.1, nameds_push w ys x h.2 k)

variants_push : (w : Text) (xs : List Variant) (x : Variant) → OfVariants w xs → OfVariant w x → OfVariants w (xs ++ x ∷ [])
variants_push w [] x h k = (k.0, k.1, tt)
variants_push w (y ∷ ys) x h k = (h.0, h.1, variants_push w ys x h.2 k)

gathered_push : (w : Text) (g : Gathered) (x : Argument) → OfGathered w g → OfArgument w x → OfGathered w (add g x)
gathered_push w g (positional x) h k = (inlines_push w g.0 x h.0 k, h.1)
gathered_push w g (by_name m) h k = (h.0, nameds_push w g.1 m h.1 k)

-- ---- the rules

pub slice-identifier : (w : Text) → Within w (IsSlice w) identifier
unfolding identifier
slice-identifier w = within-if w (IsSlice w) (λ s. is_letter (first s)) (run is_identifier_byte) (slice-run w is_identifier_byte)

slice-string_literal : (w : Text) → Within w (IsSlice w) string_literal
unfolding string_literal
slice-string_literal w =
    let P = IsSlice w in
    within-then w P (byte 34) _ (takes-byte 34) (within-bind w P P _ _ (slice-source_of w (count quoted_turn) (takes-count quoted_turn takes-quoted_turn))
    (λ t k. within-then w P (byte 34) (pure t) (takes-byte 34) (within-pure w P t k)))

slice-number_literal : (w : Text) → Within w (IsSlice w) number_literal
unfolding number_literal
slice-number_literal w = slice-source_of w number_parts takes-number_parts

slice-literal : (w : Text) → Within w (SlicesOfInline w) literal
unfolding literal
slice-literal w =
    let P = SlicesOfInline w in
    within-or w P _ _ (within-map w (IsSlice w) P string string_literal (slice-string_literal w) (λ t h. h)) (within-map w (IsSlice w) P number number_literal (slice-number_literal w) (λ t h. h))

slice-attribute_access : (w : Text) → Within w (SlicesOfAttribute w) attribute_access
unfolding attribute_access
slice-attribute_access w =
    let P = SlicesOfAttribute w in
    within-or w P _ (pure no_attribute) (within-map w (IsSlice w) P attribute (byte 46 >> identifier) (within-then w (IsSlice w) (byte 46) identifier (takes-byte 46) (slice-identifier w)) (λ t h. h)) (within-pure w P no_attribute tt)

slice-function : (w : Text) (g : Level) → Good w g → Within w (SlicesOfInline w) (function_reference g)
unfolding function_reference
slice-function w g h =
    let P = SlicesOfInline w in
    within-bind w (IsSlice w) P identifier _ (slice-identifier w) (λ id i. within-provided w P (is_function_name id) _
    (within-bind w (SlicesOfArguments w) P g.brackets _ h.brackets (λ a k. within-pure w P (function id a) (i, k))))

slice-message : (w : Text) → Within w (SlicesOfInline w) message_reference
unfolding message_reference
slice-message w =
    let P = SlicesOfInline w in
    within-bind w (IsSlice w) P identifier _ (slice-identifier w) (λ id i. within-bind w (SlicesOfAttribute w) P attribute_access _ (slice-attribute_access w) (λ a k. within-pure w P (message id a) (i, k)))

slice-call : (w : Text) (g : Level) → Good w g → Within w (SlicesOfCall w) (optional_call g)
unfolding optional_call
slice-call w g h =
    let P = SlicesOfCall w in
    within-or w P _ _ (within-map w (SlicesOfArguments w) P call g.brackets h.brackets (λ a k. k)) (within-pure w P no_call tt)

slice-term : (w : Text) (g : Level) → Good w g → Within w (SlicesOfInline w) (term_reference g)
unfolding term_reference
slice-term w g h =
    let P = SlicesOfInline w in
    within-then w P (byte 45) _ (takes-byte 45) (within-bind w (IsSlice w) P identifier _ (slice-identifier w) (λ id i. within-bind w (SlicesOfAttribute w) P attribute_access _ (slice-attribute_access w) (λ a k.
    within-bind w (SlicesOfCall w) P (optional_call g) _ (slice-call w g h) (λ c l. within-pure w P (term id a c) (i, k, l)))))

slice-variable : (w : Text) → Within w (SlicesOfInline w) variable_reference
unfolding variable_reference
slice-variable w = within-map w (IsSlice w) (SlicesOfInline w) variable (byte 36 >> identifier) (within-then w (IsSlice w) (byte 36) identifier (takes-byte 36) (slice-identifier w)) (λ v k. k)

slice-inline : (w : Text) (g : Level) → Good w g → Within w (SlicesOfInline w) (inline_expression g)
unfolding inline_expression
slice-inline w g h =
    let P = SlicesOfInline w in
    within-or w P literal _ (slice-literal w)
    (within-or w P (function_reference g) _ (slice-function w g h)
    (within-or w P message_reference _ (slice-message w)
    (within-or w P (term_reference g) _ (slice-term w g h)
    (within-or w P variable_reference _ (slice-variable w)
    (within-map w (SlicesOfExpression w) P nested g.braces h.braces (λ e k. k))))))

-- ---- arguments

slice-named : (w : Text) → Within w (OfNamed w) named_argument
unfolding named_argument
slice-named w =
    let P = OfNamed w in
    within-bind w (IsSlice w) P identifier _ (slice-identifier w) (λ name i. within-then w P (skip blank) _ takes-blanks (within-then w P (byte 58) _ (takes-byte 58) (within-then w P (skip blank) _ takes-blanks
    (within-bind w (SlicesOfInline w) P literal _ (slice-literal w) (λ v k. within-pure w P (name, v) (i, k))))))

slice-argument : (w : Text) (g : Level) → Good w g → Within w (OfArgument w) (argument g)
unfolding argument
slice-argument w g h =
    let P = OfArgument w in
    within-or w P _ _ (within-map w (OfNamed w) P by_name named_argument (slice-named w) (λ m k. k)) (within-map w (SlicesOfInline w) P positional (inline_expression g) (slice-inline w g h) (λ x k. k))

slice-comma : (w : Text) (g : Level) → Good w g → Within w (OfArgument w) (argument_comma g)
unfolding argument_comma
slice-comma w g h =
    let P = OfArgument w in
    within-bind w P P (argument g) _ (slice-argument w g h) (λ a k. within-then w P comma (pure a) takes-comma (within-pure w P a k))

slice-list : (w : Text) (g : Level) → Good w g → Within w (OfGathered w) (argument_list g)
unfolding argument_list
slice-list w g h =
    let P = OfGathered w in
    within-bind w P P _ (last_argument g) (within-all w (OfArgument w) P add (argument_comma g) ([], [], true) (slice-comma w g h) (gathered_push w) (tt, tt))
    (λ before k. within-or w P _ (pure before) (within-map w (OfArgument w) P (add before) (argument g) (slice-argument w g h) (λ x l. gathered_push w before x k l)) (within-pure w P before k))

slice-arguments : (w : Text) (g : Level) → Good w g → Within w (SlicesOfArguments w) (call_arguments g)
unfolding call_arguments
slice-arguments w g h =
    let P = SlicesOfArguments w in
    within-then w P (skip blank) _ takes-blanks (within-then w P (byte 40) _ (takes-byte 40) (within-then w P (skip blank) _ takes-blanks
    (within-bind w (OfGathered w) P (argument_list g) _ (slice-list w g h) (λ l k. within-provided w P (is_well_formed l) _
    (within-then w P (skip blank) _ takes-blanks (within-then w P (byte 41) _ (takes-byte 41) (within-pure w P (arguments_of l) (k.0, k.1))))))))

-- ---- variants

slice-key_inside : (w : Text) → Within w (SlicesOfKey w) key_inside
unfolding key_inside
slice-key_inside w =
    let P = SlicesOfKey w in
    within-or w P _ _ (within-map w (IsSlice w) P number_key number_literal (slice-number_literal w) (λ t h. h)) (within-map w (IsSlice w) P name_key identifier (slice-identifier w) (λ t h. h))

slice-variant_key : (w : Text) → Within w (SlicesOfKey w) variant_key
unfolding variant_key
slice-variant_key w =
    let P = SlicesOfKey w in
    within-then w P (byte 91) _ (takes-byte 91) (within-then w P (skip blank) _ takes-blanks (within-bind w P P key_inside _ (slice-key_inside w) (λ key k.
    within-then w P (skip blank) _ takes-blanks (within-then w P (byte 93) (pure key) (takes-byte 93) (within-pure w P key k)))))

slice-variant_head : (w : Text) (d : Bool) → Within w (SlicesOfKey w) (variant_head d)
unfolding variant_head
slice-variant_head w d =
    let P = SlicesOfKey w in
    within-then w P line_end _ takes-line_end (within-then w P (skip blank) _ takes-blanks (within-then w P (star d) _ (takes-star d) (within-bind w P P variant_key _ (slice-variant_key w) (λ key k.
    within-then w P (skip blank_inline) (pure key) takes-spaces (within-pure w P key k)))))

slice-variant : (w : Text) (g : Level) (d : Bool) → Good w g → Within w (OfVariant w) (variant g d)
unfolding variant
slice-variant w g d h =
    let P = OfVariant w in
    within-bind w (SlicesOfKey w) P (variant_head d) _ (slice-variant_head w d) (λ key i.
    within-bind w (SlicesOfPattern w) P (pattern g.braces) _ (slice-pattern w g.braces h.braces h.none) (λ p k. within-pure w P (key, p, d) (i, k)))

slice-variants : (w : Text) (g : Level) → Good w g → Within w (OfVariants w) (variant_list g)
unfolding variant_list
slice-variants w g h =
    let P = OfVariants w in
    let Q = OfVariant w in
    within-bind w P P (many (variant g false)) _ (within-all w Q P push (variant g false) [] (slice-variant w g false h) (variants_push w) tt) (λ before b.
    within-bind w Q P (variant g true) _ (slice-variant w g true h) (λ d k.
    within-bind w P P _ _ (within-all w Q P push (variant g false) (before ++ d ∷ []) (slice-variant w g false h) (variants_push w) (variants_push w before d b k)) (λ l u.
    within-then w P line_end (pure l) takes-line_end (within-pure w P l u))))

-- ---- placeables

slice-expression : (w : Text) (g : Level) → Good w g → Within w (SlicesOfExpression w) (expression g)
unfolding expression
slice-expression w g h =
    let P = SlicesOfExpression w in
    let Q = SlicesOfInline w in
    within-or w P (select_expression g) (inline_expression g >>= alone)
    (within-bind w Q P (selector g) _
    (within-bind w Q Q (inline_expression g) _ (slice-inline w g h) (λ x k. within-provided w Q (is_selector x) (pure x) (within-pure w Q x k)))
    (λ x k. within-then w P arrow _ takes-arrow (within-bind w (OfVariants w) P (variant_list g) _ (slice-variants w g h) (λ vs v. within-pure w P (select x (variants_of vs)) (k, v)))))
    (within-bind w Q P (inline_expression g) alone (slice-inline w g h) (λ x k. within-provided w P (stands_alone x) (pure (inline x)) (within-pure w P (inline x) k)))

slice-placeable : (w : Text) (g : Level) → Good w g → Within w (SlicesOfExpression w) (inline_placeable g)
unfolding inline_placeable
slice-placeable w g h =
    let P = SlicesOfExpression w in
    within-then w P (byte 123) _ (takes-byte 123) (within-then w P (skip blank) _ takes-blanks (within-bind w P P (expression g) _ (slice-expression w g h) (λ x k.
    within-then w P (skip blank) _ takes-blanks (within-then w P (byte 125) (pure x) (takes-byte 125) (within-pure w P x k)))))

none_at_end : (g : Level) → inline_placeable g [] ≡ None
unfolding inline_placeable byte
none_at_end g = refl

good : (w : Text) (n : ℕ) → Good w (level n)
unfolding level
good w zero = record { braces = within-refuse w (SlicesOfExpression w); brackets = within-refuse w (SlicesOfArguments w); none = refl }
good w (suc n) = record { braces = slice-placeable w (level n) (good w n); brackets = slice-arguments w (level n) (good w n); none = none_at_end (level n) }

-- a pattern whose placeables stand no deeper than so many
pub slice-pattern_at : (w : Text) (n : ℕ) → Within w (SlicesOfPattern w) (pattern (level n).braces)
slice-pattern_at w n = slice-pattern w (level n).braces (good w n).braces (good w n).none
