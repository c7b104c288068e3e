-- Placeables and argument lists in one another, as deep as they may stand and one deeper.
use Rattle.std.proofs.Common.{◌≡◌, ℕ, zero, suc, [], ◌∷◌, length, Some, None, true, false, ◌==◌, refl, sym, ap, ◌∙◌, arith}
use Rattle.std.proofs.lemmas.Bool.Decides.{nat_tests}
use Rattle.fluent_ast.specs.Tree.{Text, Expression, inline, no_attribute, message, nested, function, Inline, Arguments, arguments, no_inlines, argument, no_nameds}
use Rattle.fluent_text.specs.Parser.{many_from, byte, run1}
use Rattle.fluent_text.specs.Lexical as l
use Rattle.fluent_syntax.specs.Expressions as e
use Rattle.fluent_syntax.specs.Expressions.{Level, level, Gathered, Argument, positional, add, argument_list, call_arguments, comma, arrow, inline_expression, expression, inline_placeable}
use Rattle.fluent_syntax.proofs.Gathers.{starts, gathers-none, gathers-last}

some_left : (c : ℕ) (t : Text) → (length (c ∷ t) == 0) ≡ false
some_left c t = grind (arith, nat_tests)

-- ---- placeables

-- `{x}`, within so many further braces
pub braced : ℕ → Text → Text
braced zero rest = 123 ∷ 120 ∷ 125 ∷ rest
braced (suc n) rest = 123 ∷ braced n (125 ∷ rest)

pub nested_tree : ℕ → Expression
nested_tree zero = inline (message (120 ∷ []) no_attribute)
nested_tree (suc n) = inline (nested (nested_tree n))

begins : (n : ℕ) (rest : Text) → (t : Text) × (braced n rest ≡ 123 ∷ t)
unfolding braced
begins zero rest = (120 ∷ 125 ∷ rest, refl)
begins (suc n) rest = (braced n (125 ∷ rest), refl)

inline_reads : (g : Level) (t : Text) (x : Expression) (rest : Text) → g.braces (123 ∷ t) ≡ Some (x, rest) → inline_expression g (123 ∷ t) ≡ Some (nested x, rest)
unfolding many_from byte run1 e.hex_digit e.hex_digits e.escape e.quoted_turn e.string_literal e.digits e.number_parts e.number_literal e.literal e.attribute_access e.message_reference e.function_reference e.optional_call e.term_reference inline_expression e.named_argument e.argument l.identifier l.blank_inline l.line_break l.line_end l.blank_turn l.blank e.variable_reference
inline_reads g t x rest h = rw h

inline_refused : (g : Level) (t : Text) → g.braces (123 ∷ t) ≡ None → inline_expression g (123 ∷ t) ≡ None
unfolding many_from byte run1 e.hex_digit e.hex_digits e.escape e.quoted_turn e.string_literal e.digits e.number_parts e.number_literal e.literal e.attribute_access e.message_reference e.function_reference e.optional_call e.term_reference inline_expression e.named_argument e.argument l.identifier l.blank_inline l.line_break l.line_end l.blank_turn l.blank e.variable_reference
inline_refused g t h = rw h

nested_alone : (g : Level) (s : Text) (x : Expression) (rest : Text) → inline_expression g s ≡ Some (nested x, rest) → expression g s ≡ Some (inline (nested x), rest)
unfolding expression
nested_alone g s x rest h = rw (h, h)

no_expression : (g : Level) (s : Text) → inline_expression g s ≡ None → expression g s ≡ None
unfolding expression
no_expression g s h = rw (h, h)

placeable_reads : (g : Level) (t : Text) (x : Expression) (rest : Text) → expression g (123 ∷ t) ≡ Some (x, 125 ∷ rest) → inline_placeable g (123 ∷ 123 ∷ t) ≡ Some (x, rest)
unfolding many_from byte run1 l.identifier l.blank_inline l.line_break l.line_end l.blank_turn l.blank inline_placeable
placeable_reads g t x rest h = rw (some_left 123 t, h, some_left 125 rest)

placeable_refused : (g : Level) (t : Text) → expression g (123 ∷ t) ≡ None → inline_placeable g (123 ∷ 123 ∷ t) ≡ None
unfolding many_from byte run1 l.identifier l.blank_inline l.line_break l.line_end l.blank_turn l.blank inline_placeable
placeable_refused g t h = rw (some_left 123 t, h)

brace_reads : (g : Level) (s t : Text) (x : Expression) (rest : Text) → s ≡ 123 ∷ t → g.braces s ≡ Some (x, 125 ∷ rest) → inline_placeable g (123 ∷ s) ≡ Some (inline (nested x), rest)
brace_reads g s t x rest b h =
    ap (λ u. inline_placeable g (123 ∷ u)) b ∙ placeable_reads g t (inline (nested x)) rest (nested_alone g (123 ∷ t) x (125 ∷ rest) (inline_reads g t x (125 ∷ rest) (ap g.braces (sym b) ∙ h)))

brace_refused : (g : Level) (s t : Text) → s ≡ 123 ∷ t → g.braces s ≡ None → inline_placeable g (123 ∷ s) ≡ None
brace_refused g s t b h =
    ap (λ u. inline_placeable g (123 ∷ u)) b ∙ placeable_refused g t (no_expression g (123 ∷ t) (inline_refused g t (ap g.braces (sym b) ∙ h)))

pub braces_read : (n : ℕ) (rest : Text) → (level (suc n)).braces (braced n rest) ≡ Some (nested_tree n, rest)
unfolding braced nested_tree many_from byte run1 e.hex_digit e.hex_digits e.escape e.quoted_turn e.string_literal e.digits e.number_parts e.number_literal e.literal e.attribute_access e.message_reference e.function_reference e.optional_call e.term_reference inline_expression e.named_argument e.argument l.identifier l.blank_inline l.line_break l.line_end l.blank_turn l.blank e.variable_reference expression inline_placeable level
braces_read zero rest = rw (some_left 120 (125 ∷ rest), some_left 125 rest)
braces_read (suc n) rest = let b = begins n (125 ∷ rest) in brace_reads (level (suc n)) (braced n (125 ∷ rest)) b.0 (nested_tree n) rest b.1 (braces_read n (125 ∷ rest))

pub braces_refused : (n : ℕ) (rest : Text) → (level n).braces (braced n rest) ≡ None
unfolding braced level
braces_refused zero rest = refl
braces_refused (suc n) rest = let b = begins n (125 ∷ rest) in brace_refused (level n) (braced n (125 ∷ rest)) b.0 b.1 (braces_refused n (125 ∷ rest))

-- a hundred braces in one another are read, one more is not
pub row_hundred : (level 100).braces (braced 99 []) ≡ Some (nested_tree 99, [])
row_hundred = braces_read 99 []

pub row_hundred_one : (level 100).braces (braced 100 []) ≡ None
row_hundred_one = braces_refused 100 []

-- ---- argument lists

-- `()`, and within so many further `(F` .. `)`
pub listed : ℕ → Text → Text
listed zero rest = 40 ∷ 41 ∷ rest
listed (suc n) rest = 40 ∷ 70 ∷ listed n (41 ∷ rest)

pub listed_tree : ℕ → Arguments
listed_tree zero = arguments no_inlines no_nameds
listed_tree (suc n) = arguments (argument (function (70 ∷ []) (listed_tree n)) no_inlines) no_nameds

lists : (n : ℕ) (rest : Text) → (t : Text) × (listed n rest ≡ 40 ∷ t)
unfolding listed
lists zero rest = (41 ∷ rest, refl)
lists (suc n) rest = (70 ∷ listed n (41 ∷ rest), refl)

call_reads : (g : Level) (t : Text) (a : Arguments) (rest : Text) → g.brackets (40 ∷ t) ≡ Some (a, rest) → inline_expression g (70 ∷ 40 ∷ t) ≡ Some (function (70 ∷ []) a, rest)
unfolding many_from byte run1 e.hex_digit e.hex_digits e.escape e.quoted_turn e.string_literal e.digits e.number_parts e.number_literal e.literal e.attribute_access e.message_reference e.function_reference e.optional_call e.term_reference inline_expression e.named_argument e.argument l.identifier l.blank_inline l.line_break l.line_end l.blank_turn l.blank e.variable_reference
call_reads g t a rest h = rw h

call_refused : (g : Level) (t : Text) → g.brackets (40 ∷ t) ≡ None → inline_expression g (70 ∷ 40 ∷ t) ≡ Some (message (70 ∷ []) no_attribute, 40 ∷ t)
unfolding many_from byte run1 e.hex_digit e.hex_digits e.escape e.quoted_turn e.string_literal e.digits e.number_parts e.number_literal e.literal e.attribute_access e.message_reference e.function_reference e.optional_call e.term_reference inline_expression e.named_argument e.argument l.identifier l.blank_inline l.line_break l.line_end l.blank_turn l.blank e.variable_reference
call_refused g t h = rw h

not_named : (t : Text) → e.named_argument (70 ∷ 40 ∷ t) ≡ None
unfolding many_from byte run1 l.identifier l.blank_inline l.line_break l.line_end l.blank_turn l.blank e.named_argument
not_named t = rw (some_left 40 t)

as_argument : (g : Level) (t : Text) (x : Inline) (rest : Text) → inline_expression g (70 ∷ 40 ∷ t) ≡ Some (x, rest) → e.argument g (70 ∷ 40 ∷ t) ≡ Some (positional x, rest)
unfolding e.argument
as_argument g t x rest h = rw (not_named t, h)

no_comma_open : (t : Text) → comma (40 ∷ t) ≡ None
unfolding many_from byte run1 l.identifier l.blank_inline l.line_break l.line_end l.blank_turn l.blank comma
no_comma_open t = rw (some_left 40 t)

no_comma_close : (t : Text) → comma (41 ∷ t) ≡ None
unfolding many_from byte run1 l.identifier l.blank_inline l.line_break l.line_end l.blank_turn l.blank comma
no_comma_close t = rw (some_left 41 t)

one_argument : (g : Level) (t : Text) (x : Inline) (rest : Text) → inline_expression g (70 ∷ 40 ∷ t) ≡ Some (x, rest) → comma rest ≡ None → argument_list g (70 ∷ 40 ∷ t) ≡ Some ((x ∷ [], [], true), rest)
one_argument g t x rest h c =
    starts g (70 ∷ 40 ∷ t) ∙ gathers-last g (length (70 ∷ 40 ∷ t)) ([], [], true) (70 ∷ 40 ∷ t) (positional x) rest (omega arith) (as_argument g t x rest h) c

no_braces : (n : ℕ) (rest : Text) → (level n).braces (41 ∷ rest) ≡ None
unfolding byte inline_placeable level
no_braces zero rest = refl
no_braces (suc n) rest = refl

nothing_there : (g : Level) (rest : Text) → g.braces (41 ∷ rest) ≡ None → e.argument g (41 ∷ rest) ≡ None
unfolding many_from byte run1 e.hex_digit e.hex_digits e.escape e.quoted_turn e.string_literal e.digits e.number_parts e.number_literal e.literal e.attribute_access e.message_reference e.function_reference e.optional_call e.term_reference inline_expression e.named_argument e.argument l.identifier l.blank_inline l.line_break l.line_end l.blank_turn l.blank e.variable_reference
nothing_there g rest h = rw h

no_argument : (n : ℕ) (rest : Text) → argument_list (level n) (41 ∷ rest) ≡ Some (([], [], true), 41 ∷ rest)
no_argument n rest =
    starts (level n) (41 ∷ rest) ∙ gathers-none (level n) (length (41 ∷ rest)) ([], [], true) (41 ∷ rest) (omega arith) (nothing_there (level n) rest (no_braces n rest))

call_closed : (g : Level) (t : Text) (x : Inline) (rest : Text) → argument_list g (70 ∷ 40 ∷ t) ≡ Some ((x ∷ [], [], true), 41 ∷ rest) → call_arguments g (40 ∷ 70 ∷ 40 ∷ t) ≡ Some (arguments (argument x no_inlines) no_nameds, rest)
unfolding many_from byte run1 l.identifier l.blank_inline l.line_break l.line_end l.blank_turn l.blank call_arguments
call_closed g t x rest h = rw (some_left 40 (70 ∷ 40 ∷ t), some_left 70 (40 ∷ t), h, some_left 41 rest)

call_open : (g : Level) (t : Text) (x : Inline) (rest : Text) → argument_list g (70 ∷ 40 ∷ t) ≡ Some ((x ∷ [], [], true), 40 ∷ rest) → call_arguments g (40 ∷ 70 ∷ 40 ∷ t) ≡ None
unfolding many_from byte run1 l.identifier l.blank_inline l.line_break l.line_end l.blank_turn l.blank call_arguments
call_open g t x rest h = rw (some_left 40 (70 ∷ 40 ∷ t), some_left 70 (40 ∷ t), h, some_left 40 rest)

call_empty : (g : Level) (rest : Text) → argument_list g (41 ∷ rest) ≡ Some (([], [], true), 41 ∷ rest) → call_arguments g (40 ∷ 41 ∷ rest) ≡ Some (arguments no_inlines no_nameds, rest)
unfolding many_from byte run1 l.identifier l.blank_inline l.line_break l.line_end l.blank_turn l.blank call_arguments
call_empty g rest h = rw (some_left 40 (41 ∷ rest), some_left 41 rest, h, some_left 41 rest)

call_step : (g : Level) (s t : Text) (a : Arguments) (rest : Text) → s ≡ 40 ∷ t → g.brackets s ≡ Some (a, 41 ∷ rest) → call_arguments g (40 ∷ 70 ∷ s) ≡ Some (arguments (argument (function (70 ∷ []) a) no_inlines) no_nameds, rest)
call_step g s t a rest b h =
    let x = function (70 ∷ []) a in
    ap (λ u. call_arguments g (40 ∷ 70 ∷ u)) b
    ∙ call_closed g t x rest (one_argument g t x (41 ∷ rest) (call_reads g t a (41 ∷ rest) (ap g.brackets (sym b) ∙ h)) (no_comma_close rest))

call_stuck : (g : Level) (s t : Text) → s ≡ 40 ∷ t → g.brackets s ≡ None → call_arguments g (40 ∷ 70 ∷ s) ≡ None
call_stuck g s t b h =
    let x = message (70 ∷ []) no_attribute in
    ap (λ u. call_arguments g (40 ∷ 70 ∷ u)) b
    ∙ call_open g t x t (one_argument g t x (40 ∷ t) (call_refused g t (ap g.brackets (sym b) ∙ h)) (no_comma_open t))

pub lists_read : (n : ℕ) (rest : Text) → (level (suc n)).brackets (listed n rest) ≡ Some (listed_tree n, rest)
unfolding listed listed_tree level
lists_read zero rest = call_empty (level zero) rest (no_argument zero rest)
lists_read (suc n) rest = let b = lists n (41 ∷ rest) in call_step (level (suc n)) (listed n (41 ∷ rest)) b.0 (listed_tree n) rest b.1 (lists_read n (41 ∷ rest))

pub lists_refused : (n : ℕ) (rest : Text) → (level n).brackets (listed n rest) ≡ None
unfolding listed level
lists_refused zero rest = refl
lists_refused (suc n) rest = let b = lists n (41 ∷ rest) in call_stuck (level n) (listed n (41 ∷ rest)) b.0 b.1 (lists_refused n (41 ∷ rest))

-- ---- argument lists in a placeable

no_arrow : (t : Text) → arrow (125 ∷ t) ≡ None
unfolding many_from byte run1 l.identifier l.blank_inline l.line_break l.line_end l.blank_turn l.blank arrow
no_arrow t = rw (some_left 125 t)

function_alone : (g : Level) (s : Text) (f : Text) (a : Arguments) (rest : Text) → inline_expression g s ≡ Some (function f a, 125 ∷ rest) → expression g s ≡ Some (inline (function f a), 125 ∷ rest)
unfolding expression
function_alone g s f a rest h = rw (h, no_arrow rest, h)

message_alone : (g : Level) (s : Text) (m : Text) (rest : Text) → inline_expression g s ≡ Some (message m no_attribute, rest) → expression g s ≡ Some (inline (message m no_attribute), rest)
unfolding expression
message_alone g s m rest h = rw (h, h)

call_in_braces : (g : Level) (t : Text) (x : Expression) (rest : Text) → expression g (70 ∷ t) ≡ Some (x, 125 ∷ rest) → inline_placeable g (123 ∷ 70 ∷ t) ≡ Some (x, rest)
unfolding many_from byte run1 l.identifier l.blank_inline l.line_break l.line_end l.blank_turn l.blank inline_placeable
call_in_braces g t x rest h = rw (some_left 70 t, h, some_left 125 rest)

call_unclosed : (g : Level) (t : Text) (x : Expression) (rest : Text) → expression g (70 ∷ t) ≡ Some (x, 40 ∷ rest) → inline_placeable g (123 ∷ 70 ∷ t) ≡ None
unfolding many_from byte run1 l.identifier l.blank_inline l.line_break l.line_end l.blank_turn l.blank inline_placeable
call_unclosed g t x rest h = rw (some_left 70 t, h, some_left 40 rest)

-- `{F` and so many argument lists in one another
pub called : ℕ → Text → Text
called n rest = 123 ∷ 70 ∷ listed n (125 ∷ rest)

pub calls_read : (n : ℕ) (rest : Text) → (level (suc (suc n))).braces (called n rest) ≡ Some (inline (function (70 ∷ []) (listed_tree n)), rest)
unfolding called level
calls_read n rest =
    let g = level (suc n) in
    let b = lists n (125 ∷ rest) in
    let read = call_reads g b.0 (listed_tree n) (125 ∷ rest) (ap g.brackets (sym b.1) ∙ lists_read n (125 ∷ rest)) in
    ap (λ u. inline_placeable g (123 ∷ 70 ∷ u)) b.1
    ∙ call_in_braces g (40 ∷ b.0) (inline (function (70 ∷ []) (listed_tree n))) rest (function_alone g (70 ∷ 40 ∷ b.0) (70 ∷ []) (listed_tree n) rest read)

pub calls_refused : (n : ℕ) (rest : Text) → (level (suc n)).braces (called n rest) ≡ None
unfolding called level
calls_refused n rest =
    let g = level n in
    let b = lists n (125 ∷ rest) in
    let read = call_refused g b.0 (ap g.brackets (sym b.1) ∙ lists_refused n (125 ∷ rest)) in
    ap (λ u. inline_placeable g (123 ∷ 70 ∷ u)) b.1
    ∙ call_unclosed g (40 ∷ b.0) (inline (message (70 ∷ []) no_attribute)) b.0 (message_alone g (70 ∷ 40 ∷ b.0) (70 ∷ []) (40 ∷ b.0) read)

-- ninety-nine argument lists in one another in a placeable are read, one more is not
pub row_calls : (level 100).braces (called 98 []) ≡ Some (inline (function (70 ∷ []) (listed_tree 98)), [])
row_calls = calls_read 98 []

pub row_calls_more : (level 100).braces (called 99 []) ≡ None
row_calls_more = calls_refused 99 []
