-- How many arguments of a call are left.
use Rattle.std.proofs.Common.{◌≡◌, sym, subst, ℕ, suc, ◌+◌, ◌<◌, arith, Some}
use Rattle.fluent_ast.specs.Tree.{Text, Inline, Inlines, Nameds, argument, named_argument, no_inlines, no_nameds}
use Rattle.fluent_semantics.specs.Value.{Value}
use Rattle.fluent_resolver.specs.Inside.Parts.{Held, after_first, after_value, first_argument, next_argument}

pub inlines_left : Inlines → ℕ
inlines_left no_inlines = 0
inlines_left (argument x xs) = suc (inlines_left xs)

pub nameds_left : Nameds → ℕ
nameds_left no_nameds = 0
nameds_left (named_argument name x ns) = suc (nameds_left ns)

pub left : Held → ℕ
left h = inlines_left h.more + nameds_left h.more_named

first_falls : (ps : Inlines) (ns : Nameds) (h : Held) (x : Inline) (y : Value Text) → first_argument ps ns ≡ Some x → left (after_first ps ns h y) < inlines_left ps + nameds_left ns
unfolding left inlines_left nameds_left
first_falls no_inlines no_nameds h x y is = cc
first_falls no_inlines (named_argument name z ns) h x y is = omega arith
first_falls (argument z xs) ns h x y is = omega arith

-- one less, where the next has its value
pub left_falls : (h h' : Held) (x : Inline) (y : Value Text) → next_argument h ≡ Some x → h' ≡ after_value h y → left h' < left h
unfolding left
left_falls h h' x y is taken = subst (λ z. left z < left h) (sym taken) (first_falls h.more h.more_named h x y is)
