-- Arguments, each read once: before a comma, or last.
use Rattle.std.proofs.Common.{◌≡◌, ℕ, suc, ◌<◌, ◌≤◌, List, length, Some, None, ap, true, [], refl}
use Rattle.fluent_text.specs.Parser.{Parser, and_then, many_from}
use Rattle.fluent_syntax.specs.Expressions.{Level, Gathered, Argument, add, argument, comma, argument_comma, last_argument, argument_list}
use Rattle.fluent_text.specs.Facts.Turns.{more, none, empty, done}

-- what the rest of a list gives, after the arguments before it
unfoldable pub gathers : Level → ℕ → Gathered → Parser Gathered
gathers g k before s = and_then (many_from add (argument_comma g) k before s) (last_argument g)

pub starts : (g : Level) (s : List ℕ) → argument_list g s ≡ gathers g (length s) ([], [], true) s
unfolding argument_list gathers
starts g s = refl

no_comma : (g : Level) (s : List ℕ) → argument g s ≡ None → argument_comma g s ≡ None
unfolding argument_comma
no_comma g s e = rw e

last_comma : (g : Level) (s : List ℕ) (x : Argument) (after : List ℕ) → argument g s ≡ Some (x, after) → comma after ≡ None → argument_comma g s ≡ None
unfolding argument_comma
last_comma g s x after e h = rw (e, h)

next_comma : (g : Level) (s : List ℕ) (x : Argument) (after past : List ℕ) → argument g s ≡ Some (x, after) → comma after ≡ Some (tt, past) → argument_comma g s ≡ Some (x, past)
unfolding argument_comma
next_comma g s x after past e h = rw (e, h)

-- no argument follows
pub gathers-none : (g : Level) (k : ℕ) (before : Gathered) (s : List ℕ) → 0 < k → argument g s ≡ None → gathers g k before s ≡ Some (before, s)
unfolding gathers
gathers-none g k before s room e = rw (none add (argument_comma g) k before s room (no_comma g s e), e)

-- an argument follows, and no comma
pub gathers-last : (g : Level) (k : ℕ) (before : Gathered) (s : List ℕ) (x : Argument) (after : List ℕ) → 0 < k → argument g s ≡ Some (x, after) → comma after ≡ None → gathers g k before s ≡ Some (add before x, after)
unfolding gathers
gathers-last g k before s x after room e h = rw (none add (argument_comma g) k before s room (last_comma g s x after e h), e)

-- the same where argument and comma take nothing
pub gathers-empty : (g : Level) (k : ℕ) (before : Gathered) (s : List ℕ) (x : Argument) (after past : List ℕ) → 0 < k → argument g s ≡ Some (x, after) → comma after ≡ Some (tt, past) → length s ≤ length past → gathers g k before s ≡ Some (add before x, after)
unfolding gathers
gathers-empty g k before s x after past room e h le = rw (empty add (argument_comma g) k before s x past room (next_comma g s x after past e h) le, e)

-- an argument and a comma follow
pub gathers-more : (g : Level) (k j : ℕ) (before : Gathered) (s : List ℕ) (x : Argument) (after past : List ℕ) → k ≡ suc j → argument g s ≡ Some (x, after) → comma after ≡ Some (tt, past) → length past < length s → gathers g k before s ≡ gathers g j (add before x) past
unfolding gathers
gathers-more g k j before s x after past k1 e h lt = ap (λ r. and_then r (last_argument g)) (more add (argument_comma g) k j before s x past k1 (next_comma g s x after past e h) lt)

pub gathers-done : (g : Level) (k : ℕ) (before : Gathered) (s : List ℕ) → k ≡ 0 → gathers g k before s ≡ last_argument g before s
unfolding gathers
gathers-done g k before s e = ap (λ r. and_then r (last_argument g)) (done add (argument_comma g) k before s e)
