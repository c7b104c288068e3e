-- What a `&mut` parameter of a call was before it and is after it: in a clause both are the parameter's name alone.
use Rattle.std.specs.Borrow.{MutBor}
use denote.Triple.Both.{Both}

abbrev pub Change : Type 0 → Type 0
Change A = Both (MutBor A) (MutBor A)

-- what it refers to before the call, and after it
abbrev pub old : {A : Type 0} → Change A → A
old x = x.entry.now

abbrev pub new : {A : Type 0} → Change A → A
new x = x.exit.now
