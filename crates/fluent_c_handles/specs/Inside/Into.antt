-- What is formatted goes into the caller's buffers.
use Rattle.std.specs.Prelude.{◌≡◌, ◌≤◌, ℕ, List}
use Rattle.fluent_text.specs.Changes.{Change, new, old}
use Rattle.fluent_ast.specs.Tree.{Text}
use Rattle.fluent_semantics.specs.Bundle.{Bundle}
use Rattle.fluent_c_handles.specs.Answers.{BundleCall, GivenBy, Kept, stock_content}
use Rattle.fluent_c_handles.specs.Inside.Unasked.{Unasked}
use Rattle.fluent_c_handles.specs.declared.answer.Answer.{Answer}
use Rattle.fluent_c_handles.specs.declared.asking.Wanted.{Wanted}
use Rattle.fluent_c_handles.specs.declared.stock.Stock.{Stock}
use Rattle.fluent_c_handles.specs.declared.texts.Lengths.{Lengths}

-- The answer of a call of a bundle that is open was given.
pub record GivenOpen (call : BundleCall) (before after : Kept) (out out' err err' : List ℕ) (lengths : Lengths) (status : ℕ) : Type 0 where
  pub answer : Answer
  pub done : call before after answer
  pub given : GivenBy answer out out' err err' lengths status

-- the same of what the code is handed
abbrev pub GivesOpen : BundleCall → Change Stock → Change (List ℕ) → Change (List ℕ) → Change Lengths → ℕ → Type 0
GivesOpen call stock out err lengths status =
    GivenOpen call (stock_content (old stock)) (stock_content (new stock)) (old out) (new out) (old err) (new err) (new lengths) status

-- The text of a message was given, or why there is none.
pub record UnaskedGiven (w : Wanted) (bundle : Bundle Text) (out out' err err' : List ℕ) (lengths : Lengths) (status : ℕ) : Type 0 where
  pub answer : Answer
  pub done : Unasked w.form bundle w.id.now w.name.now w.args.now answer
  pub given : GivenBy answer out out' err err' lengths status

-- the same of what the code is handed
abbrev pub UnaskedInto : Wanted → Bundle Text → Change (List ℕ) → Change (List ℕ) → Change Lengths → ℕ → Type 0
UnaskedInto w bundle out err lengths status = UnaskedGiven w bundle (old out) (new out) (old err) (new err) (new lengths) status

-- Two buffers of so much room had it, or (1) one had not.
pub record IsFitStatus (lengths : Lengths) (room err_room status : ℕ) : Type 0 where
  pub below : status ≤ 1
  pub fits : status ≡ 0 → (lengths.text ≤ room) × (lengths.errors ≤ err_room)
  pub short : status ≡ 1 → ¬ ((lengths.text ≤ room) × (lengths.errors ≤ err_room))
