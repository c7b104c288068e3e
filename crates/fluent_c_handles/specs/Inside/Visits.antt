-- What is done of a bundle that may be open by something that keeps what came of it.
use Rattle.std.specs.Prelude.{◌≡◌, Option}
use Rattle.fluent_c_handles.specs.Answers.{Kept, TextsGiven, WhenOpen}
use Rattle.fluent_c_handles.specs.Calls.Formatting.{FormatsBy, told_in}
use Rattle.fluent_c_handles.specs.declared.calls.format.Format.{Format}

-- A message was formatted into the buffers, which are the same.
pub record FormatsInto (before after : Format) (kept kept' : Option Kept) : Type 0 where
  pub out : after.out.ghost_name ≡ before.out.ghost_name
  pub err : after.err.ghost_name ≡ before.err.ghost_name
  pub given : TextsGiven (WhenOpen (FormatsBy before.meant.now.table before.answers.now (told_in before.wanted.form) before.wanted.id.now before.wanted.name.now before.wanted.args.now))
      kept kept' before.out.now after.out.now before.err.now after.err.now after.sizes after.status
