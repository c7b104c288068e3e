-- Messages that are there.
use Rattle.std.proofs.Common.{◌≡◌, Option, Some, None, is_some, refl}
use Rattle.fluent_bundle_entries.specs.EntryView.{message_content}
use Rattle.fluent_semantics.specs.Bundle.{Entry, a_message, a_term, a_function, number_builtin, is_message}

pub some_message : {C : Type 0} (e : Option (Entry C)) → is_some (message_content e) ≡ is_message e
some_message None = refl
some_message (Some (a_message v as')) = refl
some_message (Some (a_term p as')) = refl
some_message (Some (a_function f)) = refl
some_message (Some number_builtin) = refl
