-- What a scope is, by content.
use Rattle.std.specs.Prelude.{Bool, Option}
use Rattle.std.specs.Borrow.{Bor, MutBor}
use Rattle.std.specs.declared.vec.Vec.{Vec}
use Rattle.std.proofs.Common.{Global}
use Rattle.fluent_ast.specs.Tree.{Text}
use Rattle.fluent_semantics.specs.Bundle.{Bundle, Function}
use Rattle.fluent_bundle_entries.specs.declared.errors.FluentError.{FluentError}
use Rattle.fluent_resolver.specs.declared.scope.Scope.{Scope}
use Rattle.fluent_resolver_state.specs.Status.{StateParts, Status, state_parts, status_of}
use Rattle.fluent_resolver_state.specs.declared.budget.Counts.{Counts}

unfoldable pub scope_parts : {C F B : Type 0} → Scope C F B → StateParts C F B
unfolding state_parts
scope_parts s = state_parts s.state

-- the list of errors that it was given, its bundle, and what it counted
abbrev pub errors_in : {C F B : Type 0} → Scope C F B → Option (MutBor (Vec FluentError Global))
errors_in s = (scope_parts s).errors

abbrev pub bundle_in : {C F B : Type 0} → Scope C F B → Bor B
bundle_in s = (scope_parts s).bundle

abbrev pub counts_in : {C F B : Type 0} → Scope C F B → Counts
counts_in s = (scope_parts s).counts

abbrev pub status : {C F B : Type 0} → (B → Bundle Text) → (B → Bool) → (F → Function Text) → (C → Text) → Scope C F B → Status B
status meant is_plain answer content s = status_of meant is_plain answer content (scope_parts s)
