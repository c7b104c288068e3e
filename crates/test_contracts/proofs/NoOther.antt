-- Beside a message that stands alone there is no term and no function.
use Rattle.std.proofs.Common.{◌≡◌, Bool, true, false, None, refl}
use Rattle.fluent_ast.specs.Tree.{Text}
use Rattle.fluent_ast.specs.declared.ast.Message.{Message}
use Rattle.fluent_semantics.specs.Bundle.{function_found}
use Rattle.fluent_semantics.specs.Number.{is_text}
use Rattle.fluent_bundle_entries.specs.EntryView.{term_content}
use Rattle.test_contracts.specs.Alone.{message_if, named}

no_term_if : (m : Message) (b : Bool) → None ≡ term_content (message_if m b)
no_term_if m true = refl
no_term_if m false = refl

pub no_term : (m : Message) (id : Text) → None ≡ term_content (named m id)
no_term m id = no_term_if m (is_text m.id.name.now id)

no_function_if : (m : Message) (b : Bool) → None ≡ function_found (message_if m b)
no_function_if m true = refl
no_function_if m false = refl

pub no_function : (m : Message) (id : Text) → None ≡ function_found (named m id)
no_function m id = no_function_if m (is_text m.id.name.now id)
