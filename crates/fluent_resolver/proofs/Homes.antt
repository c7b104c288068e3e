-- Variables are still looked up among the application's arguments.
use Rattle.std.proofs.Common.{◌≡◌, refl, true}
use Rattle.fluent_ast.specs.Tree.{Text}
use Rattle.fluent_resolver_state.specs.Status.{environment_view, is_outside}
use Rattle.fluent_resolver_state.specs.declared.environment.Environment as environments
use Rattle.fluent_resolver_state.specs.declared.environment.Environment.TheVariants as environment

pub outside_kept : {C : Type 0} (content : C → Text) (e e' : environments.Environment C) → is_outside e ≡ true → environment_view content e' ≡ environment_view content e → is_outside e' ≡ true
outside_kept content (environment.Application a) (environment.Application b) h same = refl
outside_kept content (environment.Application a) (environment.Local l) h same = absurd cc
outside_kept content (environment.Local l) e' h same = absurd cc
