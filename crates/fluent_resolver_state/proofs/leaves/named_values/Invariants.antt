use Rattle.std.proofs.Common.{◌≡◌, List, [], ◌++◌, drop, Ok}
use Rattle.std.specs.declared.alloc.AllocError.{AllocError}
use Rattle.fluent_semantics.specs.Arguments.{set_all}
use Rattle.fluent_semantics.specs.Errors.{Error}
use Rattle.fluent_resolver_state.specs.Leaves.{errors_of_named_leaves, named_leaf_values}
use Rattle.fluent_resolver_state.specs.Status.{state}
use Rattle.fluent_resolver_state.specs.Steps.{ReportsSome}
use Rattle.fluent_values.specs.View.{named}
use Rattle.fluent_resolver_state.proofs.leaves.named_values.Given as goal

-- the arguments left are still to be set, and what was told and what they tell is all
abbrev pub invariant-loop-argument : goal.invariant-loop-argument
invariant-loop-argument g l =
    let content = g.C.FluentType.content in
    let a = state g.B.Context.meant g.B.Context.is_plain g.F.FluentFunction.answer content l.initial.scope in
    let b = state g.B.Context.meant g.B.Context.is_plain g.F.FluentFunction.answer content l.scope in
    let more = drop l.argument-index l.arguments in
    record {
      told : List Error;
      so_far : ReportsSome {T = Unit {0}} {E = AllocError} (Ok tt) told a b;
      left : told ++ errors_of_named_leaves a.environment more ≡ errors_of_named_leaves a.environment l.arguments;
      values : set_all (named_leaf_values a.environment more) (named content l.args) ≡ set_all (named_leaf_values a.environment l.arguments) [];
    }
