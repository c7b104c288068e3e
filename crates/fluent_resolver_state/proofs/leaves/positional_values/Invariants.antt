use Rattle.std.proofs.Common.{◌≡◌, List, ◌++◌, drop, Ok}
use Rattle.std.specs.declared.alloc.AllocError.{AllocError}
use Rattle.fluent_semantics.specs.Errors.{Error}
use Rattle.fluent_resolver_state.specs.Gathered.{values_of}
use Rattle.fluent_resolver_state.specs.Leaves.{errors_of_leaves, leaf_values}
use Rattle.fluent_resolver_state.specs.Status.{state}
use Rattle.fluent_resolver_state.specs.Steps.{ReportsSome}
use Rattle.fluent_resolver_state.proofs.leaves.positional_values.Given as goal

-- the values so far and those of the arguments left are all, and so it is with what was told
abbrev pub invariant-loop-argument : goal.invariant-loop-argument
invariant-loop-argument g l =
    let content = g.C.FluentType.content in
    let a = state g.B.Context.meant g.B.Context.is_plain g.F.FluentFunction.answer content l.initial.scope in
    let b = state g.B.Context.meant g.B.Context.is_plain g.F.FluentFunction.answer content l.scope in
    let more = drop l.argument-index l.arguments in
    record {
      told : List Error;
      so_far : ReportsSome {T = Unit {0}} {E = AllocError} (Ok tt) told a b;
      left : told ++ errors_of_leaves a.environment more ≡ errors_of_leaves a.environment l.arguments;
      values : values_of content l.values ++ leaf_values a.environment more ≡ leaf_values a.environment l.arguments;
    }
