use Rattle.std.proofs.Common.{ap, sym}
use Rattle.fluent_resolver_state.specs.Facts.Reporting.{some_of_none}
use Rattle.fluent_resolver_state.specs.Facts.Views.{view_number_in, view_string_in}
use Rattle.fluent_resolver_state.specs.Leaves.{leaf_errors}
use Rattle.fluent_resolver_state.specs.Status.{state, state_parts}
use Rattle.fluent_resolver_state.proofs.LeafArguments.{no_leaf}
use Rattle.fluent_resolver_state.proofs.leaves.leaf_value.Goals as goal

pub returns-in_err-text-in-StringLiteral-clause-reports : goal.returns-in_err-text-in-StringLiteral-clause-reports
unfolding state_parts
returns-in_err-text-in-StringLiteral-clause-reports g c =
    let a = state g.B.Context.meant g.B.Context.is_plain g.F.FluentFunction.answer g.C.FluentType.content c.args.scope.now in
    some_of_none _ a (ap (leaf_errors a.environment) (view_string_in c.args.inline.now c.in-StringLiteral.value c.in-StringLiteral.is))

pub returns-in_ok-text-in-StringLiteral-clause-reports : goal.returns-in_ok-text-in-StringLiteral-clause-reports
unfolding state_parts
returns-in_ok-text-in-StringLiteral-clause-reports g c =
    let a = state g.B.Context.meant g.B.Context.is_plain g.F.FluentFunction.answer g.C.FluentType.content c.args.scope.now in
    some_of_none _ a (ap (leaf_errors a.environment) (view_string_in c.args.inline.now c.in-StringLiteral.value c.in-StringLiteral.is))

pub returns-in-NumberLiteral-clause-reports : goal.returns-in-NumberLiteral-clause-reports
unfolding state_parts
returns-in-NumberLiteral-clause-reports g c =
    let a = state g.B.Context.meant g.B.Context.is_plain g.F.FluentFunction.answer g.C.FluentType.content c.args.scope.now in
    some_of_none _ a (ap (leaf_errors a.environment) (view_number_in c.args.inline.now c.in-NumberLiteral.value c.in-NumberLiteral.is))

pub returns-in_default : goal.returns-in_default
unfolding state_parts
returns-in_default g c =
    let a = state g.B.Context.meant g.B.Context.is_plain g.F.FluentFunction.answer g.C.FluentType.content c.args.scope.now in
    let none = no_leaf a.environment c.args.inline.now (λ t. c.in_default.not-StringLiteral t) (λ t. c.in_default.not-NumberLiteral t) (λ id. c.in_default.not-VariableReference id) in
    record { value = sym none.0; reports = some_of_none _ a none.1 }
