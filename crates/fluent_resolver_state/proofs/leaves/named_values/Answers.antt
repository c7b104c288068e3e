use Rattle.std.proofs.Common.{rules, refl, ap, sym, ◌∙◌, [], ◌++◌, ◌+◌, append-nil, append_assoc, drop, Ok}
use Rattle.fluent_ast.specs.View.{inline_view}
use Rattle.fluent_semantics.specs.Arguments.{set, set_all}
use Rattle.fluent_resolver_state.specs.Facts.Lists.{none_left}
use Rattle.fluent_resolver_state.specs.Facts.Reporting.{some_as, some_fails, some_of_none, some_ok, some_on}
use Rattle.fluent_resolver_state.specs.Leaves.{errors_of_named_leaves, leaf_errors, leaf_value, named_leaf_values}
use Rattle.fluent_resolver_state.specs.Status.{state, state_parts}
use Rattle.fluent_values.specs.View.{named}
use Rattle.fluent_resolver_state.proofs.LeafArguments.{next_named_errors, next_named}
use Rattle.fluent_resolver_state.proofs.leaves.named_values.Goals as goal

pub loop-argument-init : goal.loop-argument-init
unfolding state_parts
loop-argument-init g c =
    let content = g.C.FluentType.content in
    let a = state g.B.Context.meant g.B.Context.is_plain g.F.FluentFunction.answer content c.args.scope.now in
    record {
      told = [];
      so_far = some_of_none (Ok tt) a refl;
      left = refl;
      values = ap (set_all (named_leaf_values a.environment c.args.arguments.now)) c.new-args.ensures;
    }

pub returns-in_err-value-clause-reports : goal.returns-in_err-value-clause-reports
unfolding state_parts
returns-in_err-value-clause-reports g c =
    let a = state g.B.Context.meant g.B.Context.is_plain g.F.FluentFunction.answer g.C.FluentType.content c.args.scope.now in
    let b = state g.B.Context.meant g.B.Context.is_plain g.F.FluentFunction.answer g.C.FluentType.content c.loop-argument.scope in
    let d = state g.B.Context.meant g.B.Context.is_plain g.F.FluentFunction.answer g.C.FluentType.content c.leaf_value.new.scope in
    let xs = c.args.arguments.now in
    let i = c.loop-argument.argument-index in
    let x = c.argument-item.result in
    let so_far = c.loop-argument.invariant in
    let more = errors_of_named_leaves a.environment (drop (i + 1) xs) in
    let told = some_on {b = b} {c = d} refl so_far.so_far (some_as (ap (λ env. leaf_errors env (inline_view x.value)) so_far.so_far.environment) c.leaf_value.ensures.reports) in
    some_as (append_assoc so_far.told (leaf_errors a.environment (inline_view x.value)) more ∙ ap (λ es. so_far.told ++ es) (next_named_errors a.environment xs i x c.loop-argument-test.true c.argument-item.is) ∙ so_far.left)
    (some_fails more (search rules) told)

pub returns-in_err-set-clause-reports : goal.returns-in_err-set-clause-reports
unfolding state_parts
returns-in_err-set-clause-reports g c =
    let a = state g.B.Context.meant g.B.Context.is_plain g.F.FluentFunction.answer g.C.FluentType.content c.args.scope.now in
    let b = state g.B.Context.meant g.B.Context.is_plain g.F.FluentFunction.answer g.C.FluentType.content c.loop-argument.scope in
    let d = state g.B.Context.meant g.B.Context.is_plain g.F.FluentFunction.answer g.C.FluentType.content c.leaf_value.new.scope in
    let xs = c.args.arguments.now in
    let i = c.loop-argument.argument-index in
    let x = c.argument-item.result in
    let so_far = c.loop-argument.invariant in
    let more = errors_of_named_leaves a.environment (drop (i + 1) xs) in
    let told = some_on {b = b} {c = d} refl so_far.so_far (some_as (ap (λ env. leaf_errors env (inline_view x.value)) so_far.so_far.environment) c.leaf_value.ensures.reports) in
    some_as (append_assoc so_far.told (leaf_errors a.environment (inline_view x.value)) more ∙ ap (λ es. so_far.told ++ es) (next_named_errors a.environment xs i x c.loop-argument-test.true c.argument-item.is) ∙ so_far.left)
    (some_fails more (search rules) told)

pub loop-argument-preserved : goal.loop-argument-preserved
unfolding state_parts
loop-argument-preserved g c =
    let content = g.C.FluentType.content in
    let a = state g.B.Context.meant g.B.Context.is_plain g.F.FluentFunction.answer content c.args.scope.now in
    let b = state g.B.Context.meant g.B.Context.is_plain g.F.FluentFunction.answer g.C.FluentType.content c.loop-argument.scope in
    let d = state g.B.Context.meant g.B.Context.is_plain g.F.FluentFunction.answer g.C.FluentType.content c.leaf_value.new.scope in
    let xs = c.args.arguments.now in
    let i = c.loop-argument.argument-index in
    let x = c.argument-item.result in
    let so_far = c.loop-argument.invariant in
    let same = so_far.so_far.environment in
    let more = drop (i + 1) xs in
    record {
      told = so_far.told ++ leaf_errors a.environment (inline_view x.value);
      so_far = some_on {b = b} {c = d} refl so_far.so_far (some_ok c.in_ok-value.was (some_as (ap (λ env. leaf_errors env (inline_view x.value)) same) c.leaf_value.ensures.reports));
      left = append_assoc so_far.told (leaf_errors a.environment (inline_view x.value)) (errors_of_named_leaves a.environment more) ∙ ap (λ es. so_far.told ++ es) (next_named_errors a.environment xs i x c.loop-argument-test.true c.argument-item.is) ∙ so_far.left;
      values =
          ap (set_all (named_leaf_values a.environment more)) (c.in_ok-set.ensures.ok ∙ ap (λ v. set x.name.name.now v (named content c.loop-argument.args)) (c.in_ok-value.ensures.value ∙ ap (λ env. leaf_value env (inline_view x.value)) same))
          ∙ next_named a.environment xs i x c.loop-argument-test.true c.argument-item.is (named content c.loop-argument.args)
          ∙ so_far.values;
    }

pub returns-clause-reports : goal.returns-clause-reports
unfolding state_parts
returns-clause-reports g c =
    let a = state g.B.Context.meant g.B.Context.is_plain g.F.FluentFunction.answer g.C.FluentType.content c.args.scope.now in
    let so_far = c.loop-argument.invariant in
    let none = none_left c.args.arguments.now c.loop-argument.argument-index c.loop-argument-test.false in
    some_ok refl (some_as (sym (append-nil so_far.told) ∙ ap (λ xs. so_far.told ++ errors_of_named_leaves a.environment xs) (sym none) ∙ so_far.left) so_far.so_far)

pub returns-clause-values : goal.returns-clause-values
unfolding state_parts
returns-clause-values g c =
    let content = g.C.FluentType.content in
    let a = state g.B.Context.meant g.B.Context.is_plain g.F.FluentFunction.answer content c.args.scope.now in
    let none = none_left c.args.arguments.now c.loop-argument.argument-index c.loop-argument-test.false in
    ap (λ xs. set_all (named_leaf_values a.environment xs) (named content c.loop-argument.args)) (sym none) ∙ c.loop-argument.invariant.values
