use Rattle.std.proofs.Common.{◌∙◌, ap, sym, cond, Some}
use Rattle.std.proofs.Common.{Bor}
use Rattle.std.specs.Option.{option_map}
use Rattle.fluent_ast.specs.Tree.{Text}
use Rattle.fluent_ast.specs.declared.ast.InlineExpression.{InlineExpression}
use Rattle.fluent_semantics.specs.Value.{Value}
use Rattle.fluent_ast.specs.View.{inline_view}
use Rattle.fluent_semantics.specs.Arguments.{get, set}
use Rattle.fluent_resolver_state.specs.Locals.{literal_value}
use Rattle.fluent_resolver_state.proofs.LocalArguments.{got_set, next_set}
use Rattle.fluent_resolver_state.proofs.locals.last_named.Goals.{then-eq, else-eq}
use Rattle.fluent_resolver_state.proofs.locals.last_named.Goals as goal

pub loop-argument-preserved : goal.loop-argument-preserved
loop-argument-preserved c =
    let x = c.argument-item.result in
    let v = literal_value (inline_view x.value) in
    let now = got_set x.name.name.now c.args.name.now v c.loop-argument.invariant.done in
    let seen : Bor InlineExpression → Value Text = λ x. literal_value (inline_view x.now) in
    record {
      done = set x.name.name.now v c.loop-argument.invariant.done;
      is = elim c.if-eq.branch [
        | then-eq w ↦ ap (option_map seen) w.found-is ∙ sym (now ∙ ap (λ b. cond b (Some v) (get c.args.name.now c.loop-argument.invariant.done)) (sym c.eq.ensures ∙ w.if-eq.true))
        | else-eq w ↦ ap (option_map seen) w.found-is ∙ c.loop-argument.invariant.is ∙ sym (now ∙ ap (λ b. cond b (Some v) (get c.args.name.now c.loop-argument.invariant.done)) (sym c.eq.ensures ∙ w.if-eq.false))
      ];
      left = c.loop-argument.invariant.left ∙ next_set c.args.arguments.now c.loop-argument.argument-index x c.loop-argument-test.true c.argument-item.is c.loop-argument.invariant.done;
    }
