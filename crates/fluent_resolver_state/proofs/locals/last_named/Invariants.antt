use Rattle.std.proofs.Common.{◌≡◌, [], drop}
use Rattle.std.specs.Option.{option_map}
use Rattle.fluent_ast.specs.View.{inline_view}
use Rattle.fluent_semantics.specs.Arguments.{Map, get, set_all}
use Rattle.fluent_semantics.specs.Value.{Value}
use Rattle.fluent_ast.specs.Tree.{Text}
use Rattle.fluent_resolver_state.specs.Locals.{literal_value, literal_values}
use Rattle.fluent_resolver_state.proofs.locals.last_named.Given as goal

-- what was found is what the name means so far, and the arguments left are still to be set
abbrev pub invariant-loop-argument : goal.invariant-loop-argument
invariant-loop-argument l = record {
  done : Map (Value Text);
  is : option_map (λ x. literal_value (inline_view x.now)) l.found ≡ get l.name done;
  left : set_all (literal_values l.arguments) [] ≡ set_all (literal_values (drop l.argument-index l.arguments)) done;
}
