use Rattle.std.specs.Prelude.{nat_eq, ◌&&◌}
use Rattle.std.proofs.Common.{◌≡◌, ap, sym, ◌∙◌, length, rules}
use Rattle.fluent_ast.specs.declared.ast.CallArguments as of_call
use Rattle.fluent_resolver.proofs.NoArguments.{are_none_at}
use Rattle.fluent_resolver.proofs.tracking.is_empty.Goals as goal

pub returns-then-is_empty : goal.returns-then-is_empty
returns-then-is_empty c =
    let x = of_call.out-CallArguments c.args.arguments.now in
    let first : c.is_empty.result ≡ nat_eq (length x.positional.items) 0 = search (rules, c.is_empty.ensures) in
    let second : c.is_empty-then-is_empty.result ≡ nat_eq (length x.named.items) 0 = search (rules, c.is_empty-then-is_empty.ensures) in
    second ∙ sym (are_none_at c.args.arguments.now ∙ ap (λ b. b && nat_eq (length x.named.items) 0) (sym first ∙ c.if-is_empty.true))

pub returns-else-is_empty : goal.returns-else-is_empty
returns-else-is_empty c =
    let x = of_call.out-CallArguments c.args.arguments.now in
    let first : c.is_empty.result ≡ nat_eq (length x.positional.items) 0 = search (rules, c.is_empty.ensures) in
    c.if-is_empty.false ∙ sym (are_none_at c.args.arguments.now ∙ ap (λ b. b && nat_eq (length x.named.items) 0) (sym first ∙ c.if-is_empty.false))
