use Rattle.std.proofs.Common.{◌≡◌, rules, subst, ◌≤◌, length, true, ltb, get_or}
use Rattle.fluent_ast.specs.References.{in_named}
use Rattle.fluent_ast.specs.declared.ast.CallArguments as of_call
use Rattle.fluent_references.specs.Cursors.{seen}
use Rattle.fluent_resolver_state.specs.Gathered.{gathered, values_of}
use Rattle.fluent_values.specs.View.{value_view}
use Rattle.fluent_resolver.specs.Inside.Held.{more_named}
use Rattle.fluent_resolver.proofs.Taking.{held_named, passed_first, passed_named}
use Rattle.fluent_resolver.proofs.arguments.take.Goals as goal

pub returns-in_ok-push_value-clause-placed : goal.returns-in_ok-push_value-clause-placed
returns-in_ok-push_value-clause-placed g c = λ number before.
    let now = c.args.gathering.now in
    let xs = (of_call.out-CallArguments now.remaining.arguments.now).positional.items in
    let first = subst (λ l. (true ≡ ltb now.remaining.taken (length l)) × (c.in-Some.first.now ≡ get_or l now.remaining.taken c.in-Some.first.now)) c.deref.ensures.value (c.in-Some.ensures.lookup.0, c.in-Some.ensures.lookup.1) in
    passed_first number xs now.remaining.taken c.in-Some.first.now (in_named (more_named now)) (seen now.remaining.cursor) (seen c.after_inline-gathering.result) first.0 first.1 c.after_inline-gathering.ensures before

pub returns-in_ok-set-clause-held : goal.returns-in_ok-set-clause-held
returns-in_ok-set-clause-held g c =
    let content = g.C.FluentType.content in
    let now = c.args.gathering.now in
    let xs = (of_call.out-CallArguments now.remaining.arguments.now).positional.items in
    let ns = (of_call.out-CallArguments now.remaining.arguments.now).named.items in
    let past : length xs ≤ now.remaining.taken = search rules in
    let next = subst (λ l. (true ≡ ltb now.remaining.taken_named (length l)) × (c.in-Some-get.first.now ≡ get_or l now.remaining.taken_named c.in-Some-get.first.now)) c.deref-in_default.ensures.value (c.in-Some-get.ensures.lookup.0, c.in-Some-get.ensures.lookup.1) in
    held_named xs now.remaining.taken ns now.remaining.taken_named c.in-Some-get.first.now (values_of content now.positional) (gathered content now.named) (gathered content c.set.new.self) (value_view content c.args.value) past next.0 next.1 c.in_ok-set.ensures

pub returns-in_ok-set-clause-placed : goal.returns-in_ok-set-clause-placed
returns-in_ok-set-clause-placed g c = λ number before.
    let now = c.args.gathering.now in
    let xs = (of_call.out-CallArguments now.remaining.arguments.now).positional.items in
    let ns = (of_call.out-CallArguments now.remaining.arguments.now).named.items in
    let past : length xs ≤ now.remaining.taken = search rules in
    let next = subst (λ l. (true ≡ ltb now.remaining.taken_named (length l)) × (c.in-Some-get.first.now ≡ get_or l now.remaining.taken_named c.in-Some-get.first.now)) c.deref-in_default.ensures.value (c.in-Some-get.ensures.lookup.0, c.in-Some-get.ensures.lookup.1) in
    passed_named number xs now.remaining.taken ns now.remaining.taken_named c.in-Some-get.first.now (seen now.remaining.cursor) (seen c.after_inline-gathering-in-Some-get.result) past next.0 next.1 c.after_inline-gathering-in-Some-get.ensures before
