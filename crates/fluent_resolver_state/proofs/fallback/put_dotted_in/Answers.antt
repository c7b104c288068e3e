use Rattle.std.proofs.Common.{rules, ap, sym, [], ◌++◌, ◌∙◌}
use Rattle.fluent_ast.specs.Fallback.{dotted}
use Rattle.fluent_ast.specs.View.{attribute_of}
use Rattle.fluent_values.specs.Facts.Took.{took_on, took_stops, took_same}
use Rattle.fluent_resolver_state.proofs.Fallbacks.{in_six}
use Rattle.fluent_resolver_state.proofs.fallback.put_dotted_in.Goals as goal

pub returns-in_err-put_three-in-Some-clause-took : goal.returns-in_err-put_three-in-Some-clause-took
returns-in_err-put_three-in-Some-clause-took g c =
    let id = c.args.id.now.name.now in
    let name = c.in-Some.attribute.name.now in
    took_same (in_six c.args.before.now id name c.args.after.now ∙ ap (λ a. c.args.before.now ++ (dotted id (attribute_of a) ++ c.args.after.now)) (sym c.in-Some.is))
    (took_stops (name ++ (c.args.after.now ++ [])) c.in_err-put_three-in-Some.was (search rules) c.put_three.ensures.took)

pub returns-in_ok-put_three-in-Some-clause-took : goal.returns-in_ok-put_three-in-Some-clause-took
returns-in_ok-put_three-in-Some-clause-took g c =
    let id = c.args.id.now.name.now in
    let name = c.in-Some.attribute.name.now in
    took_same (in_six c.args.before.now id name c.args.after.now ∙ ap (λ a. c.args.before.now ++ (dotted id (attribute_of a) ++ c.args.after.now)) (sym c.in-Some.is))
    (took_on c.in_ok-put_three-in-Some.was c.put_three.ensures.took c.put_three-in-Some.ensures.took)

pub returns-in-None-clause-took : goal.returns-in-None-clause-took
returns-in-None-clause-took g c = took_same (ap (λ a. c.args.before.now ++ (dotted c.args.id.now.name.now (attribute_of a) ++ c.args.after.now)) (sym c.in-None.is)) c.put_three-in-None.ensures.took
