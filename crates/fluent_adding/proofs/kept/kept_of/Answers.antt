use Rattle.std.proofs.Common.{◌∙◌}
use Rattle.std.proofs.lemmas.Result.{IfOk-weaker}
use Rattle.std.specs.Option.{option_map}
use Rattle.fluent_ast.specs.View.{pattern_view}
use Rattle.fluent_bundle_entries.specs.KeptLinks.{IsKeptOf, Keeps, patterns}
use Rattle.fluent_bundle_entries.specs.IdNumbers.{numbers, table}
use Rattle.fluent_adding.proofs.Linking.{both_kept, grown_twice, still_value}
use Rattle.fluent_adding.proofs.kept.kept_of.Goals as goal

pub returns-clause-linked : goal.returns-clause-linked
returns-clause-linked g c =
    let mid = c.linked_value.new.known in
    let last = c.linked_attributes.new.known in
    let step = c.in_ok-attributes.ensures.grown in
    let v = option_map (λ p. pattern_view p.now) c.args.value in
    let ps = patterns c.args.attributes.now in
    let l = c.in_ok-value.value in
    let ls = c.in_ok-attributes.attributes.items in
    IfOk-weaker c.keep.result (Keeps l ls) (IsKeptOf (numbers last) (table last) v ps)
    (λ k keeps. both_kept (numbers last) (table last) v ps l ls k (still_value (numbers mid) (numbers last) (table mid) (table last) step.0 step.1 v l c.in_ok-value.ensures.linked) c.in_ok-attributes.ensures.linked keeps)
    c.keep.ensures

pub returns-clause-grown : goal.returns-clause-grown
returns-clause-grown g c = grown_twice c.args.known.now c.linked_value.new.known c.linked_attributes.new.known c.linked_value.ensures.grown c.linked_attributes.ensures.grown

pub returns-clause-same : goal.returns-clause-same
returns-clause-same g c = λ answer. c.linked_attributes.ensures.same answer ∙ c.linked_value.ensures.same answer

pub returns-in_err-attributes-clause-grown : goal.returns-in_err-attributes-clause-grown
returns-in_err-attributes-clause-grown g c = grown_twice c.args.known.now c.linked_value.new.known c.linked_attributes.new.known c.linked_value.ensures.grown c.linked_attributes.ensures.grown

pub returns-in_err-attributes-clause-same : goal.returns-in_err-attributes-clause-same
returns-in_err-attributes-clause-same g c = λ answer. c.linked_attributes.ensures.same answer ∙ c.linked_value.ensures.same answer
