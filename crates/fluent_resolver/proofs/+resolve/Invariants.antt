use Rattle.std.proofs.Common.{◌≡◌, ◌+◌, ◌-◌, ◌*◌, ℕ, [], None, length}
use Rattle.fluent_ast.specs.References.{references}
use Rattle.fluent_ast.specs.Tree.{Text}
use Rattle.fluent_ast.specs.View.{pattern_view}
use Rattle.fluent_references.specs.Cursors.{seen}
use Rattle.fluent_references.specs.Links.{IsBefore}
use Rattle.fluent_bundle_entries.specs.Texts.{IsTextAlone}
use Rattle.fluent_semantics.specs.Bundle.{Bundle}
use Rattle.fluent_semantics.specs.Walk.{has_one}
use Rattle.fluent_resolver_state.specs.Status.{state}
use Rattle.fluent_values.specs.Sinks.{GoesThrough, outside}
use Rattle.fluent_resolver.specs.Frames.{Along, IsPlacedCall, elements_from, gathers, values_view}
use Rattle.fluent_resolver.specs.Inside.Held.{held}
use Rattle.fluent_resolver.specs.Inside.Parts as parts
use Rattle.fluent_resolver.specs.Inside.Parts.{Following}
use Rattle.fluent_resolver.specs.Inside.Waits.{frames_in, values_in}
use Rattle.fluent_resolver.proofs.Laying.{viewed}
use Rattle.fluent_resolver.proofs.Left.{left}
use Rattle.fluent_resolver.proofs.+resolve.Given as goal

abbrev pub decreases-expression::write_expression : goal.decreases-expression::write_expression
decreases-expression::write_expression g l = 19 * l.levels + 0

abbrev pub decreases-arguments::resolve : goal.decreases-arguments::resolve
decreases-arguments::resolve g l = 19 * l.levels + 0

abbrev pub decreases-pattern::write_placeable : goal.decreases-pattern::write_placeable
decreases-pattern::write_placeable g l = 19 * l.levels + 1

abbrev pub decreases-pattern::write_from : goal.decreases-pattern::write_from
decreases-pattern::write_from g l = 19 * l.levels + 2

abbrev pub decreases-pattern::write_elements : goal.decreases-pattern::write_elements
decreases-pattern::write_elements g l = 19 * l.levels + 3

abbrev pub decreases-inline_expression::go : goal.decreases-inline_expression::go
decreases-inline_expression::go g l = 19 * l.levels + 4

abbrev pub decreases-expression::write_chosen : goal.decreases-expression::write_chosen
decreases-expression::write_chosen g l = 19 * l.levels + 4

abbrev pub decreases-inline_expression::follow : goal.decreases-inline_expression::follow
decreases-inline_expression::follow g l = 19 * l.levels + 5

abbrev pub decreases-expression::choose_variant : goal.decreases-expression::choose_variant
decreases-expression::choose_variant g l = 19 * l.levels + 5

abbrev pub decreases-inline_expression::enter_term : goal.decreases-inline_expression::enter_term
decreases-inline_expression::enter_term g l = 19 * l.levels + 6

abbrev pub decreases-inline_expression::write_message : goal.decreases-inline_expression::write_message
decreases-inline_expression::write_message g l = 19 * l.levels + 6

abbrev pub decreases-expression::write_by_value : goal.decreases-expression::write_by_value
decreases-expression::write_by_value g l = 19 * l.levels + 6

abbrev pub decreases-expression::write_select : goal.decreases-expression::write_select
decreases-expression::write_select g l = 19 * l.levels + 7

abbrev pub decreases-inline_expression::enter_with_values : goal.decreases-inline_expression::enter_with_values
decreases-inline_expression::enter_with_values g l = 19 * l.levels + 7

abbrev pub decreases-arguments::use_values : goal.decreases-arguments::use_values
decreases-arguments::use_values g l = 19 * l.levels + 8

abbrev pub decreases-arguments::finish : goal.decreases-arguments::finish
decreases-arguments::finish g l = 19 * l.levels + 9

abbrev pub decreases-arguments::gather : goal.decreases-arguments::gather
decreases-arguments::gather g l = 19 * l.levels + 10

abbrev pub decreases-arguments::begin_call : goal.decreases-arguments::begin_call
decreases-arguments::begin_call g l = 19 * l.levels + 11

abbrev pub decreases-arguments::give_answer : goal.decreases-arguments::give_answer
decreases-arguments::give_answer g l = 19 * l.levels + 12

abbrev pub decreases-inline_expression::write_gathered : goal.decreases-inline_expression::write_gathered
decreases-inline_expression::write_gathered g l = 19 * l.levels + 12

abbrev pub decreases-inline_expression::write_function : goal.decreases-inline_expression::write_function
decreases-inline_expression::write_function g l = 19 * l.levels + 13

abbrev pub decreases-inline_expression::write_with_values : goal.decreases-inline_expression::write_with_values
decreases-inline_expression::write_with_values g l = 19 * l.levels + 12

abbrev pub decreases-inline_expression::write_found : goal.decreases-inline_expression::write_found
decreases-inline_expression::write_found g l = 19 * l.levels + 13

abbrev pub decreases-inline_expression::write_term : goal.decreases-inline_expression::write_term
decreases-inline_expression::write_term g l = 19 * l.levels + 14

abbrev pub decreases-inline_expression::write_unbraced : goal.decreases-inline_expression::write_unbraced
decreases-inline_expression::write_unbraced g l = 19 * l.levels + 15

abbrev pub decreases-expression::write_inline : goal.decreases-expression::write_inline
decreases-expression::write_inline g l = 19 * l.levels + 16

abbrev pub decreases-arguments::keep_text : goal.decreases-arguments::keep_text
decreases-arguments::keep_text g l = 19 * l.levels + 17

abbrev pub decreases-arguments::give_text : goal.decreases-arguments::give_text
decreases-arguments::give_text g l = 19 * l.levels + 18

abbrev pub invariant-pattern::write_from-loop-element : goal.invariant-pattern::write_from-loop-element
invariant-pattern::write_from-loop-element g l =
    let content = g.C.FluentType.content in
    let contents = g.W.Write.contents in
    let a = state g.B.Context.meant g.B.Context.is_plain g.F.FluentFunction.answer content l.fn.scope in
    let b = state g.B.Context.meant g.B.Context.is_plain g.F.FluentFunction.answer content l.scope in
    let one = has_one (pattern_view l.pattern) in
    record {
      along : (k : Bundle Text → Following) (n : ℕ) → Along
          (parts.elements one (elements_from l.fn.next l.pattern) a.bundle (k a.bundle) (viewed l.fn.out a (values_view content (values_in l.fn.work)))) n
          (parts.elements one (elements_from l.next l.pattern) b.bundle (k b.bundle) (viewed l.out b (values_view content (values_in l.work)))) n
          (outside contents l.fn.out) (outside contents l.out) a b;
      placed : IsBefore b.stored.numbers (references (elements_from l.next l.pattern)) (seen l.cursor);
      nothing : (frames_in l.work) ≡ [];
      texts : IsTextAlone (elements_from l.fn.next l.pattern) → IsTextAlone (elements_from l.next l.pattern);
      through : IsTextAlone (elements_from l.fn.next l.pattern) → GoesThrough l.fn.out → GoesThrough l.out;
    }

abbrev pub invariant-arguments::gather-loop-inline : goal.invariant-arguments::gather-loop-inline
invariant-arguments::gather-loop-inline g l =
    let content = g.C.FluentType.content in
    let contents = g.W.Write.contents in
    let a = state g.B.Context.meant g.B.Context.is_plain g.F.FluentFunction.answer content l.fn.scope in
    let b = state g.B.Context.meant g.B.Context.is_plain g.F.FluentFunction.answer content l.scope in
    record {
      along : (k : Bundle Text → Following) (n : ℕ) → Along
          (gathers content l.fn.gathering None a.bundle (k a.bundle) (viewed l.fn.out a (values_view content (values_in l.fn.work)))) n
          (gathers content l.gathering None b.bundle (k b.bundle) (viewed l.out b (values_view content (values_in l.work)))) n
          (outside contents l.fn.out) (outside contents l.out) a b;
      placed : IsPlacedCall b.stored.numbers b.stored.table l.gathering;
      nothing : (frames_in l.work) ≡ [];
      purpose : l.gathering.purpose ≡ l.fn.gathering.purpose;
    }

abbrev pub decreases-arguments::gather-loop-inline : goal.decreases-arguments::gather-loop-inline
decreases-arguments::gather-loop-inline g l = left (held g.C.FluentType.content l.gathering)

abbrev pub decreases-pattern::write_from-loop-element : goal.decreases-pattern::write_from-loop-element
decreases-pattern::write_from-loop-element g l = length l.fn.pattern.elements.items - l.next
