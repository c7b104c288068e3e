use Rattle.std.proofs.Common.{◌≡◌, rules, refl, sym, ap, subst, ◌∙◌, suc, ◌<◌, arith, map, [], Option, Some, None, Err, String, Global, string_bytes, ℕ, ◌∷◌, ◌++◌, ◌+◌, ◌*◌, Bool, true, not, is_some, true≢false}
use Rattle.std.specs.Borrow.{Bor}
use Rattle.std.specs.Option.{option_map}
use Rattle.std.specs.Prelude.{IsTrue}
use Rattle.std.proofs.lemmas.Bool.{ltb-false, ltb-true, true≢false}
use Rattle.fluent_ast.specs.References.{a_function, in_arguments, in_expression, in_inline, in_variants, variants_view, a_term, in_element, references}
use Rattle.fluent_ast.specs.Tree.{Text, function, inline, nested, select, call, message, term, placeable, text}
use Rattle.fluent_ast.specs.View.{arguments_view, inline_view, expression_view, pattern_view, attribute_of, call_view}
use Rattle.fluent_ast.specs.declared.ast.InlineExpression.{InlineExpression}
use Rattle.fluent_bundle_entries.specs.IdNumbers.{numbers, table}
use Rattle.fluent_references.specs.CursorParts.{in_arguments_is, in_function_is}
use Rattle.fluent_references.specs.Cursors.{seen}
use Rattle.fluent_references.specs.Links.{IsBefore, past}
use Rattle.fluent_semantics.specs.Ahead.{begins, after, Rest}
use Rattle.fluent_semantics.specs.Arguments.{get}
use Rattle.fluent_semantics.specs.Bundle.{Bundle, function_found}
use Rattle.fluent_semantics.specs.Value.{text_value}
use Rattle.fluent_semantics.specs.Walk.{variables, has_one, Environment, local, is_marked}
use Rattle.fluent_resolver_state.specs.Facts.Happening.{did_as, happened_told, happened_untold, happened_as, did_tell_and_put, happened_limit, happened_opened}
use Rattle.fluent_resolver_state.specs.Facts.Views.{view_arguments, view_function_in, view_number_in, view_string_in, view_variable_in, view_written, view_in, view_nested_in, view_pattern, view_select_in, view_message_in, view_term_in, view_placeable_in, view_text_in}
use Rattle.fluent_resolver_state.specs.Gathered.{gathered, values_of}
use Rattle.fluent_resolver_state.specs.Happened.{answer_events, lost_of}
use Rattle.fluent_resolver_state.specs.Status.{state, state_parts, environment_view}
use Rattle.fluent_values.specs.Sinks.{outside}
use Rattle.fluent_values.specs.View.{named, value_view}
use Rattle.fluent_values.specs.declared.output.Halt.TheVariants.{Memory}
use Rattle.fluent_resolver.specs.Frames.{ArePlacedFrames, IsPlacedCall, IsPlacedPurpose, IsWhole, at_end, before, frame, gathers, kept_before, made, paid_within, use_of, values_view, path_left, selector_value, elements_from}
use Rattle.fluent_resolver.specs.Inside.Held.{held, more, more_named}
use Rattle.fluent_resolver.specs.Inside.Parts.{Following, LeadsToText, View, next_argument, is_braced, target_of, text_alone}
use Rattle.fluent_resolver.specs.declared.frame.Gathering.{Gathering}
use Rattle.fluent_resolver.proofs.Answered.{answer_errors, answer_is, answer_text, answered_is, answered_none, answered_some}
use Rattle.fluent_resolver.proofs.Called.{called_at}
use Rattle.fluent_resolver.proofs.Falling.{falls_to}
use Rattle.fluent_resolver.proofs.Gathers.{all_gathered, gets_value, next_begins, placed_next}
use Rattle.fluent_resolver.proofs.Going.{begun, finishes, goes, halts, lacks, passes, starts, turns, waits, went_on, with_fewer, err_was}
use Rattle.fluent_resolver.proofs.Laying.{kept_of, laid, laid_halts, laid_ok, viewed, laid_last, put}
use Rattle.fluent_resolver.proofs.Left.{left_falls}
use Rattle.fluent_resolver.proofs.Moving.{elsewhere, moves, path_is}
use Rattle.fluent_resolver.proofs.Opening.{At, inside, opens_part, stops_part, taken_same}
use Rattle.fluent_resolver.proofs.Placed.{placed_after, placed_as, placed_first, ok_value, placed_back, placed_prefix, placed_still}
use Rattle.fluent_resolver.proofs.Pushing.{placed_pushed, if_on}
use Rattle.fluent_resolver.proofs.Arms.{no_function, no_message, no_term}
use Rattle.fluent_resolver.proofs.Ranks.{less_level, less_rank}
use Rattle.fluent_resolver.proofs.Resolved.{function_at, kept_at, looked_up, number_at, string_at, variable_at}
use Rattle.fluent_resolver.proofs.Settled.{none_put, paid_least, paid_none}
use Rattle.fluent_resolver.proofs.Waiting.{is_done, is_put, pays, all_done, placed_last, put_last, none_waits, placed_none}
use Rattle.fluent_semantics.specs.Errors.{missing_default, resolver_error, cyclic, no_value, too_many_placeables}
use Rattle.fluent_semantics.specs.Events.{tells, told}
use Rattle.fluent_resolver_state.specs.ChosenView.{chosen_view}
use Rattle.fluent_resolver.proofs.Beginning.{begins_pattern}
use Rattle.fluent_resolver.proofs.Braces.{ahead_same, inline_ahead, nested_ahead, refers_same, unbraced}
use Rattle.fluent_resolver.proofs.Choosing.{chosen_ahead, select_ahead, select_chosen}
use Rattle.fluent_resolver.proofs.Levels.{at_least, at_most, from_there, no_more, none_left, whole_if}
use Rattle.fluent_resolver.proofs.Taken.{is_still}
use Rattle.fluent_resolver.proofs.Telling.{puts_nothing, tells_first, tells_none}
use Rattle.fluent_ast.specs.Fallback.{fallback, in_braces}
use Rattle.fluent_resolver_state.specs.FoundView.{content_at, found_view}
use Rattle.fluent_resolver_state.specs.Locals.{locals_view}
use Rattle.fluent_path.specs.Contents.{front}
use Rattle.fluent_values.specs.Facts.Took.{at_ok}
use Rattle.fluent_resolver.proofs.Entering.{enters_term, follow_found, follow_unknown, follow_without, go_cyclic, goes_into, goes_visited, looks_in, not_entered}
use Rattle.fluent_resolver.proofs.Terms.{term_alone, term_called, term_literals}
use Rattle.fluent_resolver.proofs.Unbraced.{written_function, written_message, written_term}
use Rattle.fluent_bundle_entries.specs.Texts.{IsTextAlone}
use Rattle.fluent_semantics.specs.Meaning.{limit_reached}
use Rattle.fluent_values.specs.Facts.Outputs.{stays_through}
use Rattle.fluent_resolver.proofs.Visiting.{happened_visit, sole_is}
use Rattle.fluent_resolver.proofs.Elements.{from_end, from_next, never_text, none_at_end, none_at_limit, placeable_first, text_first}
use Rattle.fluent_resolver.specs.Inside.Parts as parts
use Rattle.fluent_resolver.specs.declared.frame.Frame.TheVariants as put_off
use Rattle.fluent_resolver.specs.Inside.Waits.{frames_in, values_in}
use Rattle.fluent_ast.specs.declared.ast.CallArguments as of_call
use Rattle.fluent_resolver.proofs.LeafCalls.{answered_after, leaf_answer_is, leaves_called, tells_all, tells_some, value_answered}
use Rattle.fluent_resolver.proofs.OneText.{gives_text, if_some, leads_if_free, leads_to_text}
use Rattle.fluent_resolver_state.specs.Leaves.{errors_of_call, has_leaves_alone, leaf_answer}
use Rattle.fluent_resolver.proofs.+resolve.Goals.{pattern::write_from-in-TextElement+in_ok-put_changed-in-TextElement, pattern::write_from-in-Placeable+in_ok-write_placeable-in-Placeable+else-not-is_done}
use Rattle.fluent_resolver.proofs.+resolve.Goals as goal

pub arguments::use_values-returns-in_err-put_answer-in-Show-clause-goes : goal.arguments::use_values-returns-in_err-put_answer-in-Show-clause-goes
unfolding state_parts
arguments::use_values-returns-in_err-put_answer-in-Show-clause-goes g t c = λ k n.
    let content = g.C.FluentType.content in
    let contents = g.W.Write.contents in
    let a = state g.B.Context.meant g.B.Context.is_plain g.F.FluentFunction.answer content c.args.scope.now in
    let out = c.args.out.now in
    let work = c.args.work.now in
    let values = values_view content (values_in work) in
    let v = viewed out a values in
    let vs = values_of content c.args.positional in
    let m = named content c.args.args in
    let way = starts (begun (begins (use_of c.args.purpose vs m a.bundle (k a.bundle) v)) n (outside contents out) a) in
    let x = inline_view c.in-Show.inline.now in
    let f = function_found (get c.in-Show.id.now.name.now a.bundle.ids) in
    let o = option_map (λ f. f vs m) f in
    let b = state g.B.Context.meant g.B.Context.is_plain g.F.FluentFunction.answer content c.put_answer.new.scope in
    let same = ap (λ l. answer_events a.bundle x (option_map (λ f. f (map (value_view content) l) m) f)) c.deref.ensures.value ∙ answer_is a.bundle x o in
    let here = turns (ap (λ p. use_of p vs m a.bundle (k a.bundle) v) c.in-Show.is ∙ answered_is x f vs m a.bundle (k a.bundle) v) way in
    let all = laid contents out c.put_answer.new.out a b values a.bundle (k a.bundle) (answer_errors x o) (answer_text a.bundle x o) (did_as same c.put_answer.ensures) here in
    laid_halts c.in_err-put_answer-in-Show.was (search rules) all

pub arguments::use_values-returns-in-Show-clause-goes : goal.arguments::use_values-returns-in-Show-clause-goes
unfolding state_parts
arguments::use_values-returns-in-Show-clause-goes g t c = λ k n.
    let content = g.C.FluentType.content in
    let contents = g.W.Write.contents in
    let a = state g.B.Context.meant g.B.Context.is_plain g.F.FluentFunction.answer content c.args.scope.now in
    let out = c.args.out.now in
    let work = c.args.work.now in
    let values = values_view content (values_in work) in
    let v = viewed out a values in
    let vs = values_of content c.args.positional in
    let m = named content c.args.args in
    let way = starts (begun (begins (use_of c.args.purpose vs m a.bundle (k a.bundle) v)) n (outside contents out) a) in
    let x = inline_view c.in-Show.inline.now in
    let f = function_found (get c.in-Show.id.now.name.now a.bundle.ids) in
    let o = option_map (λ f. f vs m) f in
    let b = state g.B.Context.meant g.B.Context.is_plain g.F.FluentFunction.answer content c.put_answer.new.scope in
    let same = ap (λ l. answer_events a.bundle x (option_map (λ f. f (map (value_view content) l) m) f)) c.deref.ensures.value ∙ answer_is a.bundle x o in
    let here = turns (ap (λ p. use_of p vs m a.bundle (k a.bundle) v) c.in-Show.is ∙ answered_is x f vs m a.bundle (k a.bundle) v) way in
    let all = laid contents out c.put_answer.new.out a b values a.bundle (k a.bundle) (answer_errors x o) (answer_text a.bundle x o) (did_as same c.put_answer.ensures) here in
    let there = turns (ap (λ b'. k b' None (viewed c.put_answer.new.out b values)) (sym c.put_answer.ensures.happened.stays.bundle)) (laid_ok c.in_ok-put_answer-in-Show.was all) in
    finishes None _ refl refl (none_put content b.bundle (frames_in work) (k b.bundle) None (viewed c.put_answer.new.out b values) c.requires.nothing there)

pub arguments::use_values-returns-in_err-answer-in-Give-clause-goes : goal.arguments::use_values-returns-in_err-answer-in-Give-clause-goes
unfolding state_parts
arguments::use_values-returns-in_err-answer-in-Give-clause-goes g t c = λ k n.
    let content = g.C.FluentType.content in
    let contents = g.W.Write.contents in
    let a = state g.B.Context.meant g.B.Context.is_plain g.F.FluentFunction.answer content c.args.scope.now in
    let out = c.args.out.now in
    let work = c.args.work.now in
    let values = values_view content (values_in work) in
    let v = viewed out a values in
    let vs = values_of content c.args.positional in
    let m = named content c.args.args in
    let way = starts (begun (begins (use_of c.args.purpose vs m a.bundle (k a.bundle) v)) n (outside contents out) a) in
    lacks (search rules) way

pub arguments::use_values-returns-in-Give-clause-goes : goal.arguments::use_values-returns-in-Give-clause-goes
unfolding state_parts
arguments::use_values-returns-in-Give-clause-goes g t c = λ k n.
    let content = g.C.FluentType.content in
    let contents = g.W.Write.contents in
    let a = state g.B.Context.meant g.B.Context.is_plain g.F.FluentFunction.answer content c.args.scope.now in
    let out = c.args.out.now in
    let work = c.args.work.now in
    let values = values_view content (values_in work) in
    let v = viewed out a values in
    let vs = values_of content c.args.positional in
    let m = named content c.args.args in
    let way = starts (begun (begins (use_of c.args.purpose vs m a.bundle (k a.bundle) v)) n (outside contents out) a) in
    let f = function_found (get c.in-Give.id.now.name.now a.bundle.ids) in
    let answers = c.in_ok-answer-in-Give.ensures ∙ ap (λ l. option_map (λ f. f (map (value_view content) l) m) f) c.deref-in-Give.ensures.value in
    let value = answered_none content a.bundle f vs m c.in_ok-answer-in-Give.field-0 answers c.in-None.is in
    let there = turns (ap (λ p. use_of p vs m a.bundle (k a.bundle) v) c.in-Give.is ∙ ap (λ y. k a.bundle (Some y) v) (sym value)) way in
    finishes _ _ refl refl (none_put content a.bundle (frames_in work) (k a.bundle) _ v c.requires.nothing there)

pub arguments::use_values-returns-clause-goes : goal.arguments::use_values-returns-clause-goes
unfolding state_parts
arguments::use_values-returns-clause-goes g t c = λ k n.
    let content = g.C.FluentType.content in
    let contents = g.W.Write.contents in
    let a = state g.B.Context.meant g.B.Context.is_plain g.F.FluentFunction.answer content c.args.scope.now in
    let out = c.args.out.now in
    let work = c.args.work.now in
    let values = values_view content (values_in work) in
    let v = viewed out a values in
    let vs = values_of content c.args.positional in
    let m = named content c.args.args in
    let way = starts (begun (begins (use_of c.args.purpose vs m a.bundle (k a.bundle) v)) n (outside contents out) a) in
    let after = c.give.new.self in
    let given = ap (λ q. k a.bundle None (viewed out a (values_view content q))) (sym c.in_ok-give-in-Hand.ensures.values) in
    let there = turns (ap (λ p. use_of p vs m a.bundle (k a.bundle) v) c.in-Hand.is ∙ given) way in
    finishes None _ refl refl (none_put content a.bundle (frames_in after) (k a.bundle) None (viewed out a (values_view content (values_in after))) (c.in_ok-give-in-Hand.ensures.frames ∙ c.requires.nothing) there)

pub arguments::use_values-returns-in_err-enter_with_values-in-Local-clause-goes : goal.arguments::use_values-returns-in_err-enter_with_values-in-Local-clause-goes
unfolding state_parts
arguments::use_values-returns-in_err-enter_with_values-in-Local-clause-goes g t c = λ k n.
    let content = g.C.FluentType.content in
    let contents = g.W.Write.contents in
    let a = state g.B.Context.meant g.B.Context.is_plain g.F.FluentFunction.answer content c.args.scope.now in
    let out = c.args.out.now in
    let work = c.args.work.now in
    let values = values_view content (values_in work) in
    let v = viewed out a values in
    let vs = values_of content c.args.positional in
    let m = named content c.args.args in
    let way = turns (ap (λ p. begins (use_of p vs m a.bundle (k a.bundle) v)) c.in-Local.is) (begun _ n (outside contents out) a) in
    halts c.in_err-enter_with_values-in-Local.was (search rules) way (c.enter_with_values.ensures.goes k n)

pub arguments::use_values-returns-in-Local-clause-goes : goal.arguments::use_values-returns-in-Local-clause-goes
unfolding state_parts
arguments::use_values-returns-in-Local-clause-goes g t c = λ k n.
    let content = g.C.FluentType.content in
    let contents = g.W.Write.contents in
    let a = state g.B.Context.meant g.B.Context.is_plain g.F.FluentFunction.answer content c.args.scope.now in
    let out = c.args.out.now in
    let work = c.args.work.now in
    let values = values_view content (values_in work) in
    let v = viewed out a values in
    let vs = values_of content c.args.positional in
    let m = named content c.args.args in
    let way = turns (ap (λ p. begins (use_of p vs m a.bundle (k a.bundle) v)) c.in-Local.is) (begun _ n (outside contents out) a) in
    finishes None _ refl refl (goes c.in_ok-enter_with_values-in-Local.was way (c.enter_with_values.ensures.goes k n))

pub arguments::use_values-put_answer-requires : goal.arguments::use_values-put_answer-requires
unfolding state_parts
arguments::use_values-put_answer-requires g t c =
    let ids = c.args.scope.now.ids.now in
    subst (IsPlacedPurpose (numbers ids) (table ids)) c.in-Show.is c.requires.placed

pub arguments::use_values-enter_with_values-requires : goal.arguments::use_values-enter_with_values-requires
unfolding state_parts
arguments::use_values-enter_with_values-requires g t c =
    let ids = c.args.scope.now.ids.now in
    let less = falls_to c.decreases (less_rank c.args.levels 7 8 (omega arith)) in
    let led = subst (IsPlacedPurpose (numbers ids) (table ids)) c.in-Local.is c.requires.placed in
    λ κs h. (less, (h.0, (h.1.0, (h.1.1.0, (h.1.1.1, (led, c.requires.nothing))))))

pub arguments::use_values-returns-in-Some-clause-goes : goal.arguments::use_values-returns-in-Some-clause-goes
unfolding state_parts
arguments::use_values-returns-in-Some-clause-goes g t c = λ k n.
    let content = g.C.FluentType.content in
    let contents = g.W.Write.contents in
    let a = state g.B.Context.meant g.B.Context.is_plain g.F.FluentFunction.answer content c.args.scope.now in
    let out = c.args.out.now in
    let work = c.args.work.now in
    let values = values_view content (values_in work) in
    let v = viewed out a values in
    let vs = values_of content c.args.positional in
    let m = named content c.args.args in
    let way = starts (begun (begins (use_of c.args.purpose vs m a.bundle (k a.bundle) v)) n (outside contents out) a) in
    let f = function_found (get c.in-Give.id.now.name.now a.bundle.ids) in
    let answers = c.in_ok-answer-in-Give.ensures ∙ ap (λ l. option_map (λ f. f (map (value_view content) l) m) f) c.deref-in-Give.ensures.value in
    let value = answered_some content a.bundle f vs m c.in_ok-answer-in-Give.field-0 answers c.in-Some.answer c.in-Some.is in
    let there = turns (ap (λ p. use_of p vs m a.bundle (k a.bundle) v) c.in-Give.is ∙ ap (λ y. k a.bundle (Some y) v) (sym value)) way in
    finishes _ _ refl refl (none_put content a.bundle (frames_in work) (k a.bundle) _ v c.requires.nothing there)

pub arguments::use_values-returns-in_err-give-in-Hand-clause-goes : goal.arguments::use_values-returns-in_err-give-in-Hand-clause-goes
unfolding state_parts
arguments::use_values-returns-in_err-give-in-Hand-clause-goes g t c = λ k n.
    let content = g.C.FluentType.content in
    let contents = g.W.Write.contents in
    let a = state g.B.Context.meant g.B.Context.is_plain g.F.FluentFunction.answer content c.args.scope.now in
    let out = c.args.out.now in
    let work = c.args.work.now in
    let values = values_view content (values_in work) in
    let v = viewed out a values in
    let vs = values_of content c.args.positional in
    let m = named content c.args.args in
    let way = starts (begun (begins (use_of c.args.purpose vs m a.bundle (k a.bundle) v)) n (outside contents out) a) in
    let lack : c.from_residual-in_err-give-in-Hand.result ≡ Err Memory = search (rules, c.from_residual-in_err-give-in-Hand.ensures, c.in_err-give-in-Hand.ensures.err) in
    lacks lack way

pub arguments::finish-returns-in_err-args-clause-goes : goal.arguments::finish-returns-in_err-args-clause-goes
unfolding state_parts
arguments::finish-returns-in_err-args-clause-goes g t c = λ k n.
    let content = g.C.FluentType.content in
    let contents = g.W.Write.contents in
    let a = state g.B.Context.meant g.B.Context.is_plain g.F.FluentFunction.answer content c.args.scope.now in
    let out = c.args.out.now in
    let work = c.args.work.now in
    let values = values_view content (values_in work) in
    let v = viewed out a values in
    lacks (search rules) (begun _ n (outside contents out) a)

pub arguments::finish-returns-clause-goes : goal.arguments::finish-returns-clause-goes
unfolding state_parts
arguments::finish-returns-clause-goes g t c = λ k n.
    let content = g.C.FluentType.content in
    let contents = g.W.Write.contents in
    let a = state g.B.Context.meant g.B.Context.is_plain g.F.FluentFunction.answer content c.args.scope.now in
    let out = c.args.out.now in
    let work = c.args.work.now in
    let values = values_view content (values_in work) in
    let v = viewed out a values in
    let call = c.args.gathering in
    let here = ap (λ m. begins (use_of call.purpose (values_of content call.positional) m a.bundle (k a.bundle) v)) (sym c.in_ok-args.ensures) in
    went_on (turns here (begun _ n (outside contents out) a)) (c.use_values.ensures.goes k n)

pub arguments::finish-use_values-requires : goal.arguments::finish-use_values-requires
unfolding state_parts
arguments::finish-use_values-requires g t c =
    let less = falls_to c.decreases (less_rank c.args.levels 8 9 (omega arith)) in
    λ κs h. (less, (h.0, (h.1.0, (h.1.1.0, (h.1.1.1, (c.requires.placed, c.requires.nothing))))))

pub arguments::begin_call-returns-in_err-with_capacity-clause-goes : goal.arguments::begin_call-returns-in_err-with_capacity-clause-goes
unfolding state_parts
arguments::begin_call-returns-in_err-with_capacity-clause-goes g t c = λ k n.
    let content = g.C.FluentType.content in
    let contents = g.W.Write.contents in
    let a = state g.B.Context.meant g.B.Context.is_plain g.F.FluentFunction.answer content c.args.scope.now in
    let out = c.args.out.now in
    let work = c.args.work.now in
    let values = values_view content (values_in work) in
    let v = viewed out a values in
    lacks (search rules) (begun _ n (outside contents out) a)

pub arguments::begin_call-returns-clause-goes : goal.arguments::begin_call-returns-clause-goes
unfolding state_parts
arguments::begin_call-returns-clause-goes g t c = λ k n.
    let content = g.C.FluentType.content in
    let contents = g.W.Write.contents in
    let a = state g.B.Context.meant g.B.Context.is_plain g.F.FluentFunction.answer content c.args.scope.now in
    let out = c.args.out.now in
    let work = c.args.work.now in
    let values = values_view content (values_in work) in
    let v = viewed out a values in
    let is = view_arguments c.args.arguments.now in
    let here = called_at (use_of c.args.purpose) _ _ _ (values_of content c.in_ok-with_capacity.field-0) (gathered content c.new.result) a.bundle (k a.bundle) v is (ap (map (value_view content)) c.in_ok-with_capacity.ensures.items) c.new.ensures in
    went_on (starts (starts (turns here (begun _ n (outside contents out) a)))) (c.gather.ensures.goes k n)

pub arguments::begin_call-gather-requires : goal.arguments::begin_call-gather-requires
unfolding state_parts
arguments::begin_call-gather-requires g t c =
    let ids = c.args.scope.now.ids.now in
    let less = falls_to c.decreases (less_rank c.args.levels 10 11 (omega arith)) in
    let before = placed_as (numbers ids) _ _ c.args.cursor (in_arguments_is c.args.arguments.now) c.requires.placed in
    λ κs h. (less, (h.0, (h.1.0, (h.1.1.0, (h.1.1.1, ((before, c.requires.purpose), c.requires.nothing))))))

pub arguments::gather-loop-inline-init : goal.arguments::gather-loop-inline-init
unfolding state_parts
arguments::gather-loop-inline-init g t c =
    let a = state g.B.Context.meant g.B.Context.is_plain g.F.FluentFunction.answer g.C.FluentType.content c.args.scope.now in
    record {
      along = λ k n. begun _ n (outside g.W.Write.contents c.args.out.now) a;
      placed = c.requires.placed;
      nothing = c.requires.nothing;
      purpose = refl;
    }

pub arguments::gather-returns-in_err-value-clause-goes : goal.arguments::gather-returns-in_err-value-clause-goes
unfolding state_parts
arguments::gather-returns-in_err-value-clause-goes g t c = λ k n.
    let content = g.C.FluentType.content in
    let contents = g.W.Write.contents in
    let b = state g.B.Context.meant g.B.Context.is_plain g.F.FluentFunction.answer content c.loop-inline.scope in
    let call = c.loop-inline.gathering in
    let h = held content call in
    let v = viewed c.loop-inline.out b (values_view content (values_in c.loop-inline.work)) in
    let x = inline_view c.in-Some.inline.now in
    let is : next_argument h ≡ Some x = sym c.next.ensures ∙ ap (λ (o : Option (Bor InlineExpression)). option_map (λ y. inline_view y.now) o) c.in-Some.is in
    let d = state g.B.Context.meant g.B.Context.is_plain g.F.FluentFunction.answer content c.resolve.new.scope in
    let u = viewed c.resolve.new.out d (values_view content (values_in c.resolve.new.work)) in
    let fs = (frames_in c.resolve.new.work) in
    let next : Bundle Text → Following = λ bb given w. gathers content call given bb (k bb) w in
    let asked = pays c.args.levels (waits (suc n) (omega arith) (next_begins (use_of call.purpose) h x b.bundle (k b.bundle) v is (c.loop-inline.invariant.along k n))) in
    halts c.in_err-value.was (search rules) asked (c.resolve.ensures.goes next n)

pub arguments::gather-returns-in_err-take-in-Some-2-clause-goes : goal.arguments::gather-returns-in_err-take-in-Some-2-clause-goes
unfolding state_parts
arguments::gather-returns-in_err-take-in-Some-2-clause-goes g t c = λ k n.
    let lack : c.from_residual-in_err-take-in-Some-2.result ≡ Err Memory = search (rules, c.from_residual-in_err-take-in-Some-2.ensures) in
    let content = g.C.FluentType.content in
    let contents = g.W.Write.contents in
    let b = state g.B.Context.meant g.B.Context.is_plain g.F.FluentFunction.answer content c.loop-inline.scope in
    let call = c.loop-inline.gathering in
    let h = held content call in
    let v = viewed c.loop-inline.out b (values_view content (values_in c.loop-inline.work)) in
    let x = inline_view c.in-Some.inline.now in
    let is : next_argument h ≡ Some x = sym c.next.ensures ∙ ap (λ (o : Option (Bor InlineExpression)). option_map (λ y. inline_view y.now) o) c.in-Some.is in
    let d = state g.B.Context.meant g.B.Context.is_plain g.F.FluentFunction.answer content c.resolve.new.scope in
    let u = viewed c.resolve.new.out d (values_view content (values_in c.resolve.new.work)) in
    let fs = (frames_in c.resolve.new.work) in
    let next : Bundle Text → Following = λ bb given w. gathers content call given bb (k bb) w in
    let asked = pays c.args.levels (waits (suc n) (omega arith) (next_begins (use_of call.purpose) h x b.bundle (k b.bundle) v is (c.loop-inline.invariant.along k n))) in
    let there = goes c.in_ok-value.was asked (c.resolve.ensures.goes next n) in
    lacks lack there

pub arguments::gather-returns-in_err-hold-in-None-clause-goes : goal.arguments::gather-returns-in_err-hold-in-None-clause-goes
unfolding state_parts
arguments::gather-returns-in_err-hold-in-None-clause-goes g t c = λ k n.
    let lack : c.from_residual-in_err-hold-in-None.result ≡ Err Memory = search (rules, c.from_residual-in_err-hold-in-None.ensures, c.in_err-hold-in-None.ensures.err) in
    let content = g.C.FluentType.content in
    let contents = g.W.Write.contents in
    let b = state g.B.Context.meant g.B.Context.is_plain g.F.FluentFunction.answer content c.loop-inline.scope in
    let call = c.loop-inline.gathering in
    let h = held content call in
    let v = viewed c.loop-inline.out b (values_view content (values_in c.loop-inline.work)) in
    let x = inline_view c.in-Some.inline.now in
    let is : next_argument h ≡ Some x = sym c.next.ensures ∙ ap (λ (o : Option (Bor InlineExpression)). option_map (λ y. inline_view y.now) o) c.in-Some.is in
    let d = state g.B.Context.meant g.B.Context.is_plain g.F.FluentFunction.answer content c.resolve.new.scope in
    let u = viewed c.resolve.new.out d (values_view content (values_in c.resolve.new.work)) in
    let fs = (frames_in c.resolve.new.work) in
    let next : Bundle Text → Following = λ bb given w. gathers content call given bb (k bb) w in
    let asked = pays c.args.levels (waits (suc (suc n)) (omega arith) (next_begins (use_of call.purpose) h x b.bundle (k b.bundle) v is (c.loop-inline.invariant.along k n))) in
    let there = goes c.in_ok-value.was asked (c.resolve.ensures.goes next (suc n)) in
    lacks lack there

pub arguments::gather-returns-in-None-clause-goes : goal.arguments::gather-returns-in-None-clause-goes
unfolding state_parts
arguments::gather-returns-in-None-clause-goes g t c = λ k n.
    let content = g.C.FluentType.content in
    let contents = g.W.Write.contents in
    let b = state g.B.Context.meant g.B.Context.is_plain g.F.FluentFunction.answer content c.loop-inline.scope in
    let call = c.loop-inline.gathering in
    let h = held content call in
    let v = viewed c.loop-inline.out b (values_view content (values_in c.loop-inline.work)) in
    let x = inline_view c.in-Some.inline.now in
    let is : next_argument h ≡ Some x = sym c.next.ensures ∙ ap (λ (o : Option (Bor InlineExpression)). option_map (λ y. inline_view y.now) o) c.in-Some.is in
    let d = state g.B.Context.meant g.B.Context.is_plain g.F.FluentFunction.answer content c.resolve.new.scope in
    let u = viewed c.resolve.new.out d (values_view content (values_in c.resolve.new.work)) in
    let fs = (frames_in c.resolve.new.work) in
    let next : Bundle Text → Following = λ bb given w. gathers content call given bb (k bb) w in
    let asked = pays c.args.levels (waits (suc (suc n)) (omega arith) (next_begins (use_of call.purpose) h x b.bundle (k b.bundle) v is (c.loop-inline.invariant.along k n))) in
    let there = goes c.in_ok-value.was asked (c.resolve.ensures.goes next (suc n)) in
    let kept = c.in_ok-hold-in-None.ensures.waits in
    let gs = (frames_in c.hold.new.self) in
    let none = ap (λ o. before content d.bundle fs (next d.bundle) (made content o) u) c.in-None.is in
    let boxed = ap (λ (q : Gathering g.row.C.Denot). before content d.bundle fs (λ given. gathers content q given d.bundle (k d.bundle)) None u) (sym kept.value) in
    let put = is_put n content d.bundle fs gs (put_off.Gather kept.box) (k d.bundle) None u kept.frames (turns (none ∙ boxed) there) in
    finishes None _ refl refl (turns (ap (λ vs. before content d.bundle gs (k d.bundle) None (viewed c.resolve.new.out d (values_view content vs))) (sym c.hold.ensures.values)) put)

pub arguments::gather-returns-in-None-clause-placed : goal.arguments::gather-returns-in-None-clause-placed
unfolding state_parts
arguments::gather-returns-in-None-clause-placed g t c =
    let content = g.C.FluentType.content in
    let contents = g.W.Write.contents in
    let b = state g.B.Context.meant g.B.Context.is_plain g.F.FluentFunction.answer content c.loop-inline.scope in
    let call = c.loop-inline.gathering in
    let h = held content call in
    let v = viewed c.loop-inline.out b (values_view content (values_in c.loop-inline.work)) in
    let x = inline_view c.in-Some.inline.now in
    let is : next_argument h ≡ Some x = sym c.next.ensures ∙ ap (λ (o : Option (Bor InlineExpression)). option_map (λ y. inline_view y.now) o) c.in-Some.is in
    let d = state g.B.Context.meant g.B.Context.is_plain g.F.FluentFunction.answer content c.resolve.new.scope in
    let moved = goes c.in_ok-value.was (begun _ _ (outside contents c.loop-inline.out) b) (c.resolve.ensures.goes (λ bb. at_end) 0) in
    let kept : d.stored ≡ b.stored = moved.happened.stays.stored in
    let waits = c.in_ok-hold-in-None.ensures.waits in
    let placed = subst (λ s. IsPlacedCall s.numbers s.table call) (sym kept) c.loop-inline.invariant.placed in
    placed_pushed d.stored.numbers d.stored.table (frames_in c.resolve.new.work) (frames_in c.hold.new.self) (put_off.Gather waits.box) waits.frames c.in_ok-value.ensures.placed (subst (IsPlacedCall d.stored.numbers d.stored.table) (sym waits.value) placed)

pub arguments::gather-returns-clause-goes : goal.arguments::gather-returns-clause-goes
unfolding state_parts
arguments::gather-returns-clause-goes g t c = λ k n.
    let content = g.C.FluentType.content in
    let contents = g.W.Write.contents in
    let b = state g.B.Context.meant g.B.Context.is_plain g.F.FluentFunction.answer content c.loop-inline.scope in
    let call = c.loop-inline.gathering in
    let h = held content call in
    let v = viewed c.loop-inline.out b (values_view content (values_in c.loop-inline.work)) in
    let is : next_argument h ≡ None = sym c.next.ensures ∙ ap (λ (o : Option (Bor InlineExpression)). option_map (λ y. inline_view y.now) o) c.in_default.is in
    went_on (turns (all_gathered (use_of call.purpose) h b.bundle (k b.bundle) v is) (c.loop-inline.invariant.along k n)) (c.finish.ensures.goes k n)

pub arguments::gather-resolve-requires : goal.arguments::gather-resolve-requires
unfolding state_parts
arguments::gather-resolve-requires g t c =
    let content = g.C.FluentType.content in
    let contents = g.W.Write.contents in
    let b = state g.B.Context.meant g.B.Context.is_plain g.F.FluentFunction.answer content c.loop-inline.scope in
    let call = c.loop-inline.gathering in
    let h = held content call in
    let v = viewed c.loop-inline.out b (values_view content (values_in c.loop-inline.work)) in
    let x = inline_view c.in-Some.inline.now in
    let is : next_argument h ≡ Some x = sym c.next.ensures ∙ ap (λ (o : Option (Bor InlineExpression)). option_map (λ y. inline_view y.now) o) c.in-Some.is in
    let less = falls_to c.decreases (less_rank c.args.levels 0 10 (omega arith)) in
    let placed = placed_next b.stored.numbers (more call) (more_named call) x (seen call.remaining.cursor) is c.loop-inline.invariant.placed.0 in
    λ κs h. (less, (h.0, (h.1.0, (h.1.1.0, (h.1.1.1, (placed, c.loop-inline.invariant.nothing))))))

pub arguments::gather-finish-requires : goal.arguments::gather-finish-requires
unfolding state_parts
arguments::gather-finish-requires g t c =
    let less = falls_to c.decreases (less_rank c.args.levels 9 10 (omega arith)) in
    λ κs h. (less, (h.0, (h.1.0, (h.1.1.0, (h.1.1.1, (c.loop-inline.invariant.placed.1, c.loop-inline.invariant.nothing))))))

pub arguments::gather-loop-inline-smaller : goal.arguments::gather-loop-inline-smaller
unfolding state_parts
arguments::gather-loop-inline-smaller g t c =
    let content = g.C.FluentType.content in
    let contents = g.W.Write.contents in
    let b = state g.B.Context.meant g.B.Context.is_plain g.F.FluentFunction.answer content c.loop-inline.scope in
    let call = c.loop-inline.gathering in
    let h = held content call in
    let v = viewed c.loop-inline.out b (values_view content (values_in c.loop-inline.work)) in
    let x = inline_view c.in-Some.inline.now in
    let is : next_argument h ≡ Some x = sym c.next.ensures ∙ ap (λ (o : Option (Bor InlineExpression)). option_map (λ y. inline_view y.now) o) c.in-Some.is in
    left_falls h (held content c.take.new.gathering) x (value_view content c.in-Some-2.value) is c.in_ok-take-in-Some-2.ensures.held

pub arguments::gather-loop-inline-preserved : goal.arguments::gather-loop-inline-preserved
unfolding state_parts
arguments::gather-loop-inline-preserved g t c =
    let content = g.C.FluentType.content in
    let contents = g.W.Write.contents in
    let b = state g.B.Context.meant g.B.Context.is_plain g.F.FluentFunction.answer content c.loop-inline.scope in
    let call = c.loop-inline.gathering in
    let h = held content call in
    let v = viewed c.loop-inline.out b (values_view content (values_in c.loop-inline.work)) in
    let x = inline_view c.in-Some.inline.now in
    let is : next_argument h ≡ Some x = sym c.next.ensures ∙ ap (λ (o : Option (Bor InlineExpression)). option_map (λ y. inline_view y.now) o) c.in-Some.is in
    let d = state g.B.Context.meant g.B.Context.is_plain g.F.FluentFunction.answer content c.resolve.new.scope in
    let moved = goes c.in_ok-value.was (begun _ _ (outside contents c.loop-inline.out) b) (c.resolve.ensures.goes (λ bb. at_end) 0) in
    let kept : d.stored ≡ b.stored = moved.happened.stays.stored in
    let nothing : (frames_in c.resolve.new.work) ≡ [] = subst (λ o. IsWhole o c.resolve.new.work) c.in-Some-2.is c.in_ok-value.ensures.whole in
    let y = value_view content c.in-Some-2.value in
    let new = c.take.new.gathering in
    let here = c.loop-inline.invariant.placed in
    let placed : IsPlacedCall b.stored.numbers b.stored.table new = (c.in_ok-take-in-Some-2.ensures.placed b.stored.numbers here.0, subst (IsPlacedPurpose b.stored.numbers b.stored.table) (sym c.take.ensures.purpose) here.1) in
    let u = viewed c.resolve.new.out d (values_view content (values_in c.resolve.new.work)) in
    let fs = (frames_in c.resolve.new.work) in
    record {
      along = λ k n.
          let next : Bundle Text → Following = λ bb given w. gathers content call given bb (k bb) w in
          let asked = pays c.args.levels (waits (suc n) (omega arith) (next_begins (use_of call.purpose) h x b.bundle (k b.bundle) v is (c.loop-inline.invariant.along k n))) in
          let there = goes c.in_ok-value.was asked (c.resolve.ensures.goes next n) in
          let done = is_done content d.bundle fs (next d.bundle) (made content c.in_ok-value.field-0) u nothing there in
          let given = turns (ap (λ o. gathers content call (made content o) d.bundle (k d.bundle) u) c.in-Some-2.is) done in
          gets_value content call new y d.bundle (k d.bundle) u c.take.ensures.purpose c.in_ok-take-in-Some-2.ensures.held given;
      placed = subst (λ s. IsPlacedCall s.numbers s.table new) (sym kept) placed;
      nothing = nothing;
      purpose = c.take.ensures.purpose ∙ c.loop-inline.invariant.purpose;
    }

pub arguments::keep_text-returns-in_err-write_inline-clause-goes : goal.arguments::keep_text-returns-in_err-write_inline-clause-goes
unfolding state_parts
arguments::keep_text-returns-in_err-write_inline-clause-goes g t c = λ k n.
    let content = g.C.FluentType.content in
    let contents = g.W.Write.contents in
    let a = state g.B.Context.meant g.B.Context.is_plain g.F.FluentFunction.answer content c.args.scope.now in
    let out = c.args.out.now in
    let work = c.args.work.now in
    let values = values_view content (values_in work) in
    let v = viewed out a values in
    let text = c.replace-outer.new.dest in
    let value = put_off.Value c.replace-outer.result out.is_kept in
    let x = inline_view c.args.inline.now in
    let here : Text → View = λ t. record { kept = Some t; budget = a.budget; environment = a.environment; path = a.path; values = values } in
    let empty : string_bytes text ≡ [] = ap string_bytes c.replace-outer.ensures.after ∙ c.new.ensures.bytes in
    let outer : c.replace-outer.result ≡ out.kept.now = c.replace-outer.ensures.value in
    let next : Bundle Text → Following = λ bb given w. frame content value given bb (k bb) w in
    let is =
    ap (λ (s : String Global). parts.written x a.bundle (λ given. frame content (put_off.Value s out.is_kept) given a.bundle (k a.bundle)) (here [])) (sym outer)
    ∙ ap (λ t. parts.written x a.bundle (next a.bundle) (here t)) (sym empty) in
    let way = pays c.args.levels (waits (suc (suc n)) (omega arith) (turns (ap begins is) (begun _ n (outside contents out) a))) in
    halts c.in_err-write_inline.was (search rules) way (c.write_inline.ensures.goes next (suc n))

pub arguments::keep_text-returns-in_err-wait_value-clause-goes : goal.arguments::keep_text-returns-in_err-wait_value-clause-goes
unfolding state_parts
arguments::keep_text-returns-in_err-wait_value-clause-goes g t c = λ k n.
    let content = g.C.FluentType.content in
    let contents = g.W.Write.contents in
    let a = state g.B.Context.meant g.B.Context.is_plain g.F.FluentFunction.answer content c.args.scope.now in
    let out = c.args.out.now in
    let work = c.args.work.now in
    let values = values_view content (values_in work) in
    let v = viewed out a values in
    let text = c.replace-outer.new.dest in
    let value = put_off.Value c.replace-outer.result out.is_kept in
    let x = inline_view c.args.inline.now in
    let here : Text → View = λ t. record { kept = Some t; budget = a.budget; environment = a.environment; path = a.path; values = values } in
    let empty : string_bytes text ≡ [] = ap string_bytes c.replace-outer.ensures.after ∙ c.new.ensures.bytes in
    let outer : c.replace-outer.result ≡ out.kept.now = c.replace-outer.ensures.value in
    let next : Bundle Text → Following = λ bb given w. frame content value given bb (k bb) w in
    let is =
    ap (λ (s : String Global). parts.written x a.bundle (λ given. frame content (put_off.Value s out.is_kept) given a.bundle (k a.bundle)) (here [])) (sym outer)
    ∙ ap (λ t. parts.written x a.bundle (next a.bundle) (here t)) (sym empty) in
    let way = pays c.args.levels (waits (suc (suc n)) (omega arith) (turns (ap begins is) (begun _ n (outside contents out) a))) in
    let d = state g.B.Context.meant g.B.Context.is_plain g.F.FluentFunction.answer content c.write_inline.new.scope in
    let last = c.write_inline.new.out in
    let fs = (frames_in c.write_inline.new.work) in
    let u = viewed last d (values_view content (values_in c.write_inline.new.work)) in
    let there = goes c.in_ok-write_inline.was way (c.write_inline.ensures.goes next (suc n)) in
    lacks (search rules) there

pub arguments::keep_text-returns-then-is_done-clause-goes : goal.arguments::keep_text-returns-then-is_done-clause-goes
unfolding state_parts
arguments::keep_text-returns-then-is_done-clause-goes g t c = λ k n.
    let content = g.C.FluentType.content in
    let contents = g.W.Write.contents in
    let a = state g.B.Context.meant g.B.Context.is_plain g.F.FluentFunction.answer content c.args.scope.now in
    let out = c.args.out.now in
    let work = c.args.work.now in
    let values = values_view content (values_in work) in
    let v = viewed out a values in
    let text = c.replace-outer.new.dest in
    let value = put_off.Value c.replace-outer.result out.is_kept in
    let x = inline_view c.args.inline.now in
    let here : Text → View = λ t. record { kept = Some t; budget = a.budget; environment = a.environment; path = a.path; values = values } in
    let empty : string_bytes text ≡ [] = ap string_bytes c.replace-outer.ensures.after ∙ c.new.ensures.bytes in
    let outer : c.replace-outer.result ≡ out.kept.now = c.replace-outer.ensures.value in
    let next : Bundle Text → Following = λ bb given w. frame content value given bb (k bb) w in
    let is =
    ap (λ (s : String Global). parts.written x a.bundle (λ given. frame content (put_off.Value s out.is_kept) given a.bundle (k a.bundle)) (here [])) (sym outer)
    ∙ ap (λ t. parts.written x a.bundle (next a.bundle) (here t)) (sym empty) in
    let way = pays c.args.levels (waits (suc (suc n)) (omega arith) (turns (ap begins is) (begun _ n (outside contents out) a))) in
    let d = state g.B.Context.meant g.B.Context.is_plain g.F.FluentFunction.answer content c.write_inline.new.scope in
    let last = c.write_inline.new.out in
    let fs = (frames_in c.write_inline.new.work) in
    let u = viewed last d (values_view content (values_in c.write_inline.new.work)) in
    let there = goes c.in_ok-write_inline.was way (c.write_inline.ensures.goes next (suc n)) in
    let nothing : fs ≡ [] = search (rules, c.is_done.ensures, c.if-is_done.true) in
    let done = with_fewer n (omega arith) (is_done content d.bundle fs (next d.bundle) None u nothing there) in
    let ended = c.end_text.new.out in
    let way = turns (
    ap (λ y. k d.bundle (Some y) (record u { kept = kept_before out.is_kept c.replace-outer.result })) (sym c.end_text.ensures.value)
    ∙ ap (λ t. k d.bundle (Some (value_view content c.end_text.result)) (record u { kept = kept_before out.is_kept t })) (sym c.end_text.ensures.kept)
    ∙ ap (λ kept. k d.bundle (Some (value_view content c.end_text.result)) (record u { kept = kept_before kept ended.kept.now })) (sym c.end_text.ensures.is_kept)) done in
    finishes (Some c.end_text.result) _ refl refl (none_put content d.bundle fs (k d.bundle) (Some (value_view content c.end_text.result)) (viewed ended d (values_view content (values_in c.write_inline.new.work))) nothing (elsewhere c.end_text.ensures.outside way))

pub arguments::keep_text-returns-clause-goes : goal.arguments::keep_text-returns-clause-goes
unfolding state_parts
arguments::keep_text-returns-clause-goes g t c = λ k n.
    let content = g.C.FluentType.content in
    let contents = g.W.Write.contents in
    let a = state g.B.Context.meant g.B.Context.is_plain g.F.FluentFunction.answer content c.args.scope.now in
    let out = c.args.out.now in
    let work = c.args.work.now in
    let values = values_view content (values_in work) in
    let v = viewed out a values in
    let text = c.replace-outer.new.dest in
    let value = put_off.Value c.replace-outer.result out.is_kept in
    let x = inline_view c.args.inline.now in
    let here : Text → View = λ t. record { kept = Some t; budget = a.budget; environment = a.environment; path = a.path; values = values } in
    let empty : string_bytes text ≡ [] = ap string_bytes c.replace-outer.ensures.after ∙ c.new.ensures.bytes in
    let outer : c.replace-outer.result ≡ out.kept.now = c.replace-outer.ensures.value in
    let next : Bundle Text → Following = λ bb given w. frame content value given bb (k bb) w in
    let is =
    ap (λ (s : String Global). parts.written x a.bundle (λ given. frame content (put_off.Value s out.is_kept) given a.bundle (k a.bundle)) (here [])) (sym outer)
    ∙ ap (λ t. parts.written x a.bundle (next a.bundle) (here t)) (sym empty) in
    let way = pays c.args.levels (waits (suc (suc n)) (omega arith) (turns (ap begins is) (begun _ n (outside contents out) a))) in
    let d = state g.B.Context.meant g.B.Context.is_plain g.F.FluentFunction.answer content c.write_inline.new.scope in
    let last = c.write_inline.new.out in
    let fs = (frames_in c.write_inline.new.work) in
    let u = viewed last d (values_view content (values_in c.write_inline.new.work)) in
    let there = goes c.in_ok-write_inline.was way (c.write_inline.ensures.goes next (suc n)) in
    let gs = (frames_in c.wait_value.new.self) in
    let put = is_put n content d.bundle fs gs value (k d.bundle) None u c.in_ok-wait_value.ensures.frames there in
    finishes None _ refl refl (turns (ap (λ vs. before content d.bundle gs (k d.bundle) None (viewed last d (values_view content vs))) (sym c.wait_value.ensures.values)) put)

pub arguments::keep_text-returns-clause-placed : goal.arguments::keep_text-returns-clause-placed
unfolding state_parts
arguments::keep_text-returns-clause-placed g t c =
    let ids = c.write_inline.new.scope.ids.now in
    placed_pushed (numbers ids) (table ids) (frames_in c.write_inline.new.work) (frames_in c.wait_value.new.self) (put_off.Value c.replace-outer.result c.args.out.now.is_kept) c.in_ok-wait_value.ensures.frames c.in_ok-write_inline.ensures.placed tt

pub arguments::keep_text-write_inline-requires : goal.arguments::keep_text-write_inline-requires
unfolding state_parts
arguments::keep_text-write_inline-requires g t c =
    let less = falls_to c.decreases (less_rank c.args.levels 16 17 (omega arith)) in
    λ κs h. (less, (h.0, (h.1.0, (h.1.1.0, (h.1.1.1, (c.requires.placed, c.requires.nothing))))))

pub arguments::resolve-returns-in_err-put_off_value-in_default : goal.arguments::resolve-returns-in_err-put_off_value-in_default
unfolding state_parts
arguments::resolve-returns-in_err-put_off_value-in_default g t c = record {
  goes = λ k n.
      let content = g.C.FluentType.content in
      let contents = g.W.Write.contents in
      let a = state g.B.Context.meant g.B.Context.is_plain g.F.FluentFunction.answer content c.args.scope.now in
      let out = c.args.out.now in
      let work = c.args.work.now in
      let values = values_view content (values_in work) in
      let v = viewed out a values in
      let x = inline_view c.args.inline.now in
      lacks (search rules) (begun _ (paid_within c.args.levels n) (outside contents out) a);
  placed = search rules;
  whole = search rules;
}

pub arguments::resolve-returns-then-levels-eq0-clause-goes : goal.arguments::resolve-returns-then-levels-eq0-clause-goes
unfolding state_parts
arguments::resolve-returns-then-levels-eq0-clause-goes g t c = λ k n.
    let content = g.C.FluentType.content in
    let contents = g.W.Write.contents in
    let a = state g.B.Context.meant g.B.Context.is_plain g.F.FluentFunction.answer content c.args.scope.now in
    let out = c.args.out.now in
    let work = c.args.work.now in
    let values = values_view content (values_in work) in
    let v = viewed out a values in
    let x = inline_view c.args.inline.now in
    let fs = (frames_in work) in
    let gs = (frames_in c.put_off_value.new.self) in
    let f = put_off.Resolve c.args.inline c.args.cursor in
    let way = with_fewer (suc n) (paid_none c.args.levels n c.if-levels-eq0.true) (begun _ (paid_within c.args.levels n) (outside contents out) a) in
    let here = none_put content a.bundle fs (λ given. frame content f given a.bundle (k a.bundle)) None v c.requires.nothing way in
    let put = is_put n content a.bundle fs gs f (k a.bundle) None v c.in_ok-put_off_value-in_default.ensures.frames here in
    finishes None _ refl refl (turns (ap (λ vs. before content a.bundle gs (k a.bundle) None (viewed out a (values_view content vs))) (sym c.put_off_value.ensures.values)) put)

pub arguments::resolve-returns-then-levels-eq0-clause-placed : goal.arguments::resolve-returns-then-levels-eq0-clause-placed
unfolding state_parts
arguments::resolve-returns-then-levels-eq0-clause-placed g t c =
    let ids = c.args.scope.now.ids.now in
    placed_pushed (numbers ids) (table ids) (frames_in c.args.work.now) (frames_in c.put_off_value.new.self) (put_off.Resolve c.args.inline c.args.cursor) c.in_ok-put_off_value-in_default.ensures.frames (subst (ArePlacedFrames (numbers ids) (table ids)) (sym c.requires.nothing) tt) c.requires.placed

pub arguments::resolve-returns-in_err-answer_to_leaves-in-FunctionReference-clause-goes : goal.arguments::resolve-returns-in_err-answer_to_leaves-in-FunctionReference-clause-goes
unfolding state_parts
arguments::resolve-returns-in_err-answer_to_leaves-in-FunctionReference-clause-goes g t c = λ k n.
    let content = g.C.FluentType.content in
    let contents = g.W.Write.contents in
    let a = state g.B.Context.meant g.B.Context.is_plain g.F.FluentFunction.answer content c.args.scope.now in
    let out = c.args.out.now in
    let work = c.args.work.now in
    let values = values_view content (values_in work) in
    let v = viewed out a values in
    let x = inline_view c.args.inline.now in
    let id = c.in-FunctionReference.id.name.now in
    let args = c.deref-then-has_leaves_alone.result.now in
    let way = with_fewer n (paid_least c.args.levels n) (begun _ (paid_within c.args.levels n) (outside contents out) a) in
    let is = view_function_in c.args.inline.now c.in-FunctionReference.id c.in-FunctionReference.arguments c.in-FunctionReference.is ∙ ap (λ b. function id (arguments_view b)) (sym c.deref-then-has_leaves_alone.ensures) in
    let leaves = leaves_called (parts.gives id) args a.bundle (k a.bundle) v (subst (λ y. has_leaves_alone y ≡ true) (c.deref.ensures ∙ sym c.deref-then-has_leaves_alone.ensures) (c.has_leaves_alone.ensures c.if-has_leaves_alone.true)) (turns (function_at x id (arguments_view args) a.bundle (k a.bundle) v is) way) in
    lacks (search rules) (tells_some _ c.answer_to_leaves.ensures.reports leaves)

pub arguments::resolve-returns-then-has_leaves_alone-clause-goes : goal.arguments::resolve-returns-then-has_leaves_alone-clause-goes
unfolding state_parts
arguments::resolve-returns-then-has_leaves_alone-clause-goes g t c = λ k n.
    let content = g.C.FluentType.content in
    let contents = g.W.Write.contents in
    let a = state g.B.Context.meant g.B.Context.is_plain g.F.FluentFunction.answer content c.args.scope.now in
    let out = c.args.out.now in
    let work = c.args.work.now in
    let values = values_view content (values_in work) in
    let v = viewed out a values in
    let x = inline_view c.args.inline.now in
    let id = c.in-FunctionReference.id.name.now in
    let args = c.deref-then-has_leaves_alone.result.now in
    let way = with_fewer n (paid_least c.args.levels n) (begun _ (paid_within c.args.levels n) (outside contents out) a) in
    let is = view_function_in c.args.inline.now c.in-FunctionReference.id c.in-FunctionReference.arguments c.in-FunctionReference.is ∙ ap (λ b. function id (arguments_view b)) (sym c.deref-then-has_leaves_alone.ensures) in
    let leaves = leaves_called (parts.gives id) args a.bundle (k a.bundle) v (subst (λ y. has_leaves_alone y ≡ true) (c.deref.ensures ∙ sym c.deref-then-has_leaves_alone.ensures) (c.has_leaves_alone.ensures c.if-has_leaves_alone.true)) (turns (function_at x id (arguments_view args) a.bundle (k a.bundle) v is) way) in
    let reports = c.answer_to_leaves.ensures.reports in
    let b = state g.B.Context.meant g.B.Context.is_plain g.F.FluentFunction.answer content c.answer_to_leaves.new.scope in
    let y = value_view content c.in_ok-answer_to_leaves-in-FunctionReference.field-0 in
    let at : At = λ m env path budget. k m (Some y) (record { kept = kept_of out; budget = budget; environment = env; path = path; values = values }) in
    let there = ap (λ z. k a.bundle (Some z) v) (value_answered a.bundle (function_found (get id a.bundle.ids)) _ _ ∙ sym c.in_ok-answer_to_leaves-in-FunctionReference.ensures.value) ∙ moves a b at a.environment a.path reports.stays.bundle reports.environment reports.path reports.budget in
    finishes _ _ refl refl (none_put content b.bundle (frames_in work) (k b.bundle) (Some y) (viewed out b values) c.requires.nothing (turns there (tells_all c.in_ok-answer_to_leaves-in-FunctionReference.was reports leaves)))

pub arguments::resolve-returns-else-has_leaves_alone-clause-goes : goal.arguments::resolve-returns-else-has_leaves_alone-clause-goes
unfolding state_parts
arguments::resolve-returns-else-has_leaves_alone-clause-goes g t c = λ k n.
    let content = g.C.FluentType.content in
    let contents = g.W.Write.contents in
    let a = state g.B.Context.meant g.B.Context.is_plain g.F.FluentFunction.answer content c.args.scope.now in
    let out = c.args.out.now in
    let work = c.args.work.now in
    let values = values_view content (values_in work) in
    let v = viewed out a values in
    let x = inline_view c.args.inline.now in
    let id = c.in-FunctionReference.id.name.now in
    let way = with_fewer n (paid_least c.args.levels n) (begun _ (paid_within c.args.levels n) (outside contents out) a) in
    let is = view_function_in c.args.inline.now c.in-FunctionReference.id c.in-FunctionReference.arguments c.in-FunctionReference.is ∙ ap (λ b. function id (arguments_view b)) (sym c.deref-in-FunctionReference.ensures) in
    went_on (turns (ap (λ y. parts.resolved y a.bundle (k a.bundle) v) is) way) (c.give_answer.ensures.goes k n)

pub arguments::resolve-returns-in_default-inline : goal.arguments::resolve-returns-in_default-inline
unfolding state_parts
arguments::resolve-returns-in_default-inline g t c = record {
  goes = λ k n.
      let content = g.C.FluentType.content in
      let contents = g.W.Write.contents in
      let a = state g.B.Context.meant g.B.Context.is_plain g.F.FluentFunction.answer content c.args.scope.now in
      let out = c.args.out.now in
      let work = c.args.work.now in
      let values = values_view content (values_in work) in
      let v = viewed out a values in
      let x = inline_view c.args.inline.now in
      let way = with_fewer n (paid_least c.args.levels n) (begun _ (paid_within c.args.levels n) (outside contents out) a) in
      let is = view_written c.args.inline.now (λ t. c.in_default.not-StringLiteral t) (λ t. c.in_default.not-NumberLiteral t) (λ id b. c.in_default-inline.not-FunctionReference id b) (λ id. c.in_default.not-VariableReference id) in
      went_on (turns (kept_at x a.bundle (k a.bundle) v is) way) (c.give_text.ensures.goes k n);
  placed = c.give_text.ensures.placed;
  whole = c.give_text.ensures.whole;
}

pub arguments::resolve-answer_to_leaves-requires : goal.arguments::resolve-answer_to_leaves-requires
unfolding state_parts
arguments::resolve-answer_to_leaves-requires g t c =
    let ids = c.args.scope.now.ids.now in
    let r = a_function c.in-FunctionReference.id.name.now in
    let rs = in_arguments (arguments_view c.in-FunctionReference.arguments.value) in
    placed_first (numbers ids) _ r rs c.args.cursor (in_function_is c.args.inline.now c.in-FunctionReference.id c.in-FunctionReference.arguments c.in-FunctionReference.is) c.requires.placed

pub arguments::resolve-give_answer-requires : goal.arguments::resolve-give_answer-requires
unfolding state_parts
arguments::resolve-give_answer-requires g t c =
    let ids = c.args.scope.now.ids.now in
    let some : 0 < c.args.levels = omega arith in
    let less = falls_to c.decreases (less_level c.args.levels 12 0 some (omega arith)) in
    let r = a_function c.in-FunctionReference.id.name.now in
    let is = in_function_is c.args.inline.now c.in-FunctionReference.id c.in-FunctionReference.arguments c.in-FunctionReference.is ∙ ap (λ m. r ∷ in_arguments (arguments_view m)) (sym c.deref-in-FunctionReference.ensures) in
    let placed = placed_as (numbers ids) _ _ c.args.cursor is c.requires.placed in
    λ κs h. (less, (h.0, (h.1.0, (h.1.1.0, (h.1.1.1, (placed, c.requires.nothing))))))

pub arguments::resolve-give_text-requires : goal.arguments::resolve-give_text-requires
unfolding state_parts
arguments::resolve-give_text-requires g t c =
    let some : 0 < c.args.levels = omega arith in
    let less = falls_to c.decreases (less_level c.args.levels 18 0 some (omega arith)) in
    λ κs h. (less, (h.0, (h.1.0, (h.1.1.0, (h.1.1.1, (c.requires.placed, c.requires.nothing))))))

pub arguments::give_text-returns-in_err-visit_text-in-Some-clause-goes : goal.arguments::give_text-returns-in_err-visit_text-in-Some-clause-goes
unfolding state_parts
arguments::give_text-returns-in_err-visit_text-in-Some-clause-goes g t c = λ k n.
    let content = g.C.FluentType.content in
    let contents = g.W.Write.contents in
    let a = state g.B.Context.meant g.B.Context.is_plain g.F.FluentFunction.answer content c.args.scope.now in
    let out = c.args.out.now in
    let work = c.args.work.now in
    let values = values_view content (values_in work) in
    let v = viewed out a values in
    let x = inline_view c.args.inline.now in
    let text = c.in-Some.text.now in
    let leads = if_some (LeadsToText a x) c.in-Some.is c.text_led_to.ensures in
    let on = gives_text c.events_are_the_run.ensures.by_itself x text a.bundle (k a.bundle) v leads.0 leads.1 (happened_visit (text_alone text) (outside contents out) c.visit_text.ensures.0) (begun _ n (outside contents out) a) in
    lacks (search rules) on

pub arguments::give_text-returns-in_ok-visit_text-in-Some-clause-goes : goal.arguments::give_text-returns-in_ok-visit_text-in-Some-clause-goes
unfolding state_parts
arguments::give_text-returns-in_ok-visit_text-in-Some-clause-goes g t c = λ k n.
    let content = g.C.FluentType.content in
    let contents = g.W.Write.contents in
    let a = state g.B.Context.meant g.B.Context.is_plain g.F.FluentFunction.answer content c.args.scope.now in
    let out = c.args.out.now in
    let work = c.args.work.now in
    let values = values_view content (values_in work) in
    let v = viewed out a values in
    let x = inline_view c.args.inline.now in
    let text = c.in-Some.text.now in
    let leads = if_some (LeadsToText a x) c.in-Some.is c.text_led_to.ensures in
    let visits = c.visit_text.ensures.0 in
    let same = visits.elsewhere in
    let y = value_view content c.in_ok-visit_text-in-Some.field-0 in
    let d = state g.B.Context.meant g.B.Context.is_plain g.F.FluentFunction.answer content c.visit_text.new.scope in
    let on = gives_text c.events_are_the_run.ensures.by_itself x text a.bundle (k a.bundle) v leads.0 leads.1 (happened_visit (text_alone text) (outside contents out) visits) (begun _ n (outside contents out) a) in
    let at : At = λ m env path budget. k m (Some y) (record { kept = kept_of out; budget = budget; environment = env; path = path; values = values }) in
    let there = ap (λ z. k a.bundle (Some z) v) (sym c.in_ok-visit_text-in-Some.ensures.1) ∙ moves a d at a.environment a.path same.stays.bundle same.environment visits.path same.budget in
    finishes _ _ refl refl (none_put content d.bundle (frames_in work) (k d.bundle) (Some y) (viewed out d values) c.requires.nothing (turns there on))

pub arguments::give_text-keep_text-requires : goal.arguments::give_text-keep_text-requires
unfolding state_parts
arguments::give_text-keep_text-requires g t c =
    let less = falls_to c.decreases (less_rank c.args.levels 17 18 (omega arith)) in
    λ κs h. (less, (h.0, (h.1.0, (h.1.1.0, (h.1.1.1, (c.requires.placed, c.requires.nothing))))))

pub arguments::give_answer-returns-clause-goes : goal.arguments::give_answer-returns-clause-goes
unfolding state_parts
arguments::give_answer-returns-clause-goes g t c = λ k n.
    let content = g.C.FluentType.content in
    let contents = g.W.Write.contents in
    let a = state g.B.Context.meant g.B.Context.is_plain g.F.FluentFunction.answer content c.args.scope.now in
    let out = c.args.out.now in
    let work = c.args.work.now in
    let values = values_view content (values_in work) in
    let v = viewed out a values in
    let f = c.args.id.now.name.now in
    let args = arguments_view c.args.arguments.now in
    went_on (turns (function_at (function f args) f args a.bundle (k a.bundle) v refl) (begun _ n (outside contents out) a)) (c.begin_call.ensures.goes k n)

pub arguments::give_answer-begin_call-requires : goal.arguments::give_answer-begin_call-requires
unfolding state_parts
arguments::give_answer-begin_call-requires g t c =
    let ids = c.args.scope.now.ids.now in
    let less = falls_to c.decreases (less_rank c.args.levels 11 12 (omega arith)) in
    let r = a_function c.args.id.now.name.now in
    let rs = in_arguments (arguments_view c.args.arguments.now) in
    let purpose = placed_first (numbers ids) (r ∷ rs) r rs c.args.cursor refl c.requires.placed in
    let after = placed_after (numbers ids) (r ∷ rs) r rs c.args.cursor c.after_one-at.result refl c.after_one-at.ensures c.requires.placed in
    λ κs h. (less, (h.0, (h.1.0, (h.1.1.0, (h.1.1.1, (purpose, (after, c.requires.nothing)))))))

pub arguments::resolve-returns-in_err-text-in-StringLiteral-clause-goes : goal.arguments::resolve-returns-in_err-text-in-StringLiteral-clause-goes
unfolding state_parts
arguments::resolve-returns-in_err-text-in-StringLiteral-clause-goes g t c = λ k n.
    let content = g.C.FluentType.content in
    let contents = g.W.Write.contents in
    let a = state g.B.Context.meant g.B.Context.is_plain g.F.FluentFunction.answer content c.args.scope.now in
    let out = c.args.out.now in
    let work = c.args.work.now in
    let values = values_view content (values_in work) in
    let v = viewed out a values in
    let x = inline_view c.args.inline.now in
    lacks (search rules) (begun _ (paid_within c.args.levels n) (outside contents out) a)

pub arguments::resolve-returns-in_ok-text-in-StringLiteral-clause-goes : goal.arguments::resolve-returns-in_ok-text-in-StringLiteral-clause-goes
unfolding state_parts
arguments::resolve-returns-in_ok-text-in-StringLiteral-clause-goes g t c = λ k n.
    let content = g.C.FluentType.content in
    let contents = g.W.Write.contents in
    let a = state g.B.Context.meant g.B.Context.is_plain g.F.FluentFunction.answer content c.args.scope.now in
    let out = c.args.out.now in
    let work = c.args.work.now in
    let values = values_view content (values_in work) in
    let v = viewed out a values in
    let x = inline_view c.args.inline.now in
    let way = with_fewer n (paid_least c.args.levels n) (begun _ (paid_within c.args.levels n) (outside contents out) a) in
    let is = view_string_in c.args.inline.now c.in-StringLiteral.value c.in-StringLiteral.is in
    finishes _ _ refl refl (none_put content a.bundle (frames_in work) (k a.bundle) _ v c.requires.nothing (turns (string_at x c.in-StringLiteral.value.now _ a.bundle (k a.bundle) v is (ap text_value c.in_ok-text-in-StringLiteral.ensures.text)) way))

pub arguments::resolve-returns-in-NumberLiteral-clause-goes : goal.arguments::resolve-returns-in-NumberLiteral-clause-goes
unfolding state_parts
arguments::resolve-returns-in-NumberLiteral-clause-goes g t c = λ k n.
    let content = g.C.FluentType.content in
    let contents = g.W.Write.contents in
    let a = state g.B.Context.meant g.B.Context.is_plain g.F.FluentFunction.answer content c.args.scope.now in
    let out = c.args.out.now in
    let work = c.args.work.now in
    let values = values_view content (values_in work) in
    let v = viewed out a values in
    let x = inline_view c.args.inline.now in
    let way = with_fewer n (paid_least c.args.levels n) (begun _ (paid_within c.args.levels n) (outside contents out) a) in
    let is = view_number_in c.args.inline.now c.in-NumberLiteral.value c.in-NumberLiteral.is in
    finishes _ _ refl refl (none_put content a.bundle (frames_in work) (k a.bundle) _ v c.requires.nothing (turns (number_at x c.in-NumberLiteral.value.now _ a.bundle (k a.bundle) v is c.try_number.ensures) way))

pub arguments::resolve-returns-in_err-resolve_variable-in-VariableReference-clause-goes : goal.arguments::resolve-returns-in_err-resolve_variable-in-VariableReference-clause-goes
unfolding state_parts
arguments::resolve-returns-in_err-resolve_variable-in-VariableReference-clause-goes g t c = λ k n.
    let content = g.C.FluentType.content in
    let contents = g.W.Write.contents in
    let a = state g.B.Context.meant g.B.Context.is_plain g.F.FluentFunction.answer content c.args.scope.now in
    let out = c.args.out.now in
    let work = c.args.work.now in
    let values = values_view content (values_in work) in
    let v = viewed out a values in
    let x = inline_view c.args.inline.now in
    lacks (search rules) (passes (happened_untold (outside contents out) c.in_err-resolve_variable-in-VariableReference.was c.resolve_variable.ensures.0) (begun _ (paid_within c.args.levels n) (outside contents out) a))

pub arguments::resolve-returns-in_ok-resolve_variable-in-VariableReference-clause-goes : goal.arguments::resolve-returns-in_ok-resolve_variable-in-VariableReference-clause-goes
unfolding state_parts
arguments::resolve-returns-in_ok-resolve_variable-in-VariableReference-clause-goes g t c = λ k n.
    let content = g.C.FluentType.content in
    let contents = g.W.Write.contents in
    let a = state g.B.Context.meant g.B.Context.is_plain g.F.FluentFunction.answer content c.args.scope.now in
    let out = c.args.out.now in
    let work = c.args.work.now in
    let values = values_view content (values_in work) in
    let v = viewed out a values in
    let x = inline_view c.args.inline.now in
    let way = with_fewer n (paid_least c.args.levels n) (begun _ (paid_within c.args.levels n) (outside contents out) a) in
    let id = c.in-VariableReference.id.name.now in
    let is = view_variable_in c.args.inline.now c.in-VariableReference.id c.in-VariableReference.is in
    let b = state g.B.Context.meant g.B.Context.is_plain g.F.FluentFunction.answer content c.resolve_variable.new.scope in
    let reports = c.resolve_variable.ensures.0 in
    let told = happened_told (outside contents out) c.in_ok-resolve_variable-in-VariableReference.was reports in
    let o = get id (variables a.environment) in
    let on = looked_up a.bundle (k a.bundle) v x o told (turns (variable_at x id a.bundle (k a.bundle) v is) way) in
    let at : At = λ y env path budget. k y (Some (value_view content c.in_ok-resolve_variable-in-VariableReference.field-0)) (record { kept = kept_of out; budget = budget; environment = env; path = path; values = values }) in
    let there = ap (λ y. k a.bundle (Some y) v) (sym c.in_ok-resolve_variable-in-VariableReference.ensures.1) ∙ moves a b at a.environment a.path reports.stays.bundle reports.environment reports.path reports.budget in
    finishes _ _ refl refl (none_put content b.bundle (frames_in work) (k b.bundle) (Some (value_view content c.in_ok-resolve_variable-in-VariableReference.field-0)) (viewed out b values) c.requires.nothing (turns there on))

pub arguments::resolve-resolve_variable-requires : goal.arguments::resolve-resolve_variable-requires
arguments::resolve-resolve_variable-requires g t c = view_variable_in c.args.inline.now c.in-VariableReference.id c.in-VariableReference.is

pub expression::choose_variant-returns-clause-goes : goal.expression::choose_variant-returns-clause-goes
unfolding state_parts
expression::choose_variant-returns-clause-goes g t c = λ k n.
    let content = g.C.FluentType.content in
    let contents = g.W.Write.contents in
    let a = state g.B.Context.meant g.B.Context.is_plain g.F.FluentFunction.answer content c.args.scope.now in
    let out = c.args.out.now in
    let work = c.args.work.now in
    let values = values_view content (values_in work) in
    let v = viewed out a values in
    let chosen = chosen_ahead (variants_view c.args.variants.now) (value_view content c.args.value.now) (chosen_view c.choose-chosen.result) a.bundle (k a.bundle) v c.choose-chosen.ensures.chose in
    went_on (turns chosen (begun _ n (outside contents out) a)) (c.write_chosen.ensures.goes k n)

pub expression::write_chosen-returns-in-Some-only_text-clause-goes : goal.expression::write_chosen-returns-in-Some-only_text-clause-goes
unfolding state_parts
expression::write_chosen-returns-in-Some-only_text-clause-goes g t c = λ k n.
    let content = g.C.FluentType.content in
    let contents = g.W.Write.contents in
    let a = state g.B.Context.meant g.B.Context.is_plain g.F.FluentFunction.answer content c.args.scope.now in
    let out = c.args.out.now in
    let work = c.args.work.now in
    let values = values_view content (values_in work) in
    let v = viewed out a values in
    let d = state g.B.Context.meant g.B.Context.is_plain g.F.FluentFunction.answer content c.write_variant_text.new.scope in
    let way = turns (ap (λ o. parts.chosen (chosen_view o) a.bundle (k a.bundle) v) c.in-Some.is) (begun _ n (outside contents out) a) in
    none_waits content d.bundle (frames_in work) (k d.bundle) (λ u. None) (viewed c.write_variant_text.new.out d values) c.requires.nothing (went_on way (c.write_variant_text.ensures.goes k values n))

pub expression::write_chosen-returns-in_err-write_elements-in-Some-clause-goes : goal.expression::write_chosen-returns-in_err-write_elements-in-Some-clause-goes
unfolding state_parts
expression::write_chosen-returns-in_err-write_elements-in-Some-clause-goes g t c = λ k n.
    let content = g.C.FluentType.content in
    let contents = g.W.Write.contents in
    let a = state g.B.Context.meant g.B.Context.is_plain g.F.FluentFunction.answer content c.args.scope.now in
    let out = c.args.out.now in
    let work = c.args.work.now in
    let values = values_view content (values_in work) in
    let v = viewed out a values in
    let p = c.in-Some.chosen.pattern.now in
    let one = has_one (pattern_view p) in
    let put = c.begin-begun.result in
    let b = state g.B.Context.meant g.B.Context.is_plain g.F.FluentFunction.answer content c.begin-begun.new.self in
    let next : Bundle Text → Following = λ x given u. k x None (record u { path = path_left put u.path }) in
    let way = turns (ap (λ p. parts.elements one p b.bundle (next b.bundle) (viewed out b values)) (view_pattern p))
    (waits (suc n) (omega arith) (from_there (ap (λ o. parts.chosen (chosen_view o) a.bundle (k a.bundle) v) c.in-Some.is) (begins_pattern n (outside contents out) k (kept_of out) values one refl c.begin-begun.ensures))) in
    let went = c.write_elements.ensures.goes next (suc n) in
    halts c.in_err-write_elements-in-Some.was (search rules) way went

pub expression::write_chosen-returns-then-is_done-clause-goes : goal.expression::write_chosen-returns-then-is_done-clause-goes
unfolding state_parts
expression::write_chosen-returns-then-is_done-clause-goes g t c = λ k n.
    let content = g.C.FluentType.content in
    let contents = g.W.Write.contents in
    let a = state g.B.Context.meant g.B.Context.is_plain g.F.FluentFunction.answer content c.args.scope.now in
    let out = c.args.out.now in
    let work = c.args.work.now in
    let values = values_view content (values_in work) in
    let v = viewed out a values in
    let p = c.in-Some.chosen.pattern.now in
    let one = has_one (pattern_view p) in
    let put = c.begin-begun.result in
    let b = state g.B.Context.meant g.B.Context.is_plain g.F.FluentFunction.answer content c.begin-begun.new.self in
    let next : Bundle Text → Following = λ x given u. k x None (record u { path = path_left put u.path }) in
    let way = turns (ap (λ p. parts.elements one p b.bundle (next b.bundle) (viewed out b values)) (view_pattern p))
    (waits (suc n) (omega arith) (from_there (ap (λ o. parts.chosen (chosen_view o) a.bundle (k a.bundle) v) c.in-Some.is) (begins_pattern n (outside contents out) k (kept_of out) values one refl c.begin-begun.ensures))) in
    let went = c.write_elements.ensures.goes next (suc n) in
    let d = state g.B.Context.meant g.B.Context.is_plain g.F.FluentFunction.answer content c.write_elements.new.scope in
    let off = c.write_elements.new.work in
    let last = viewed c.write_elements.new.out d (values_view content (values_in off)) in
    let there = goes c.in_ok-write_elements-in-Some.was way went in
    let none = c.is_done.ensures.0 c.if-is_done.true in
    let here = with_fewer n (omega arith) (is_done content d.bundle (frames_in off) (next d.bundle) None last none there) in
    let e = c.leave.ensures.elsewhere in
    let f = state g.B.Context.meant g.B.Context.is_plain g.F.FluentFunction.answer content c.leave.new.self in
    let at : At = λ x env path budget. k x None (record { kept = last.kept; budget = budget; environment = env; path = path; values = last.values }) in
    let left = turns (moves d f at d.environment _ e.stays.bundle e.environment (path_is put c.leave.ensures) e.budget) (passes (happened_as (outside contents c.write_elements.new.out) e.errors e.budget c.leave.ensures.tally e.stays) here) in
    all_done content f.bundle (frames_in off) (k f.bundle) (λ x. None) (viewed c.write_elements.new.out f (values_view content (values_in off))) refl none left

pub expression::write_chosen-returns-else-is_done-clause-goes : goal.expression::write_chosen-returns-else-is_done-clause-goes
unfolding state_parts
expression::write_chosen-returns-else-is_done-clause-goes g t c = λ k n.
    let content = g.C.FluentType.content in
    let contents = g.W.Write.contents in
    let a = state g.B.Context.meant g.B.Context.is_plain g.F.FluentFunction.answer content c.args.scope.now in
    let out = c.args.out.now in
    let work = c.args.work.now in
    let values = values_view content (values_in work) in
    let v = viewed out a values in
    let p = c.in-Some.chosen.pattern.now in
    let one = has_one (pattern_view p) in
    let put = c.begin-begun.result in
    let b = state g.B.Context.meant g.B.Context.is_plain g.F.FluentFunction.answer content c.begin-begun.new.self in
    let next : Bundle Text → Following = λ x given u. k x None (record u { path = path_left put u.path }) in
    let way = turns (ap (λ p. parts.elements one p b.bundle (next b.bundle) (viewed out b values)) (view_pattern p))
    (waits (suc n) (omega arith) (from_there (ap (λ o. parts.chosen (chosen_view o) a.bundle (k a.bundle) v) c.in-Some.is) (begins_pattern n (outside contents out) k (kept_of out) values one refl c.begin-begun.ensures))) in
    let went = c.write_elements.ensures.goes next (suc n) in
    let d = state g.B.Context.meant g.B.Context.is_plain g.F.FluentFunction.answer content c.write_elements.new.scope in
    let off = c.write_elements.new.work in
    let last = viewed c.write_elements.new.out d (values_view content (values_in off)) in
    let there = goes c.in_ok-write_elements-in-Some.was way went in
    put_last n content d.bundle (frames_in off) (frames_in c.wait_leave.new.self) _ (k d.bundle) None last _ _ (ap (λ vs. viewed c.write_elements.new.out d (values_view content vs)) (sym c.wait_leave.ensures.values)) c.wait_leave.ensures.err c.wait_leave.ensures.frames there

pub expression::write_chosen-returns-else-is_done-clause-placed : goal.expression::write_chosen-returns-else-is_done-clause-placed
unfolding state_parts
expression::write_chosen-returns-else-is_done-clause-placed g t c =
    let content = g.C.FluentType.content in
    let d = state g.B.Context.meant g.B.Context.is_plain g.F.FluentFunction.answer content c.write_elements.new.scope in
    placed_last d.stored.numbers d.stored.table (frames_in c.write_elements.new.work) (frames_in c.wait_leave.new.self) _ _ c.wait_leave.ensures.frames c.in_ok-write_elements-in-Some.ensures.placed tt

pub expression::write_chosen-returns-in_err-report_no_default-in-None-clause-goes : goal.expression::write_chosen-returns-in_err-report_no_default-in-None-clause-goes
unfolding state_parts
expression::write_chosen-returns-in_err-report_no_default-in-None-clause-goes g t c = λ k n.
    let content = g.C.FluentType.content in
    let contents = g.W.Write.contents in
    let a = state g.B.Context.meant g.B.Context.is_plain g.F.FluentFunction.answer content c.args.scope.now in
    let out = c.args.out.now in
    let work = c.args.work.now in
    let values = values_view content (values_in work) in
    let v = viewed out a values in
    lacks (search rules) (tells_none c.in_err-report_no_default-in-None.was c.report_no_default.ensures.added (begun _ n _ a))

pub expression::write_chosen-returns-in_ok-report_no_default-in-None-clause-goes : goal.expression::write_chosen-returns-in_ok-report_no_default-in-None-clause-goes
unfolding state_parts
expression::write_chosen-returns-in_ok-report_no_default-in-None-clause-goes g t c = λ k n.
    let content = g.C.FluentType.content in
    let contents = g.W.Write.contents in
    let a = state g.B.Context.meant g.B.Context.is_plain g.F.FluentFunction.answer content c.args.scope.now in
    let out = c.args.out.now in
    let work = c.args.work.now in
    let values = values_view content (values_in work) in
    let v = viewed out a values in
    let b = state g.B.Context.meant g.B.Context.is_plain g.F.FluentFunction.answer content c.report_no_default.new.scope in
    let way = turns (ap (λ o. parts.chosen (chosen_view o) a.bundle (k a.bundle) v) c.in-None.is ∙ ap (after (tells (resolver_error missing_default ∷ []))) (puts_nothing (k a.bundle) v)) (begun _ n (outside contents out) a) in
    all_done content b.bundle (frames_in work) (k b.bundle) (λ x. None) (viewed out b values) refl c.requires.nothing (tells_first (λ b env path budget. k b None (record { kept = kept_of out; budget = budget; environment = env; path = path; values = values })) c.in_ok-report_no_default-in-None.was c.report_no_default.ensures.added way)

pub expression::write_expression-returns-then-levels-eq0-clause-goes : goal.expression::write_expression-returns-then-levels-eq0-clause-goes
unfolding state_parts
expression::write_expression-returns-then-levels-eq0-clause-goes g t c = λ k n.
    let content = g.C.FluentType.content in
    let contents = g.W.Write.contents in
    let a = state g.B.Context.meant g.B.Context.is_plain g.F.FluentFunction.answer content c.args.scope.now in
    let out = c.args.out.now in
    let work = c.args.work.now in
    let values = values_view content (values_in work) in
    let v = viewed out a values in
    let paid = none_left c.args.levels n c.if-levels-eq0.true in
    let here = with_fewer (suc n) (omega (arith, paid)) (begun (parts.expression (expression_view c.args.expression.now) a.bundle (k a.bundle) v) (paid_within c.args.levels n) (outside contents out) a) in
    put_last n content a.bundle (frames_in work) (frames_in c.put_off.new.self) _ (k a.bundle) None v _ _ (ap (λ vs. viewed out a (values_view content vs)) (sym c.put_off.ensures.values)) c.put_off.ensures.err c.put_off.ensures.frames
    (is_still content a.bundle (frames_in work) (λ x. parts.expression (expression_view c.args.expression.now) a.bundle (k a.bundle)) None v c.requires.nothing here)

pub expression::write_expression-write_unbraced-requires : goal.expression::write_expression-write_unbraced-requires
unfolding state_parts
expression::write_expression-write_unbraced-requires g t c =
    let a = state g.B.Context.meant g.B.Context.is_plain g.F.FluentFunction.answer g.C.FluentType.content c.args.scope.now in
    let e = expression_view c.args.expression.now in
    let x = inline_view c.in-Inline.inline in
    let is = sym c.innermost-inner.ensures ∙ view_in c.innermost-inner.result.now c.in-Inline.inline c.in-Inline.is in
    let bare = unbraced e x is in
    let placed = placed_as a.stored.numbers (in_expression e) (in_inline x) c.args.cursor (sym (refers_same e) ∙ ap in_expression is) c.requires.placed in
    λ κs h. (falls_to c.decreases (omega (arith, c.if-levels-eq0.false)), (h.0, (h.1.0, (h.1.1.0, (h.1.1.1, (bare, (placed, c.requires.nothing)))))))

pub expression::write_expression-write_select-requires : goal.expression::write_expression-write_select-requires
unfolding state_parts
expression::write_expression-write_select-requires g t c =
    let a = state g.B.Context.meant g.B.Context.is_plain g.F.FluentFunction.answer g.C.FluentType.content c.args.scope.now in
    let e = expression_view c.args.expression.now in
    let i = expression_view c.innermost-inner.result.now in
    let placed = placed_as a.stored.numbers (in_expression e) (in_expression i) c.args.cursor (sym (refers_same e) ∙ ap in_expression (sym c.innermost-inner.ensures)) c.requires.placed in
    let is_select = subst parts.IsSelect (sym (view_select_in c.innermost-inner.result.now _ _ c.in-Select.is)) tt in
    λ κs h. (falls_to c.decreases (omega (arith, c.if-levels-eq0.false)), (h.0, (h.1.0, (h.1.1.0, (h.1.1.1, (is_select, (placed, c.requires.nothing)))))))

pub expression::write_expression-returns-in-Inline-clause-goes : goal.expression::write_expression-returns-in-Inline-clause-goes
unfolding state_parts
expression::write_expression-returns-in-Inline-clause-goes g t c = λ k n.
    let content = g.C.FluentType.content in
    let contents = g.W.Write.contents in
    let a = state g.B.Context.meant g.B.Context.is_plain g.F.FluentFunction.answer content c.args.scope.now in
    let out = c.args.out.now in
    let work = c.args.work.now in
    let values = values_view content (values_in work) in
    let v = viewed out a values in
    let x = inline_view c.in-Inline.inline in
    let is = sym c.innermost-inner.ensures ∙ view_in c.innermost-inner.result.now c.in-Inline.inline c.in-Inline.is in
    let way = turns (ahead_same (expression_view c.args.expression.now) (inline x) a.bundle (k a.bundle) v is ∙ inline_ahead x a.bundle (k a.bundle) v) (begun _ (paid_within c.args.levels n) (outside contents out) a) in
    went_on (with_fewer n (at_least c.args.levels n) way) (c.write_unbraced.ensures.goes k n)

pub expression::write_expression-returns-in-Select-clause-goes : goal.expression::write_expression-returns-in-Select-clause-goes
unfolding state_parts
expression::write_expression-returns-in-Select-clause-goes g t c = λ k n.
    let content = g.C.FluentType.content in
    let contents = g.W.Write.contents in
    let a = state g.B.Context.meant g.B.Context.is_plain g.F.FluentFunction.answer content c.args.scope.now in
    let out = c.args.out.now in
    let work = c.args.work.now in
    let values = values_view content (values_in work) in
    let v = viewed out a values in
    let i = expression_view c.innermost-inner.result.now in
    let way = turns (ahead_same (expression_view c.args.expression.now) i a.bundle (k a.bundle) v (sym c.innermost-inner.ensures)) (begun _ (paid_within c.args.levels n) (outside contents out) a) in
    went_on (with_fewer n (at_least c.args.levels n) way) (c.write_select.ensures.goes k n)

pub expression::write_inline-returns-in-Placeable-clause-goes : goal.expression::write_inline-returns-in-Placeable-clause-goes
unfolding state_parts
expression::write_inline-returns-in-Placeable-clause-goes g t c = λ k n.
    let content = g.C.FluentType.content in
    let contents = g.W.Write.contents in
    let a = state g.B.Context.meant g.B.Context.is_plain g.F.FluentFunction.answer content c.args.scope.now in
    let out = c.args.out.now in
    let work = c.args.work.now in
    let values = values_view content (values_in work) in
    let v = viewed out a values in
    let is = view_nested_in c.args.inline.now c.in-Placeable.expression c.in-Placeable.is ∙ ap (λ e. nested (expression_view e)) (sym c.deref.ensures) in
    went_on (turns (ap (λ x. parts.written x a.bundle (k a.bundle) v) is ∙ nested_ahead (expression_view c.deref.result.now) a.bundle (k a.bundle) v) (begun _ (paid_within c.args.levels n) (outside contents out) a)) (c.write_expression.ensures.goes k n)

pub expression::write_inline-returns-in_default : goal.expression::write_inline-returns-in_default
unfolding state_parts
expression::write_inline-returns-in_default g t c =
    let content = g.C.FluentType.content in
    let contents = g.W.Write.contents in
    let a = state g.B.Context.meant g.B.Context.is_plain g.F.FluentFunction.answer content c.args.scope.now in
    let out = c.args.out.now in
    let work = c.args.work.now in
    let values = values_view content (values_in work) in
    let v = viewed out a values in
    record { goes = λ k n. went_on (with_fewer n (at_least c.args.levels n) (begun _ (paid_within c.args.levels n) (outside contents out) a)) (c.write_unbraced.ensures.goes k n); placed = c.write_unbraced.ensures.placed }

pub expression::write_select-returns-in_err-chosen-in-VariableReference-clause-goes : goal.expression::write_select-returns-in_err-chosen-in-VariableReference-clause-goes
unfolding state_parts
expression::write_select-returns-in_err-chosen-in-VariableReference-clause-goes g t c = λ k n.
    let content = g.C.FluentType.content in
    let contents = g.W.Write.contents in
    let a = state g.B.Context.meant g.B.Context.is_plain g.F.FluentFunction.answer content c.args.scope.now in
    let out = c.args.out.now in
    let work = c.args.work.now in
    let values = values_view content (values_in work) in
    let v = viewed out a values in
    lacks (search rules) (tells_none c.in_err-chosen-in-VariableReference.was c.choose_by_variable.ensures.chose.0 (begun _ n _ a))

pub expression::write_select-returns-in_ok-chosen-in-VariableReference-clause-goes : goal.expression::write_select-returns-in_ok-chosen-in-VariableReference-clause-goes
unfolding state_parts
expression::write_select-returns-in_ok-chosen-in-VariableReference-clause-goes g t c = λ k n.
    let content = g.C.FluentType.content in
    let contents = g.W.Write.contents in
    let a = state g.B.Context.meant g.B.Context.is_plain g.F.FluentFunction.answer content c.args.scope.now in
    let out = c.args.out.now in
    let work = c.args.work.now in
    let values = values_view content (values_in work) in
    let v = viewed out a values in
    let x = inline_view c.in-Select.selector in
    let vs = variants_view c.deref.result.now in
    let o = chosen_view c.in_ok-chosen-in-VariableReference.chosen in
    let select_is = view_select_in c.args.expression.now c.in-Select.selector c.in-Select.variants c.in-Select.is in
    let is = view_variable_in c.in-Select.selector c.in-VariableReference.id c.in-VariableReference.is in
    let chose = c.choose_by_variable.ensures.chose in
    let way = select_chosen x c.in-VariableReference.id.name.now vs o k (kept_of out) values is c.in_ok-chosen-in-VariableReference.was chose.0 (ok_value _ _ _ c.in_ok-chosen-in-VariableReference.was chose.1) (turns (ap (λ y. parts.expression y a.bundle (k a.bundle) v) select_is ∙ ap (λ ys. parts.expression (select x (variants_view ys)) a.bundle (k a.bundle) v) (sym c.deref.ensures.value)) (begun _ n (outside contents out) a)) in
    went_on way (c.write_chosen.ensures.goes k n)

pub expression::write_select-returns-in_default : goal.expression::write_select-returns-in_default
unfolding state_parts
expression::write_select-returns-in_default g t c =
    let content = g.C.FluentType.content in
    let contents = g.W.Write.contents in
    let a = state g.B.Context.meant g.B.Context.is_plain g.F.FluentFunction.answer content c.args.scope.now in
    let out = c.args.out.now in
    let work = c.args.work.now in
    let values = values_view content (values_in work) in
    let v = viewed out a values in
    let select_is = view_select_in c.args.expression.now c.in-Select.selector c.in-Select.variants c.in-Select.is in
    record { goes = λ k n. went_on (turns (ap (λ y. parts.expression y a.bundle (k a.bundle) v) select_is) (begun _ n (outside contents out) a)) (c.write_by_value.ensures.goes k n); placed = c.write_by_value.ensures.placed }

pub expression::write_by_value-resolve-requires : goal.expression::write_by_value-resolve-requires
unfolding state_parts
expression::write_by_value-resolve-requires g t c =
    let a = state g.B.Context.meant g.B.Context.is_plain g.F.FluentFunction.answer g.C.FluentType.content c.args.scope.now in
    let x = inline_view c.args.selector.now in
    let vs = variants_view c.args.variants.now.items in
    let placed = placed_prefix a.stored.numbers (in_expression (select x vs)) (in_inline x) (in_variants vs) c.args.cursor refl c.requires.placed in
    λ κs h. (falls_to c.decreases (omega arith), (h.0, (h.1.0, (h.1.1.0, (h.1.1.1, (placed, c.requires.nothing))))))

pub expression::write_by_value-returns-in_err-value-clause-goes : goal.expression::write_by_value-returns-in_err-value-clause-goes
unfolding state_parts
expression::write_by_value-returns-in_err-value-clause-goes g t c = λ k n.
    let content = g.C.FluentType.content in
    let contents = g.W.Write.contents in
    let a = state g.B.Context.meant g.B.Context.is_plain g.F.FluentFunction.answer content c.args.scope.now in
    let out = c.args.out.now in
    let work = c.args.work.now in
    let values = values_view content (values_in work) in
    let v = viewed out a values in
    let x = inline_view c.args.selector.now in
    let vs = variants_view c.args.variants.now.items in
    let next : Bundle Text → Following = λ b given. parts.matched vs (selector_value given) b (k b) in
    let way = waits (paid_within c.args.levels (suc n)) (omega (arith, at_most c.args.levels (suc n))) (turns (select_ahead x vs a.bundle (k a.bundle) v) (begun _ n (outside contents out) a)) in
    halts c.in_err-value.was (search rules) way (c.resolve.ensures.goes next (suc n))

pub expression::write_by_value-choose_variant-requires : goal.expression::write_by_value-choose_variant-requires
unfolding state_parts
expression::write_by_value-choose_variant-requires g t c =
    let content = g.C.FluentType.content in
    let contents = g.W.Write.contents in
    let a = state g.B.Context.meant g.B.Context.is_plain g.F.FluentFunction.answer content c.args.scope.now in
    let out = c.args.out.now in
    let work = c.args.work.now in
    let values = values_view content (values_in work) in
    let v = viewed out a values in
    let x = inline_view c.args.selector.now in
    let vs = variants_view c.args.variants.now.items in
    let next : (Bundle Text → Following) → Bundle Text → Following = λ k b given. parts.matched vs (selector_value given) b (k b) in
    let way = λ (k : Bundle Text → Following) (n : ℕ). waits (paid_within c.args.levels (suc n)) (omega (arith, at_most c.args.levels (suc n))) (turns (select_ahead x vs a.bundle (k a.bundle) v) (begun _ n (outside contents out) a)) in
    let b = state g.B.Context.meant g.B.Context.is_plain g.F.FluentFunction.answer content c.resolve.new.scope in
    let off = c.resolve.new.work in
    let last = viewed c.resolve.new.out b (values_view content (values_in off)) in
    let there = λ (k : Bundle Text → Following) (n : ℕ). goes c.in_ok-value.was (way k n) (c.resolve.ensures.goes (next k) (suc n)) in
    let stored = (there no_more 0).happened.stays.stored in
    let cursor = placed_still a b (in_variants vs) c.passed_inline-after.result stored (placed_back a.stored.numbers (in_expression (select x vs)) (in_inline x) (in_variants vs) c.args.cursor c.passed_inline-after.result refl c.passed_inline-after.ensures c.requires.placed) in
    let here = placed_as b.stored.numbers (in_variants vs) (in_variants (variants_view c.deref.result.now)) c.passed_inline-after.result (ap (λ ys. in_variants (variants_view ys)) (sym c.deref.ensures.value)) cursor in
    λ κs h. (falls_to c.decreases (omega arith), (h.0, (h.1.0, (h.1.1.0, (h.1.1.1, (here, whole_if c.in_ok-value.field-0 c.in-Some.value off c.in-Some.is c.in_ok-value.ensures.whole))))))

pub expression::write_by_value-returns-in-Some : goal.expression::write_by_value-returns-in-Some
unfolding state_parts
expression::write_by_value-returns-in-Some g t c =
    let content = g.C.FluentType.content in
    let contents = g.W.Write.contents in
    let a = state g.B.Context.meant g.B.Context.is_plain g.F.FluentFunction.answer content c.args.scope.now in
    let out = c.args.out.now in
    let work = c.args.work.now in
    let values = values_view content (values_in work) in
    let v = viewed out a values in
    let x = inline_view c.args.selector.now in
    let vs = variants_view c.args.variants.now.items in
    let next : (Bundle Text → Following) → Bundle Text → Following = λ k b given. parts.matched vs (selector_value given) b (k b) in
    let way = λ (k : Bundle Text → Following) (n : ℕ). waits (paid_within c.args.levels (suc n)) (omega (arith, at_most c.args.levels (suc n))) (turns (select_ahead x vs a.bundle (k a.bundle) v) (begun _ n (outside contents out) a)) in
    let b = state g.B.Context.meant g.B.Context.is_plain g.F.FluentFunction.answer content c.resolve.new.scope in
    let off = c.resolve.new.work in
    let last = viewed c.resolve.new.out b (values_view content (values_in off)) in
    let there = λ (k : Bundle Text → Following) (n : ℕ). goes c.in_ok-value.was (way k n) (c.resolve.ensures.goes (next k) (suc n)) in
    let none = whole_if c.in_ok-value.field-0 c.in-Some.value off c.in-Some.is c.in_ok-value.ensures.whole in
    let o = c.in_ok-value.field-0 in
    record {
      goes = λ k n.
          let done = is_done content b.bundle (frames_in off) (next k b.bundle) (made content o) last none (there k n) in
          let here = turns (ap (λ o. parts.matched vs (selector_value (made content o)) b.bundle (k b.bundle) last) c.in-Some.is ∙ ap (λ ys. parts.matched (variants_view ys) (value_view content c.in-Some.value) b.bundle (k b.bundle) last) (sym c.deref.ensures.value)) done in
          went_on (with_fewer n (omega arith) here) (c.choose_variant.ensures.goes k n);
      placed = c.choose_variant.ensures.placed;
    }

pub expression::write_by_value-returns-in-None : goal.expression::write_by_value-returns-in-None
unfolding state_parts
expression::write_by_value-returns-in-None g t c =
    let content = g.C.FluentType.content in
    let contents = g.W.Write.contents in
    let a = state g.B.Context.meant g.B.Context.is_plain g.F.FluentFunction.answer content c.args.scope.now in
    let out = c.args.out.now in
    let work = c.args.work.now in
    let values = values_view content (values_in work) in
    let v = viewed out a values in
    let x = inline_view c.args.selector.now in
    let vs = variants_view c.args.variants.now.items in
    let next : (Bundle Text → Following) → Bundle Text → Following = λ k b given. parts.matched vs (selector_value given) b (k b) in
    let way = λ (k : Bundle Text → Following) (n : ℕ). waits (paid_within c.args.levels (suc n)) (omega (arith, at_most c.args.levels (suc n))) (turns (select_ahead x vs a.bundle (k a.bundle) v) (begun _ n (outside contents out) a)) in
    let b = state g.B.Context.meant g.B.Context.is_plain g.F.FluentFunction.answer content c.resolve.new.scope in
    let off = c.resolve.new.work in
    let last = viewed c.resolve.new.out b (values_view content (values_in off)) in
    let there = λ (k : Bundle Text → Following) (n : ℕ). goes c.in_ok-value.was (way k n) (c.resolve.ensures.goes (next k) (suc n)) in
    let stored = (there no_more 0).happened.stays.stored in
    let cursor = placed_still a b (in_variants vs) c.passed_inline-after.result stored (placed_back a.stored.numbers (in_expression (select x vs)) (in_inline x) (in_variants vs) c.args.cursor c.passed_inline-after.result refl c.passed_inline-after.ensures c.requires.placed) in
    record {
      goes = λ k n.
          let here = turns (ap (λ o. before content b.bundle (frames_in off) (next k b.bundle) (made content o) last) c.in-None.is) (there k n) in
          put_last n content b.bundle (frames_in off) (frames_in c.wait_choose.new.self) _ (k b.bundle) None last _ _ (ap (λ vs. viewed c.resolve.new.out b (values_view content vs)) (sym c.wait_choose.ensures.values)) c.wait_choose.ensures.err c.wait_choose.ensures.frames here;
      placed = placed_last b.stored.numbers b.stored.table (frames_in off) (frames_in c.wait_choose.new.self) _ _ c.wait_choose.ensures.frames c.in_ok-value.ensures.placed cursor;
    }

pub inline_expression::go-returns-in_err-report_cycle-clause-goes : goal.inline_expression::go-returns-in_err-report_cycle-clause-goes
unfolding state_parts
inline_expression::go-returns-in_err-report_cycle-clause-goes g t c = λ k n.
    let content = g.C.FluentType.content in
    let contents = g.W.Write.contents in
    let a = state g.B.Context.meant g.B.Context.is_plain g.F.FluentFunction.answer content c.args.scope.now in
    let out = c.args.out.now in
    let work = c.args.work.now in
    let values = values_view content (values_in work) in
    let v = viewed out a values in
    let x = inline_view c.args.inline.now in
    let p = pattern_view c.args.target.pattern.now in
    let way = turns (go_cyclic x p a.bundle (k a.bundle) v (sym c.is_on.ensures ∙ c.if-is_on.true)) (begun _ n (outside contents out) a) in
    lacks (search rules) (tells_none c.in_err-report_cycle.was c.report_cycle.ensures.added way)

pub inline_expression::go-returns-then-is_on-clause-goes : goal.inline_expression::go-returns-then-is_on-clause-goes
unfolding state_parts
inline_expression::go-returns-then-is_on-clause-goes g t c = λ k n.
    let content = g.C.FluentType.content in
    let contents = g.W.Write.contents in
    let a = state g.B.Context.meant g.B.Context.is_plain g.F.FluentFunction.answer content c.args.scope.now in
    let out = c.args.out.now in
    let work = c.args.work.now in
    let values = values_view content (values_in work) in
    let v = viewed out a values in
    let x = inline_view c.args.inline.now in
    let p = pattern_view c.args.target.pattern.now in
    let way = turns (go_cyclic x p a.bundle (k a.bundle) v (sym c.is_on.ensures ∙ c.if-is_on.true)) (begun _ n (outside contents out) a) in
    let b = state g.B.Context.meant g.B.Context.is_plain g.F.FluentFunction.answer content c.report_cycle.new.scope in
    let last = c.put_in_braces.new.out in
    none_waits content b.bundle (frames_in work) (k b.bundle) (λ u. None) (viewed last b values) c.requires.nothing
    (laid_last _ (λ u. ap (λ m. k m None (viewed last b values)) (sym c.report_cycle.ensures.added.stays.bundle))
    (laid contents out last a b values a.bundle (k a.bundle) (resolver_error cyclic ∷ []) (in_braces (fallback x)) (did_tell_and_put c.in_ok-report_cycle.was c.report_cycle.ensures.added c.put_in_braces.ensures.took) way))

pub inline_expression::go-returns-in-Some-clause-goes : goal.inline_expression::go-returns-in-Some-clause-goes
unfolding state_parts
inline_expression::go-returns-in-Some-clause-goes g t c = λ k n.
    let content = g.C.FluentType.content in
    let contents = g.W.Write.contents in
    let a = state g.B.Context.meant g.B.Context.is_plain g.F.FluentFunction.answer content c.args.scope.now in
    let out = c.args.out.now in
    let work = c.args.work.now in
    let values = values_view content (values_in work) in
    let v = viewed out a values in
    let x = inline_view c.args.inline.now in
    let p = pattern_view c.args.target.pattern.now in
    let d = state g.B.Context.meant g.B.Context.is_plain g.F.FluentFunction.answer content c.write_only_text.new.scope in
    let is = sole_is p c.in-Some.text.now (sym c.only_text.ensures ∙ ap (option_map (λ t. t.now)) c.in-Some.is) in
    let way = turns (goes_visited c.events_are_the_run.ensures.by_itself x p a.bundle (k a.bundle) v (sym c.is_on.ensures ∙ c.if-is_on.false) ∙ ap (λ q. parts.visited q a.bundle (k a.bundle) v) is) (begun _ n (outside contents out) a) in
    none_waits content d.bundle (frames_in work) (k d.bundle) (λ u. None) (viewed c.write_only_text.new.out d values) c.requires.nothing (went_on way (c.write_only_text.ensures.goes k values n))

pub inline_expression::go-returns-in_err-enter-clause-goes : goal.inline_expression::go-returns-in_err-enter-clause-goes
unfolding state_parts
inline_expression::go-returns-in_err-enter-clause-goes g t c = λ k n.
    let content = g.C.FluentType.content in
    let contents = g.W.Write.contents in
    let a = state g.B.Context.meant g.B.Context.is_plain g.F.FluentFunction.answer content c.args.scope.now in
    let out = c.args.out.now in
    let work = c.args.work.now in
    let values = values_view content (values_in work) in
    let v = viewed out a values in
    let x = inline_view c.args.inline.now in
    let p = pattern_view c.args.target.pattern.now in
    lacks (search rules) (not_entered c.in_err-enter.was c.enter.ensures (begun _ n (outside contents out) a))

pub inline_expression::go-returns-in_err-write_elements-clause-goes : goal.inline_expression::go-returns-in_err-write_elements-clause-goes
unfolding state_parts
inline_expression::go-returns-in_err-write_elements-clause-goes g t c = λ k n.
    let content = g.C.FluentType.content in
    let contents = g.W.Write.contents in
    let a = state g.B.Context.meant g.B.Context.is_plain g.F.FluentFunction.answer content c.args.scope.now in
    let out = c.args.out.now in
    let work = c.args.work.now in
    let values = values_view content (values_in work) in
    let v = viewed out a values in
    let x = inline_view c.args.inline.now in
    let p = pattern_view c.args.target.pattern.now in
    let b = state g.B.Context.meant g.B.Context.is_plain g.F.FluentFunction.answer content c.enter.new.self in
    let one = has_one p in
    let next : Bundle Text → Following = λ m given u. k m None (record u { path = front u.path }) in
    let way = goes_into n (outside contents out) x k (kept_of out) values c.events_are_the_run.ensures.by_itself (sym c.is_on.ensures ∙ c.if-is_on.false) c.in_ok-enter.was c.enter.ensures in
    let here = waits (suc n) (omega arith) (turns (ap (λ q. begins (parts.elements one q b.bundle (next b.bundle) (viewed out b values))) (view_pattern c.args.target.pattern.now)) way) in
    halts c.in_err-write_elements.was (search rules) here (c.write_elements.ensures.goes next (suc n))

pub inline_expression::go-returns-then-is_done-clause-goes : goal.inline_expression::go-returns-then-is_done-clause-goes
unfolding state_parts
inline_expression::go-returns-then-is_done-clause-goes g t c = λ k n.
    let content = g.C.FluentType.content in
    let contents = g.W.Write.contents in
    let a = state g.B.Context.meant g.B.Context.is_plain g.F.FluentFunction.answer content c.args.scope.now in
    let out = c.args.out.now in
    let work = c.args.work.now in
    let values = values_view content (values_in work) in
    let v = viewed out a values in
    let x = inline_view c.args.inline.now in
    let p = pattern_view c.args.target.pattern.now in
    let b = state g.B.Context.meant g.B.Context.is_plain g.F.FluentFunction.answer content c.enter.new.self in
    let one = has_one p in
    let next : Bundle Text → Following = λ m given u. k m None (record u { path = front u.path }) in
    let way = goes_into n (outside contents out) x k (kept_of out) values c.events_are_the_run.ensures.by_itself (sym c.is_on.ensures ∙ c.if-is_on.false) c.in_ok-enter.was c.enter.ensures in
    let here = waits (suc n) (omega arith) (turns (ap (λ q. begins (parts.elements one q b.bundle (next b.bundle) (viewed out b values))) (view_pattern c.args.target.pattern.now)) way) in
    let d = state g.B.Context.meant g.B.Context.is_plain g.F.FluentFunction.answer content c.write_elements.new.scope in
    let last = c.write_elements.new.out in
    let work1 = c.write_elements.new.work in
    let frames = (frames_in work1) in
    let there = goes c.in_ok-write_elements.was here (c.write_elements.ensures.goes next (suc n)) in
    let nothing : frames ≡ [] = c.is_done.ensures.0 c.if-is_done.true in
    let e = state g.B.Context.meant g.B.Context.is_plain g.F.FluentFunction.answer content c.leave.new.self in
    let values1 = values_view content (values_in work1) in
    let rest : At = λ m env path budget. k m None (record { kept = kept_of last; budget = budget; environment = env; path = path; values = values1 }) in
    let left = c.leave.ensures.elsewhere in
    let done = is_done content d.bundle frames (next d.bundle) None (viewed last d values1) nothing there in
    let away = turns (moves d e rest d.environment _ left.stays.bundle left.environment (path_is true c.leave.ensures) left.budget)
    (passes (happened_as (outside contents last) left.errors left.budget c.leave.ensures.tally left.stays) (with_fewer n (omega arith) done)) in
    all_done content e.bundle frames (k e.bundle) (λ u. None) (viewed last e values1) refl nothing away

pub inline_expression::go-returns-else-is_done-clause-goes : goal.inline_expression::go-returns-else-is_done-clause-goes
unfolding state_parts
inline_expression::go-returns-else-is_done-clause-goes g t c = λ k n.
    let content = g.C.FluentType.content in
    let contents = g.W.Write.contents in
    let a = state g.B.Context.meant g.B.Context.is_plain g.F.FluentFunction.answer content c.args.scope.now in
    let out = c.args.out.now in
    let work = c.args.work.now in
    let values = values_view content (values_in work) in
    let v = viewed out a values in
    let x = inline_view c.args.inline.now in
    let p = pattern_view c.args.target.pattern.now in
    let b = state g.B.Context.meant g.B.Context.is_plain g.F.FluentFunction.answer content c.enter.new.self in
    let one = has_one p in
    let next : Bundle Text → Following = λ m given u. k m None (record u { path = front u.path }) in
    let way = goes_into n (outside contents out) x k (kept_of out) values c.events_are_the_run.ensures.by_itself (sym c.is_on.ensures ∙ c.if-is_on.false) c.in_ok-enter.was c.enter.ensures in
    let here = waits (suc n) (omega arith) (turns (ap (λ q. begins (parts.elements one q b.bundle (next b.bundle) (viewed out b values))) (view_pattern c.args.target.pattern.now)) way) in
    let d = state g.B.Context.meant g.B.Context.is_plain g.F.FluentFunction.answer content c.write_elements.new.scope in
    let last = c.write_elements.new.out in
    let work1 = c.write_elements.new.work in
    let frames = (frames_in work1) in
    let there = goes c.in_ok-write_elements.was here (c.write_elements.ensures.goes next (suc n)) in
    let gs = (frames_in c.wait_leave.new.self) in
    let values1 = values_view content (values_in work1) in
    put_last n content d.bundle frames gs (put_off.Leave true) (k d.bundle) None (viewed last d values1) _ c.wait_leave.result (ap (λ vs. viewed last d (values_view content vs)) (sym c.wait_leave.ensures.values)) c.wait_leave.ensures.err c.wait_leave.ensures.frames there

pub inline_expression::go-returns-else-is_done-clause-placed : goal.inline_expression::go-returns-else-is_done-clause-placed
unfolding state_parts
inline_expression::go-returns-else-is_done-clause-placed g t c =
    let ids = c.write_elements.new.scope.ids.now in
    placed_last (numbers ids) (table ids) (frames_in c.write_elements.new.work) (frames_in c.wait_leave.new.self) (put_off.Leave true) c.wait_leave.result c.wait_leave.ensures.frames (at_ok c.in_ok-write_elements.was c.write_elements.ensures.placed) tt

pub inline_expression::follow-returns-in_err-report_no_value-in-WithoutValue-clause-goes : goal.inline_expression::follow-returns-in_err-report_no_value-in-WithoutValue-clause-goes
unfolding state_parts
inline_expression::follow-returns-in_err-report_no_value-in-WithoutValue-clause-goes g t c = λ k n.
    let content = g.C.FluentType.content in
    let contents = g.W.Write.contents in
    let a = state g.B.Context.meant g.B.Context.is_plain g.F.FluentFunction.answer content c.args.scope.now in
    let out = c.args.out.now in
    let work = c.args.work.now in
    let values = values_view content (values_in work) in
    let v = viewed out a values in
    let x = inline_view c.args.inline.now in
    let id = c.args.id.now.name.now in
    let t = found_view c.args.found in
    let way = turns (follow_without x id t a.bundle (k a.bundle) v (ap found_view c.in-WithoutValue.is)) (begun _ n (outside contents out) a) in
    lacks (search rules) (tells_none c.in_err-report_no_value-in-WithoutValue.was c.report_no_value.ensures way)

pub inline_expression::follow-returns-in-Unknown-clause-goes : goal.inline_expression::follow-returns-in-Unknown-clause-goes
unfolding state_parts
inline_expression::follow-returns-in-Unknown-clause-goes g t c = λ k n.
    let content = g.C.FluentType.content in
    let contents = g.W.Write.contents in
    let a = state g.B.Context.meant g.B.Context.is_plain g.F.FluentFunction.answer content c.args.scope.now in
    let out = c.args.out.now in
    let work = c.args.work.now in
    let values = values_view content (values_in work) in
    let v = viewed out a values in
    let x = inline_view c.args.inline.now in
    let id = c.args.id.now.name.now in
    let t = found_view c.args.found in
    let way = turns (follow_unknown x id t a.bundle (k a.bundle) v (ap found_view c.in-Unknown.is)) (begun _ n (outside contents out) a) in
    let b = state g.B.Context.meant g.B.Context.is_plain g.F.FluentFunction.answer content c.lose.new.scope in
    let last = c.lose.new.out in
    none_waits content b.bundle (frames_in work) (k b.bundle) (λ u. None) (viewed last b values) c.requires.nothing
    (laid_last _ (λ u. ap (λ m. k m None (viewed last b values)) (sym c.lose.ensures.wrote.happened.stays.bundle))
    (laid contents out last a b values a.bundle (k a.bundle) (lost_of x) (in_braces (fallback x)) c.lose.ensures.wrote way))

pub inline_expression::follow-returns-in_ok-report_no_value-in-WithoutValue-clause-goes : goal.inline_expression::follow-returns-in_ok-report_no_value-in-WithoutValue-clause-goes
unfolding state_parts
inline_expression::follow-returns-in_ok-report_no_value-in-WithoutValue-clause-goes g t c = λ k n.
    let content = g.C.FluentType.content in
    let contents = g.W.Write.contents in
    let a = state g.B.Context.meant g.B.Context.is_plain g.F.FluentFunction.answer content c.args.scope.now in
    let out = c.args.out.now in
    let work = c.args.work.now in
    let values = values_view content (values_in work) in
    let v = viewed out a values in
    let x = inline_view c.args.inline.now in
    let id = c.args.id.now.name.now in
    let t = found_view c.args.found in
    let way = turns (follow_without x id t a.bundle (k a.bundle) v (ap found_view c.in-WithoutValue.is)) (begun _ n (outside contents out) a) in
    let b = state g.B.Context.meant g.B.Context.is_plain g.F.FluentFunction.answer content c.report_no_value.new.scope in
    let last = c.put_id_in_braces.new.out in
    none_waits content b.bundle (frames_in work) (k b.bundle) (λ u. None) (viewed last b values) c.requires.nothing
    (laid_last _ (λ u. ap (λ m. k m None (viewed last b values)) (sym c.report_no_value.ensures.stays.bundle))
    (laid contents out last a b values a.bundle (k a.bundle) (resolver_error (no_value id) ∷ []) (in_braces id) (did_tell_and_put c.in_ok-report_no_value-in-WithoutValue.was c.report_no_value.ensures c.put_id_in_braces.ensures.took) way))

pub inline_expression::follow-returns-in-Pattern-clause-goes : goal.inline_expression::follow-returns-in-Pattern-clause-goes
unfolding state_parts
inline_expression::follow-returns-in-Pattern-clause-goes g t c = λ k n.
    let content = g.C.FluentType.content in
    let contents = g.W.Write.contents in
    let a = state g.B.Context.meant g.B.Context.is_plain g.F.FluentFunction.answer content c.args.scope.now in
    let out = c.args.out.now in
    let work = c.args.work.now in
    let values = values_view content (values_in work) in
    let v = viewed out a values in
    let x = inline_view c.args.inline.now in
    let id = c.args.id.now.name.now in
    let t = found_view c.args.found in
    let way = turns (follow_found x id t (content_at c.in-Pattern.target) a.bundle (k a.bundle) v (ap found_view c.in-Pattern.is)) (begun _ n (outside contents out) a) in
    went_on way (c.go.ensures.goes k n)

pub inline_expression::enter_term-returns-in_err-follow-clause-goes : goal.inline_expression::enter_term-returns-in_err-follow-clause-goes
unfolding state_parts
inline_expression::enter_term-returns-in_err-follow-clause-goes g t c = λ k n.
    let content = g.C.FluentType.content in
    let contents = g.W.Write.contents in
    let a = state g.B.Context.meant g.B.Context.is_plain g.F.FluentFunction.answer content c.args.scope.now in
    let out = c.args.out.now in
    let work = c.args.work.now in
    let values = values_view content (values_in work) in
    let v = viewed out a values in
    let x = inline_view c.args.inline.now in
    let id = c.args.id.now.name.now in
    let t = found_view c.args.found in
    let m = locals_view content c.args.locals in
    let env = environment_view content c.replace-outer.new.dest in
    let outer = c.replace-outer.result in
    let next : Bundle Text → Following = λ b given u. k b None (record u { environment = environment_view content outer }) in
    let there : Environment Text → View = λ e. record { kept = kept_of out; budget = a.budget; environment = e; path = a.path; values = values } in
    let same =
    ap begins (enters_term x id t m a.bundle (k a.bundle) v)
    ∙ ap (λ e. begins (parts.follow x id t a.bundle (λ given u. k a.bundle None (record u { environment = environment_view content e })) (there (local m)))) (sym c.replace-outer.ensures.value)
    ∙ ap (λ e. begins (parts.follow x id t a.bundle (next a.bundle) (there (environment_view content e)))) (sym c.replace-outer.ensures.after) in
    let here = looks_in env (waits (suc n) (omega arith) (turns same (begun _ n (outside contents out) a))) in
    halts c.in_err-follow.was (search rules) here (c.follow.ensures.goes next (suc n))

pub inline_expression::enter_term-returns-then-is_done-clause-goes : goal.inline_expression::enter_term-returns-then-is_done-clause-goes
unfolding state_parts
inline_expression::enter_term-returns-then-is_done-clause-goes g t c = λ k n.
    let content = g.C.FluentType.content in
    let contents = g.W.Write.contents in
    let a = state g.B.Context.meant g.B.Context.is_plain g.F.FluentFunction.answer content c.args.scope.now in
    let out = c.args.out.now in
    let work = c.args.work.now in
    let values = values_view content (values_in work) in
    let v = viewed out a values in
    let x = inline_view c.args.inline.now in
    let id = c.args.id.now.name.now in
    let t = found_view c.args.found in
    let m = locals_view content c.args.locals in
    let env = environment_view content c.replace-outer.new.dest in
    let outer = c.replace-outer.result in
    let next : Bundle Text → Following = λ b given u. k b None (record u { environment = environment_view content outer }) in
    let there : Environment Text → View = λ e. record { kept = kept_of out; budget = a.budget; environment = e; path = a.path; values = values } in
    let same =
    ap begins (enters_term x id t m a.bundle (k a.bundle) v)
    ∙ ap (λ e. begins (parts.follow x id t a.bundle (λ given u. k a.bundle None (record u { environment = environment_view content e })) (there (local m)))) (sym c.replace-outer.ensures.value)
    ∙ ap (λ e. begins (parts.follow x id t a.bundle (next a.bundle) (there (environment_view content e)))) (sym c.replace-outer.ensures.after) in
    let here = looks_in env (waits (suc n) (omega arith) (turns same (begun _ n (outside contents out) a))) in
    let d = state g.B.Context.meant g.B.Context.is_plain g.F.FluentFunction.answer content c.follow.new.scope in
    let last = c.follow.new.out in
    let work1 = c.follow.new.work in
    let frames = (frames_in work1) in
    let values1 = values_view content (values_in work1) in
    let along = goes c.in_ok-follow.was here (c.follow.ensures.goes next (suc n)) in
    let nothing : frames ≡ [] = c.is_done.ensures.0 c.if-is_done.true in
    let back = environment_view content c.replace.new.dest in
    let done = is_done content d.bundle frames (next d.bundle) None (viewed last d values1) nothing along in
    let away = looks_in back (with_fewer n (omega arith) (turns (ap (λ e. k d.bundle None (record { kept = kept_of last; budget = d.budget; environment = environment_view content e; path = d.path; values = values1 })) (sym c.replace.ensures.after)) done)) in
    all_done content d.bundle frames (k d.bundle) (λ u. None) (record { kept = kept_of last; budget = d.budget; environment = back; path = d.path; values = values1 }) refl nothing away

pub inline_expression::enter_term-returns-else-is_done-clause-goes : goal.inline_expression::enter_term-returns-else-is_done-clause-goes
unfolding state_parts
inline_expression::enter_term-returns-else-is_done-clause-goes g t c = λ k n.
    let content = g.C.FluentType.content in
    let contents = g.W.Write.contents in
    let a = state g.B.Context.meant g.B.Context.is_plain g.F.FluentFunction.answer content c.args.scope.now in
    let out = c.args.out.now in
    let work = c.args.work.now in
    let values = values_view content (values_in work) in
    let v = viewed out a values in
    let x = inline_view c.args.inline.now in
    let id = c.args.id.now.name.now in
    let t = found_view c.args.found in
    let m = locals_view content c.args.locals in
    let env = environment_view content c.replace-outer.new.dest in
    let outer = c.replace-outer.result in
    let next : Bundle Text → Following = λ b given u. k b None (record u { environment = environment_view content outer }) in
    let there : Environment Text → View = λ e. record { kept = kept_of out; budget = a.budget; environment = e; path = a.path; values = values } in
    let same =
    ap begins (enters_term x id t m a.bundle (k a.bundle) v)
    ∙ ap (λ e. begins (parts.follow x id t a.bundle (λ given u. k a.bundle None (record u { environment = environment_view content e })) (there (local m)))) (sym c.replace-outer.ensures.value)
    ∙ ap (λ e. begins (parts.follow x id t a.bundle (next a.bundle) (there (environment_view content e)))) (sym c.replace-outer.ensures.after) in
    let here = looks_in env (waits (suc n) (omega arith) (turns same (begun _ n (outside contents out) a))) in
    let d = state g.B.Context.meant g.B.Context.is_plain g.F.FluentFunction.answer content c.follow.new.scope in
    let last = c.follow.new.out in
    let work1 = c.follow.new.work in
    let frames = (frames_in work1) in
    let values1 = values_view content (values_in work1) in
    let along = goes c.in_ok-follow.was here (c.follow.ensures.goes next (suc n)) in
    let gs = (frames_in c.wait_outer.new.self) in
    put_last n content d.bundle frames gs (put_off.Outer outer) (k d.bundle) None (viewed last d values1) _ c.wait_outer.result (ap (λ vs. viewed last d (values_view content vs)) (sym c.wait_outer.ensures.values)) c.wait_outer.ensures.err c.wait_outer.ensures.frames along

pub inline_expression::enter_term-returns-else-is_done-clause-placed : goal.inline_expression::enter_term-returns-else-is_done-clause-placed
unfolding state_parts
inline_expression::enter_term-returns-else-is_done-clause-placed g t c =
    let ids = c.follow.new.scope.ids.now in
    placed_last (numbers ids) (table ids) (frames_in c.follow.new.work) (frames_in c.wait_outer.new.self) (put_off.Outer c.replace-outer.result) c.wait_outer.result c.wait_outer.ensures.frames (at_ok c.in_ok-follow.was c.follow.ensures.placed) tt

pub inline_expression::write_found-returns-in-None-clause-goes : goal.inline_expression::write_found-returns-in-None-clause-goes
unfolding state_parts
inline_expression::write_found-returns-in-None-clause-goes g t c = λ k n.
    let content = g.C.FluentType.content in
    let contents = g.W.Write.contents in
    let a = state g.B.Context.meant g.B.Context.is_plain g.F.FluentFunction.answer content c.args.scope.now in
    let out = c.args.out.now in
    let work = c.args.work.now in
    let values = values_view content (values_in work) in
    let v = viewed out a values in
    let x = inline_view c.args.inline.now in
    let id = c.args.id.now.name.now in
    let t = found_view c.args.found in
    let way = begun _ n (outside contents out) a in
    went_on (turns (ap (λ o. parts.term x id t (call_view o) a.bundle (k a.bundle) v) c.in-None.is ∙ term_alone x id t a.bundle (k a.bundle) v) way) (c.enter_term.ensures.goes k n)

pub inline_expression::write_found-returns-then-has_literals_alone-clause-goes : goal.inline_expression::write_found-returns-then-has_literals_alone-clause-goes
unfolding state_parts
inline_expression::write_found-returns-then-has_literals_alone-clause-goes g t c = λ k n.
    let content = g.C.FluentType.content in
    let contents = g.W.Write.contents in
    let a = state g.B.Context.meant g.B.Context.is_plain g.F.FluentFunction.answer content c.args.scope.now in
    let out = c.args.out.now in
    let work = c.args.work.now in
    let values = values_view content (values_in work) in
    let v = viewed out a values in
    let x = inline_view c.args.inline.now in
    let id = c.args.id.now.name.now in
    let t = found_view c.args.found in
    let way = begun _ n (outside contents out) a in
    let args = c.deref-arguments.result.now in
    let l = of_call.out-CallArguments args in
    let same = ap (λ o. parts.term x id t (call_view o) a.bundle (k a.bundle) v) c.in-Some.is ∙ ap (λ y. parts.term x id t (call (arguments_view y)) a.bundle (k a.bundle) v) (sym c.deref-arguments.ensures) ∙ ap (λ y. parts.term x id t (call y) a.bundle (k a.bundle) v) (view_arguments args) in
    went_on (term_literals x id t l.positional.items l.named.items a.bundle (k a.bundle) v (sym c.has_literals_alone.ensures ∙ c.if-has_literals_alone.true) (turns same way)) (c.enter_term-then-has_literals_alone.ensures.goes k n)

pub inline_expression::write_found-returns-else-has_literals_alone-clause-goes : goal.inline_expression::write_found-returns-else-has_literals_alone-clause-goes
unfolding state_parts
inline_expression::write_found-returns-else-has_literals_alone-clause-goes g t c = λ k n.
    let content = g.C.FluentType.content in
    let contents = g.W.Write.contents in
    let a = state g.B.Context.meant g.B.Context.is_plain g.F.FluentFunction.answer content c.args.scope.now in
    let out = c.args.out.now in
    let v = viewed out a (values_view content (values_in c.args.work.now)) in
    let x = inline_view c.args.inline.now in
    let id = c.args.id.now.name.now in
    let t = found_view c.args.found in
    let args = arguments_view c.deref-arguments.result.now in
    let same = ap (λ o. parts.term x id t (call_view o) a.bundle (k a.bundle) v) c.in-Some.is ∙ ap (λ y. parts.term x id t (call (arguments_view y)) a.bundle (k a.bundle) v) (sym c.deref-arguments.ensures) ∙ term_called x id t args a.bundle (k a.bundle) v in
    went_on (starts (turns same (begun _ n (outside contents out) a))) (c.write_with_values.ensures.goes k n)

pub inline_expression::write_with_values-returns-in_err-begin_call-clause-goes : goal.inline_expression::write_with_values-returns-in_err-begin_call-clause-goes
unfolding state_parts
inline_expression::write_with_values-returns-in_err-begin_call-clause-goes g t c = λ k n.
    let content = g.C.FluentType.content in
    let contents = g.W.Write.contents in
    let a = state g.B.Context.meant g.B.Context.is_plain g.F.FluentFunction.answer content c.args.scope.now in
    halts c.in_err-begin_call.was (search rules) (begun _ n (outside contents c.args.out.now) a) (c.begin_call.ensures.goes k n)

pub inline_expression::write_with_values-returns-clause-goes : goal.inline_expression::write_with_values-returns-clause-goes
unfolding state_parts
inline_expression::write_with_values-returns-clause-goes g t c = λ k n.
    let content = g.C.FluentType.content in
    let contents = g.W.Write.contents in
    let a = state g.B.Context.meant g.B.Context.is_plain g.F.FluentFunction.answer content c.args.scope.now in
    let way = begun _ n (outside contents c.args.out.now) a in
    let d = state g.B.Context.meant g.B.Context.is_plain g.F.FluentFunction.answer content c.begin_call.new.scope in
    let last = c.begin_call.new.out in
    let work1 = c.begin_call.new.work in
    let values1 = values_view content (values_in work1) in
    let given = c.in_ok-begin_call.field-0 in
    let none : given ≡ None = ok_value c.begin_call.result given _ c.in_ok-begin_call.was c.begin_call.ensures.given in
    finishes tt _ refl refl (turns (ap (λ o. before content d.bundle (frames_in work1) (k d.bundle) (made content o) (viewed last d values1)) none) (goes c.in_ok-begin_call.was way (c.begin_call.ensures.goes k n)))

pub inline_expression::write_message-returns-in_default : goal.inline_expression::write_message-returns-in_default
inline_expression::write_message-returns-in_default g t c = absurd (no_message c.args.inline.now (λ id a. c.in_default.not-MessageReference id a) c.requires.message)

pub inline_expression::write_message-returns-in-MessageReference-clause-goes : goal.inline_expression::write_message-returns-in-MessageReference-clause-goes
unfolding state_parts
inline_expression::write_message-returns-in-MessageReference-clause-goes g t c = λ k n.
    let content = g.C.FluentType.content in
    let contents = g.W.Write.contents in
    let a = state g.B.Context.meant g.B.Context.is_plain g.F.FluentFunction.answer content c.args.scope.now in
    let out = c.args.out.now in
    let work = c.args.work.now in
    let values = values_view content (values_in work) in
    let v = viewed out a values in
    let x = inline_view c.args.inline.now in
    let way = begun _ n (outside contents out) a in
    let m = c.in-MessageReference.id.name.now in
    let at = attribute_of c.in-MessageReference.attribute in
    let is = view_message_in c.args.inline.now c.in-MessageReference.id c.in-MessageReference.attribute c.in-MessageReference.is in
    let found = c.message-found.ensures.content g.F.FluentFunction.answer in
    let same = ap (λ y. parts.written y a.bundle (k a.bundle) v) is ∙ written_message m at a.bundle (k a.bundle) v ∙ ap (λ t. parts.follow (message m at) m t a.bundle (k a.bundle) v) (sym found) ∙ ap (λ y. parts.follow y m (found_view c.message-found.result) a.bundle (k a.bundle) v) (sym is) in
    went_on (turns same way) (c.follow.ensures.goes k n)

pub inline_expression::write_term-returns-in_default : goal.inline_expression::write_term-returns-in_default
inline_expression::write_term-returns-in_default g t c = absurd (no_term c.args.inline.now (λ id a call. c.in_default.not-TermReference id a call) c.requires.term)

-- it has none
no_arguments : {A : Type 0} (o : Option A) (r : Bool) → is_some o ≡ not r → r ≡ true → o ≡ None
no_arguments None r h is = refl
no_arguments (Some x) r h is = absurd (true≢false (h ∙ ap not is))

pub inline_expression::write_term-returns-in-Some-clause-goes : goal.inline_expression::write_term-returns-in-Some-clause-goes
unfolding state_parts
inline_expression::write_term-returns-in-Some-clause-goes g t c = λ k n.
    let content = g.C.FluentType.content in
    let contents = g.W.Write.contents in
    let a = state g.B.Context.meant g.B.Context.is_plain g.F.FluentFunction.answer content c.args.scope.now in
    let out = c.args.out.now in
    let work = c.args.work.now in
    let values = values_view content (values_in work) in
    let v = viewed out a values in
    let x = inline_view c.args.inline.now in
    let m = c.in-TermReference.id.name.now in
    let at = attribute_of c.in-TermReference.attribute in
    let none : c.in-TermReference.arguments ≡ None = no_arguments c.in-TermReference.arguments c.is_none.result c.is_none.ensures c.if-is_none.true in
    let is = view_term_in c.args.inline.now c.in-TermReference.id c.in-TermReference.attribute c.in-TermReference.arguments c.in-TermReference.is ∙ ap (λ o. term m at (call_view o)) none in
    let found = c.term-found.ensures.content g.F.FluentFunction.answer in
    let text = c.in-Some.text.now in
    let leads = if_some (LeadsToText a x) c.in-Some.is (leads_if_free a x c.term-found.result c.free_text.result (ap (target_of a.bundle) is ∙ sym found) c.free_text.ensures) in
    let d = state g.B.Context.meant g.B.Context.is_plain g.F.FluentFunction.answer content c.write_only_text.new.scope in
    let way = leads_to_text c.events_are_the_run.ensures.by_itself text a.bundle (k a.bundle) v x leads.0 leads.1 (begun _ n (outside contents out) a) in
    none_waits content d.bundle (frames_in work) (k d.bundle) (λ u. None) (viewed c.write_only_text.new.out d values) c.requires.nothing (went_on way (c.write_only_text.ensures.goes k values n))

pub inline_expression::write_term-returns-after-is_none-clause-goes : goal.inline_expression::write_term-returns-after-is_none-clause-goes
unfolding state_parts
inline_expression::write_term-returns-after-is_none-clause-goes g t c = λ k n.
    let content = g.C.FluentType.content in
    let contents = g.W.Write.contents in
    let a = state g.B.Context.meant g.B.Context.is_plain g.F.FluentFunction.answer content c.args.scope.now in
    let out = c.args.out.now in
    let work = c.args.work.now in
    let values = values_view content (values_in work) in
    let v = viewed out a values in
    let x = inline_view c.args.inline.now in
    let way = begun _ n (outside contents out) a in
    let m = c.in-TermReference.id.name.now in
    let args = call_view c.in-TermReference.arguments in
    let at = attribute_of c.in-TermReference.attribute in
    let is = view_term_in c.args.inline.now c.in-TermReference.id c.in-TermReference.attribute c.in-TermReference.arguments c.in-TermReference.is in
    let found = c.term-found.ensures.content g.F.FluentFunction.answer in
    let same = ap (λ y. parts.written y a.bundle (k a.bundle) v) is ∙ written_term m at args a.bundle (k a.bundle) v ∙ ap (λ t. parts.term (term m at args) m t args a.bundle (k a.bundle) v) (sym found) ∙ ap (λ y. parts.term y m (found_view c.term-found.result) args a.bundle (k a.bundle) v) (sym is) in
    went_on (turns same way) (c.write_found.ensures.goes k n)

pub inline_expression::write_term-term-found-requires : goal.inline_expression::write_term-term-found-requires
inline_expression::write_term-term-found-requires g t c =
    let r = c.in-TermReference in
    placed_first (numbers c.args.scope.now.ids.now) _ (a_term r.id.name.now) _ c.args.cursor (ap in_inline (view_term_in c.args.inline.now r.id r.attribute r.arguments r.is)) c.requires.placed

-- nothing is ahead
nowhere : Rest Text
nowhere = record { events = []; parts = 0; values = None }

pub inline_expression::write_unbraced-returns-in-StringLiteral-clause-goes : goal.inline_expression::write_unbraced-returns-in-StringLiteral-clause-goes
unfolding state_parts
inline_expression::write_unbraced-returns-in-StringLiteral-clause-goes g t c = λ k n.
    let content = g.C.FluentType.content in
    let contents = g.W.Write.contents in
    let a = state g.B.Context.meant g.B.Context.is_plain g.F.FluentFunction.answer content c.args.scope.now in
    let out = c.args.out.now in
    let work = c.args.work.now in
    let values = values_view content (values_in work) in
    let v = viewed out a values in
    let d = state g.B.Context.meant g.B.Context.is_plain g.F.FluentFunction.answer content c.put_leaf.new.scope in
    none_waits content d.bundle (frames_in work) (k d.bundle) (λ u. None) (viewed c.put_leaf.new.out d values) c.requires.nothing (c.put_leaf.ensures.passes k values n)

pub inline_expression::write_unbraced-returns-in-NumberLiteral-clause-goes : goal.inline_expression::write_unbraced-returns-in-NumberLiteral-clause-goes
unfolding state_parts
inline_expression::write_unbraced-returns-in-NumberLiteral-clause-goes g t c = λ k n.
    let content = g.C.FluentType.content in
    let contents = g.W.Write.contents in
    let a = state g.B.Context.meant g.B.Context.is_plain g.F.FluentFunction.answer content c.args.scope.now in
    let out = c.args.out.now in
    let work = c.args.work.now in
    let values = values_view content (values_in work) in
    let v = viewed out a values in
    let d = state g.B.Context.meant g.B.Context.is_plain g.F.FluentFunction.answer content c.put_leaf-in-NumberLiteral.new.scope in
    none_waits content d.bundle (frames_in work) (k d.bundle) (λ u. None) (viewed c.put_leaf-in-NumberLiteral.new.out d values) c.requires.nothing (c.put_leaf-in-NumberLiteral.ensures.passes k values n)

pub inline_expression::write_unbraced-returns-in-VariableReference-clause-goes : goal.inline_expression::write_unbraced-returns-in-VariableReference-clause-goes
unfolding state_parts
inline_expression::write_unbraced-returns-in-VariableReference-clause-goes g t c = λ k n.
    let content = g.C.FluentType.content in
    let contents = g.W.Write.contents in
    let a = state g.B.Context.meant g.B.Context.is_plain g.F.FluentFunction.answer content c.args.scope.now in
    let out = c.args.out.now in
    let work = c.args.work.now in
    let values = values_view content (values_in work) in
    let v = viewed out a values in
    let d = state g.B.Context.meant g.B.Context.is_plain g.F.FluentFunction.answer content c.put_leaf-in-VariableReference.new.scope in
    none_waits content d.bundle (frames_in work) (k d.bundle) (λ u. None) (viewed c.put_leaf-in-VariableReference.new.out d values) c.requires.nothing (c.put_leaf-in-VariableReference.ensures.passes k values n)

pub inline_expression::write_unbraced-returns-in-Placeable-clause-goes : goal.inline_expression::write_unbraced-returns-in-Placeable-clause-goes
unfolding state_parts
inline_expression::write_unbraced-returns-in-Placeable-clause-goes g t c = λ k n.
    absurd (true≢false (sym (ap is_braced (view_nested_in c.args.inline.now c.in-Placeable.expression c.in-Placeable.is)) ∙ c.requires.unbraced))

pub inline_expression::write_function-returns-in_default : goal.inline_expression::write_function-returns-in_default
inline_expression::write_function-returns-in_default g t c = absurd (no_function c.args.inline.now (λ id b. c.in_default.not-FunctionReference id b) c.requires.function)

pub inline_expression::write_function-returns-then-has_leaves_alone-clause-goes : goal.inline_expression::write_function-returns-then-has_leaves_alone-clause-goes
unfolding state_parts
inline_expression::write_function-returns-then-has_leaves_alone-clause-goes g t c = λ k n.
    let content = g.C.FluentType.content in
    let contents = g.W.Write.contents in
    let a = state g.B.Context.meant g.B.Context.is_plain g.F.FluentFunction.answer content c.args.scope.now in
    let out = c.args.out.now in
    let work = c.args.work.now in
    let values = values_view content (values_in work) in
    let v = viewed out a values in
    let x = inline_view c.args.inline.now in
    let way = begun _ n (outside contents out) a in
    let f = c.in-FunctionReference.id.name.now in
    let args = c.deref-then-has_leaves_alone.result.now in
    let is = view_function_in c.args.inline.now c.in-FunctionReference.id c.in-FunctionReference.arguments c.in-FunctionReference.is ∙ ap (λ b. function f (arguments_view b)) (sym c.deref-then-has_leaves_alone.ensures) in
    let calls = ap (λ y. parts.written y a.bundle (k a.bundle) v) is ∙ written_function f (arguments_view args) a.bundle (k a.bundle) v ∙ ap (λ y. parts.calls (parts.shows y f) (arguments_view args) a.bundle (k a.bundle) v) (sym is) in
    let leaves = leaves_called (parts.shows x f) args a.bundle (k a.bundle) v (subst (λ y. has_leaves_alone y ≡ true) (c.deref.ensures ∙ sym c.deref-then-has_leaves_alone.ensures) (c.has_leaves_alone.ensures c.if-has_leaves_alone.true)) (turns calls way) in
    let es = errors_of_call args a.environment in
    let o = leaf_answer f args a in
    let b = state g.B.Context.meant g.B.Context.is_plain g.F.FluentFunction.answer content c.put_answer_to_leaves.new.scope in
    let last = c.put_answer_to_leaves.new.out in
    let here = turns (answered_after es x (function_found (get f a.bundle.ids)) _ _ a.bundle (k a.bundle) v) leaves in
    let wrote = c.put_answer_to_leaves.ensures in
    none_waits content b.bundle (frames_in work) (k b.bundle) (λ u. None) (viewed last b values) c.requires.nothing
    (laid_last _ (λ u. ap (λ m. k m None (viewed last b values)) (sym wrote.happened.stays.bundle))
    (laid contents out last a b values a.bundle (k a.bundle) (es ++ answer_errors x o) (answer_text a.bundle x o) (did_as (leaf_answer_is es x a.bundle o) wrote) here))

pub inline_expression::write_function-returns-else-has_leaves_alone-clause-goes : goal.inline_expression::write_function-returns-else-has_leaves_alone-clause-goes
unfolding state_parts
inline_expression::write_function-returns-else-has_leaves_alone-clause-goes g t c = λ k n.
    let content = g.C.FluentType.content in
    let contents = g.W.Write.contents in
    let a = state g.B.Context.meant g.B.Context.is_plain g.F.FluentFunction.answer content c.args.scope.now in
    let out = c.args.out.now in
    let work = c.args.work.now in
    let values = values_view content (values_in work) in
    let v = viewed out a values in
    let x = inline_view c.args.inline.now in
    let way = begun _ n (outside contents out) a in
    let f = c.in-FunctionReference.id.name.now in
    let args = arguments_view c.deref-in-FunctionReference.result.now in
    let is = view_function_in c.args.inline.now c.in-FunctionReference.id c.in-FunctionReference.arguments c.in-FunctionReference.is ∙ ap (λ b. function f (arguments_view b)) (sym c.deref-in-FunctionReference.ensures) in
    let same = ap (λ y. parts.written y a.bundle (k a.bundle) v) is ∙ written_function f args a.bundle (k a.bundle) v ∙ ap (λ y. parts.calls (parts.shows y f) args a.bundle (k a.bundle) v) (sym is) in
    went_on (turns same way) (c.write_gathered.ensures.goes k n)

pub inline_expression::write_function-put_answer_to_leaves-requires : goal.inline_expression::write_function-put_answer_to_leaves-requires
unfolding state_parts
inline_expression::write_function-put_answer_to_leaves-requires g t c =
    let ids = c.args.scope.now.ids.now in
    let r = a_function c.in-FunctionReference.id.name.now in
    let rs = in_arguments (arguments_view c.in-FunctionReference.arguments.value) in
    placed_first (numbers ids) _ r rs c.args.cursor (in_function_is c.args.inline.now c.in-FunctionReference.id c.in-FunctionReference.arguments c.in-FunctionReference.is) c.requires.placed

pub inline_expression::write_function-write_gathered-requires : goal.inline_expression::write_function-write_gathered-requires
unfolding state_parts
inline_expression::write_function-write_gathered-requires g t c =
    let ids = c.args.scope.now.ids.now in
    let less = falls_to c.decreases (less_rank c.args.levels 12 13 (omega arith)) in
    let r = a_function c.in-FunctionReference.id.name.now in
    let is = in_function_is c.args.inline.now c.in-FunctionReference.id c.in-FunctionReference.arguments c.in-FunctionReference.is ∙ ap (λ m. r ∷ in_arguments (arguments_view m)) (sym c.deref-in-FunctionReference.ensures) in
    let placed = placed_as (numbers ids) _ _ c.args.cursor is c.requires.placed in
    λ κs h. (less, (h.0, (h.1.0, (h.1.1.0, (h.1.1.1, (placed, c.requires.nothing))))))

pub inline_expression::write_gathered-returns-in_err-begin_call-clause-goes : goal.inline_expression::write_gathered-returns-in_err-begin_call-clause-goes
unfolding state_parts
inline_expression::write_gathered-returns-in_err-begin_call-clause-goes g t c = λ k n.
    let content = g.C.FluentType.content in
    let contents = g.W.Write.contents in
    let a = state g.B.Context.meant g.B.Context.is_plain g.F.FluentFunction.answer content c.args.scope.now in
    let out = c.args.out.now in
    let work = c.args.work.now in
    let values = values_view content (values_in work) in
    let v = viewed out a values in
    halts c.in_err-begin_call.was (search rules) (begun _ n (outside contents out) a) (c.begin_call.ensures.goes k n)

pub inline_expression::write_gathered-returns-clause-goes : goal.inline_expression::write_gathered-returns-clause-goes
unfolding state_parts
inline_expression::write_gathered-returns-clause-goes g t c = λ k n.
    let content = g.C.FluentType.content in
    let contents = g.W.Write.contents in
    let a = state g.B.Context.meant g.B.Context.is_plain g.F.FluentFunction.answer content c.args.scope.now in
    let out = c.args.out.now in
    let work = c.args.work.now in
    let values = values_view content (values_in work) in
    let v = viewed out a values in
    let d = state g.B.Context.meant g.B.Context.is_plain g.F.FluentFunction.answer content c.begin_call.new.scope in
    let last = c.begin_call.new.out in
    let work1 = c.begin_call.new.work in
    let values1 = values_view content (values_in work1) in
    let given = c.in_ok-begin_call.field-0 in
    let none : given ≡ None = ok_value c.begin_call.result given _ c.in_ok-begin_call.was c.begin_call.ensures.given in
    finishes tt _ refl refl (turns (ap (λ o. before content d.bundle (frames_in work1) (k d.bundle) (made content o) (viewed last d values1)) none) (goes c.in_ok-begin_call.was (begun _ n (outside contents out) a) (c.begin_call.ensures.goes k n)))

pub inline_expression::write_gathered-begin_call-requires : goal.inline_expression::write_gathered-begin_call-requires
unfolding state_parts
inline_expression::write_gathered-begin_call-requires g t c =
    let ids = c.args.scope.now.ids.now in
    let less = falls_to c.decreases (less_rank c.args.levels 11 12 (omega arith)) in
    let r = a_function c.args.id.now.name.now in
    let rs = in_arguments (arguments_view c.args.arguments.now) in
    let purpose = placed_first (numbers ids) (r ∷ rs) r rs c.args.cursor refl c.requires.placed in
    let after = placed_after (numbers ids) (r ∷ rs) r rs c.args.cursor c.after_one-at.result refl c.after_one-at.ensures c.requires.placed in
    λ κs h. (less, (h.0, (h.1.0, (h.1.1.0, (h.1.1.1, (purpose, (after, c.requires.nothing)))))))

pub pattern::write_placeable-returns-in_err-report_limit-clause-goes : goal.pattern::write_placeable-returns-in_err-report_limit-clause-goes
unfolding state_parts
pattern::write_placeable-returns-in_err-report_limit-clause-goes g t c = λ k n.
    let content = g.C.FluentType.content in
    let contents = g.W.Write.contents in
    let a = state g.B.Context.meant g.B.Context.is_plain g.F.FluentFunction.answer content c.args.scope.now in
    let b = state g.B.Context.meant g.B.Context.is_plain g.F.FluentFunction.answer content c.take_one.new.self in
    let out = c.args.out.now in
    let values = values_view content (values_in c.args.work.now) in
    let e = expression_view c.args.expression.now in
    let v = viewed out a values in
    let past = happened_limit (outside contents out) c.take_one.ensures.opens c.if-not-take_one.true c.take_one.ensures.takes in
    let at : At = λ x env path budget. k x None (record { kept = kept_of out; budget = budget; environment = env; path = path; values = values }) in
    let way = turns (ap (after (told (resolver_error too_many_placeables) ∷ [])) (taken_same at limit_reached past.budget c.take_one.ensures.takes)) (passes past (turns (stops_part c.args.one e a.bundle (k a.bundle) v (sym c.take_one.ensures.opens ∙ c.if-not-take_one.true) c.requires.left) (begun _ n (outside contents out) a))) in
    lacks (search rules) (tells_none c.in_err-report_limit.was c.report_limit.ensures.added way)

pub pattern::write_placeable-returns-then-not-take_one-clause-goes : goal.pattern::write_placeable-returns-then-not-take_one-clause-goes
unfolding state_parts
pattern::write_placeable-returns-then-not-take_one-clause-goes g t c = λ k n.
    let content = g.C.FluentType.content in
    let contents = g.W.Write.contents in
    let a = state g.B.Context.meant g.B.Context.is_plain g.F.FluentFunction.answer content c.args.scope.now in
    let b = state g.B.Context.meant g.B.Context.is_plain g.F.FluentFunction.answer content c.take_one.new.self in
    let out = c.args.out.now in
    let values = values_view content (values_in c.args.work.now) in
    let e = expression_view c.args.expression.now in
    let v = viewed out a values in
    let past = happened_limit (outside contents out) c.take_one.ensures.opens c.if-not-take_one.true c.take_one.ensures.takes in
    let at : At = λ x env path budget. k x None (record { kept = kept_of out; budget = budget; environment = env; path = path; values = values }) in
    let way = turns (ap (after (told (resolver_error too_many_placeables) ∷ [])) (taken_same at limit_reached past.budget c.take_one.ensures.takes)) (passes past (turns (stops_part c.args.one e a.bundle (k a.bundle) v (sym c.take_one.ensures.opens ∙ c.if-not-take_one.true) c.requires.left) (begun _ n (outside contents out) a))) in
    let b2 = state g.B.Context.meant g.B.Context.is_plain g.F.FluentFunction.answer content c.report_limit.new.scope in
    all_done {x = tt} content b2.bundle (frames_in c.args.work.now) (k b2.bundle) (λ x. None) (viewed out b2 values) (search rules) c.requires.nothing (tells_first at c.in_ok-report_limit.was c.report_limit.ensures.added way)

pub pattern::write_placeable-returns-in_err-put_first_mark-clause-goes : goal.pattern::write_placeable-returns-in_err-put_first_mark-clause-goes
unfolding state_parts
pattern::write_placeable-returns-in_err-put_first_mark-clause-goes g t c = λ k n.
    let content = g.C.FluentType.content in
    let contents = g.W.Write.contents in
    let a = state g.B.Context.meant g.B.Context.is_plain g.F.FluentFunction.answer content c.args.scope.now in
    let b = state g.B.Context.meant g.B.Context.is_plain g.F.FluentFunction.answer content c.take_one.new.self in
    let out = c.args.out.now in
    let values = values_view content (values_in c.args.work.now) in
    let e = expression_view c.args.expression.now in
    let v = viewed out a values in
    let marked = c.is_marked-marked.result in
    let past = happened_opened (outside contents out) c.if-not-take_one.false c.take_one.ensures.takes in
    let at : At = λ x env path budget. begins (inside e marked x (k x) (record { kept = kept_of out; budget = budget; environment = env; path = path; values = values }) budget) in
    let opened = turns (taken_same at _ c.take_one.ensures.takes.budget c.take_one.ensures.takes) (passes past (turns (opens_part c.args.one e marked a.bundle (k a.bundle) v (c.is_marked-marked.ensures ∙ ap (λ x. is_marked x.isolates c.args.one e) c.take_one.ensures.takes.stays.bundle) (sym c.take_one.ensures.opens ∙ c.if-not-take_one.false)) (begun _ n (outside contents out) a))) in
    let out1 = c.put_first_mark.new.out in
    let marks = put contents out out1 b values b.bundle (λ given u. parts.expression e b.bundle (λ given x. parts.closing e marked b.bundle (k b.bundle) x) u) _ c.put_first_mark.ensures (waits (suc (suc n)) (omega arith) opened) in
    laid_halts c.in_err-put_first_mark.was (search rules) marks

pub pattern::write_placeable-returns-in_err-write_expression-clause-goes : goal.pattern::write_placeable-returns-in_err-write_expression-clause-goes
unfolding state_parts
pattern::write_placeable-returns-in_err-write_expression-clause-goes g t c = λ k n.
    let content = g.C.FluentType.content in
    let contents = g.W.Write.contents in
    let a = state g.B.Context.meant g.B.Context.is_plain g.F.FluentFunction.answer content c.args.scope.now in
    let b = state g.B.Context.meant g.B.Context.is_plain g.F.FluentFunction.answer content c.take_one.new.self in
    let out = c.args.out.now in
    let values = values_view content (values_in c.args.work.now) in
    let e = expression_view c.args.expression.now in
    let v = viewed out a values in
    let marked = c.is_marked-marked.result in
    let past = happened_opened (outside contents out) c.if-not-take_one.false c.take_one.ensures.takes in
    let at : At = λ x env path budget. begins (inside e marked x (k x) (record { kept = kept_of out; budget = budget; environment = env; path = path; values = values }) budget) in
    let opened = turns (taken_same at _ c.take_one.ensures.takes.budget c.take_one.ensures.takes) (passes past (turns (opens_part c.args.one e marked a.bundle (k a.bundle) v (c.is_marked-marked.ensures ∙ ap (λ x. is_marked x.isolates c.args.one e) c.take_one.ensures.takes.stays.bundle) (sym c.take_one.ensures.opens ∙ c.if-not-take_one.false)) (begun _ n (outside contents out) a))) in
    let out1 = c.put_first_mark.new.out in
    let marks = put contents out out1 b values b.bundle (λ given u. parts.expression e b.bundle (λ given x. parts.closing e marked b.bundle (k b.bundle) x) u) _ c.put_first_mark.ensures (waits (suc (suc n)) (omega arith) opened) in
    let next : Bundle Text → Following = λ s given u. parts.closing e marked s (k s) u in
    let way = pays c.args.levels (laid_ok c.in_ok-put_first_mark.was marks) in
    halts c.in_err-write_expression.was (search rules) way (c.write_expression.ensures.goes next (suc n))

pub pattern::write_placeable-returns-then-is_done-clause-goes : goal.pattern::write_placeable-returns-then-is_done-clause-goes
unfolding state_parts
pattern::write_placeable-returns-then-is_done-clause-goes g t c = λ k n.
    let content = g.C.FluentType.content in
    let contents = g.W.Write.contents in
    let a = state g.B.Context.meant g.B.Context.is_plain g.F.FluentFunction.answer content c.args.scope.now in
    let b = state g.B.Context.meant g.B.Context.is_plain g.F.FluentFunction.answer content c.take_one.new.self in
    let out = c.args.out.now in
    let values = values_view content (values_in c.args.work.now) in
    let e = expression_view c.args.expression.now in
    let v = viewed out a values in
    let marked = c.is_marked-marked.result in
    let past = happened_opened (outside contents out) c.if-not-take_one.false c.take_one.ensures.takes in
    let at : At = λ x env path budget. begins (inside e marked x (k x) (record { kept = kept_of out; budget = budget; environment = env; path = path; values = values }) budget) in
    let opened = turns (taken_same at _ c.take_one.ensures.takes.budget c.take_one.ensures.takes) (passes past (turns (opens_part c.args.one e marked a.bundle (k a.bundle) v (c.is_marked-marked.ensures ∙ ap (λ x. is_marked x.isolates c.args.one e) c.take_one.ensures.takes.stays.bundle) (sym c.take_one.ensures.opens ∙ c.if-not-take_one.false)) (begun _ n (outside contents out) a))) in
    let out1 = c.put_first_mark.new.out in
    let marks = put contents out out1 b values b.bundle (λ given u. parts.expression e b.bundle (λ given x. parts.closing e marked b.bundle (k b.bundle) x) u) _ c.put_first_mark.ensures (waits (suc (suc n)) (omega arith) opened) in
    let next : Bundle Text → Following = λ s given u. parts.closing e marked s (k s) u in
    let way = pays c.args.levels (laid_ok c.in_ok-put_first_mark.was marks) in
    let d = state g.B.Context.meant g.B.Context.is_plain g.F.FluentFunction.answer content c.write_expression.new.scope in
    let work = c.write_expression.new.work in
    let last = viewed c.write_expression.new.out d (values_view content (values_in work)) in
    let there = goes c.in_ok-write_expression.was way (c.write_expression.ensures.goes next (suc n)) in
    let none = c.is_done.ensures.0 c.if-is_done.true in
    let here = is_done content d.bundle (frames_in work) (next d.bundle) None last none there in
    let f = state g.B.Context.meant g.B.Context.is_plain g.F.FluentFunction.answer content c.close.new.scope in
    none_waits content f.bundle (frames_in work) (k f.bundle) (λ x. None) (viewed c.close.new.out f (values_view content (values_in work))) none (went_on (with_fewer n (omega arith) here) (c.close.ensures.goes k (values_view content (values_in work)) n))

pub pattern::write_placeable-returns-else-is_done-clause-goes : goal.pattern::write_placeable-returns-else-is_done-clause-goes
unfolding state_parts
pattern::write_placeable-returns-else-is_done-clause-goes g t c = λ k n.
    let content = g.C.FluentType.content in
    let contents = g.W.Write.contents in
    let a = state g.B.Context.meant g.B.Context.is_plain g.F.FluentFunction.answer content c.args.scope.now in
    let b = state g.B.Context.meant g.B.Context.is_plain g.F.FluentFunction.answer content c.take_one.new.self in
    let out = c.args.out.now in
    let values = values_view content (values_in c.args.work.now) in
    let e = expression_view c.args.expression.now in
    let v = viewed out a values in
    let marked = c.is_marked-marked.result in
    let past = happened_opened (outside contents out) c.if-not-take_one.false c.take_one.ensures.takes in
    let at : At = λ x env path budget. begins (inside e marked x (k x) (record { kept = kept_of out; budget = budget; environment = env; path = path; values = values }) budget) in
    let opened = turns (taken_same at _ c.take_one.ensures.takes.budget c.take_one.ensures.takes) (passes past (turns (opens_part c.args.one e marked a.bundle (k a.bundle) v (c.is_marked-marked.ensures ∙ ap (λ x. is_marked x.isolates c.args.one e) c.take_one.ensures.takes.stays.bundle) (sym c.take_one.ensures.opens ∙ c.if-not-take_one.false)) (begun _ n (outside contents out) a))) in
    let out1 = c.put_first_mark.new.out in
    let marks = put contents out out1 b values b.bundle (λ given u. parts.expression e b.bundle (λ given x. parts.closing e marked b.bundle (k b.bundle) x) u) _ c.put_first_mark.ensures (waits (suc (suc n)) (omega arith) opened) in
    let next : Bundle Text → Following = λ s given u. parts.closing e marked s (k s) u in
    let way = pays c.args.levels (laid_ok c.in_ok-put_first_mark.was marks) in
    let d = state g.B.Context.meant g.B.Context.is_plain g.F.FluentFunction.answer content c.write_expression.new.scope in
    let work = c.write_expression.new.work in
    let last = viewed c.write_expression.new.out d (values_view content (values_in work)) in
    let there = goes c.in_ok-write_expression.was way (c.write_expression.ensures.goes next (suc n)) in
    put_last n content d.bundle (frames_in work) (frames_in c.wait_close.new.self) _ (k d.bundle) None last _ _ (ap (λ vs. viewed c.write_expression.new.out d (values_view content vs)) (sym c.wait_close.ensures.values)) c.wait_close.ensures.err c.wait_close.ensures.frames there

pub pattern::write_placeable-returns-then-is_done-clause-placed : goal.pattern::write_placeable-returns-then-is_done-clause-placed
unfolding state_parts
pattern::write_placeable-returns-then-is_done-clause-placed g t c =
    let content = g.C.FluentType.content in
    let f = state g.B.Context.meant g.B.Context.is_plain g.F.FluentFunction.answer content c.close.new.scope in
    if_on _ (placed_none f.stored.numbers f.stored.table (frames_in c.write_expression.new.work) (c.is_done.ensures.0 c.if-is_done.true))

pub pattern::write_placeable-returns-else-is_done-clause-placed : goal.pattern::write_placeable-returns-else-is_done-clause-placed
unfolding state_parts
pattern::write_placeable-returns-else-is_done-clause-placed g t c =
    let content = g.C.FluentType.content in
    let d = state g.B.Context.meant g.B.Context.is_plain g.F.FluentFunction.answer content c.write_expression.new.scope in
    placed_last d.stored.numbers d.stored.table (frames_in c.write_expression.new.work) (frames_in c.wait_close.new.self) _ _ c.wait_close.ensures.frames c.in_ok-write_expression.ensures.placed tt

pub pattern::write_placeable-returns-then-not-take_one-clause-placed : goal.pattern::write_placeable-returns-then-not-take_one-clause-placed
unfolding state_parts
pattern::write_placeable-returns-then-not-take_one-clause-placed g t c =
    let content = g.C.FluentType.content in
    let d = state g.B.Context.meant g.B.Context.is_plain g.F.FluentFunction.answer content c.report_limit.new.scope in
    placed_none d.stored.numbers d.stored.table (frames_in c.args.work.now) c.requires.nothing

pub pattern::write_placeable-write_expression-requires : goal.pattern::write_placeable-write_expression-requires
unfolding state_parts
pattern::write_placeable-write_expression-requires g t c =
    let content = g.C.FluentType.content in
    let a = state g.B.Context.meant g.B.Context.is_plain g.F.FluentFunction.answer content c.args.scope.now in
    let b = state g.B.Context.meant g.B.Context.is_plain g.F.FluentFunction.answer content c.take_one.new.self in
    let placed = placed_still a b (in_expression (expression_view c.args.expression.now)) c.args.cursor c.take_one.ensures.takes.stays.stored c.requires.placed in
    λ κs h. (falls_to c.decreases (omega arith), (h.0, (h.1.0, (h.1.1.0, (h.1.1.1, (placed, c.requires.nothing))))))

pub pattern::write_from-loop-element-init : goal.pattern::write_from-loop-element-init
unfolding state_parts
pattern::write_from-loop-element-init g t c =
    let content = g.C.FluentType.content in
    let contents = g.W.Write.contents in
    let a = state g.B.Context.meant g.B.Context.is_plain g.F.FluentFunction.answer content c.args.scope.now in
    record { along = λ k n. begun _ n (outside contents c.args.out.now) a; placed = c.requires.placed; nothing = c.requires.nothing; texts = λ t. t; through = λ t h. h }

pub pattern::write_from-returns-then-dirty-clause-goes : goal.pattern::write_from-returns-then-dirty-clause-goes
unfolding state_parts
pattern::write_from-returns-then-dirty-clause-goes g t c = λ k n.
    let content = g.C.FluentType.content in
    let contents = g.W.Write.contents in
    let a = state g.B.Context.meant g.B.Context.is_plain g.F.FluentFunction.answer content c.loop-element.scope in
    let out = c.loop-element.out in
    let work = c.loop-element.work in
    let p = c.args.pattern.now in
    let one = has_one (pattern_view p) in
    let at = c.loop-element.next in
    let values = values_view content (values_in work) in
    let v = viewed out a values in
    all_done {x = tt} content a.bundle (frames_in work) (k a.bundle) (λ x. None) v (search rules) c.loop-element.invariant.nothing (turns (none_at_limit one a.bundle (k a.bundle) v (elements_from at p) (c.if-dirty.ensures.0 refl)) (c.loop-element.invariant.along k n))

pub pattern::write_from-returns-in_err-put_changed-in-TextElement-clause-goes : goal.pattern::write_from-returns-in_err-put_changed-in-TextElement-clause-goes
unfolding state_parts
pattern::write_from-returns-in_err-put_changed-in-TextElement-clause-goes g t c = λ k n.
    let content = g.C.FluentType.content in
    let contents = g.W.Write.contents in
    let a = state g.B.Context.meant g.B.Context.is_plain g.F.FluentFunction.answer content c.loop-element.scope in
    let out = c.loop-element.out in
    let work = c.loop-element.work in
    let p = c.args.pattern.now in
    let one = has_one (pattern_view p) in
    let at = c.loop-element.next in
    let values = values_view content (values_in work) in
    let v = viewed out a values in
    let first = from_next p c.deref.result.now at c.in-Some.element.now (text c.in-TextElement.value.now) c.deref.ensures.value (ltb-true _ _ (sym c.in-Some.ensures.lookup.0)) c.in-Some.ensures.lookup.1 (view_text_in c.in-Some.element.now c.in-TextElement.value c.in-TextElement.is) in
    let way = turns (ap (λ q. parts.elements one q a.bundle (k a.bundle) v) first ∙ text_first one a.bundle (k a.bundle) v c.in-TextElement.value.now (elements_from (at + 1) p) (λ x. true≢false (sym (c.if-dirty.ensures.1 x)))) (c.loop-element.invariant.along k n) in
    let laid = put contents out c.put_changed.new.out a values a.bundle (λ given u. parts.elements one (elements_from (at + 1) p) a.bundle (k a.bundle) u) _ c.put_changed.ensures.took (starts way) in
    laid_halts c.in_err-put_changed-in-TextElement.was (search rules) laid

pub pattern::write_from-returns-in_err-put_changed-in-TextElement-clause-memory : goal.pattern::write_from-returns-in_err-put_changed-in-TextElement-clause-memory
unfolding state_parts
pattern::write_from-returns-in_err-put_changed-in-TextElement-clause-memory g t c =
    λ t plain h is. c.put_changed.ensures.memory (subst IsTrue (sym (c.loop-element.invariant.along (λ b given u. nowhere) 0).happened.stays.is_plain) plain) (c.loop-element.invariant.through t h) (err_was c.in_err-put_changed-in-TextElement.was (search rules) is)

pub pattern::write_from-returns-clause-goes : goal.pattern::write_from-returns-clause-goes
unfolding state_parts
pattern::write_from-returns-clause-goes g t c = λ k n.
    let content = g.C.FluentType.content in
    let contents = g.W.Write.contents in
    let a = state g.B.Context.meant g.B.Context.is_plain g.F.FluentFunction.answer content c.loop-element.scope in
    let out = c.loop-element.out in
    let work = c.loop-element.work in
    let p = c.args.pattern.now in
    let one = has_one (pattern_view p) in
    let at = c.loop-element.next in
    let values = values_view content (values_in work) in
    let v = viewed out a values in
    let end = from_end p c.deref.result.now at c.deref.ensures.value (ltb-false _ _ (sym c.in_default.ensures.lookup.0)) in
    all_done {x = tt} content a.bundle (frames_in work) (k a.bundle) (λ x. None) v (search rules) c.loop-element.invariant.nothing (turns (none_at_end one a.bundle (k a.bundle) v (elements_from at p) end) (c.loop-element.invariant.along k n))

pub pattern::write_from-returns-then-dirty-clause-texts : goal.pattern::write_from-returns-then-dirty-clause-texts
pattern::write_from-returns-then-dirty-clause-texts g t c =
    λ t. c.loop-element.invariant.nothing

pub pattern::write_from-returns-clause-texts : goal.pattern::write_from-returns-clause-texts
pattern::write_from-returns-clause-texts g t c =
    λ t. c.loop-element.invariant.nothing

pub pattern::write_from-returns-then-dirty-clause-placed : goal.pattern::write_from-returns-then-dirty-clause-placed
unfolding state_parts
pattern::write_from-returns-then-dirty-clause-placed g t c =
    let content = g.C.FluentType.content in
    let a = state g.B.Context.meant g.B.Context.is_plain g.F.FluentFunction.answer content c.loop-element.scope in
    placed_none a.stored.numbers a.stored.table (frames_in c.loop-element.work) c.loop-element.invariant.nothing

pub pattern::write_from-returns-clause-placed : goal.pattern::write_from-returns-clause-placed
unfolding state_parts
pattern::write_from-returns-clause-placed g t c =
    let content = g.C.FluentType.content in
    let a = state g.B.Context.meant g.B.Context.is_plain g.F.FluentFunction.answer content c.loop-element.scope in
    placed_none a.stored.numbers a.stored.table (frames_in c.loop-element.work) c.loop-element.invariant.nothing

pub pattern::write_from-returns-in_err-write_placeable-in-Placeable-clause-goes : goal.pattern::write_from-returns-in_err-write_placeable-in-Placeable-clause-goes
unfolding state_parts
pattern::write_from-returns-in_err-write_placeable-in-Placeable-clause-goes g t c = λ k n.
    let content = g.C.FluentType.content in
    let contents = g.W.Write.contents in
    let a = state g.B.Context.meant g.B.Context.is_plain g.F.FluentFunction.answer content c.loop-element.scope in
    let out = c.loop-element.out in
    let work = c.loop-element.work in
    let p = c.args.pattern.now in
    let one = has_one (pattern_view p) in
    let at = c.loop-element.next in
    let values = values_view content (values_in work) in
    let v = viewed out a values in
    let e = expression_view c.in-Placeable.expression in
    let first = from_next p c.deref.result.now at c.in-Some.element.now (placeable e) c.deref.ensures.value (ltb-true _ _ (sym c.in-Some.ensures.lookup.0)) c.in-Some.ensures.lookup.1 (view_placeable_in c.in-Some.element.now c.in-Placeable.expression c.in-Placeable.is) in
    let d = state g.B.Context.meant g.B.Context.is_plain g.F.FluentFunction.answer content c.write_placeable.new.scope in
    let work1 = c.write_placeable.new.work in
    let next : Bundle Text → Following = λ s given u. parts.elements one (elements_from (at + 1) p) s (k s) u in
    let way = turns (ap (λ q. parts.elements one q a.bundle (k a.bundle) v) first ∙ placeable_first one a.bundle (k a.bundle) v e (elements_from (at + 1) p) (λ x. true≢false (sym (c.if-dirty.ensures.1 x))) ∙ ap (λ y. begins (parts.part y e a.bundle (next a.bundle) v)) (sym c.has_one.ensures)) (c.loop-element.invariant.along k n) in
    let paid = waits (suc n) (omega arith) way in
    halts c.in_err-write_placeable-in-Placeable.was (search rules) paid (c.write_placeable.ensures.goes next (suc n))

pub pattern::write_from-loop-element-preserved : goal.pattern::write_from-loop-element-preserved
unfolding state_parts
pattern::write_from-loop-element-preserved g t c =
    let content = g.C.FluentType.content in
    let contents = g.W.Write.contents in
    let a = state g.B.Context.meant g.B.Context.is_plain g.F.FluentFunction.answer content c.loop-element.scope in
    let out = c.loop-element.out in
    let work = c.loop-element.work in
    let p = c.args.pattern.now in
    let one = has_one (pattern_view p) in
    let at = c.loop-element.next in
    let values = values_view content (values_in work) in
    let v = viewed out a values in
    let x = c.in-Some.element.now in
    elim c.match-element.branch [
      | pattern::write_from-in-TextElement+in_ok-put_changed-in-TextElement r ↦
          let view = view_text_in x r.in-TextElement.value r.in-TextElement.is in
          let first = from_next p c.deref.result.now at x (text r.in-TextElement.value.now) c.deref.ensures.value (ltb-true _ _ (sym c.in-Some.ensures.lookup.0)) c.in-Some.ensures.lookup.1 view in
          rw r.scope-is (rw r.out-is (rw r.work-is (record {
            along = λ k n. let way = turns (ap (λ q. parts.elements one q a.bundle (k a.bundle) v) first ∙ text_first one a.bundle (k a.bundle) v r.in-TextElement.value.now (elements_from (at + 1) p) (λ x. true≢false (sym (c.if-dirty.ensures.1 x)))) (c.loop-element.invariant.along k n) in let laid = put contents out r.put_changed.new.out a values a.bundle (λ given u. parts.elements one (elements_from (at + 1) p) a.bundle (k a.bundle) u) _ r.put_changed.ensures.took (starts way) in laid_ok r.in_ok-put_changed-in-TextElement.was laid;
            placed = placed_back a.stored.numbers (references (elements_from at p)) (in_element (text r.in-TextElement.value.now)) (references (elements_from (at + 1) p)) c.loop-element.cursor c.passed-cursor.result (ap references first) (c.passed-cursor.ensures ∙ ap (λ x. past (in_element x) (seen c.loop-element.cursor)) view) c.loop-element.invariant.placed;
            nothing = c.loop-element.invariant.nothing;
            texts = λ t. subst IsTextAlone first (c.loop-element.invariant.texts t);
            through = λ t h. stays_through contents out r.put_changed.new.out r.put_changed.ensures.took.beside (c.loop-element.invariant.through t h);
          })))
      | pattern::write_from-in-Placeable+in_ok-write_placeable-in-Placeable+else-not-is_done r ↦
          let e = expression_view r.in-Placeable.expression in
          let view = view_placeable_in x r.in-Placeable.expression r.in-Placeable.is in
          let first = from_next p c.deref.result.now at x (placeable e) c.deref.ensures.value (ltb-true _ _ (sym c.in-Some.ensures.lookup.0)) c.in-Some.ensures.lookup.1 view in
          let d = state g.B.Context.meant g.B.Context.is_plain g.F.FluentFunction.answer content r.write_placeable.new.scope in
          let work1 = r.write_placeable.new.work in
          let stored = (at_ok r.in_ok-write_placeable-in-Placeable.was (r.write_placeable.ensures.goes (λ s given u. nowhere) 0).ok).happened.stays.stored in
          let rest = references (elements_from (at + 1) p) in
          let cursor = placed_still a d rest c.passed-cursor.result stored (placed_back a.stored.numbers (references (elements_from at p)) (in_expression e) rest c.loop-element.cursor c.passed-cursor.result (ap references first) (c.passed-cursor.ensures ∙ ap (λ x. past (in_element x) (seen c.loop-element.cursor)) view) c.loop-element.invariant.placed) in
          let none = r.is_done.ensures.0 r.if-not-is_done.false in
          rw r.scope-is (rw r.out-is (rw r.work-is (record {
            along = λ k n. let next : Bundle Text → Following = λ s given u. parts.elements one (elements_from (at + 1) p) s (k s) u in let way = turns (ap (λ q. parts.elements one q a.bundle (k a.bundle) v) first ∙ placeable_first one a.bundle (k a.bundle) v e (elements_from (at + 1) p) (λ x. true≢false (sym (c.if-dirty.ensures.1 x))) ∙ ap (λ y. begins (parts.part y e a.bundle (next a.bundle) v)) (sym r.has_one.ensures)) (c.loop-element.invariant.along k n) in let paid = waits (suc n) (omega arith) way in let there = goes r.in_ok-write_placeable-in-Placeable.was paid (r.write_placeable.ensures.goes next (suc n)) in let last = viewed r.write_placeable.new.out d (values_view content (values_in work1)) in with_fewer n (omega arith) (is_done content d.bundle (frames_in work1) (next d.bundle) None last none there);
            placed = cursor;
            nothing = none;
            texts = λ t. absurd (never_text e (elements_from (at + 1) p) (subst IsTextAlone first (c.loop-element.invariant.texts t)));
            through = λ t. absurd (never_text e (elements_from (at + 1) p) (subst IsTextAlone first (c.loop-element.invariant.texts t)));
          })))
    ]

pub pattern::write_from-returns-then-not-is_done-clause-goes : goal.pattern::write_from-returns-then-not-is_done-clause-goes
unfolding state_parts
pattern::write_from-returns-then-not-is_done-clause-goes g t c = λ k n.
    let content = g.C.FluentType.content in
    let contents = g.W.Write.contents in
    let a = state g.B.Context.meant g.B.Context.is_plain g.F.FluentFunction.answer content c.loop-element.scope in
    let out = c.loop-element.out in
    let work = c.loop-element.work in
    let p = c.args.pattern.now in
    let one = has_one (pattern_view p) in
    let at = c.loop-element.next in
    let values = values_view content (values_in work) in
    let v = viewed out a values in
    let e = expression_view c.in-Placeable.expression in
    let first = from_next p c.deref.result.now at c.in-Some.element.now (placeable e) c.deref.ensures.value (ltb-true _ _ (sym c.in-Some.ensures.lookup.0)) c.in-Some.ensures.lookup.1 (view_placeable_in c.in-Some.element.now c.in-Placeable.expression c.in-Placeable.is) in
    let d = state g.B.Context.meant g.B.Context.is_plain g.F.FluentFunction.answer content c.write_placeable.new.scope in
    let work1 = c.write_placeable.new.work in
    let next : Bundle Text → Following = λ s given u. parts.elements one (elements_from (at + 1) p) s (k s) u in
    let way = turns (ap (λ q. parts.elements one q a.bundle (k a.bundle) v) first ∙ placeable_first one a.bundle (k a.bundle) v e (elements_from (at + 1) p) (λ x. true≢false (sym (c.if-dirty.ensures.1 x))) ∙ ap (λ y. begins (parts.part y e a.bundle (next a.bundle) v)) (sym c.has_one.ensures)) (c.loop-element.invariant.along k n) in
    let paid = waits (suc n) (omega arith) way in
    let there = goes c.in_ok-write_placeable-in-Placeable.was paid (c.write_placeable.ensures.goes next (suc n)) in
    let last = viewed c.write_placeable.new.out d (values_view content (values_in work1)) in
    put_last n content d.bundle (frames_in work1) (frames_in c.wait_elements.new.self) _ (k d.bundle) None last _ _ (ap (λ vs. viewed c.write_placeable.new.out d (values_view content vs)) (sym c.wait_elements.ensures.values)) c.wait_elements.ensures.err c.wait_elements.ensures.frames there

pub pattern::write_from-returns-then-not-is_done-clause-placed : goal.pattern::write_from-returns-then-not-is_done-clause-placed
unfolding state_parts
pattern::write_from-returns-then-not-is_done-clause-placed g t c =
    let content = g.C.FluentType.content in
    let contents = g.W.Write.contents in
    let a = state g.B.Context.meant g.B.Context.is_plain g.F.FluentFunction.answer content c.loop-element.scope in
    let out = c.loop-element.out in
    let work = c.loop-element.work in
    let p = c.args.pattern.now in
    let one = has_one (pattern_view p) in
    let at = c.loop-element.next in
    let values = values_view content (values_in work) in
    let v = viewed out a values in
    let e = expression_view c.in-Placeable.expression in
    let first = from_next p c.deref.result.now at c.in-Some.element.now (placeable e) c.deref.ensures.value (ltb-true _ _ (sym c.in-Some.ensures.lookup.0)) c.in-Some.ensures.lookup.1 (view_placeable_in c.in-Some.element.now c.in-Placeable.expression c.in-Placeable.is) in
    let d = state g.B.Context.meant g.B.Context.is_plain g.F.FluentFunction.answer content c.write_placeable.new.scope in
    let work1 = c.write_placeable.new.work in
    let stored = (at_ok c.in_ok-write_placeable-in-Placeable.was (c.write_placeable.ensures.goes (λ s given u. nowhere) 0).ok).happened.stays.stored in
    let rest = references (elements_from (at + 1) p) in
    let cursor = placed_still a d rest c.after_element-after.result stored (placed_back a.stored.numbers (references (elements_from at p)) (in_expression e) rest c.loop-element.cursor c.after_element-after.result (ap references first) (c.after_element-after.ensures ∙ ap (λ x. past (in_element x) (seen c.loop-element.cursor)) (view_placeable_in c.in-Some.element.now c.in-Placeable.expression c.in-Placeable.is)) c.loop-element.invariant.placed) in
    placed_last d.stored.numbers d.stored.table (frames_in work1) (frames_in c.wait_elements.new.self) _ _ c.wait_elements.ensures.frames c.in_ok-write_placeable-in-Placeable.ensures.placed cursor

pub pattern::write_from-returns-then-not-is_done-clause-texts : goal.pattern::write_from-returns-then-not-is_done-clause-texts
pattern::write_from-returns-then-not-is_done-clause-texts g t c =
    let p = c.args.pattern.now in
    let at = c.loop-element.next in
    let e = expression_view c.in-Placeable.expression in
    let first = from_next p c.deref.result.now at c.in-Some.element.now (placeable e) c.deref.ensures.value (ltb-true _ _ (sym c.in-Some.ensures.lookup.0)) c.in-Some.ensures.lookup.1 (view_placeable_in c.in-Some.element.now c.in-Placeable.expression c.in-Placeable.is) in
    λ t. absurd (never_text e (elements_from (at + 1) p) (subst IsTextAlone first (c.loop-element.invariant.texts t)))

pub pattern::write_from-returns-then-not-is_done-clause-memory : goal.pattern::write_from-returns-then-not-is_done-clause-memory
pattern::write_from-returns-then-not-is_done-clause-memory g t c =
    let p = c.args.pattern.now in
    let at = c.loop-element.next in
    let e = expression_view c.in-Placeable.expression in
    let first = from_next p c.deref.result.now at c.in-Some.element.now (placeable e) c.deref.ensures.value (ltb-true _ _ (sym c.in-Some.ensures.lookup.0)) c.in-Some.ensures.lookup.1 (view_placeable_in c.in-Some.element.now c.in-Placeable.expression c.in-Placeable.is) in
    λ t. absurd (never_text e (elements_from (at + 1) p) (subst IsTextAlone first (c.loop-element.invariant.texts t)))

pub pattern::write_from-returns-in_err-write_placeable-in-Placeable-clause-memory : goal.pattern::write_from-returns-in_err-write_placeable-in-Placeable-clause-memory
pattern::write_from-returns-in_err-write_placeable-in-Placeable-clause-memory g t c =
    let p = c.args.pattern.now in
    let at = c.loop-element.next in
    let e = expression_view c.in-Placeable.expression in
    let first = from_next p c.deref.result.now at c.in-Some.element.now (placeable e) c.deref.ensures.value (ltb-true _ _ (sym c.in-Some.ensures.lookup.0)) c.in-Some.ensures.lookup.1 (view_placeable_in c.in-Some.element.now c.in-Placeable.expression c.in-Placeable.is) in
    λ t. absurd (never_text e (elements_from (at + 1) p) (subst IsTextAlone first (c.loop-element.invariant.texts t)))

pub pattern::write_from-write_placeable-requires : goal.pattern::write_from-write_placeable-requires
unfolding state_parts
pattern::write_from-write_placeable-requires g t c =
    let content = g.C.FluentType.content in
    let contents = g.W.Write.contents in
    let a = state g.B.Context.meant g.B.Context.is_plain g.F.FluentFunction.answer content c.loop-element.scope in
    let out = c.loop-element.out in
    let work = c.loop-element.work in
    let p = c.args.pattern.now in
    let one = has_one (pattern_view p) in
    let at = c.loop-element.next in
    let values = values_view content (values_in work) in
    let v = viewed out a values in
    let e = expression_view c.in-Placeable.expression in
    let first = from_next p c.deref.result.now at c.in-Some.element.now (placeable e) c.deref.ensures.value (ltb-true _ _ (sym c.in-Some.ensures.lookup.0)) c.in-Some.ensures.lookup.1 (view_placeable_in c.in-Some.element.now c.in-Placeable.expression c.in-Placeable.is) in
    let placed = placed_prefix a.stored.numbers (references (elements_from at p)) (in_expression e) (references (elements_from (at + 1) p)) c.loop-element.cursor (ap references first) c.loop-element.invariant.placed in
    λ κs h. (falls_to c.decreases (omega arith), (h.0, (h.1.0, (h.1.1.0, (h.1.1.1, ((λ x. true≢false (sym (c.if-dirty.ensures.1 x))), (placed, c.loop-element.invariant.nothing)))))))
