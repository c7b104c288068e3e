use Rattle.std.proofs.Common.{rules, ◌≡◌, refl, sym, ap, ◌∙◌}
use Rattle.std.specs.Option.{option_map}
use Rattle.fluent_ast.specs.Tree.{Text}
use Rattle.fluent_ast.specs.View.{pattern_view}
use Rattle.fluent_semantics.specs.Bundle.{transform_of}
use Rattle.fluent_values.specs.Facts.Took.{counts_told, took_by}
use Rattle.fluent_values.specs.Sinks.{without_error, writer}
use Rattle.fluent_resolver_state.specs.Status.{arguments_view}
use Rattle.fluent_bundle.specs.BundleView.{meant, transform_in}
use Rattle.fluent_bundle.specs.Formatted.{Writes, written_events}
use Rattle.fluent_bundle.proofs.Events.{sole_events, texts_events}
use Rattle.fluent_bundle.proofs.Formats.{ok_as, writes_text, writes_whole, written_through}
use Rattle.fluent_bundle.proofs.Givings.{at_once_where, never_alone, texts_where}
use Rattle.fluent_bundle.proofs.bundle.FluentBundle.write_linked.Given as given
use Rattle.fluent_bundle.proofs.bundle.FluentBundle.write_linked.Goals as goal

-- what was done of a pattern that is one text
at_once : (g : given.Over) (c : goal.After-put g) → let b = meant g.M.MemoizerKind.category g.C.FluentType.shown g.C.FluentType.alike g.F.FluentFunction.answer g.G.FluentFormatter.formatted g.T.Transform.changed c.args.self.now in
    Writes (without_error c.put.result) (written_events b (arguments_view g.C.FluentType.content c.args.args) (pattern_view c.args.pattern.now)) (writer g.W.Write.contents c.args.w.now) (writer g.W.Write.contents c.put.new.w) c.args.errors.now.items c.args.errors.now.items
at_once g c =
    let self = c.args.self.now in
    let b = meant g.M.MemoizerKind.category g.C.FluentType.shown g.C.FluentType.alike g.F.FluentFunction.answer g.G.FluentFormatter.formatted g.T.Transform.changed self in
    let p = pattern_view c.args.pattern.now in
    let t = c.in-Some.text.now in
    let here = at_once_where (transform_in self) p t (sym (ap (option_map (λ t. t.now)) c.in-Some.is) ∙ c.untransformed_text.ensures) in
    let plain : (u : Text) → b.transform u ≡ u = λ u. ap (λ o. transform_of (option_map g.T.Transform.changed o) u) here.0 in
    let took = took_by c.put.result c.as_bytes.result.now (writer g.W.Write.contents c.args.w.now) (writer g.W.Write.contents c.put.new.w) c.put.ensures.whole c.put.ensures.prefix c.put.ensures.fault refl refl in
    writes_text c.args.errors.now.items (rw c.as_bytes.ensures.value (sole_events b (arguments_view g.C.FluentType.content c.args.args) p t plain here.1)) took

pub returns-in-Some-clause-whole : goal.returns-in-Some-clause-whole
returns-in-Some-clause-whole g c = ok_as _ c.put.result refl (writes_whole _ _ _ (c.events_are_the_run.ensures _ _ _) (at_once g c))

pub returns-in-Some-clause-prefix : goal.returns-in-Some-clause-prefix
returns-in-Some-clause-prefix g c = (at_once g c).prefix

-- what was done of one of texts alone
in_turn : (g : given.Over) (c : goal.After-write_texts g) → let b = meant g.M.MemoizerKind.category g.C.FluentType.shown g.C.FluentType.alike g.F.FluentFunction.answer g.G.FluentFormatter.formatted g.T.Transform.changed c.args.self.now in
    Writes (without_error c.write_texts.result) (written_events b (arguments_view g.C.FluentType.content c.args.args) (pattern_view c.args.pattern.now)) (writer g.W.Write.contents c.args.w.now) (writer g.W.Write.contents c.write_texts.new.w) c.args.errors.now.items c.args.errors.now.items
in_turn g c =
    let self = c.args.self.now in
    let b = meant g.M.MemoizerKind.category g.C.FluentType.shown g.C.FluentType.alike g.F.FluentFunction.answer g.G.FluentFormatter.formatted g.T.Transform.changed self in
    let p = pattern_view c.args.pattern.now in
    let here = texts_where (transform_in self) p (sym c.writes_texts_alone.ensures ∙ c.if-writes_texts_alone.true) in
    let plain : (u : Text) → b.transform u ≡ u = λ u. ap (λ o. transform_of (option_map g.T.Transform.changed o) u) here.0 in
    writes_text c.args.errors.now.items (texts_events b (arguments_view g.C.FluentType.content c.args.args) p plain here.1) c.write_texts.ensures.took

pub returns-then-writes_texts_alone-clause-whole : goal.returns-then-writes_texts_alone-clause-whole
returns-then-writes_texts_alone-clause-whole g c = ok_as _ c.write_texts.result refl (writes_whole _ _ _ (c.events_are_the_run.ensures _ _ _) (in_turn g c))

pub returns-then-writes_texts_alone-clause-prefix : goal.returns-then-writes_texts_alone-clause-prefix
returns-then-writes_texts_alone-clause-prefix g c = (in_turn g c).prefix

pub returns-then-writes_texts_alone-clause-fault : goal.returns-then-writes_texts_alone-clause-fault
returns-then-writes_texts_alone-clause-fault g c = counts_told _ _ _ _ c.write_texts.result c.write_texts.ensures.took.fault

-- what was done of any other
through_output : (g : given.Over) (c : goal.After-drop-unused g) → let b = meant g.M.MemoizerKind.category g.C.FluentType.shown g.C.FluentType.alike g.F.FluentFunction.answer g.G.FluentFormatter.formatted g.T.Transform.changed c.args.self.now in
    Writes c.write_resolved-written.result (written_events b (arguments_view g.C.FluentType.content c.args.args) (pattern_view c.args.pattern.now)) (writer g.W.Write.contents c.args.w.now) (writer g.W.Write.contents c.w-1.given.0) c.args.errors.now.items c.write_resolved-written.new.errors.items
through_output g c =
    let out = c.write_resolved-written.new.out in
    let made = c.through in
    written_through g.W.Write.contents made.result.writer.ghost_name out.writer.ghost_name made.result.buffer.ghost_name out.buffer.ghost_name c.args.w.now made.result.writer.now out.writer.now c.w-1.given.0 made.result.buffer.now out.buffer.now made.result.is_buffered out.is_buffered (search rules) made.ensures.writer made.ensures.through c.write_resolved-written.ensures

pub returns-clause-whole : goal.returns-clause-whole
returns-clause-whole g c = ok_as _ c.with_error.result c.with_error.ensures (writes_whole _ _ _ (c.events_are_the_run.ensures _ _ _) (through_output g c))

pub returns-clause-prefix : goal.returns-clause-prefix
returns-clause-prefix g c = (through_output g c).prefix

pub returns-clause-fault : goal.returns-clause-fault
returns-clause-fault g c = counts_told _ _ _ _ c.with_error.result (rw c.with_error.ensures (through_output g c).fault)

pub returns-clause-memory : goal.returns-clause-memory
returns-clause-memory g c = λ texts bare. absurd (never_alone (transform_in c.args.self.now) (pattern_view c.args.pattern.now) (sym c.writes_texts_alone.ensures ∙ c.if-writes_texts_alone.false) texts bare)

pub returns-in-Some-clause-memory : goal.returns-in-Some-clause-memory
returns-in-Some-clause-memory g c = λ texts bare. c.put.ensures.memory

pub returns-then-writes_texts_alone-clause-memory : goal.returns-then-writes_texts_alone-clause-memory
returns-then-writes_texts_alone-clause-memory g c = λ texts bare. c.write_texts.ensures.memory
