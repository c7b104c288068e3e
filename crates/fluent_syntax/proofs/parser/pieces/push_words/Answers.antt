use Rattle.std.proofs.Common.{[], ◌∷◌, refl, sym, ◌∙◌}
use Rattle.fluent_syntax.specs.Layout.{line, words}
use Rattle.fluent_syntax.specs.Inside.PieceView.{piece_view}
use Rattle.fluent_syntax.proofs.Progress.{no_text_here, text_here, text_below, added, added_two, is_equal}
use Rattle.fluent_syntax.proofs.parser.pieces.push_words.Goals as goal

pub returns-in-Some : goal.returns-in-Some
returns-in-Some c = (
  words c.in-Some.words,
  [],
  text_here c.args.s.now c.in-Some.rest.now c.in-Some.words (sym c.in-Some.ensures),
  added piece_view _ _ _ c.in_ok-push.ensures.items,
)

pub returns-in-Some-block_text : goal.returns-in-Some-block_text
returns-in-Some-block_text c = (
  line c.in-Some-block_text.parts.0,
  words c.in-Some-block_text.parts.1 ∷ [],
  text_below c.args.s.now c.in-Some-block_text.rest.now c.in-Some-block_text.parts.0 c.in-Some-block_text.parts.1 (sym c.in_default.ensures) (sym c.in-Some-block_text.ensures),
  added_two piece_view c.args.found.now.items c.push-in-Some-block_text.new.list.items c.push-in-Some-block_text-2.new.list.items _ _ c.in_ok-push-2.ensures.items c.in_ok-push-3.ensures.items,
)

pub returns-then-byte_at-eq123 : goal.returns-then-byte_at-eq123
returns-then-byte_at-eq123 c = (no_text_here c.args.s.now (is_equal _ 123 (sym c.byte_at.ensures ∙ c.if-byte_at-eq123.true)), refl)
