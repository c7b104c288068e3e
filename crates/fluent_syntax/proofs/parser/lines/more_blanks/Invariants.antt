use Rattle.std.proofs.Common.{◌≡◌, ◌-◌, ◌≤◌}
use Rattle.fluent_text.specs.Parser.{many_from, one_more, count}
use Rattle.fluent_text.specs.Lexical.{blank_turn}
use Rattle.fluent_syntax.proofs.parser.lines.more_blanks.Given as goal
use denote.Shadow.{shadow}
use denote.Text.{Utf8}

abbrev pub invariant-blanks : goal.invariant-blanks
invariant-blanks l =
    shadow (Utf8 l.rest) × (count blank_turn l.fn.s ≡ many_from one_more blank_turn (l._turn-end - l._turn) l.count l.rest) × (l.count ≤ l._turn)
