use Rattle.std.proofs.Common.{◌≡◌, ◌-◌, ◌≤◌}
use Rattle.fluent_text.specs.Parser.{many_from, one_more, count}
use Rattle.fluent_text.specs.Lexical.{blank_turn}
use Rattle.fluent_reasons.proofs.spaces.more_blanks.Given as goal

abbrev pub invariant-blanks : goal.invariant-blanks
invariant-blanks l = (count blank_turn l.fn.s ≡ many_from one_more blank_turn (l._turn-end - l._turn) l.count l.rest) × (l.count ≤ l._turn)
