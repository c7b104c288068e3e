use Rattle.std.proofs.Common.{◌≡◌, ◌-◌, ◌≤◌}
use Rattle.fluent_text.specs.Parser.{many_from, one_more, count}
use Rattle.fluent_syntax.specs.Expressions.{quoted_turn}
use Rattle.fluent_syntax.proofs.parser.literal.quoted.Given as goal
use denote.Shadow.{shadow}
use denote.Text.{Utf8}

abbrev pub invariant-quoted : goal.invariant-quoted
invariant-quoted l =
    shadow (Utf8 l.rest) × (count quoted_turn l.fn.s ≡ many_from one_more quoted_turn (l._turn-end - l._turn) l.count l.rest) × (l.count ≤ l._turn)
