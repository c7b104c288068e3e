use Rattle.std.proofs.Common.{◌≡◌, ◌-◌, ◌≤◌}
use Rattle.fluent_text.specs.Parser.{many_from, one_more, count}
use Rattle.fluent_text.specs.Lexical.{blank_line}
use Rattle.fluent_reasons.proofs.spaces.more_lines.Given as goal

abbrev pub invariant-lines : goal.invariant-lines
invariant-lines l = (count blank_line l.fn.s ≡ many_from one_more blank_line (l._turn-end - l._turn) l.count l.rest) × (l.count ≤ l._turn)
