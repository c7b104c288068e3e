use Rattle.std.proofs.Common.{◌-◌, ◌≡◌}
use denote.Shadow.{shadow}
use denote.Text.{Utf8}
use Rattle.fluent_syntax.specs.Expressions.{argument_list, level}
use Rattle.fluent_syntax.specs.Inside.Gathering.{gathered_view}
use Rattle.fluent_syntax.proofs.Gathers.{gathers}
use Rattle.fluent_syntax.proofs.parser.inner.Inner.argument_list.Given as goal

abbrev pub invariant-arguments : goal.invariant-arguments
invariant-arguments g l =
    shadow (Utf8 l.rest) × (argument_list (level l.self.depth) l.fn.s ≡ gathers (level l.self.depth) (l._turn-end - l._turn) (gathered_view l.found) l.rest)
