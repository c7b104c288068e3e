use Rattle.std.proofs.Common.{map, take}
use Rattle.fluent_answers.specs.Inside.Given.{KeepsFirst, given_view}
use Rattle.fluent_answers.proofs.answers.given.rows_of.Given as goal

-- the first answers so far
abbrev pub invariant-loop-given : goal.invariant-loop-given
invariant-loop-given l = KeepsFirst (map given_view (take l.given-index l.list)) l.rows
