use Rattle.std.proofs.Common.{}
use Rattle.fluent_text.specs.Parser.{count}
use Rattle.fluent_syntax.specs.Expressions.{quoted_turn}
use Rattle.fluent_syntax.specs.Facts.Prefixes.{left_within, left_end, takes-count}
use Rattle.fluent_syntax.specs.Facts.Literals.{takes-quoted_turn}
use Rattle.fluent_syntax.proofs.parser.literal.quoted_text.Goals as goal

pub before-requires-clause-within : goal.before-requires-clause-within
before-requires-clause-within c = left_within (count quoted_turn) _ _ _ (takes-count quoted_turn takes-quoted_turn) c.quoted.ensures

pub before-requires-clause-end : goal.before-requires-clause-end
before-requires-clause-end c = left_end (count quoted_turn) _ _ _ (takes-count quoted_turn takes-quoted_turn) c.quoted.ensures
