use Rattle.std.proofs.Common.{rules, tests}
use Rattle.std.proofs.lemmas.Iterator.Search.{find_from_yields_List}
use Rattle.std.proofs.lemmas.Iterator.Splits.{YieldsList-from_lines}
use Rattle.fluent_plural_rules.specs.Languages.{is_line_of}
use Rattle.fluent_plural_rules.proofs.languages.line_of.Goals as goal

pub returns : goal.returns
returns c =
    find_from_yields_List (is_line_of c.args.tag.now) _ _ c.find.result c.find.ensures.ran (YieldsList-from_lines c.args.table.now c.lines.ensures.rest)
    (λ x b q k. search (rules, tests))
