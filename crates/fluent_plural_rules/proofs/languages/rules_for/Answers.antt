use Rattle.std.proofs.Common.{sym, ◌∙◌}
use Rattle.fluent_plural_rules.specs.Languages.{content}
use Rattle.fluent_plural_rules.proofs.TagLemmas.{own_first}
use Rattle.fluent_plural_rules.proofs.languages.rules_for.Goals as goal

pub returns-in-Some : goal.returns-in-Some
returns-in-Some c =
    sym (own_first c.args.table.now c.loop-rules.asked.now (content c.in-Some.rules) (sym (c.in-Some.ensures))) ∙ c.loop-rules.invariant
