use Rattle.fluent_plural_rules.proofs.RuleRuns.{boundary}
use Rattle.fluent_plural_rules.proofs.rule_texts.lexical.split_run.Goals as goal

pub split_at-requires : goal.split_at-requires
split_at-requires c = rw c.run_len.ensures.len (boundary c.args.class c.args.s.now c.utf8.s)
