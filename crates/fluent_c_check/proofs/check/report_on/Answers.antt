use Rattle.fluent_c_check.proofs.check.report_on.Goals as goal

pub returns-in-Ok-clause-ok : goal.returns-in-Ok-clause-ok
returns-in-Ok-clause-ok c = record { handed = c.in_ok-handed.handed; is = c.in_ok-handed.ensures.ok; tells = c.in-Ok.ensures }
