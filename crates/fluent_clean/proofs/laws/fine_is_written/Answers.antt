use Rattle.fluent_semantics.specs.Meaning.{settling}
use Rattle.fluent_clean.proofs.laws.fine_is_written.Goals as goal

pub returns : goal.returns
returns c b x fine p e args given = let h = fine p e in c.clean_means_no_errors.ensures.written b args p h.0 given (h.1 (settling b))
