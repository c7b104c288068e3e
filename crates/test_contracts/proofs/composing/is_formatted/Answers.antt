use Rattle.std.proofs.Common.{rules, ◌∙◌}
use Rattle.test_contracts.proofs.composing.is_formatted.Goals.{in-Ok+in-Owned-1, in-Ok+in-Borrowed-1, in-Err-1}
use Rattle.test_contracts.proofs.composing.is_formatted.Goals as goal

pub returns : goal.returns
returns c = λ t is.
    let kept = c.set_use_isolating.ensures.kept in
    let borrowed = c.format_pattern.ensures.borrowed t is (kept.transform ∙ c.new-made.ensures.unset.0) (kept.formatter ∙ c.new-made.ensures.unset.1) in
    elim c.match-format_pattern.branch [
      | in-Ok+in-Owned-1 w ↦ search (rules, borrowed)
      | in-Ok+in-Borrowed-1 w ↦ search (rules, borrowed)
      | in-Err-1 w ↦ search (rules, borrowed)
    ]
