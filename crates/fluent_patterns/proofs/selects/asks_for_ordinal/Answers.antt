use Rattle.std.proofs.Common.{◌∙◌, codes, sym, rules, tests}
use Rattle.std.proofs.lemmas.Iterator.{YieldsList-from_slice}
use Rattle.std.proofs.lemmas.Iterator.Search.{any_from_yields_List}
use Rattle.fluent_patterns.proofs.KeyTests.{any_literal, is_given}
use Rattle.fluent_patterns.proofs.selects.asks_for_ordinal.Goals as goal

pub returns : goal.returns
returns c =
    any_from_yields_List (is_given (codes "type") (codes "ordinal")) _ _ c.any.result c.any.ensures.ran (YieldsList-from_slice c.args.named.now cc) (λ x b q k. search (rules, tests))
    ∙ sym (any_literal (codes "type") (codes "ordinal") c.args.named.now)
