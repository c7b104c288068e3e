use Rattle.std.proofs.Common.{rules, tests}
use Rattle.std.proofs.lemmas.Iterator.{YieldsList-from_slice}
use Rattle.std.proofs.lemmas.Iterator.Search.{all_from_yields_List}
use Rattle.fluent_patterns.specs.Selects.{is_among, whole_number}
use Rattle.fluent_patterns.specs.SelectView.{senses_view}
use Rattle.fluent_patterns.proofs.selects.have_variants.Goals as goal

pub returns : goal.returns
returns c = all_from_yields_List (λ n. is_among (whole_number n) (senses_view c.args.senses.now)) _ _ c.all.result c.all.ensures.ran (YieldsList-from_slice c.args.numbers.now cc) (λ x b q k. search (rules, tests))
