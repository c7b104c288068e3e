use Rattle.std.proofs.Common.{◌∙◌, ◌&&◌, not, sym, rules, tests}
use Rattle.std.specs.Str.{bytes_eq}
use Rattle.std.proofs.lemmas.Iterator.{YieldsList-from_slice}
use Rattle.std.proofs.lemmas.Iterator.Search.{any_from_yields_List}
use Rattle.fluent_patterns.specs.CategoryView.{category_view}
use Rattle.fluent_patterns.proofs.KeyTests.{any_seen}
use Rattle.fluent_patterns.proofs.selects.no_number_has.Goals as goal

pub returns : goal.returns
returns c =
    any_from_yields_List (λ x. bytes_eq c.args.word.now (category_view x).key && not (category_view x).exists) _ _ c.any.result c.any.ensures.ran (YieldsList-from_slice c.args.asked.now cc) (λ x b q k. search (rules, tests))
    ∙ sym (any_seen category_view (λ x. bytes_eq c.args.word.now x.key && not x.exists) c.args.asked.now)
