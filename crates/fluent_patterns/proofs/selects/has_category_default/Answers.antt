use Rattle.std.proofs.Common.{◌∙◌, ◌&&◌, sym, rules, tests}
use Rattle.std.proofs.lemmas.Iterator.{YieldsList-from_slice}
use Rattle.std.proofs.lemmas.Iterator.Search.{any_from_yields_List}
use Rattle.fluent_ast.specs.View.{key_view}
use Rattle.fluent_ast.specs.declared.ast.Variant.{out-Variant}
use Rattle.fluent_patterns.specs.Selects.{is_category}
use Rattle.fluent_patterns.proofs.KeyTests.{any_default_key}
use Rattle.fluent_patterns.proofs.selects.has_category_default.Goals as goal

pub returns : goal.returns
returns c =
    any_from_yields_List (λ x. (out-Variant x).default && is_category (key_view (out-Variant x).key)) _ _ c.any.result c.any.ensures.ran (YieldsList-from_slice c.args.variants.now cc) (λ x b q k. search (rules, tests))
    ∙ sym (any_default_key is_category c.args.variants.now)
