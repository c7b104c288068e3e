use Rattle.std.proofs.Common.{◌∙◌, sym, rules, tests}
use Rattle.std.proofs.lemmas.Iterator.{YieldsList-from_slice}
use Rattle.std.proofs.lemmas.Iterator.Search.{any_from_yields_List}
use Rattle.fluent_ast.specs.View.{key_view}
use Rattle.fluent_ast.specs.declared.ast.Variant.{out-Variant}
use Rattle.fluent_patterns.specs.Selects.{is_other_name}
use Rattle.fluent_patterns.proofs.KeyTests.{any_key}
use Rattle.fluent_patterns.proofs.selects.has_other_name.Goals as goal

pub returns : goal.returns
returns c =
    any_from_yields_List (λ x. is_other_name (key_view (out-Variant x).key)) _ _ c.any.result c.any.ensures.ran (YieldsList-from_slice c.args.variants.now cc) (λ x b q k. search (rules, tests))
    ∙ sym (any_key is_other_name c.args.variants.now)
