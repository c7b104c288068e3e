use Rattle.std.proofs.Common.{◌∙◌, map}
use Rattle.fluent_ast.specs.Tree.{variants_of}
use Rattle.fluent_ast.specs.View.{variant_view}
use Rattle.fluent_resolver_state.specs.Choice.{first_default}
use Rattle.fluent_resolver_state.proofs.Choice.{nothing_like}
use Rattle.fluent_resolver_state.proofs.variants.choose.Goals as goal

pub returns-in-Custom-clause-chose : goal.returns-in-Custom-clause-chose
returns-in-Custom-clause-chose g c =
    let vs = variants_of (map variant_view c.args.variants.now) in
    c.first_default.ensures.chose ∙ nothing_like g.C.FluentType.content (g.B.Context.meant c.args.bundle.now) c.args.value.now (first_default vs) vs c.in-Custom.is
