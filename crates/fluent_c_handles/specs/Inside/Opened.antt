-- A bundle that was just opened, and its stock.
use Rattle.std.specs.Prelude.{◌≡◌, None, []}
use Rattle.fluent_ast.specs.Tree.{Text}
use Rattle.fluent_semantics.specs.Bundle.{Bundle}
use Rattle.fluent_bundle.specs.BundleView.{formatter_in, transform_in}
use Rattle.fluent_c_handles.specs.Answers.{Code, bundle_view, new_kept, stock_content}
use Rattle.fluent_c_handles.specs.Inside.Resources.{AreAmong, AllFrom}
use Rattle.fluent_c_handles.specs.declared.stock.Stock.{Stock}

-- It has no sources and no functions of the caller's, no formatter and no transform.
pub record IsBare (bundle : Code) : Type 0 where
  pub from : AllFrom [] (bundle_view bundle).ids
  pub names : AreAmong [] (bundle_view bundle).ids
  pub formatter : formatter_in bundle ≡ None
  pub transform : transform_in bundle ≡ None

-- A bundle of which this is said was opened.
pub record OpensStock (is : Bundle Text → Type 0) (stock : Stock) : Type 0 where
  pub bundle : Bundle Text
  pub opened : is bundle
  pub new : stock_content stock ≡ new_kept bundle
