use Rattle.std.proofs.Common.{◌∙◌, ap}
use Rattle.fluent_c_handles.specs.Answers.{bundle_view}
use Rattle.fluent_c_handles.specs.Family.{Declares, answered_by}
use Rattle.fluent_c_handles.proofs.Opens.{unchanged}
use Rattle.fluent_c_handles.proofs.stock.Stock.of.Goals as goal

pub returns : goal.returns
returns c =
    let bare = c.requires.new in
    λ i. record {
      by = λ all. (ap (λ (d : Declares). answered_by all d (bundle_view c.args.bundle)) c.none.ensures ∙ unchanged all c.args.bundle bare.names bare.formatter bare.transform) i;
      declared = c.none.ensures i;
      told = c.new.ensures.bytes i;
    }
