use Rattle.std.proofs.Common.{OnOk, map, subst}
use Rattle.fluent_places.specs.Asked.{texts}
use Rattle.fluent_places.specs.NeedsView.{need_view}
use Rattle.fluent_patterns.specs.Found.{AddsFlaws}
use Rattle.fluent_differences.specs.Compared.{flaws_by, of_functions_left_out}
use Rattle.fluent_differences.proofs.compared.add_functions_left_out.Goals as goal

pub returns : goal.returns
returns c =
    subst (λ vs. OnOk c.add_by.result (AddsFlaws (flaws_by (of_functions_left_out (texts c.args.called.now.keys) vs) (map need_view c.args.there.now)) c.args.flaws.now c.add_by.new.flaws)) c.in_ok-shows.ensures c.add_by.ensures
