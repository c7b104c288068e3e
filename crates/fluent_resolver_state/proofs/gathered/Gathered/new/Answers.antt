use Rattle.std.proofs.Common.{◌∙◌, ap}
use Rattle.std.specs.Cow.{cow_str_bytes}
use Rattle.fluent_bundle_entries.specs.EntryView.{by_name}
use Rattle.fluent_values.specs.View.{value_view}
use Rattle.fluent_values.specs.Facts.Keyed.{both}
use Rattle.fluent_values.specs.Facts.Ordered.{entries_of_empty}
use Rattle.fluent_resolver_state.proofs.gathered.Gathered.new.Goals as goal

pub returns-else-expected-le-FEW : goal.returns-else-expected-le-FEW
returns-else-expected-le-FEW g c = ap (λ es. by_name (both cow_str_bytes (value_view g.C.FluentType.content) es)) c.new-else-expected-le-FEW.ensures.empty ∙ entries_of_empty
