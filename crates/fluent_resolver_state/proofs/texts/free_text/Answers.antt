use Rattle.std.proofs.Common.{subst}
use Rattle.fluent_bundle_entries.specs.IdNumbers.{numbers, table}
use Rattle.fluent_resolver_state.specs.FoundView.{IsLedBy}
use Rattle.fluent_resolver_state.proofs.texts.free_text.Goals as goal

pub is_on-requires : goal.is_on-requires
is_on-requires g c =
    let ids = c.args.scope.now.ids.now in
    let led = subst (IsLedBy (numbers ids) (table ids)) c.in-Pattern.is c.requires in
    led.classed
