use Rattle.std.proofs.Common.{sym, subst}
use Rattle.fluent_places.specs.Places.{place_view}
use Rattle.fluent_clean.specs.Inside.Steps.{Misses}
use Rattle.fluent_clean.proofs.Missing.{misses_message, misses_term}
use Rattle.fluent_clean.proofs.checking.missing.Goals as goal

pub returns-in-Message : goal.returns-in-Message
returns-in-Message g c =
    let named = g.B.GetEntry.named c.args.bundle.now in
    subst (λ p. Misses named (place_view p) c.missing_message.result) (sym c.in-Message.is) (misses_message named _ _ _ c.missing_message.ensures)

pub returns-in-Term : goal.returns-in-Term
returns-in-Term g c =
    let named = g.B.GetEntry.named c.args.bundle.now in
    subst (λ p. Misses named (place_view p) c.missing_term.result) (sym c.in-Term.is) (misses_term named _ _ _ c.missing_term.ensures)
