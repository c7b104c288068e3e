use Rattle.std.proofs.Common.{Some, ap, subst, ◌∙◌, arith}
use Rattle.fluent_places.specs.Places.{place_view}
use Rattle.fluent_clean.specs.Findings.{IsRight}
use Rattle.fluent_clean.specs.Inside.Steps.{IsLook}
use Rattle.fluent_clean.proofs.Looked.{entry_at, looked_fine, looked_large, looked_nothing, looked_unclean}
use Rattle.fluent_clean.proofs.Settled.{fine}
use Rattle.fluent_clean.proofs.passes.look_at_all.Goals as goal
use Rattle.fluent_clean.proofs.passes.look_at_all.Goals.{in-Some-known+then-count-limit+in_ok-push-in-Some-known, in-Some-known+else-count-limit, in-None+in_ok-look_at-in-None+in-Nothing, in-None+in_ok-look_at-in-None+in-Unclean+in_ok-append-in-Unclean}

pub loop-i-preserved : goal.loop-i-preserved
loop-i-preserved g c =
    let named = g.B.GetEntry.named c.args.bundle.now in
    let known = c.args.table.now.entries in
    let limit = c.args.limit in
    let fs = c.loop-i.findings.items in
    let q = c.in-Some.place.now in
    elim c.match-known.branch [
      | in-Some-known+then-count-limit+in_ok-push-in-Some-known w ↦
          let right : IsRight named (place_view q) w.in-Some-known.count = c.requires q w.in-Some-known.count (c.in-Some.ensures.value ∙ ap Some w.in-Some-known.is) in
          looked_large named limit known fs _ c.loop-i.i q w.in-Some-known.count w.too_many.result (entry_at known _ q _ _ c.in-Some.ensures.entry w.in-Some-known.is)
          (ap (λ v. v.items) w.findings-is ∙ w.in_ok-push-in-Some-known.ensures.items) w.too_many.ensures.place w.too_many.ensures.kind w.if-count-limit.true right c.loop-i.invariant
      | in-Some-known+else-count-limit w ↦
          let right : IsRight named (place_view q) w.in-Some-known.count = c.requires q w.in-Some-known.count (c.in-Some.ensures.value ∙ ap Some w.in-Some-known.is) in
          looked_fine named limit known fs _ c.loop-i.i q w.in-Some-known.count (entry_at known _ q _ _ c.in-Some.ensures.entry w.in-Some-known.is)
          (ap (λ v. v.items) w.findings-is) right (fine c.deeper_counts_more.ensures named (place_view q) w.in-Some-known.count limit right (omega (arith, w.if-count-limit.false)) (omega (arith, c.ranges.limit.fits))) c.loop-i.invariant
      | in-None+in_ok-look_at-in-None+in-Nothing w ↦
          looked_nothing named limit known fs _ c.loop-i.i q (entry_at known _ q _ _ c.in-Some.ensures.entry w.in-None.is)
          (ap (λ v. v.items) w.findings-is) (subst (IsLook named known (place_view q)) w.in-Nothing.is w.in_ok-look_at-in-None.ensures) c.loop-i.invariant
      | in-None+in_ok-look_at-in-None+in-Unclean+in_ok-append-in-Unclean w ↦
          let look = subst (IsLook named known (place_view q)) w.in-Unclean.is w.in_ok-look_at-in-None.ensures in
          looked_unclean named limit known fs w.in-Unclean.more.items _ c.loop-i.i q (entry_at known _ q _ _ c.in-Some.ensures.entry w.in-None.is)
          (ap (λ v. v.items) w.findings-is ∙ w.in_ok-append-in-Unclean.ensures.items) look.0 look.1 c.loop-i.invariant
    ]
