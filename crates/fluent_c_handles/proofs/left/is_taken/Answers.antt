use Rattle.std.proofs.Common.{sym, ◌∙◌, is_some, false, ◌≡◌}
use Rattle.fluent_semantics.specs.Arguments.{get}
use Rattle.fluent_bundle_entries.specs.EntryView.{entry_of, ids}
use Rattle.fluent_c_handles.proofs.Going.{is_unnamed, some_mapped}
use Rattle.fluent_c_handles.proofs.left.is_taken.Goals as goal

pub returns : goal.returns
returns g c = λ answer now h.
    let first = ids answer c.args.ids.now in
    let unnamed : is_some (get c.args.id.now first) ≡ false =
    sym (some_mapped (λ e. entry_of answer e.now) c.named.result (get c.args.id.now first) (c.named.ensures.content answer)) ∙ (sym c.is_some.ensures ∙ c.if-is_some.false) in
    is_unnamed first now c.args.earlier.now.keys c.insert.new.self.keys c.args.id c.in_ok-is_new.is_new unnamed c.in_ok-is_new.ensures.added c.in_ok-is_new.ensures.updates.0 h
