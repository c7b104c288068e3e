use Rattle.std.proofs.Common.{◌∙◌, ap, sym, if◌then◌else◌}
use Rattle.fluent_semantics.specs.Arguments.{set}
use Rattle.fluent_c_handles.specs.Inside.Gathered.{gathered, seen}
use Rattle.fluent_c_handles.proofs.Inserted.{seen_inserted}
use Rattle.fluent_c_handles.proofs.message_ids.put.Goals as goal

pub returns-in_ok-insert : goal.returns-in_ok-insert
returns-in_ok-insert c =
    let before = gathered c.args.ids.now in
    ap seen c.in_ok-insert.ensures.keys ∙ seen_inserted c.args.ids.now.keys c.args.id
    ∙ sym (ap (λ b. if b then set c.args.id.now tt before else before) (sym c.has_message.ensures ∙ c.if-has_message.true))
