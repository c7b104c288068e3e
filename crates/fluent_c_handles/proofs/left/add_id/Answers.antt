use Rattle.std.proofs.Common.{◌∙◌, sym, ap}
use Rattle.fluent_semantics.specs.Errors.{overriding}
use Rattle.fluent_bundle_entries.specs.ErrorView.{kind_view}
use Rattle.fluent_c_handles.proofs.Going.{left_free, left_taken}
use Rattle.fluent_c_handles.proofs.left.add_id.Goals as goal

pub returns-in_ok-push : goal.returns-in_ok-push
returns-in_ok-push g c = λ answer now h.
    let told = c.in_ok-is_taken.ensures answer now h in
    (told.1, left_taken c.args.k (kind_view c.args.kind) c.args.id.now now c.args.seen.now.left.items c.push.new.self.items _ (sym told.0 ∙ c.if-branch.true) c.in_ok-push.ensures.items (ap (λ t. (c.args.k, overriding (kind_view c.args.kind) t)) c.in_ok-id.ensures.ok))

pub returns-else-branch : goal.returns-else-branch
returns-else-branch g c = λ answer now h.
    let told = c.in_ok-is_taken.ensures answer now h in
    (told.1, left_free c.args.k (kind_view c.args.kind) c.args.id.now now c.args.seen.now.left.items (sym told.0 ∙ c.if-branch.false))
