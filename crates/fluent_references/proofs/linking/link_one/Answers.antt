use Rattle.std.proofs.Common.{[], ◌∷◌, ◌∙◌, ap, sym}
use Rattle.fluent_references.specs.Slots.{slots, with_slot}
use Rattle.fluent_references.proofs.Gathered.{adds_one, begins_all}
use Rattle.fluent_references.proofs.Slotted.{on_err}
use Rattle.fluent_references.proofs.linking.link_one.Goals as goal

pub returns-clause-ok : goal.returns-clause-ok
returns-clause-ok g c = λ r same. adds_one (slots c.args.slots.now) (slots c.number_of.new.self) c.number_of.ensures.kept r c.args.id.now c.args.links.now.items c.push.new.self.items c.in_ok-number_of.field-0 c.in_ok-number_of.ensures.ok c.in_ok-number_of.ensures.number c.in_ok-push.ensures.items same

pub returns-in_err-push-clause-err : goal.returns-in_err-push-clause-err
returns-in_err-push-clause-err g c = on_err c.from_residual-in_err-push.result (λ r same. begins_all (slots c.args.slots.now) (slots c.number_of.new.self) (r ∷ []) (c.in_ok-number_of.ensures.ok ∙ sym (ap (λ id. with_slot id (slots c.args.slots.now)) same)))
