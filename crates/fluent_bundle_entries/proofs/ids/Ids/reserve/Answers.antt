use Rattle.std.proofs.Common.{◌≡◌, ◌∙◌, ap}
use Rattle.fluent_ast.specs.Tree.{Text}
use Rattle.fluent_references.specs.Slots.{slots, named, number}
use Rattle.fluent_references.specs.Table.{table as contents}
use Rattle.fluent_bundle_entries.specs.EntryView.{ids, entry_of}
use Rattle.fluent_bundle_entries.specs.IdNumbers.{numbers, table}
use Rattle.fluent_bundle_entries.proofs.Own.{same_own}
use Rattle.fluent_bundle_entries.proofs.ByName.{same_named}
use Rattle.fluent_bundle_entries.proofs.Linking.{same_linked}
use Rattle.fluent_bundle_entries.proofs.ids.Ids.reserve.Goals as goal

pub returns-clause-grown : goal.returns-clause-grown
unfolding numbers table
returns-clause-grown g c = (λ q n h. ap (λ ss. number ss q) c.reserve.ensures.slots ∙ h, λ n p h. h)

pub returns-clause-same : goal.returns-clause-same
unfolding ids
returns-clause-same g c = λ answer. same_named (λ s. entry_of answer s.entry) (slots c.args.self.now.known) (slots c.reserve.new.self) (λ q. ap (named q) c.reserve.ensures.slots)

pub invariant_of-self : goal.invariant_of-self
invariant_of-self g c =
    let names : (q : Text) → named q (slots c.reserve.new.self) ≡ named q (slots c.args.self.now.known) = λ q. ap (named q) c.reserve.ensures.slots in
    record {
      named = same_own (slots c.args.self.now.known) (slots c.reserve.new.self) names c.args.self.now.named;
      linked = same_linked (slots c.args.self.now.known) (slots c.reserve.new.self) (contents c.args.self.now.classes) (contents c.args.self.now.classes) (λ q n h. ap (λ ss. number ss q) c.reserve.ensures.slots ∙ h) (λ n p h. h) names c.args.self.now.linked;
    }
