use Rattle.std.proofs.Common.{◌≡◌, ◌∙◌, ap, sym, subst, Some, IfSome}
use Rattle.std.specs.Option.{option_map}
use Rattle.fluent_references.specs.Slots.{slots, number}
use Rattle.fluent_references.specs.Table.{table as contents}
use Rattle.fluent_bundle_entries.specs.EntryView.{ids, entry_of}
use Rattle.fluent_bundle_entries.specs.IdNumbers.{numbers, table}
use Rattle.fluent_bundle_entries.proofs.Own.{found_own}
use Rattle.fluent_bundle_entries.proofs.ByName.{get_named, borrowed_view}
use Rattle.fluent_bundle_entries.proofs.Linking.{found_linked}
use Rattle.fluent_bundle_entries.proofs.ids.Ids.slot.Goals as goal

pub returns-in-Some-clause-content : goal.returns-in-Some-clause-content
unfolding ids numbers
returns-in-Some-clause-content g c = λ is answer.
    let own = subst (λ o. IfSome o (λ n. number (slots c.args.self.now.known) c.args.id.now ≡ Some n)) c.in-Some.is is in
    borrowed_view (λ s. entry_of answer s.entry) c.at.result ∙ ap (option_map (λ s. entry_of answer s.entry)) (c.at.ensures.by_id c.args.id.now own) ∙ sym (get_named (λ s. entry_of answer s.entry) (slots c.args.self.now.known) c.args.id.now)

pub returns-in-Some-clause-own : goal.returns-in-Some-clause-own
unfolding numbers
returns-in-Some-clause-own g c = λ is.
    let own = subst (λ o. IfSome o (λ n. number (slots c.args.self.now.known) c.args.id.now ≡ Some n)) c.in-Some.is is in
    found_own c.at.result (slots c.args.self.now.known) c.args.id.now (c.at.ensures.by_id c.args.id.now own) c.args.self.now.named

pub returns-in-Some-clause-linked : goal.returns-in-Some-clause-linked
unfolding numbers table
returns-in-Some-clause-linked g c = λ is.
    let own = subst (λ o. IfSome o (λ n. number (slots c.args.self.now.known) c.args.id.now ≡ Some n)) c.in-Some.is is in
    found_linked c.at.result (slots c.args.self.now.known) (contents c.args.self.now.classes) c.args.id.now (c.at.ensures.by_id c.args.id.now own) c.args.self.now.linked

pub returns-in-None-clause-content : goal.returns-in-None-clause-content
unfolding ids
returns-in-None-clause-content g c = λ is answer.
    borrowed_view (λ s. entry_of answer s.entry) c.find.result ∙ ap (option_map (λ s. entry_of answer s.entry)) c.find.ensures ∙ sym (get_named (λ s. entry_of answer s.entry) (slots c.args.self.now.known) c.args.id.now)

pub returns-in-None-clause-own : goal.returns-in-None-clause-own
returns-in-None-clause-own g c = λ is. found_own c.find.result (slots c.args.self.now.known) c.args.id.now c.find.ensures c.args.self.now.named

pub returns-in-None-clause-linked : goal.returns-in-None-clause-linked
unfolding numbers table
returns-in-None-clause-linked g c = λ is. found_linked c.find.result (slots c.args.self.now.known) (contents c.args.self.now.classes) c.args.id.now c.find.ensures c.args.self.now.linked
