use Rattle.std.proofs.Common.{◌≡◌, ◌∙◌, sym, ap, rules}
use Rattle.std.specs.Cow.{cow_str_bytes}
use Rattle.std.specs.Option.{option_map, option_copied}
use Rattle.std.specs.Str.{bytes_eq}
use Rattle.fluent_references.specs.Slots.{flat, slots}
use Rattle.fluent_references.proofs.Slotted.{lookup_seen}
use Rattle.fluent_references.proofs.slots.Slots.find.Goals as goal

pub returns-in_err-get : goal.returns-in_err-get
unfolding slots
returns-in_err-get g c =
    let none : option_map (λ x. x.now) c.from_residual.result ≡ flat (option_copied c.get.result) = search rules in
    none ∙ ap flat (c.get.ensures.value ∙ sym (lookup_seen cow_str_bytes (bytes_eq c.args.id.now) c.args.self.now.ids.entries))

pub returns : goal.returns
unfolding slots
returns g c =
    let some : option_map (λ x. x.now) c.as_ref.result ≡ flat (option_copied c.get.result) = search rules in
    some ∙ ap flat (c.get.ensures.value ∙ sym (lookup_seen cow_str_bytes (bytes_eq c.args.id.now) c.args.self.now.ids.entries))
