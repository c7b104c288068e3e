use Rattle.std.proofs.Common.{◌≡◌, sym, ap, ◌∙◌, length, rules}
use Rattle.fluent_bundle_entries.specs.Texts.{sole_text}
use Rattle.fluent_resolver_state.specs.Facts.Views.{view_pattern}
use Rattle.fluent_resolver_state.proofs.Soles.{sole_none}
use Rattle.fluent_resolver_state.proofs.texts.only_text.Goals.{in_default-via-then-as_slice-lt1, in_default-via-else-as_slice-lt1+else-this-lt2}
use Rattle.fluent_resolver_state.proofs.texts.only_text.Goals as goal

pub returns-in_default : goal.returns-in_default
returns-in_default c =
    let p = c.args.pattern.now in
    let not_one : (length p.elements.items ≡ 1 → ⊥) = elim c.in_default.branch [
      | in_default-via-then-as_slice-lt1 w ↦ λ h. search (rules, h, c.as_slice.ensures.value)
      | in_default-via-else-as_slice-lt1+else-this-lt2 w ↦ λ h. search (rules, h, c.as_slice.ensures.value, w)
    ] in
    sym (ap sole_text (view_pattern p) ∙ sole_none p.elements.items not_one)
