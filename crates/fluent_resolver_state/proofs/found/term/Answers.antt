use Rattle.std.proofs.Common.{ap, sym, ◌∙◌, slice_get}
use Rattle.std.specs.Option.{option_map}
use Rattle.fluent_ast.specs.View.{pattern_view}
use Rattle.fluent_bundle_entries.specs.KeptLinks.{attributes_in, patterns, value_in}
use Rattle.fluent_bundle_entries.specs.IdNumbers.{numbers, table}
use Rattle.fluent_resolver_state.proofs.found.term.Goals as goal

pub returns-in-None-clause-led : goal.returns-in-None-clause-led
returns-in-None-clause-led g c =
    let kept = c.in-Some.ensures.linked in
    c.of.ensures.stored (numbers c.args.ids.now) (table c.args.ids.now) (
      λ l at. kept.value (pattern_view c.in-Term.term.now.value) l.now (ap value_in c.in-Term.is) (sym c.value.ensures ∙ ap (option_map (λ l. l.now)) at),
      λ none. kept.left (pattern_view c.in-Term.term.now.value) (ap value_in c.in-Term.is) (sym c.value.ensures ∙ ap (option_map (λ l. l.now)) none),
    )

pub returns-in-Some-attribute-clause-led : goal.returns-in-Some-attribute-clause-led
returns-in-Some-attribute-clause-led g c =
    let kept = c.in-Some.ensures.linked in
    c.first_of.ensures.led (numbers c.args.ids.now) (table c.args.ids.now) (
      λ k p l is at. kept.attributes.each k p l
          (ap (λ e. slice_get (attributes_in e) k) c.in-Term.is ∙ ap (λ xs. slice_get (patterns xs) k) (sym c.deref.ensures.value) ∙ is)
          (ap (λ ls. slice_get ls k) (sym c.attributes.ensures) ∙ at),
      λ k p is none. kept.attributes.left k p
          (ap (λ e. slice_get (attributes_in e) k) c.in-Term.is ∙ ap (λ xs. slice_get (patterns xs) k) (sym c.deref.ensures.value) ∙ is)
          (ap (λ ls. slice_get ls k) (sym c.attributes.ensures) ∙ none),
    )
