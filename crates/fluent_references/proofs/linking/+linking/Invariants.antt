use Rattle.std.proofs.Common.{take}
use Rattle.fluent_ast.specs.ReferencesOf.{of_inlines, of_nameds, of_variants}
use Rattle.fluent_references.specs.Inside.LinkGrowth.{AppendsLinks}
use Rattle.fluent_references.specs.CursorSteps.{in_elements}
use Rattle.fluent_references.specs.Slots.{slots}
use Rattle.fluent_references.proofs.linking.+linking.Given as goal

abbrev pub invariant-link_pattern-loop-element : goal.invariant-link_pattern-loop-element
invariant-link_pattern-loop-element g l =
    AppendsLinks (slots l.initial.slots) (slots l.slots) l.initial.links.items l.links.items (in_elements (take l.element-index l.element-items))

abbrev pub invariant-link_variants-loop-variant : goal.invariant-link_variants-loop-variant
invariant-link_variants-loop-variant g l =
    AppendsLinks (slots l.initial.slots) (slots l.slots) l.initial.links.items l.links.items (of_variants (take l.variant-index l.variants))

abbrev pub invariant-link_positional-loop-argument : goal.invariant-link_positional-loop-argument
invariant-link_positional-loop-argument g l =
    AppendsLinks (slots l.initial.slots) (slots l.slots) l.initial.links.items l.links.items (of_inlines (take l.argument-index l.positional))

abbrev pub invariant-link_named-loop-argument : goal.invariant-link_named-loop-argument
invariant-link_named-loop-argument g l =
    AppendsLinks (slots l.initial.slots) (slots l.slots) l.initial.links.items l.links.items (of_nameds (take l.argument-index l.named))
