use Rattle.std.proofs.Common.{◌≡◌, drop}
use Rattle.fluent_ast.specs.References.{variants_view}
use Rattle.fluent_places.specs.Needs.{has_default}
use Rattle.fluent_places.proofs.listing.has_default.Given as goal

abbrev pub invariant-loop-variant : goal.invariant-loop-variant
invariant-loop-variant l = has_default (variants_view (drop l.variant-index l.variants)) ≡ has_default (variants_view l.variants)
