use Rattle.std.proofs.Common.{◌≡◌, ◌+◌, ◌-◌, ◌≤◌, ◌^◌, max, drop, map}
use Rattle.fluent_ast.specs.Tree.{pattern_of}
use Rattle.fluent_ast.specs.View.{element_view}
use Rattle.fluent_ast.specs.References.{inlines_view, nameds_view, variants_view}
use Rattle.fluent_clean.specs.Clean.{most_in_pattern, most_in_variants, most_in_positional, most_in_named}
use Rattle.fluent_clean.specs.Findings.{capped}
use Rattle.fluent_clean.specs.Inside.Table.{count_of}
use Rattle.fluent_clean.proofs.counting.+counting.Given as goal

abbrev pub invariant-most_opened-loop-element : goal.invariant-most_opened-loop-element
invariant-most_opened-loop-element l = record {
  small : l.total ≤ 2 ^ 64 - 1;
  counted : capped (most_in_pattern (count_of l.table.entries) (pattern_of (map element_view l.element-items))) ≡ capped (l.total + most_in_pattern (count_of l.table.entries) (pattern_of (map element_view (drop l.element-index l.element-items))));
}

abbrev pub invariant-in_largest-loop-variant : goal.invariant-in_largest-loop-variant
invariant-in_largest-loop-variant l = record {
  small : l.largest ≤ 2 ^ 64 - 1;
  counted : capped (most_in_variants (count_of l.table.entries) (variants_view l.variants)) ≡ capped (max l.largest (most_in_variants (count_of l.table.entries) (variants_view (drop l.variant-index l.variants))));
}

abbrev pub invariant-in_positional-loop-argument : goal.invariant-in_positional-loop-argument
invariant-in_positional-loop-argument l = record {
  small : l.total ≤ 2 ^ 64 - 1;
  counted : capped (most_in_positional (count_of l.table.entries) (inlines_view l.positional)) ≡ capped (l.total + most_in_positional (count_of l.table.entries) (inlines_view (drop l.argument-index l.positional)));
}

abbrev pub invariant-in_named-loop-argument : goal.invariant-in_named-loop-argument
invariant-in_named-loop-argument l = record {
  small : l.total ≤ 2 ^ 64 - 1;
  counted : capped (most_in_named (count_of l.table.entries) (nameds_view l.named)) ≡ capped (l.total + most_in_named (count_of l.table.entries) (nameds_view (drop l.argument-index l.named)));
}
