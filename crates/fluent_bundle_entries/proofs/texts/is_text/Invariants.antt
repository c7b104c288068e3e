use Rattle.std.proofs.Common.{◌≡◌, drop, map}
use Rattle.fluent_ast.specs.Tree.{pattern_of}
use Rattle.fluent_ast.specs.View.{element_view, pattern_view}
use Rattle.fluent_bundle_entries.specs.Texts.{is_text}
use Rattle.fluent_bundle_entries.proofs.texts.is_text.Given as goal

-- what is left decides
abbrev pub invariant-loop-element : goal.invariant-loop-element
invariant-loop-element l = is_text (pattern_view l.pattern) ≡ is_text (pattern_of (map element_view (drop l.element-index l.element-items)))
