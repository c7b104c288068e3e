use Rattle.std.proofs.Common.{◌≡◌, ◌++◌, map, string_bytes}
use Rattle.fluent_bundle_entries.specs.MessageView.{attributes_left, message_view}
use Rattle.fluent_c_handles.specs.Calls.Finding.{attribute_names, id_lines}
use Rattle.fluent_c_handles.proofs.attributes.attribute_lines.Given as goal

-- the lines so far, and those of the rest
abbrev pub invariant-loop-attribute : goal.invariant-loop-attribute
invariant-loop-attribute l =
    string_bytes l.text ++ id_lines (map (λ a. a.0) (attributes_left l.attribute-iterator)) ≡ id_lines (attribute_names (message_view l.message))
