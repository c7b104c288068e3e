use Rattle.std.proofs.Common.{◌≡◌, drop, map}
use Rattle.fluent_ast.specs.View.{attribute_view}
use Rattle.fluent_bundle_entries.specs.MessageView.{first_named}
use Rattle.fluent_bundle_entries.proofs.message.FluentMessage.get_attribute.Given as goal

-- the first of that name among those left is the first of all
abbrev pub invariant-loop-attribute : goal.invariant-loop-attribute
invariant-loop-attribute l =
    first_named l.name (map attribute_view (drop l.attribute-index l.attribute-items)) ≡ first_named l.name (map attribute_view l.fn.self.node.now.attributes.items)
