use Rattle.std.proofs.Common.{rules}
use Rattle.fluent_ast.specs.View.{attribute_view}
use Rattle.fluent_ast.proofs.Alike.{alike_more, alike_all, unlike_at, unlike_length}
use Rattle.fluent_ast.proofs.same_entries.same_attributes.Goals as goal

pub returns-then-a-b : goal.returns-then-a-b
returns-then-a-b c = unlike_length attribute_view _ _ c.if-a-b.true

pub returns-then-not-same_attribute : goal.returns-then-not-same_attribute
returns-then-not-same_attribute c = search (rules, unlike_at)

pub attributes-preserved : goal.attributes-preserved
attributes-preserved c = search (rules, alike_more)

pub returns : goal.returns
returns c = alike_all attribute_view _ _ _ c.attributes-test.false c.if-a-b.false c.attributes.invariant
