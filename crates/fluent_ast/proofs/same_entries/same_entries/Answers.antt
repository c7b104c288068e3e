use Rattle.std.proofs.Common.{rules}
use Rattle.fluent_ast.specs.View.{entry_view}
use Rattle.fluent_ast.proofs.Alike.{alike_more, alike_all, unlike_at, unlike_length}
use Rattle.fluent_ast.proofs.same_entries.same_entries.Goals as goal

pub returns-then-a-b : goal.returns-then-a-b
returns-then-a-b c = unlike_length entry_view _ _ c.if-a-b.true

pub returns-then-not-same_entry : goal.returns-then-not-same_entry
returns-then-not-same_entry c = search (rules, unlike_at)

pub entries-preserved : goal.entries-preserved
entries-preserved c = search (rules, alike_more)

pub returns : goal.returns
returns c = alike_all entry_view _ _ _ c.entries-test.false c.if-a-b.false c.entries.invariant
