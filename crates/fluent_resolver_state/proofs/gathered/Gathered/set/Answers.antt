use Rattle.std.proofs.Common.{◌∙◌, ap, refl, sym}
use Rattle.std.specs.Cow.{cow_str_bytes}
use Rattle.std.specs.Cmp.Lexicographic.{nat_list_cmp_total}
use Rattle.std.specs.FinMap.{entries, entries-insert}
use Rattle.std.specs.declared.borrow.CowStr.TheVariants as text
use Rattle.fluent_semantics.specs.Arguments as fin
use Rattle.fluent_values.specs.View.{value_view}
use Rattle.fluent_resolver_state.specs.Gathered.{gathered}
use Rattle.fluent_values.specs.Facts.Keyed.{insert_both}
use Rattle.fluent_resolver_state.proofs.gathered.Gathered.set.Goals as goal

pub returns-in_ok-insert-in-Many : goal.returns-in_ok-insert-in-Many
returns-in_ok-insert-in-Many g c =
    let content = g.C.FluentType.content in
    ap entries (
    insert_both cow_str_bytes (value_view content) c.in-Many.tree.entries c.insert.new.self.entries c.args.name c.args.value
    (λ bs. text.Borrowed (record { ref_ptr = (0, 0); now = bs })) (λ bs. refl) c.in_ok-insert-in-Many.ensures.updates.0
    ) ∙ entries-insert nat_list_cmp_total _ _ _
    ∙ ap (λ so_far. fin.set (cow_str_bytes c.args.name) (value_view content c.args.value) (gathered content so_far)) (sym c.in-Many.is)
