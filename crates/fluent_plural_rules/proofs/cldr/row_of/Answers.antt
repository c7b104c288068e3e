use Rattle.std.proofs.Common.{nat_lt, length, refl, sym, ap, ◌∙◌, rules, tests, ltb-true}
use Rattle.std.specs.Option.{option_map}
use Rattle.std.proofs.lemmas.Bool.{ltb-false}
use Rattle.std.proofs.lemmas.List.Sorted.{IsPartitionPoint-from_clause}
use Rattle.std.proofs.lemmas.Option.{slice_get_past, slice_get_read}
use Rattle.fluent_intl.specs.LanguageTags.{same_tag}
use Rattle.fluent_plural_rules.specs.Inside.Rows.{row_view}
use Rattle.fluent_plural_rules.proofs.CldrRows.{halved, parted}
use Rattle.fluent_plural_rules.proofs.cldr.row_of.Goals as goal

pub returns-in_err-row : goal.returns-in_err-row
returns-in_err-row c =
    let k = c.key-key.result in
    let rows = c.args.rows.now in
    let cut = IsPartitionPoint-from_clause (λ x. nat_lt x.0 k) rows c.partition_point.result c.partition_point.ensures.partitioned (parted k rows c.requires) (λ a r f' called. search (rules, tests)) in
    let ends = halved c.args.tag.now k rows c.partition_point.result c.key-key.ensures c.requires cut in
    let past = slice_get_past rows c.partition_point.result (ltb-false _ _ (sym c.in_err-row.ensures.lookup.0)) in
    ap (option_map (λ row. row_view row.now)) c.from_residual.ensures ∙ rw past at ends

pub returns-then-is_same_tag : goal.returns-then-is_same_tag
returns-then-is_same_tag c =
    let k = c.key-key.result in
    let rows = c.args.rows.now in
    let cut = IsPartitionPoint-from_clause (λ x. nat_lt x.0 k) rows c.partition_point.result c.partition_point.ensures.partitioned (parted k rows c.requires) (λ a r f' called. search (rules, tests)) in
    let ends = halved c.args.tag.now k rows c.partition_point.result c.key-key.ensures c.requires cut in
    let row = c.in_ok-row.row.now in
    let read = slice_get_read rows (length rows) c.partition_point.result row refl (ltb-true _ _ (sym c.in_ok-row.ensures.lookup.0)) c.in_ok-row.ensures.lookup.1 in
    let same = ap (λ t. same_tag t c.args.tag.now) (sym c.as_bytes.ensures.value) ∙ sym c.is_same_tag.ensures ∙ c.if-is_same_tag.true in
    rw same at (rw read at ends)

pub returns-else-is_same_tag : goal.returns-else-is_same_tag
returns-else-is_same_tag c =
    let k = c.key-key.result in
    let rows = c.args.rows.now in
    let cut = IsPartitionPoint-from_clause (λ x. nat_lt x.0 k) rows c.partition_point.result c.partition_point.ensures.partitioned (parted k rows c.requires) (λ a r f' called. search (rules, tests)) in
    let ends = halved c.args.tag.now k rows c.partition_point.result c.key-key.ensures c.requires cut in
    let row = c.in_ok-row.row.now in
    let read = slice_get_read rows (length rows) c.partition_point.result row refl (ltb-true _ _ (sym c.in_ok-row.ensures.lookup.0)) c.in_ok-row.ensures.lookup.1 in
    let differs = ap (λ t. same_tag t c.args.tag.now) (sym c.as_bytes.ensures.value) ∙ sym c.is_same_tag.ensures ∙ c.if-is_same_tag.false in
    rw differs at (rw read at ends)
