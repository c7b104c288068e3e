use Rattle.std.proofs.Common.{◌≡◌, ◌<◌, length, length-drop, arith, rules, refl, ap}
use Rattle.std.proofs.lemmas.Bool.Decides.{nat_tests}
use Rattle.std.proofs.lemmas.List.{nil_from_length}
use Rattle.fluent_plural_rules.specs.Inside.RuleReading.{all, rule_view}
use Rattle.fluent_plural_rules.proofs.RuleLines.{starts, refused, ruleless, last, goes_on, ends_at}
use Rattle.fluent_plural_rules.proofs.rule_texts.lines.read_rules.Goals as goal

pub lines-init : goal.lines-init
lines-init c = record {
  utf8 = search rules;
  within = omega arith;
  read = rw c.new-found.ensures.items (starts c.args.text.now _ (omega arith));
}

pub returns-in-Err-Absent : goal.returns-in-Err-Absent
returns-in-Err-Absent c = (
  refl,
  rw c.run_len.ensures.len (refused _ (all rule_view c.lines.found) _ c.lines.rest.now c.split_run.result.0.now c.split_run.result.1.now c.lines.invariant.read c.split_run.ensures.parts (rw c.in-Err-Absent.field-0-is at c.in-Err-Absent.ensures)),
)

pub returns-in-Err-Memory : goal.returns-in-Err-Memory
returns-in-Err-Memory c none = (rw c.in-Err-Memory.field-0-is at c.in-Err-Memory.ensures) (ruleless _ (all rule_view c.lines.found) _ c.lines.rest.now c.split_run.result.0.now c.split_run.result.1.now c.lines.invariant.read c.split_run.ensures.parts none)

pub after_first-rest-requires : goal.after_first-rest-requires
after_first-rest-requires c =
    let some : 0 < length c.split_run.result.1.now = grind (arith, nat_tests, c.if-is_empty.ensures) in
    let ends = ends_at c.lines.rest.now c.split_run.result.0.now c.split_run.result.1.now c.split_run.ensures.parts some in
    record { some = ends.0; ascii = ends.1 }

pub returns-then-is_empty : goal.returns-then-is_empty
returns-then-is_empty c =
    let e = c.in-Ok.ensures in
    let none : length c.split_run.result.1.now ≡ 0 = grind (arith, nat_tests, c.if-is_empty.ensures) in
    last _ (all rule_view c.lines.found) (all rule_view c.add_line.new.found) _ c.lines.rest.now c.split_run.result.0.now c.split_run.result.1.now e.0 c.lines.invariant.read c.split_run.ensures.parts e.1 e.2 (nil_from_length _ none)

pub lines-preserved : goal.lines-preserved
lines-preserved c =
    let e = c.in-Ok.ensures in
    let some : 0 < length c.split_run.result.1.now = grind (arith, nat_tests, c.if-is_empty.ensures) in
    let e_len = ap length c.after_first-rest.ensures in record {
      utf8 = search rules;
      within = omega (arith, e_len, length-drop 1 c.split_run.result.1.now);
      read = goes_on _ (all rule_view c.lines.found) (all rule_view c.add_line.new.found) _ _ c.lines.rest.now c.split_run.result.0.now c.split_run.result.1.now c.after_first-rest.result.now e.0 c.lines.invariant.read c.split_run.ensures.parts e.1 e.2 some c.after_first-rest.ensures (omega (arith, e_len, length-drop 1 c.split_run.result.1.now));
    }
