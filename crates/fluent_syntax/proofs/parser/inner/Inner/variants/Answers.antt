use Rattle.std.proofs.Common.{◌-◌, ◌+◌, ◌∙◌, false, length, sym, ap, Some, arith, rules}
use Rattle.fluent_ast.specs.View.{variant_view}
use Rattle.fluent_text.specs.Parser.{push}
use Rattle.fluent_syntax.specs.Expressions.{variant, level}
use Rattle.fluent_syntax.specs.Inside.Reading.{all}
use Rattle.fluent_text.specs.Facts.Turns.{next, none}
use Rattle.fluent_syntax.proofs.Variants.{variant_less}
use Rattle.fluent_syntax.proofs.parser.inner.Inner.variants.Goals as goal

pub variants-preserved : goal.variants-preserved
variants-preserved g c =
    let n = length c.args.s.now in
    let d = c.args.self.now.depth in
    let s = c.variants.rest.now in
    let after = c.in-Ok.after.now in
    let read = c.in-Ok.ensures in (
      search rules,
      next push (variant (level d) false) (n - c.variants._turn) (n - (c.variants._turn + 1)) (all variant_view c.variants.found) s read.0 after (all variant_view c.push_variant.new.found) _ (omega arith) read.1 (variant_less d false s read.0 after read.1) read.2 c.variants.invariant.1,
    )

pub returns-in-Err-Absent : goal.returns-in-Err-Absent
returns-in-Err-Absent g c =
    let n = length c.args.s.now in
    let s = c.variants.rest.now in
    let p = rw c.in-Err-Absent.field-0-is at c.in-Err-Absent.ensures in
    c.variants.invariant.1
    ∙ (none push (variant (level c.args.self.now.depth) false) (n - c.variants._turn) (all variant_view c.variants.found) s (omega arith) p.0
    ∙ ap (λ vs. Some (vs, s)) (sym p.1))
