use Rattle.std.proofs.Common.{◌≡◌, refl, sym, ◌∙◌}
use Rattle.fluent_syntax.specs.Expressions.{level, variant}
use Rattle.fluent_syntax.specs.Inside.Parts.{opened_variant}
use Rattle.fluent_syntax.proofs.Parts.{variant_parts}
use Rattle.fluent_syntax.proofs.parser.inner.Inner.push_variant.Goals as goal

pub returns-in_default : goal.returns-in_default
returns-in_default g c = (variant_parts (level c.args.self.now.depth) c.args.default c.args.s.now ∙ rw (sym c.in_default.ensures) refl, refl)

pub returns : goal.returns
returns g c =
    let l = level c.args.self.now.depth in
    let d = c.args.default in
    let e : variant l d c.args.s.now ≡ opened_variant l d c.in-Some.opened.now = variant_parts l d c.args.s.now ∙ rw (sym c.in-Some.ensures) refl in
    rw e c.push_opened.ensures
