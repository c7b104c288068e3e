use Rattle.std.proofs.Common.{◌-◌, ◌+◌, ◌++◌, ◌∙◌, ap, sym, refl, subst, length, arith, rules}
use Rattle.std.specs.Io.KnownBytes.{Appends}
use Rattle.fluent_text.specs.Writer.{writer_in}
use Rattle.fluent_text.specs.Escapes.{part, value_of}
use Rattle.fluent_text.specs.Unescaped.{bytes_of}
use Rattle.fluent_text.proofs.Prefix.{appends_twice}
use Rattle.fluent_text.specs.Facts.Turns.{none, done, next, more}
use Rattle.fluent_text.proofs.Unescapes.{began, left_of, on_err}
use Rattle.fluent_text.proofs.unicode.unescape_unicode.Goals as goal

pub returns-in_default-clause-whole : goal.returns-in_default-clause-whole
returns-in_default-clause-whole g c =
    let e = ap value_of (c.parts.invariant.1.1 ∙ none ◌++◌ part _ c.parts.invariant.1.0 c.parts.rest.now (omega arith) (sym c.in_default.ensures.gives)) in
    subst (λ t. Appends (g.W.Write.contents (writer_in c.args.w.now)) (g.W.Write.contents (writer_in c.parts.w)) t) (sym e) c.parts.invariant.1.2

pub returns-clause-whole : goal.returns-clause-whole
returns-clause-whole g c =
    let e = ap value_of (c.parts.invariant.1.1 ∙ done ◌++◌ part _ c.parts.invariant.1.0 c.parts.rest.now (omega arith)) in
    subst (λ t. Appends (g.W.Write.contents (writer_in c.args.w.now)) (g.W.Write.contents (writer_in c.parts.w)) t) (sym e) c.parts.invariant.1.2

pub returns-in_err-put_part-clause-prefix : goal.returns-in_err-put_part-clause-prefix
returns-in_err-put_part-clause-prefix g c =
    let n = length c.args.text.now in
    let turned = more ◌++◌ part (n - c.parts._turn) (n - (c.parts._turn + 1)) c.parts.invariant.1.0 c.parts.rest.now _ _ (omega arith) (sym c.in-Some.ensures.gives) c.in-Some.ensures.shorter in
    on_err c.from_residual.result _ (began _ c.parts.invariant.1.0 (bytes_of c.in-Some.part) _ c.parts.rest.now _ _ _ _ (ap value_of (c.parts.invariant.1.1 ∙ turned)) c.parts.invariant.1.2 c.in_err-put_part.ensures.prefix)

pub returns-in_err-put_part-clause-left : goal.returns-in_err-put_part-clause-left
returns-in_err-put_part-clause-left g c =
    let n = length c.args.text.now in
    let turned = more ◌++◌ part (n - c.parts._turn) (n - (c.parts._turn + 1)) c.parts.invariant.1.0 c.parts.rest.now _ _ (omega arith) (sym c.in-Some.ensures.gives) c.in-Some.ensures.shorter in
    on_err c.from_residual.result _ (left_of _ c.parts.invariant.1.0 (bytes_of c.in-Some.part) _ c.parts.rest.now _ _ _ _ (ap value_of (c.parts.invariant.1.1 ∙ turned)) c.parts.invariant.1.2 c.in_err-put_part.ensures.left)

pub parts-preserved : goal.parts-preserved
parts-preserved g c =
    let n = length c.args.text.now in (
      search rules,
      (
        _,
        next ◌++◌ part (n - c.parts._turn) (n - (c.parts._turn + 1)) c.parts.invariant.1.0 c.parts.rest.now _ _ _ _ (omega arith) (sym c.in-Some.ensures.gives) c.in-Some.ensures.shorter refl c.parts.invariant.1.1,
        appends_twice _ _ _ _ _ c.parts.invariant.1.2 c.in_ok-put_part.ensures.whole,
      ),
      search rules,
      search rules,
    )
