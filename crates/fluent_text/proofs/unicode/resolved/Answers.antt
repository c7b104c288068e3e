use Rattle.std.proofs.Common.{◌-◌, ◌+◌, ◌++◌, ◌∙◌, ap, sym, length, arith, rules}
use Rattle.std.specs.Prelude.{string_bytes}
use Rattle.fluent_text.specs.Escapes.{part, value_of}
use Rattle.fluent_text.specs.Facts.Turns.{none, done, next}
use Rattle.fluent_text.proofs.unicode.resolved.Goals as goal

pub returns-in_default : goal.returns-in_default
returns-in_default c = sym (ap value_of (c.parts.invariant.1 ∙ none ◌++◌ part _ (string_bytes c.parts.out) c.parts.rest.now (omega arith) (sym c.in_default.ensures.gives)))

pub parts-preserved : goal.parts-preserved
parts-preserved c =
    let n = length c.args.text.now in (
      search rules,
      next ◌++◌ part (n - c.parts._turn) (n - (c.parts._turn + 1)) (string_bytes c.parts.out) c.parts.rest.now _ _ _ _ (omega arith) (sym c.in-Some.ensures.gives) c.in-Some.ensures.shorter c.in_ok-push_part.ensures c.parts.invariant.1,
    )

pub returns : goal.returns
returns c = sym (ap value_of (c.parts.invariant.1 ∙ done ◌++◌ part _ (string_bytes c.parts.out) c.parts.rest.now (omega arith)))
