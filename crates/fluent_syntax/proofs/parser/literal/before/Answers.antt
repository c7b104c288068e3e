use Rattle.std.proofs.Common.{◌-◌, length, sym, subst, arith, add-zero}
use Rattle.std.specs.Str.{IsCharBoundary}
use Rattle.std.proofs.lemmas.Str.{IsCharBoundary-start, IsCharBoundary-from_rest}
use Rattle.fluent_syntax.proofs.parser.literal.before.Goals as goal

pub range-requires-clause-end_boundary : goal.range-requires-clause-end_boundary
range-requires-clause-end_boundary c =
    let s = c.args.whole.now in
    let n = length s - length c.args.rest.now in
    subst (IsCharBoundary s) (add-zero n) (IsCharBoundary-from_rest s n 0 (omega arith) (subst (λ t. IsCharBoundary t 0) (sym c.requires.end) (IsCharBoundary-start c.args.rest.now c.utf8.rest)))
