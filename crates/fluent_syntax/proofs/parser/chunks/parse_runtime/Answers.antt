use Rattle.std.proofs.Common.{◌≡◌, ◌<◌, ◌∙◌, ap, arith, length, map, List, [], ◌∷◌, refl}
use Rattle.std.proofs.lemmas.Bool.Decides.{nat_tests}
use Rattle.fluent_ast.specs.declared.errors.ParserError.{ParserError}
use Rattle.fluent_syntax.specs.Chunks.{chunks_within, junk_ranges}
use Rattle.fluent_syntax.specs.Parsed.{error_range}
use Rattle.fluent_syntax.proofs.parser.chunks.parse_runtime.Goals as goal

no_errors : (es : List ParserError) → map error_range es ≡ [] → es ≡ []
no_errors [] h = refl
no_errors (e ∷ es) h = absurd cc

no_junk : junk_ranges [] ≡ []
unfolding chunks_within
no_junk = refl

pub returns-clause-empty : goal.returns-clause-empty
returns-clause-empty c empty =
    let none = no_errors c.in_ok-body.field-0.errors.items (c.in_ok-body.ensures.errors ∙ ap junk_ranges empty ∙ no_junk) in
    let some : 0 < length c.in_ok-body.errors.items = grind (arith, nat_tests, c.if-is_empty.ensures) in
    let same : length c.in_ok-body.errors.items ≡ length c.in_ok-body.field-0.errors.items = rw c.in_ok-body.errors-is refl in
    absurd (omega (arith, some, same, ap length none))
