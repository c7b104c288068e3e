use Rattle.std.proofs.Common.{arith}
use Rattle.std.proofs.lemmas.Bool.Decides.{nat_tests}
use Rattle.fluent_text.specs.Lexical.{is_plain}
use Rattle.fluent_text.specs.Facts.Runs.{boundary-wide}
use Rattle.fluent_text.proofs.bytes.split_plain.Goals as goal

pub split_at-requires : goal.split_at-requires
split_at-requires c = rw c.plain_len.ensures.len (boundary-wide is_plain c.args.s.now (λ b next e. grind (arith, nat_tests)))
