use Rattle.std.proofs.Common.{◌≡◌, ◌<◌, ℕ, true, slice_index}
use Rattle.fluent_text.specs.Lexical.{is_identifier_byte}
use Rattle.fluent_syntax.proofs.parser.bytes.long_name_len.Given as goal

abbrev pub invariant-name : goal.invariant-name
invariant-name l = (k : ℕ) → k < l.at → is_identifier_byte (slice_index l.s k) 0 ≡ true
