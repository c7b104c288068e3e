use Rattle.std.proofs.Common.{◌≡◌, ◌-◌, ◌≤◌}
use Rattle.fluent_text.specs.Parser.{many_from, one_more, count}
use Rattle.fluent_syntax.specs.Chunks.{junk_line}
use Rattle.fluent_syntax.proofs.parser.junk.more_junk.Given as goal
use denote.Shadow.{shadow}
use denote.Text.{Utf8}

abbrev pub invariant-junk : goal.invariant-junk
invariant-junk l =
    shadow (Utf8 l.rest) × (count junk_line l.fn.s ≡ many_from one_more junk_line (l._turn-end - l._turn) l.count l.rest) × (l.count ≤ l._turn)
