use Rattle.std.proofs.Common.{◌≡◌, ◌+◌, ◌≤◌, ◌<◌, ◌==◌, take, length}
use Rattle.std.specs.List.{suffix_len, slice_index}
use Rattle.fluent_syntax.proofs.parser.layout.without_spaces.Given as goal

abbrev pub invariant-spaces : goal.invariant-spaces
invariant-spaces l =
    (l.end ≤ length l.text)
    × (l.end < length l.text → slice_index l.text l.end ≡ 32)
    × (suffix_len (λ b. b == 32) l.text + l.end ≡ suffix_len (λ b. b == 32) (take l.end l.text) + length l.text)

abbrev pub decreases-spaces : goal.decreases-spaces
decreases-spaces l = l.end
