-- The content that a stored pattern stands for.
use Rattle.std.specs.Prelude.{◌≡◌, IsTrue}
use Rattle.std.proofs.Common.{ap, sym}
use mathlib.Core.Bool.{true≢false}
use Rattle.fluent_ast.specs.Tree.{Pattern, is_yes, pattern_same}
use Rattle.fluent_ast.specs.View.{pattern_view}
use Rattle.fluent_references.specs.Inside.Hashed.{hashed}
use Rattle.fluent_references.specs.declared.stored.Stored.{Stored}

abbrev pub content : Stored → Pattern
content s = pattern_view s.pattern.now

same_of : {P : Type 0} (d : Dec P) → IsTrue (is_yes d) → P
same_of (yes p) h = p
same_of (no n) h = absurd (true≢false (sym h))

-- equal contents are hashed alike
pub respects : (a b : Stored) → IsTrue (is_yes (pattern_same (content a) (content b))) → hashed (content a) ≡ hashed (content b)
respects a b h = ap hashed (same_of (pattern_same (content a) (content b)) h)
