use Rattle.std.proofs.Common.{◌≡◌, take, false}
use Rattle.std.specs.List.{list_any}
use Rattle.fluent_ast.specs.View.{pattern_view}
use Rattle.fluent_path.specs.Contents.{is_same}
use Rattle.fluent_path.proofs.path.Path.is_among_mixed.Given as goal

-- it is none of those before
abbrev pub invariant-loop-above : goal.invariant-loop-above
invariant-loop-above l = list_any (is_same (pattern_view l.pattern) l.class) (take l.above-index l.above-items) ≡ false
