use Rattle.std.proofs.Common.{◌≡◌, drop}
use Rattle.std.specs.Cow.{cow_str_bytes}
use Rattle.std.specs.FinMap.{find}
use Rattle.fluent_semantics.specs.Arguments.{get}
use Rattle.fluent_values.specs.Facts.Keyed.{both}
use Rattle.fluent_values.specs.Facts.Pairs.{bytes_cmp}
use Rattle.fluent_values.specs.View.{named, value_view}
use Rattle.fluent_values.proofs.args.FluentArgs.among_few.Given as goal

-- a name that is found is found among those left
abbrev pub invariant-loop-pair : goal.invariant-loop-pair
invariant-loop-pair g l = get l.name (named g.C.FluentType.content l.self) ≡ find bytes_cmp l.name (both cow_str_bytes (value_view g.C.FluentType.content) (drop l.pair-index l.pair-items))
