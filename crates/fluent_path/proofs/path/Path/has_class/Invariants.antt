use Rattle.std.proofs.Common.{◌≡◌, take, false, nat_eq}
use Rattle.std.specs.List.{list_any}
use Rattle.fluent_path.proofs.path.Path.has_class.Given as goal

-- it is none of those before
abbrev pub invariant-loop-own : goal.invariant-loop-own
invariant-loop-own l = list_any (λ c. nat_eq c l.class) (take l.own-index l.own-items) ≡ false
