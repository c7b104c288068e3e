use Rattle.std.proofs.Common.{◌≡◌, drop, map}
use Rattle.std.specs.List.{position_from}
use Rattle.fluent_intl.specs.LanguageTags.{same_tag}
use Rattle.fluent_langneg.specs.Lookup.{index_of}
use Rattle.fluent_langneg.proofs.ranges.index_of.Given as goal

-- the first of those that are left is the first of all
abbrev pub invariant-loop-index : goal.invariant-loop-index
invariant-loop-index g l =
    position_from (λ t. same_tag t l.tag) l.index (map g.A.AsStr.text (drop l.index l.available)) ≡ index_of (map g.A.AsStr.text l.fn.available) l.tag
