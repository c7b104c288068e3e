use Rattle.std.proofs.Common.{◌≡◌, drop}
use Rattle.std.specs.Prelude.{not}
use Rattle.std.specs.List.{filter}
use Rattle.fluent_intl.specs.LanguageTags.{shortened}
use Rattle.fluent_langneg.specs.Lookup.{ends_in_single}
use Rattle.fluent_langneg.proofs.Prefixes.{prefixes}
use Rattle.fluent_langneg.proofs.tags.cut.Given as goal

-- what is kept stands before the separators that are left
abbrev pub invariant-loop-end : goal.invariant-loop-end
invariant-loop-end l = filter (λ prefix. not (ends_in_single prefix)) (drop 1 (shortened l.range)) ≡ filter (λ prefix. not (ends_in_single prefix)) (prefixes l.end l.range)
