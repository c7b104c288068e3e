use Rattle.std.proofs.Common.{◌≡◌, ◌∷◌, [], drop}
use Rattle.fluent_intl.specs.LanguageTags.{shortened}
use Rattle.fluent_plural_rules.proofs.languages.parent.Given as goal

abbrev pub invariant-loop-end : goal.invariant-loop-end
invariant-loop-end l = shortened (drop l.end l.tag) ≡ drop l.end l.tag ∷ []
