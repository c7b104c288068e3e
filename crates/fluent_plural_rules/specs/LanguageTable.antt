-- The table of the Unicode CLDR. It is opaque, so that a proof above needn't go through its text.
use Rattle.std.specs.Prelude.{ℕ, List}
use Rattle.fluent_plural_rules.specs.declared.table.TheConstants.{PLURALS}

unfoldable pub cldr_plurals : List ℕ
cldr_plurals = PLURALS.now
