-- English plurals, by congruences on the operands n, i and v (Unicode TR35, Part 3, Language Plural Rules, with the rules for `en`).
use Rattle.std.specs.Prelude.{ℕ, ◌+◌, ◌*◌, ◌%◌, ◌^◌, Bool, ◌==◌, ◌&&◌, not, if◌then◌else◌, unsigned_abs}
use Rattle.fluent_intl.specs.declared.operands.PluralOperands.{PluralOperands}
use Rattle.fluent_intl.specs.declared.plurals.PluralRuleType.{PluralRuleType}
use Rattle.fluent_intl.specs.declared.plurals.PluralRuleType.TheVariants.{CARDINAL, ORDINAL}
use Rattle.fluent_intl.specs.declared.plurals.PluralCategory.{PluralCategory}
use Rattle.fluent_intl.specs.declared.plurals.PluralCategory.TheVariants.{ONE, TWO, FEW, OTHER}

-- n, which counts 10^-18, is a whole number that leaves this remainder by the divisor; an n with a fraction equals no remainder
abbrev pub leaves : PluralOperands → ℕ → ℕ → Bool
leaves o divisor remainder = unsigned_abs o.n % (divisor * 10 ^ 18) == remainder * 10 ^ 18

-- n ends in this digit and not in a 1 and this digit: 1st and 21st, but 11th
abbrev pub ends_in : PluralOperands → ℕ → Bool
ends_in o digit = leaves o 10 digit && not (leaves o 100 (10 + digit))

-- the category of the operands under the cardinal and the ordinal rules
abbrev pub english : PluralRuleType → PluralOperands → PluralCategory
english CARDINAL o = if (o.i == 1) && (o.v == 0) then ONE else OTHER
english ORDINAL o = if ends_in o 1 then ONE else (if ends_in o 2 then TWO else (if ends_in o 3 then FEW else OTHER))
