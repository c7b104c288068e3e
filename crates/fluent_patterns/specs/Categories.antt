-- The plural categories of a language, by its rules.
use Rattle.std.specs.Prelude.{ℕ, pos, ◌*◌, ◌^◌, Bool, ◌||◌, false, List, [], ◌∷◌, ◌++◌, map, filter, None, nat_eq, nat_lt, length, codes}
use Rattle.std.specs.List.{range_with_len, starts_with}
use Rattle.std.specs.Str.{bytes_eq}
use Rattle.fluent_ast.specs.Tree.{Text}
use Rattle.fluent_intl.specs.Operands.{operands_of}
use Rattle.fluent_intl.specs.declared.plurals.PluralCategory.{PluralCategory}
use Rattle.fluent_intl.specs.declared.plurals.PluralCategory.TheVariants.{ZERO, ONE, TWO, FEW, MANY, OTHER}
use Rattle.fluent_intl.specs.declared.plurals.PluralRuleType.{PluralRuleType}
use Rattle.fluent_intl.specs.declared.plurals.PluralRuleType.TheVariants.{CARDINAL, ORDINAL}
use Rattle.fluent_plural_rules.specs.Languages.{Texts, rules_of}
use Rattle.fluent_plural_rules.specs.LanguageTable.{cldr_plurals}
use Rattle.fluent_plural_rules.specs.RuleTexts.{category_of}
use Rattle.fluent_plural_rules.specs.RuleTree.{Rules}
use Rattle.fluent_semantics.specs.Number.{category_word}
use Rattle.fluent_patterns.specs.Languages.{rules_by, texts_or_none}

-- ---- one category

-- a category by its word, in a language
pub record Category : Type 0 where
  pub key : Text
  -- the whole numbers from 0 to 999 that have it
  pub numbers : List ℕ
  -- whether any number has it, as far as the rules say
  pub exists : Bool

-- the word of the category of a whole number
abbrev pub word_at : Rules → PluralRuleType → ℕ → Text
word_at rules kind n = category_word (category_of rules kind (operands_of (pos (n * 10 ^ 18)) None))

-- the whole numbers below a limit that have a category
abbrev pub numbers_below : ℕ → Rules → PluralRuleType → Text → List ℕ
numbers_below limit rules kind key = filter (λ n. bytes_eq (word_at rules kind n) key) (range_with_len 0 limit)

unfoldable pub numbers_of : Rules → PluralRuleType → Text → List ℕ
numbers_of rules kind key = numbers_below 1000 rules kind key

-- a text stands in another
abbrev pub stands_in : Text → Text → Bool
stands_in part [] = false
stands_in part (c ∷ text) = starts_with nat_eq (c ∷ text) part || stands_in part text

-- Rules have `other`, and each category that stands in their text before a colon.
abbrev pub has_category : Text → Text → Bool
has_category text key = bytes_eq key (codes "other") || stands_in (key ++ 58 ∷ []) text

-- a category by the rules of this kind, and their text
abbrev pub category_by : Rules → PluralRuleType → Text → PluralCategory → Category
category_by rules kind text category =
    let word = category_word category in
    record { key = word; numbers = numbers_of rules kind word; exists = has_category text word }

-- a whole number has it
abbrev pub comes : Category → Bool
comes c = nat_lt 0 (length c.numbers)

-- ---- all categories

abbrev pub all_categories : List PluralCategory
all_categories = ZERO ∷ ONE ∷ TWO ∷ FEW ∷ MANY ∷ OTHER ∷ []

abbrev pub kind_by : Rules → PluralRuleType → Text → List Category
kind_by rules kind text = map (category_by rules kind text) all_categories

-- The categories of how many there are, and of which one it is. A select lacks those that whole numbers from 0 to 999
-- have, or all that the rules have.
pub record Categories : Type 0 where
  pub cardinal : List Category
  pub ordinal : List Category
  pub all : Bool

abbrev pub categories_by : Texts → Bool → Categories
categories_by texts all = record {
  cardinal = kind_by (rules_by texts) CARDINAL texts.cardinal;
  ordinal = kind_by (rules_by texts) ORDINAL texts.ordinal;
  all = all;
}

-- by the language's tag
abbrev pub categories_of : Text → Bool → Categories
categories_of tag all = categories_by (texts_or_none (rules_of cldr_plurals tag)) all

-- where no language is given
abbrev pub no_categories : Categories
no_categories = record { cardinal = []; ordinal = []; all = false }
