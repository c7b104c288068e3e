-- The plural rules of a language.
-- `rules_of cldr_plurals tag` are the texts of the CLDR's plural rules for a tag; `rules`, the plural rules that a text has.
use Rattle.std.specs.Prelude.{ℕ, List, [], Option, Some, None, Result, Ok, Err}
use Rattle.fluent_ast.specs.Tree.{Text}
use Rattle.fluent_plural_rules.specs.Languages.{Texts, rules_of}
use Rattle.fluent_plural_rules.specs.LanguageTable.{cldr_plurals}
use Rattle.fluent_plural_rules.specs.RuleTree.{Rule, Rules}
use Rattle.fluent_plural_rules.specs.RuleGrammar.{rules}

-- what was read, or none
abbrev pub or_none : Result (List Rule) ℕ → List Rule
or_none (Ok list) = list
or_none (Err at) = []

-- the rules that a text has
abbrev pub rules_in : Text → List Rule
rules_in text = or_none (rules text)

-- the texts of a language, empty where there are none
abbrev pub texts_or_none : Option Texts → Texts
texts_or_none None = record { cardinal = []; ordinal = [] }
texts_or_none (Some texts) = texts

abbrev pub rules_by : Texts → Rules
rules_by texts = record { cardinal = rules_in texts.cardinal; ordinal = rules_in texts.ordinal }

-- the CLDR's, by the language's tag
abbrev pub language_rules : Text → Rules
language_rules tag = rules_by (texts_or_none (rules_of cldr_plurals tag))
