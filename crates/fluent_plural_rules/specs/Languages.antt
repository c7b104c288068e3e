-- The plural rules of languages in a table. A line is a language tag, a tab, the cardinal rules, a tab and the ordinal rules, or a comment.
use Rattle.std.specs.Prelude.{◌≡◌, ℕ, Bool, ◌==◌, ◌&&◌, not, if◌then◌else◌, List, [], ◌∷◌, slice_index, Option, Some, None, find, MatchOption}
use Rattle.std.specs.Borrow.{Bor}
use Rattle.std.specs.List.{before_first, after_first, list_any}
use Rattle.std.specs.Option.{option_and_then, option_or}
use Rattle.std.specs.Str.Lines.{lines}
use Rattle.fluent_intl.specs.LanguageTags.{same_tag, shortened}
use Rattle.fluent_plural_rules.specs.declared.languages.LanguageRules.{LanguageRules}

-- the cardinal and the ordinal rules, as texts
pub record Texts : Type 0 where
  pub cardinal : List ℕ
  pub ordinal : List ℕ

abbrev pub content : LanguageRules → Texts
content rules = record { cardinal = rules.cardinal.now; ordinal = rules.ordinal.now }

abbrev pub is_tab : ℕ → Bool
is_tab b = b == 9

-- a line that is no comment, with this tag before its first tab
abbrev pub is_line_of : List ℕ → List ℕ → Bool
is_line_of tag line = not (slice_index line 0 == 35) && same_tag (before_first is_tab line) tag

-- the rules on a line with two tabs
abbrev pub rules_in : List ℕ → Option Texts
rules_in line =
    let texts = after_first is_tab line in
    if list_any is_tab texts then Some (record { cardinal = before_first is_tab texts; ordinal = after_first is_tab texts }) else None

-- the rules on the first line of a tag
abbrev pub rules_at : List ℕ → List ℕ → Option Texts
rules_at table tag = option_and_then rules_in (find (is_line_of tag) (lines table))

-- the tag without its last subtag, or none where the tag has just one
abbrev pub IsParentOf : List ℕ → Option (Bor (List ℕ)) → Type 0
IsParentOf tag parent = MatchOption parent (shortened tag ≡ tag ∷ []) (λ prefix. shortened tag ≡ tag ∷ shortened prefix.now)

-- the first that a table has rules for
abbrev pub first_rules : List ℕ → List (List ℕ) → Option Texts
first_rules table [] = None
first_rules table (tag ∷ more) = option_or (rules_at table tag) (first_rules table more)

-- the rules of a tag: its own, or those of the tag without its last subtag, and so on
abbrev pub rules_of : List ℕ → List ℕ → Option Texts
rules_of table tag = first_rules table (shortened tag)
