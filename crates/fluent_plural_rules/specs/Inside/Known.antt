-- Rules of the Unicode CLDR that are read already.
use Rattle.std.specs.Prelude.{◌≡◌, ℕ, Bool, ◌&&◌, ◌==◌, nat_le, if◌then◌else◌, List, [], ◌∷◌, map, length, Option, Some, None, Ok}
use Rattle.std.specs.List.{slice_range}
use Rattle.std.specs.Option.{option_map}
use Rattle.fluent_text.specs.Parser.{Text}
use Rattle.fluent_intl.specs.declared.plurals.PluralCategory.{PluralCategory}
use Rattle.fluent_plural_rules.specs.declared.rows.TheConstants.{RULES, GROUPS, RELATIONS, RANGES}
use Rattle.fluent_plural_rules.specs.declared.rule_texts.tree.Operand.{Operand}
use Rattle.fluent_plural_rules.specs.declared.rule_texts.tree.Range.{Range}
use Rattle.fluent_plural_rules.specs.RuleTree.{Relation, Condition, Rule, relation_of, range_of, rule_of}
use Rattle.fluent_plural_rules.specs.RuleGrammar as grammar

-- from a place up to another
abbrev pub Span : Type 0
Span = ℕ × ℕ

-- an operand, what it is divided by or 0, whether it is in the ranges, the ends of the first, and where the others stand
abbrev pub KnownRelation : Type 0
KnownRelation = Operand × ℕ × Bool × ℕ × ℕ × ℕ × ℕ

-- a category, and where the groups of its condition stand
abbrev pub KnownRule : Type 0
KnownRule = PluralCategory × Option Span

-- These are opaque, so that a proof above needn't go through them.
unfoldable pub rules : List KnownRule
rules = RULES

unfoldable pub groups : List Span
groups = GROUPS

unfoldable pub relations : List KnownRelation
relations = RELATIONS

unfoldable pub ranges : List Range
ranges = RANGES

-- a part of a list; nothing where it isn't there
abbrev pub part : {X : Type 0} → List X → ℕ → ℕ → List X
part xs from to = if nat_le from to && nat_le to (length xs) then slice_range xs from to else []

-- what is divided by, where it isn't 0
abbrev pub divisor : ℕ → Option ℕ
divisor d = if d == 0 then None else Some d

-- ---- the rules that they stand for

abbrev pub relation_view : KnownRelation → Relation
relation_view r = relation_of r.0 (divisor r.1) r.2 (range_of r.3 r.4 ∷ part ranges r.5 r.6)

abbrev pub group_view : Span → List Relation
group_view g = map relation_view (part relations g.0 g.1)

abbrev pub condition_view : Span → Condition
condition_view c = map group_view (part groups c.0 c.1)

abbrev pub rule_view : KnownRule → Rule
rule_view r = rule_of r.0 (option_map condition_view r.1)

abbrev pub rules_view : Span → List Rule
rules_view s = map rule_view (part rules s.0 s.1)

-- they are what is read from a text
abbrev pub AreOf : Span → Text → Type 0
AreOf s text = grammar.rules text ≡ Ok (rules_view s)
