-- Trees as they may stand in a source (Fluent Syntax 1.0, "Abstract Syntax", its rules on well-formed trees), and how deep.
use Rattle.std.specs.Prelude.{◌≡◌, ℕ, zero, suc, ◌+◌, ◌<◌, length, Option, Some, None, Bool, true, false, IsTrue, List, [], ◌∷◌}
use Rattle.fluent_ast.specs.Tree.{Text, Pattern, nothing, more, Element, text, placeable, Expression, inline, select, Variants, no_variants, variant, Inline, string, number, function, message, term, variable, nested, Call, no_call, call, Arguments, arguments, Inlines, no_inlines, argument, Nameds, no_nameds, named_argument, Attributes, Entry, message_entry, term_entry, junk_entry}
use Rattle.fluent_syntax.specs.Expressions.{is_function_name, is_selector, stands_alone, differ}

abbrev pub is_literal : Inline → Bool
is_literal (string t) = true
is_literal (number t) = true
is_literal (function f a) = false
is_literal (message m a) = false
is_literal (term t a c) = false
is_literal (variable v) = false
is_literal (nested e) = false

abbrev pub one_if : Bool → ℕ
one_if true = 1
one_if false = 0

-- how many variants are a default
abbrev pub defaults : Variants → ℕ
defaults no_variants = 0
defaults (variant k p d vs) = one_if d + defaults vs

abbrev pub names_of : Nameds → List Text
names_of no_nameds = []
names_of (named_argument n v ns) = n ∷ names_of ns

-- the values of named arguments are literals
abbrev pub AreLiterals : Nameds → Type 0
AreLiterals no_nameds = Unit {0}
AreLiterals (named_argument n v ns) = IsTrue (is_literal v) × AreLiterals ns

-- one level less is left, where there is one
abbrev pub Deeper : (ℕ → Type 0) → ℕ → Type 0
Deeper P zero = ⊥
Deeper P (suc n) = P n

abbrev mutual
  -- the expression of a placeable: no attribute of a term by itself; a select has a selector and one default
  pub IsWellFormed : Expression → ℕ → Type 0
  IsWellFormed (inline x) n = Deeper (λ m. IsTrue (stands_alone x) × IsWellFormedInline x m) n
  IsWellFormed (select x vs) n = Deeper (λ m. IsTrue (is_selector x) × IsWellFormedInline x m × (defaults vs ≡ 1) × AreWellFormedVariants vs m) n

  pub IsWellFormedInline : Inline → ℕ → Type 0
  IsWellFormedInline (string t) n = Unit {0}
  IsWellFormedInline (number t) n = Unit {0}
  IsWellFormedInline (function f a) n = IsTrue (is_function_name f) × AreWellFormedArguments a n
  IsWellFormedInline (message m a) n = Unit {0}
  IsWellFormedInline (term t a c) n = IsWellFormedCall c n
  IsWellFormedInline (variable v) n = Unit {0}
  IsWellFormedInline (nested e) n = IsWellFormed e n

  pub IsWellFormedCall : Call → ℕ → Type 0
  IsWellFormedCall no_call n = Unit {0}
  IsWellFormedCall (call a) n = AreWellFormedArguments a n

  -- names differ, and their values are literals
  pub AreWellFormedArguments : Arguments → ℕ → Type 0
  AreWellFormedArguments (arguments is ns) n = Deeper (λ m. AreWellFormedInlines is m × IsTrue (differ (names_of ns)) × AreLiterals ns) n

  pub AreWellFormedInlines : Inlines → ℕ → Type 0
  AreWellFormedInlines no_inlines n = Unit {0}
  AreWellFormedInlines (argument i is) n = IsWellFormedInline i n × AreWellFormedInlines is n

  pub AreWellFormedVariants : Variants → ℕ → Type 0
  AreWellFormedVariants no_variants n = Unit {0}
  AreWellFormedVariants (variant k p d vs) n = IsWellFormedPattern p n × AreWellFormedVariants vs n

  pub IsWellFormedPattern : Pattern → ℕ → Type 0
  IsWellFormedPattern nothing n = Unit {0}
  IsWellFormedPattern (more e p) n = IsWellFormedElement e n × IsWellFormedPattern p n

  -- no text is empty
  pub IsWellFormedElement : Element → ℕ → Type 0
  IsWellFormedElement (text t) n = 0 < length t
  IsWellFormedElement (placeable e) n = IsWellFormed e n

-- ---- entries, in which no more than 100 placeables and argument lists stand in one another

abbrev pub AreWellFormedAttributes : Attributes → Type 0
AreWellFormedAttributes [] = Unit {0}
AreWellFormedAttributes (a ∷ others) = IsWellFormedPattern a.1 100 × AreWellFormedAttributes others

-- a message without a value has an attribute
abbrev pub IsWellFormedValue : Option Pattern → Attributes → Type 0
IsWellFormedValue (Some p) others = IsWellFormedPattern p 100
IsWellFormedValue None [] = ⊥
IsWellFormedValue None (a ∷ others) = Unit {0}

abbrev pub IsWellFormedEntry : Entry → Type 0
IsWellFormedEntry (message_entry id v others) = IsWellFormedValue v others × AreWellFormedAttributes others
IsWellFormedEntry (term_entry id p others) = IsWellFormedPattern p 100 × AreWellFormedAttributes others
IsWellFormedEntry (junk_entry t) = 0 < length t
