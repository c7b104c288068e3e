-- Which texts bring no marks of isolation, and that as many opening as closing marks are written where nothing else brings any.
use Rattle.std.specs.Prelude.{◌≡◌, ℕ, ◌+◌, ◌==◌, ◌&&◌, not, List, [], ◌∷◌, Bool, true, false, Some, if◌then◌else◌}
use Rattle.std.specs.Str.{IsUtf8}
use Rattle.fluent_ast.specs.Tree.{Text, Attribute, no_attribute, attribute, Pattern, nothing, more, Element, text, placeable, Expression, inline, select, Variants, no_variants, variant, Inline, string, number, function, message, term, variable, nested, Call, no_call, call, Arguments, arguments, Inlines, no_inlines, argument, Nameds, no_nameds, named_argument}
use Rattle.fluent_text.specs.Escapes.{unescaped}
use Rattle.fluent_semantics.specs.Value.{Value, value_text}
use Rattle.fluent_semantics.specs.Arguments.{Map, get}
use Rattle.fluent_semantics.specs.Bundle.{Bundle, a_function, Function, stored}
use Rattle.fluent_semantics.specs.Result.{written_pattern}

-- a mark with this last byte stands at the start
abbrev pub at_start : ℕ → Text → Bool
at_start last (a ∷ b ∷ c ∷ t) = a == 0xe2 && b == 0x81 && c == last
at_start last _ = false

-- how often a mark with this last byte stands in a text
abbrev pub marks : ℕ → Text → ℕ
marks last [] = 0
marks last (b ∷ t) = (if at_start last (b ∷ t) then 1 else 0) + marks last t

abbrev pub cut_off : Text → Bool
cut_off (a ∷ []) = a == 0xe2
cut_off (a ∷ b ∷ []) = a == 0xe2 && b == 0x81
cut_off _ = false

-- no prefix of a mark stands at the end, as in every UTF-8 text
abbrev pub is_whole : Text → Bool
is_whole [] = true
is_whole (b ∷ t) = not (cut_off (b ∷ t)) && is_whole t

-- Every text of characters is whole.
abbrev pub TextsAreWhole : Type 0
TextsAreWhole = (t : Text) → IsUtf8 t → is_whole t ≡ true

-- as many U+2068 as U+2069, as in a text that holds neither
pub record IsBalanced (t : Text) : Type 0 where
  pub balanced : marks 0xa8 t ≡ marks 0xa9 t
  pub whole : is_whole t ≡ true

abbrev pub IsBalancedAttribute : Attribute → Type 0
IsBalancedAttribute no_attribute = Unit {0}
IsBalancedAttribute (attribute name) = IsBalanced name

-- the texts of a tree: text elements as the transform gives them, literals, ids
abbrev mutual
  pub IsQuiet : (Text → Text) → Pattern → Type 0
  IsQuiet change nothing = Unit {0}
  IsQuiet change (more e rest) = QuietElement change e × IsQuiet change rest

  pub QuietElement : (Text → Text) → Element → Type 0
  QuietElement change (text t) = IsBalanced (change t)
  QuietElement change (placeable e) = QuietExpression change e

  pub QuietExpression : (Text → Text) → Expression → Type 0
  QuietExpression change (inline x) = QuietInline change x
  QuietExpression change (select x vs) = QuietInline change x × QuietVariants change vs

  pub QuietVariants : (Text → Text) → Variants → Type 0
  QuietVariants change no_variants = Unit {0}
  QuietVariants change (variant k p d vs) = IsQuiet change p × QuietVariants change vs

  pub QuietInline : (Text → Text) → Inline → Type 0
  QuietInline change (string t) = IsBalanced t × IsBalanced (unescaped t)
  QuietInline change (number t) = IsBalanced t
  QuietInline change (function f a) = IsBalanced f × QuietArguments change a
  QuietInline change (message m a) = IsBalanced m × IsBalancedAttribute a
  QuietInline change (term t a c) = IsBalanced t × IsBalancedAttribute a × QuietCall change c
  QuietInline change (variable v) = IsBalanced v
  QuietInline change (nested e) = QuietExpression change e

  pub QuietCall : (Text → Text) → Call → Type 0
  QuietCall change no_call = Unit {0}
  QuietCall change (call a) = QuietArguments change a

  pub QuietArguments : (Text → Text) → Arguments → Type 0
  QuietArguments change (arguments ps ns) = QuietPositional change ps × QuietNamed change ns

  pub QuietPositional : (Text → Text) → Inlines → Type 0
  QuietPositional change no_inlines = Unit {0}
  QuietPositional change (argument x xs) = QuietInline change x × QuietPositional change xs

  pub QuietNamed : (Text → Text) → Nameds → Type 0
  QuietNamed change no_nameds = Unit {0}
  QuietNamed change (named_argument name x ns) = QuietInline change x × QuietNamed change ns

abbrev pub AreQuiet : (Text → Text) → List Pattern → Type 0
AreQuiet change [] = Unit {0}
AreQuiet change (p ∷ ps) = IsQuiet change p × AreQuiet change ps

abbrev pub IsQuietMap : {C : Type 0} → Bundle C → Map (Value C) → Type 0
IsQuietMap {C} b m = (name : Text) (v : Value C) → get name m ≡ Some v → IsBalanced (value_text b.custom v)

-- values whose texts are in balance
abbrev pub IsQuietList : {C : Type 0} → Bundle C → List (Value C) → Type 0
IsQuietList b [] = Unit {0}
IsQuietList b (v ∷ vs) = IsBalanced (value_text b.custom v) × IsQuietList b vs

-- No stored pattern brings marks out of balance, and functions and formatter answer in balance where what they are given is.
pub record BringsNoMarks {C : Type 0} (b : Bundle C) : Type 0 where
  pub patterns : AreQuiet b.transform (stored b)
  pub functions : (id : Text) (f : Function C) → get id b.ids ≡ Some (a_function f) → (vs : List (Value C)) (m : Map (Value C)) → IsQuietList b vs → IsQuietMap b m → IsBalanced (value_text b.custom (f vs m))
  pub formatter : (v : Value C) (t : Text) → IsBalanced (value_text b.custom v) → b.formatter v ≡ Some t → IsBalanced t

abbrev pub MarksAreBalanced : Type 0 → Type 0
MarksAreBalanced C = (b : Bundle C) (args : Map (Value C)) (p : Pattern) → BringsNoMarks b → IsQuietMap b args → IsQuiet b.transform p →
    marks 0xa8 (written_pattern b args p).value ≡ marks 0xa9 (written_pattern b args p).value
