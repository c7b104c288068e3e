-- The content of a tree, without where it lies in memory (Fluent Syntax 1.0, abstract syntax).
use Rattle.std.specs.Prelude.{ℕ, List, [], ◌∷◌, Bool, true, false, Option}
use Rattle.std.proofs.Math.Bool.{Bool-discrete}
use mathlib.Core.Bool.{true≢false}
use mathlib.Core.Path.{◌≡◌, refl, sym}
use Rattle.std.specs.Prelude.{nat_eq}
use Rattle.std.specs.Cmp.Lexicographic.{pointwise, bytes_decides}

-- a text, as its bytes
abbrev pub Text : Type 0
Text = List ℕ

-- the key of a variant: a name, or a number as its source
pub data Key : Type 0 where
  name_key : Text → Key
  number_key : Text → Key
  deriving Discrete as Key-discrete

-- what of an entry a reference means: its value, or an attribute by its name
pub data Attribute : Type 0 where
  no_attribute : Attribute
  attribute : Text → Attribute
  deriving Discrete as Attribute-discrete

mutual
  -- a pattern: its elements in order
  pub data Pattern : Type 0 where
    nothing : Pattern
    more : Element → Pattern → Pattern
    deriving Discrete as Pattern-discrete

  pub data Element : Type 0 where
    text : Text → Element
    placeable : Expression → Element
    deriving Discrete as Element-discrete

  pub data Expression : Type 0 where
    inline : Inline → Expression
    select : Inline → Variants → Expression
    deriving Discrete as Expression-discrete

  -- the variants of a select in order: key, pattern, and whether it is a default
  pub data Variants : Type 0 where
    no_variants : Variants
    variant : Key → Pattern → Bool → Variants → Variants
    deriving Discrete as Variants-discrete

  pub data Inline : Type 0 where
    string : Text → Inline
    number : Text → Inline
    function : Text → Arguments → Inline
    message : Text → Attribute → Inline
    term : Text → Attribute → Call → Inline
    variable : Text → Inline
    nested : Expression → Inline
    deriving Discrete as Inline-discrete

  -- the arguments of a term reference, which may have none
  pub data Call : Type 0 where
    no_call : Call
    call : Arguments → Call
    deriving Discrete as Call-discrete

  pub data Arguments : Type 0 where
    arguments : Inlines → Nameds → Arguments
    deriving Discrete as Arguments-discrete

  pub data Inlines : Type 0 where
    no_inlines : Inlines
    argument : Inline → Inlines → Inlines
    deriving Discrete as Inlines-discrete

  pub data Nameds : Type 0 where
    no_nameds : Nameds
    named_argument : Text → Inline → Nameds → Nameds
    deriving Discrete as Nameds-discrete

-- what a test decides, one way or the other
abbrev pub decided : {P : Type 0} → (b : Bool) → (b ≡ true → P) × (P → b ≡ true) → Dec P
decided true h = yes (h.0 refl)
decided false h = no (λ p. true≢false (sym (h.1 p)))

-- two texts have the same bytes, or not
unfoldable pub text_same : Discrete Text
text_same s t = decided (pointwise nat_eq s t) (bytes_decides s t)

unfoldable pub key_same : Discrete Key
key_same = Key-discrete text_same

-- two patterns have the same content, or not
unfoldable pub pattern_same : Discrete Pattern
pattern_same = Pattern-discrete text_same (Key-discrete text_same) Bool-discrete (Attribute-discrete text_same)

abbrev pub is_yes : {P : Type 0} → Dec P → Bool
is_yes (yes h) = true
is_yes (no h) = false

-- ---- lists of the tree's own, from plain ones

-- a named argument by itself: name and value
abbrev pub Named : Type 0
Named = Text × Inline

-- a variant by itself: key, pattern, and whether it is a default
abbrev pub Variant : Type 0
Variant = Key × Pattern × Bool

abbrev pub pattern_of : List Element → Pattern
pattern_of [] = nothing
pattern_of (e ∷ es) = more e (pattern_of es)

abbrev pub variants_of : List Variant → Variants
variants_of [] = no_variants
variants_of (v ∷ vs) = variant v.0 v.1 v.2 (variants_of vs)

abbrev pub inlines_of : List Inline → Inlines
inlines_of [] = no_inlines
inlines_of (i ∷ is) = argument i (inlines_of is)

abbrev pub nameds_of : List Named → Nameds
nameds_of [] = no_nameds
nameds_of (n ∷ ns) = named_argument n.0 n.1 (nameds_of ns)

-- ---- entries

-- attributes in order: name and pattern
abbrev pub Attributes : Type 0
Attributes = List (Text × Pattern)

-- an entry of a source; a term's name stands without its dash
pub data Entry : Type 0 where
  message_entry : Text → Option Pattern → Attributes → Entry
  term_entry : Text → Pattern → Attributes → Entry
  junk_entry : Text → Entry
  deriving Discrete as Entry-discrete
