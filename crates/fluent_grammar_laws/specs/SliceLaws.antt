-- Where the texts of a tree come from: each is a slice of the source (Fluent Syntax 1.0, "Abstract Syntax").
use Rattle.std.specs.Prelude.{◌≡◌, Option, Some, None, All, [], ◌∷◌, ◌++◌}
use Rattle.fluent_ast.specs.Tree.{Text, Key, name_key, number_key, Attribute, no_attribute, attribute, Pattern, nothing, more, Element, text, placeable, Expression, inline, select, Variants, no_variants, variant, Inline, string, number, function, message, term, variable, nested, Call, no_call, call, Arguments, arguments, Inlines, no_inlines, argument, Nameds, no_nameds, named_argument, Attributes, Entry, message_entry, term_entry, junk_entry}
use Rattle.fluent_syntax.specs.Chunks.{entries}

-- a text stands in the source, between a prefix and a rest
abbrev pub IsSlice : Text → Text → Type 0
IsSlice source t = (prefix : Text) × (rest : Text) × (source ≡ prefix ++ (t ++ rest))

abbrev pub SlicesOfKey : Text → Key → Type 0
SlicesOfKey source (name_key t) = IsSlice source t
SlicesOfKey source (number_key t) = IsSlice source t

abbrev pub SlicesOfAttribute : Text → Attribute → Type 0
SlicesOfAttribute source no_attribute = Unit {0}
SlicesOfAttribute source (attribute t) = IsSlice source t

-- ---- each text in a tree: texts of patterns, names, and literals as their source

abbrev mutual
  pub SlicesOfPattern : Text → Pattern → Type 0
  SlicesOfPattern source nothing = Unit {0}
  SlicesOfPattern source (more e p) = SlicesOfElement source e × SlicesOfPattern source p

  pub SlicesOfElement : Text → Element → Type 0
  SlicesOfElement source (text t) = IsSlice source t
  SlicesOfElement source (placeable e) = SlicesOfExpression source e

  pub SlicesOfExpression : Text → Expression → Type 0
  SlicesOfExpression source (inline x) = SlicesOfInline source x
  SlicesOfExpression source (select x vs) = SlicesOfInline source x × SlicesOfVariants source vs

  pub SlicesOfVariants : Text → Variants → Type 0
  SlicesOfVariants source no_variants = Unit {0}
  SlicesOfVariants source (variant k p d vs) = SlicesOfKey source k × SlicesOfPattern source p × SlicesOfVariants source vs

  pub SlicesOfInline : Text → Inline → Type 0
  SlicesOfInline source (string t) = IsSlice source t
  SlicesOfInline source (number t) = IsSlice source t
  SlicesOfInline source (function f a) = IsSlice source f × SlicesOfArguments source a
  SlicesOfInline source (message m a) = IsSlice source m × SlicesOfAttribute source a
  SlicesOfInline source (term t a c) = IsSlice source t × SlicesOfAttribute source a × SlicesOfCall source c
  SlicesOfInline source (variable v) = IsSlice source v
  SlicesOfInline source (nested e) = SlicesOfExpression source e

  pub SlicesOfCall : Text → Call → Type 0
  SlicesOfCall source no_call = Unit {0}
  SlicesOfCall source (call a) = SlicesOfArguments source a

  pub SlicesOfArguments : Text → Arguments → Type 0
  SlicesOfArguments source (arguments is ns) = SlicesOfInlines source is × SlicesOfNameds source ns

  pub SlicesOfInlines : Text → Inlines → Type 0
  SlicesOfInlines source no_inlines = Unit {0}
  SlicesOfInlines source (argument i is) = SlicesOfInline source i × SlicesOfInlines source is

  pub SlicesOfNameds : Text → Nameds → Type 0
  SlicesOfNameds source no_nameds = Unit {0}
  SlicesOfNameds source (named_argument n v ns) = IsSlice source n × SlicesOfInline source v × SlicesOfNameds source ns

-- ---- entries

abbrev pub SlicesOfAttributes : Text → Attributes → Type 0
SlicesOfAttributes source [] = Unit {0}
SlicesOfAttributes source (a ∷ others) = IsSlice source a.0 × SlicesOfPattern source a.1 × SlicesOfAttributes source others

abbrev pub SlicesOfValue : Text → Option Pattern → Type 0
SlicesOfValue source (Some p) = SlicesOfPattern source p
SlicesOfValue source None = Unit {0}

abbrev pub SlicesOfEntry : Text → Entry → Type 0
SlicesOfEntry source (message_entry id v others) = IsSlice source id × SlicesOfValue source v × SlicesOfAttributes source others
SlicesOfEntry source (term_entry id p others) = IsSlice source id × SlicesOfPattern source p × SlicesOfAttributes source others
SlicesOfEntry source (junk_entry t) = IsSlice source t

-- every text in the entries of a source is a slice of it
abbrev pub AllSlices : Text → Type 0
AllSlices source = All (SlicesOfEntry source) (entries source)
