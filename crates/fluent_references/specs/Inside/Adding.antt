-- What calls add to slots, links and classes of the code.
use Rattle.std.specs.Prelude.{◌≡◌, ℕ, List, [], ◌∷◌, Vec}
use Rattle.std.specs.declared.alloc.Global.{Global}
use Rattle.fluent_ast.specs.References.{Reference}
use Rattle.fluent_ast.specs.Tree.{Text}
use Rattle.fluent_ast.specs.View.{pattern_view}
use Rattle.fluent_ast.specs.declared.ast.Pattern.{Pattern}
use Rattle.fluent_references.specs.Classes.{with_class}
use Rattle.fluent_references.specs.Inside.LinkGrowth.{AppendsLinks, SlotsOfPrefix, with_slots}
use Rattle.fluent_references.specs.Linked.{with_content}
use Rattle.fluent_references.specs.Links.{id_of}
use Rattle.fluent_references.specs.Slots.{slots}
use Rattle.fluent_references.specs.Table.{table}
use Rattle.fluent_references.specs.declared.classes.Classes.{Classes}
use Rattle.fluent_references.specs.declared.slots.Slots.{Slots}

-- each of these references has a slot, and its number comes after the links of others
abbrev pub Adds : {X : Type 0} → Slots X → Slots X → Vec ℕ Global → Vec ℕ Global → List Reference → Type 0
Adds s s' ls ls' rs = AppendsLinks (slots s) (slots s') ls.items ls'.items rs

-- the same of one reference with this id, whichever it is
abbrev pub AddsOne : {X : Type 0} → Slots X → Slots X → Vec ℕ Global → Vec ℕ Global → Text → Type 0
AddsOne s s' ls ls' id = (r : Reference) → id_of r ≡ id → Adds s s' ls ls' (r ∷ [])

-- each of these references has a slot
abbrev pub AddsSlots : {X : Type 0} → Slots X → Slots X → List Reference → Type 0
AddsSlots s s' rs = slots s' ≡ with_slots rs (slots s)

-- the first of these references have slots, perhaps not all
abbrev pub AddsPrefix : {X : Type 0} → Slots X → Slots X → List Reference → Type 0
AddsPrefix s s' rs = SlotsOfPrefix (slots s) (slots s') rs

-- the one with this id has a slot, or none was added
abbrev pub AddsAtMostOne : {X : Type 0} → Slots X → Slots X → Text → Type 0
AddsAtMostOne s s' id = (r : Reference) → id_of r ≡ id → AddsPrefix s s' (r ∷ [])

-- the content of this pattern has a class
abbrev pub AddsClass : Classes → Classes → Pattern → Type 0
AddsClass c c' p = table c' ≡ with_class (pattern_view p) (table c)

-- it has one where the pattern refers to anything
abbrev pub AddsContent : Classes → Classes → Pattern → Type 0
AddsContent c c' p = table c' ≡ with_content (pattern_view p) (table c)
