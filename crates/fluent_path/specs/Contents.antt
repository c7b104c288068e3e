-- The patterns that are being written, by content: the first, and those above it.
use Rattle.std.specs.Prelude.{◌≡◌, ℕ, ◌-◌, ◌^◌, min, Bool, true, false, not, nat_eq, List, [], ◌∷◌, ◌++◌, map, slice_get, is_none, Option, None, Some}
use Rattle.std.specs.Borrow.{Bor}
use Rattle.std.specs.List.{list_all}
use Rattle.std.specs.Option.{option_map, option_to_list, unwrap_or}
use Rattle.fluent_ast.specs.Tree as t
use Rattle.fluent_ast.specs.Tree.{is_yes, nothing, pattern_same}
use Rattle.fluent_ast.specs.References.{references}
use Rattle.fluent_ast.specs.View.{pattern_view}
use Rattle.fluent_ast.specs.declared.ast.Pattern as of_pattern
use Rattle.fluent_references.specs.Classes.{AreDistinct}
use Rattle.fluent_references.specs.Linked.{IsClassOf, are_some}
use Rattle.fluent_semantics.specs.Walk.{is_on}
use Rattle.fluent_path.specs.declared.path.Above.{Above}
use Rattle.fluent_path.specs.declared.path.Above.TheVariants as above
use Rattle.fluent_path.specs.declared.path.Path.{Path}
use Rattle.fluent_path.specs.declared.path.Top.{Top}

-- the content that a class names; a pattern without elements, where it names none
abbrev pub content_of : List t.Pattern → ℕ → t.Pattern
content_of table c = unwrap_or (slice_get table c) nothing

-- the content of one above the first
abbrev pub content_above : List t.Pattern → Above → t.Pattern
content_above table (above.Class c) = content_of table c
content_above table (above.Bare p) = pattern_view p.now

-- a first pattern, and those above it
abbrev pub contents : List t.Pattern → Option t.Pattern → List Above → List t.Pattern
contents table None xs = []
contents table (Some p) xs = p ∷ map (content_above table) xs

-- a pattern by its class, or itself where it has none
abbrev pub by_class : Bor of_pattern.Pattern → Option ℕ → Above
by_class p (Some c) = above.Class c
by_class p None = above.Bare p

-- those that stand by their classes
abbrev pub by_classes : List ℕ → List Above
by_classes cs = map above.Class cs

-- the one on top
abbrev pub above_of : Top → Above
above_of top = by_class top.pattern top.class

-- those above the first that were pushed
unfoldable pub below_top : Path → List Above
below_top p = by_classes p.classes.items ++ p.mixed.items

-- those above the first: those that were pushed, and the last where it has not been
unfoldable pub above_on : Path → List Above
above_on p = below_top p ++ option_to_list (option_map above_of p.top)

-- the contents on a path, of these stored ones
unfoldable pub on_path : List t.Pattern → Path → List t.Pattern
on_path table p = contents table (option_map (λ b. pattern_view b.now) p.bottom) (above_on p)

-- whether none stands there
unfoldable pub is_idle : Path → Bool
is_idle p = is_none p.bottom

-- a count stands still at the largest number of 64 bits
abbrev pub counted : ℕ → ℕ
counted n = min n (2 ^ 64 - 1)

-- ---- classes

-- whether one of them has a class where it refers to anything, and only there
abbrev pub is_classed : List t.Pattern → Above → Bool
is_classed table (above.Class c) = are_some (references (content_of table c))
is_classed table (above.Bare p) = not (are_some (references (pattern_view p.now)))

-- each has
abbrev pub AreClassed : List t.Pattern → List Above → Type 0
AreClassed table xs = list_all (is_classed table) xs ≡ true

-- whether one of them is a pattern of this class: by their classes, or by their contents where neither has one
abbrev pub is_same : t.Pattern → Option ℕ → Above → Bool
is_same q (Some d) (above.Class c) = nat_eq c d
is_same q None (above.Class c) = false
is_same q (Some d) (above.Bare p) = false
is_same q None (above.Bare p) = is_yes (pattern_same (pattern_view p.now) q)

-- ---- what calls say, whatever is stored

-- whether a pattern of this class has the content of one on a path
abbrev pub Tells : Path → t.Pattern → Option ℕ → Bool → Type 0
Tells p q class found =
    (table : List t.Pattern) → AreDistinct table → AreClassed table (above_on p) → IsClassOf table q class → found ≡ is_on (on_path table p) q

-- a pattern of this class was put there
abbrev pub IsPut : t.Pattern → Option ℕ → Path → Path → Type 0
IsPut q class p p' = (table : List t.Pattern) → IsClassOf table q class → on_path table p' ≡ on_path table p ++ q ∷ []

-- all but the last
abbrev pub front : {A : Type 0} → List A → List A
front [] = []
front (x ∷ []) = []
front (x ∷ y ∷ ys) = x ∷ front (y ∷ ys)

-- the last was taken off
abbrev pub IsTakenOff : Path → Path → Type 0
IsTakenOff p p' = (table : List t.Pattern) → on_path table p' ≡ front (on_path table p)

-- those above still have classes where they refer to anything, and only there
abbrev pub StayClassed : Path → Path → Type 0
StayClassed p p' = (table : List t.Pattern) → AreClassed table (above_on p) → AreClassed table (above_on p')

-- the same where a pattern of this class may have been put there
abbrev pub StayClassedWith : t.Pattern → Option ℕ → Path → Path → Type 0
StayClassedWith q class p p' =
    (table : List t.Pattern) → IsClassOf table q class → AreClassed table (above_on p) → AreClassed table (above_on p')
