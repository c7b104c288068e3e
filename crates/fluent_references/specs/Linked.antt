-- What is kept of a stored pattern, and of which pattern that is.
use Rattle.std.specs.Prelude.{◌≡◌, ℕ, Bool, true, false, List, [], ◌∷◌, Option, Some, None}
use Rattle.fluent_ast.specs.Tree.{Text, Pattern}
use Rattle.fluent_ast.specs.References.{Reference, references}
use Rattle.fluent_ast.specs.View.{pattern_view}
use Rattle.fluent_ast.specs.declared.ast.Pattern as of_pattern
use Rattle.fluent_references.specs.Links.{IsBefore, KeepsNumbers, Links}
use Rattle.fluent_references.specs.Classes.{HasClass, Grows, with_class}
use Rattle.fluent_references.specs.Inside.LinkNumbers.{AreNumbers, keeps_numbers}
use Rattle.fluent_references.specs.Slots.{number, slots}
use Rattle.fluent_references.specs.Table.{table}
use Rattle.fluent_references.specs.declared.classes.Classes.{Classes}
use Rattle.fluent_references.specs.declared.linked.Linked.{Linked}
use Rattle.fluent_references.specs.declared.slots.Slots.{Slots}

abbrev pub class_of : Linked → Option ℕ
class_of l = l.class

abbrev pub links_of : Linked → List ℕ
links_of l = l.links.items

-- whether there are references
abbrev pub are_some : List Reference → Bool
are_some [] = false
are_some (r ∷ rs) = true

-- a pattern's class, if it has one; it has one where it refers to anything, and only there
abbrev pub IsClassOf : List Pattern → Pattern → Option ℕ → Type 0
IsClassOf table p class = ((c : ℕ) → class ≡ Some c → HasClass table c p × (are_some (references p) ≡ true)) × (class ≡ None → are_some (references p) ≡ false)

-- it has the pattern's class, and its links are the numbers of what the pattern refers to
abbrev pub IsOf : (Text → Option ℕ) → List Pattern → Pattern → Linked → Type 0
IsOf number table p l = IsClassOf table p (class_of l) × AreNumbers number (references p) (links_of l)

-- it is that of this pattern, by the numbers of these slots and by these classes
abbrev pub IsLinkedBy : {X : Type 0} → Slots X → Classes → of_pattern.Pattern → Linked → Type 0
IsLinkedBy s c p l = IsOf (number (slots s)) (table c) (pattern_view p) l

-- of whatever pattern it is, these links stand before all that the pattern refers to
abbrev pub IsBeforeAll : Linked → Links → Type 0
IsBeforeAll l ls = (number : Text → Option ℕ) (table : List Pattern) (p : Pattern) → IsOf number table p l → IsBefore number (references p) ls

-- with the content of what refers to anything
abbrev pub with_referring : List Reference → Pattern → List Pattern → List Pattern
with_referring [] p table = table
with_referring (r ∷ rs) p table = with_class p table

abbrev pub with_content : Pattern → List Pattern → List Pattern
with_content p table = with_referring (references p) p table

still_class : (table table' : List Pattern) → Grows table table' → (p : Pattern) (class : Option ℕ) → IsClassOf table p class → IsClassOf table' p class
still_class table table' grows p class h = (λ c at. (grows c p (h.0 c at).0, (h.0 c at).1), h.1)

-- it stays so while ids keep their numbers and contents their classes
pub still_of : (number number' : Text → Option ℕ) (table table' : List Pattern) → KeepsNumbers number number' → Grows table table' → (p : Pattern) (l : Linked) → IsOf number table p l → IsOf number' table' p l
still_of number number' table table' kept grows p l h = (still_class table table' grows p (class_of l) h.0, keeps_numbers number number' kept (references p) (links_of l) h.1)
