-- Patterns on a path, compared by the numbers of their contents, or by these themselves where they have none.
use Rattle.std.specs.Prelude.{◌&&◌, ◌||◌, not}
use Rattle.std.proofs.Common.{◌≡◌, refl, ap, sym, ◌∙◌, rules, ℕ, suc, nat_eq, length, List, [], ◌∷◌, ◌++◌, map, Bool, true, false, cond, slice_get, Option, Some, None}
use Rattle.std.specs.Borrow.{Bor}
use Rattle.std.specs.List.{list_any, list_all}
use Rattle.std.proofs.lemmas.List.Folds.{list_all-append, list_any-append}
use Rattle.std.specs.Option.{unwrap_or}
use Rattle.std.proofs.lemmas.Bool.{false≢true, true≢false}
use Rattle.std.proofs.lemmas.List.{length-map}
use Rattle.fluent_ast.specs.Tree.{Element, Pattern, is_yes, more, nothing, pattern_of, pattern_same}
use Rattle.fluent_ast.specs.References.{references}
use Rattle.fluent_ast.specs.View.{element_view, pattern_view}
use Rattle.fluent_ast.specs.declared.ast.Pattern as of_pattern
use Rattle.fluent_references.specs.Classes.{AreDistinct, HasClass}
use Rattle.fluent_references.specs.ClassLaws.{same_class}
use Rattle.fluent_references.specs.Linked.{IsClassOf, are_some}
use Rattle.fluent_semantics.specs.Walk.{is_on}
use Rattle.fluent_path.specs.Contents.{AreClassed, by_class, by_classes, content_above, content_of, contents, is_classed, is_same}
use Rattle.fluent_path.specs.declared.path.Above.{Above}
use Rattle.fluent_path.specs.declared.path.Above.TheVariants as above

-- the parts of a test of all
first_classed : (table : List Pattern) (x : Above) (xs : List Above) → AreClassed table (x ∷ xs) → is_classed table x ≡ true
first_classed table x xs h = by (is_classed table x) (list_all (is_classed table) xs) h
  where
    by : (a b : Bool) → (a && b) ≡ true → a ≡ true
    by true b h = refl
    by false b h = absurd (false≢true h)

others_classed : (table : List Pattern) (x : Above) (xs : List Above) → AreClassed table (x ∷ xs) → AreClassed table xs
others_classed table x xs h = by (is_classed table x) (list_all (is_classed table) xs) h
  where
    by : (a b : Bool) → (a && b) ≡ true → b ≡ true
    by true b h = h
    by false b h = absurd (false≢true h)

-- a class of what refers to anything names a content
named : (table : List Pattern) (c : ℕ) → are_some (references (content_of table c)) ≡ true → HasClass table c (content_of table c)
named table c h = by (slice_get table c) h
  where
    by : (o : Option Pattern) → are_some (references (unwrap_or o nothing)) ≡ true → o ≡ Some (unwrap_or o nothing)
    by None h = absurd (false≢true h)
    by (Some p) h = refl

step : (b : Bool) (x y : Bool) → x ≡ y → cond b true x ≡ cond b true y
step b x y h = ap (λ z. cond b true z) h

or_is : (a b : Bool) → (a || b) ≡ cond a true b
or_is true b = refl
or_is false b = refl

-- of two contents of which one refers to anything and the other to nothing, none is the other
unlike : (p q : Pattern) (b : Bool) → are_some (references p) ≡ b → are_some (references q) ≡ not b → false ≡ is_yes (pattern_same p q)
unlike p q b own other = by (pattern_same p q)
  where
    opposed : (b : Bool) → b ≡ not b → ⊥
    opposed true h = true≢false h
    opposed false h = false≢true h

    by : (same : Dec (p ≡ q)) → false ≡ is_yes same
    by (yes e) = absurd (opposed b (sym own ∙ ap (λ p. are_some (references p)) e ∙ other))
    by (no n) = refl

of_not : (b : Bool) → not b ≡ true → b ≡ false
of_not true h = absurd (false≢true h)
of_not false h = refl

-- whether one above the first is a pattern of this class is whether it has its content
same_content : (table : List Pattern) → AreDistinct table → (x : Above) → is_classed table x ≡ true → (q : Pattern) (class : Option ℕ) → IsClassOf table q class → is_same q class x ≡ is_yes (pattern_same (content_above table x) q)
same_content table distinct (above.Class c) one q (Some d) own = same_class table distinct c d (content_of table c) q (named table c one) (own.0 d refl).0
same_content table distinct (above.Class c) one q None own = unlike (content_of table c) q true one (own.1 refl)
same_content table distinct (above.Bare p) one q (Some d) own = unlike (pattern_view p.now) q false (of_not _ one) (own.0 d refl).1
same_content table distinct (above.Bare p) one q None own = refl

-- so it is found among those above
pub among_above : (table : List Pattern) → AreDistinct table → (xs : List Above) → AreClassed table xs → (q : Pattern) (class : Option ℕ) → IsClassOf table q class → list_any (is_same q class) xs ≡ is_on (map (content_above table) xs) q
among_above table distinct [] all q class own = refl
among_above table distinct (x ∷ xs) all q class own =
    or_is (is_same q class x) (list_any (is_same q class) xs)
    ∙ ap (λ b. cond b true (list_any (is_same q class) xs)) (same_content table distinct x (first_classed table x xs all) q class own)
    ∙ step (is_yes (pattern_same (content_above table x) q)) _ _ (among_above table distinct xs (others_classed table x xs all) q class own)

-- ---- with the first pattern

-- one that is not the first is to be found above
pub is_later : (table : List Pattern) (o : Option Pattern) (q : Pattern) (xs : List Above) (p : Pattern) (r : Bool) → o ≡ Some q → r ≡ is_yes (pattern_same q p) → r ≡ false → is_on (contents table o xs) p ≡ is_on (map (content_above table) xs) p
is_later table o q xs p r is like h = ap (λ o. is_on (contents table o xs) p) is ∙ ap (λ b. cond b true (is_on (map (content_above table) xs) p)) (sym like ∙ h)

-- ---- patterns by their classes

-- a pattern of a class has the content that it is put there by
pub class_content : (table : List Pattern) (p : Bor of_pattern.Pattern) (class : Option ℕ) → IsClassOf table (pattern_view p.now) class → content_above table (by_class p class) ≡ pattern_view p.now
class_content table p None own = refl
class_content table p (Some d) own = ap (λ o. unwrap_or o nothing) (own.0 d refl).0

-- and has a class where it refers to anything, and only there
class_fits : (table : List Pattern) (p : Bor of_pattern.Pattern) (class : Option ℕ) → IsClassOf table (pattern_view p.now) class → is_classed table (by_class p class) ≡ true
class_fits table p None own = ap not (own.1 refl)
class_fits table p (Some d) own = ap (λ q. are_some (references q)) (class_content table p (Some d) own) ∙ (own.0 d refl).1

-- one more of those that have
pub one_more : (table : List Pattern) (new old : List Above) (p : Bor of_pattern.Pattern) (class : Option ℕ) → IsClassOf table (pattern_view p.now) class → new ≡ old → AreClassed table old → AreClassed table (new ++ by_class p class ∷ [])
one_more table new old p class own is all =
    ap (λ xs. list_all (is_classed table) (xs ++ by_class p class ∷ [])) is
    ∙ list_all-append (is_classed table) old (by_class p class ∷ [])
    ∙ ap (λ b. b && list_all (is_classed table) (by_class p class ∷ [])) all
    ∙ ap (λ b. b && true) (class_fits table p class own)

-- ---- among parts

-- a test of three lists is that of each
pub among : {X : Type 0} (p : X → Bool) (xs ys zs : List X) → list_any p ((xs ++ ys) ++ zs) ≡ ((list_any p xs || list_any p ys) || list_any p zs)
among p xs ys zs = list_any-append p (xs ++ ys) zs ∙ ap (λ b. b || list_any p zs) (list_any-append p xs ys)

-- those that stand by their classes
pub by_their_classes : (q : Pattern) (d : ℕ) (cs : List ℕ) → list_any (λ c. nat_eq c d) cs ≡ list_any (is_same q (Some d)) (by_classes cs)
by_their_classes q d [] = refl
by_their_classes q d (c ∷ cs) = ap (λ b. nat_eq c d || b) (by_their_classes q d cs)

-- none of them is one without class
pub none_by_class : (q : Pattern) (cs : List ℕ) → false ≡ list_any (is_same q None) (by_classes cs)
none_by_class q [] = refl
none_by_class q (c ∷ cs) = none_by_class q cs

-- ---- lengths

abbrev size : Pattern → ℕ
size nothing = 0
size (more e p) = suc (size p)

size_of : (es : List Element) → size (pattern_of es) ≡ length es
size_of [] = refl
size_of (e ∷ es) = ap suc (size_of es)

pub view_pattern : (p : of_pattern.Pattern) → pattern_view p ≡ pattern_of (map element_view p.elements.items)
view_pattern p = search (rules, of_pattern.the_lemmas)

-- a content has as many elements as a pattern of it
sized : (p : of_pattern.Pattern) → size (pattern_view p) ≡ length p.elements.items
sized p = ap size (view_pattern p) ∙ size_of (map element_view p.elements.items) ∙ length-map p.elements.items element_view

-- patterns that differ in length are none of one content
pub unlike_lengths : (one other : of_pattern.Pattern) (m n : ℕ) → m ≡ length one.elements.items → n ≡ length other.elements.items → (m ≡ n → ⊥) → false ≡ is_yes (pattern_same (pattern_view one) (pattern_view other))
unlike_lengths one other m n is are h = by (pattern_same (pattern_view one) (pattern_view other))
  where
    by : (same : Dec (pattern_view one ≡ pattern_view other)) → false ≡ is_yes same
    by (yes e) = absurd (h (is ∙ sym (sized one) ∙ ap size e ∙ sized other ∙ sym are))
    by (no n) = refl
