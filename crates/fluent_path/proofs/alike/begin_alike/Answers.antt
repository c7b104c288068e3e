use Rattle.std.proofs.Common.{◌≡◌, refl, ap, sym, ◌∙◌, rules, length, nat_eq, List, [], ◌∷◌, map, slice_get, Bool, true, false, Option, Some, None}
use Rattle.std.specs.Option.{option_copied}
use Rattle.fluent_ast.specs.Tree.{Element, Pattern, more, nothing, pattern_of, placeable, text}
use Rattle.fluent_ast.specs.View.{element_view, pattern_view}
use Rattle.fluent_ast.specs.declared.ast.Pattern as of_pattern
use Rattle.fluent_ast.specs.declared.ast.PatternElement as of_element
use Rattle.fluent_ast.specs.declared.ast.PatternElement.{PatternElement}
use Rattle.fluent_path.specs.Inside.Alike.{begin_alike}
use Rattle.fluent_path.proofs.Classed.{view_pattern}
use Rattle.fluent_path.proofs.alike.begin_alike.Goals as goal

abbrev first : Option PatternElement → Pattern
first None = nothing
first (Some x) = more (element_view x) nothing

-- nothing after the first elements counts
of_firsts : (es fs : List PatternElement) → begin_alike (pattern_of (map element_view es)) (pattern_of (map element_view fs)) ≡ begin_alike (first (slice_get es 0)) (first (slice_get fs 0))
of_firsts [] [] = refl
of_firsts [] (f ∷ fs) = refl
of_firsts (e ∷ es) [] = refl
of_firsts (e ∷ es) (f ∷ fs) = by (element_view e) (element_view f) (pattern_of (map element_view es)) (pattern_of (map element_view fs))
  where
    by : (e f : Element) (p q : Pattern) → begin_alike (more e p) (more f q) ≡ begin_alike (more e nothing) (more f nothing)
    by (text t) (text u) p q = refl
    by (text t) (placeable f) p q = refl
    by (placeable e) (text u) p q = refl
    by (placeable e) (placeable f) p q = refl

seen : (p : of_pattern.Pattern) (es : List PatternElement) → es ≡ p.elements.items → pattern_view p ≡ pattern_of (map element_view es)
seen p es is = view_pattern p ∙ sym (ap (λ es. pattern_of (map element_view es)) is)

-- so the first elements tell
by_firsts : (p q : of_pattern.Pattern) (es fs : List PatternElement) → es ≡ p.elements.items → fs ≡ q.elements.items → (x y : Option PatternElement) → x ≡ slice_get es 0 → y ≡ slice_get fs 0
    → (r : Bool) → r ≡ begin_alike (first x) (first y) → r ≡ begin_alike (pattern_view p) (pattern_view q)
by_firsts p q es fs own other x y is are r h =
    h
    ∙ ap (λ x. begin_alike (first x) (first y)) is
    ∙ ap (λ y. begin_alike (first (slice_get es 0)) (first y)) are
    ∙ sym (ap (λ p. begin_alike p (pattern_view q)) (seen p es own) ∙ ap (λ q. begin_alike (pattern_of (map element_view es)) q) (seen q fs other) ∙ of_firsts es fs)

pub returns-in-Some-TextElement-Some-TextElement : goal.returns-in-Some-TextElement-Some-TextElement
returns-in-Some-TextElement-Some-TextElement c =
    by_firsts c.args.one.now c.args.other.now c.deref.result.now c.deref-2.result.now c.deref.ensures.value c.deref-2.ensures.value (option_copied c.first.result) (option_copied c.first-2.result) c.first.ensures.value c.first-2.ensures.value
    (nat_eq (length c.in-Some-TextElement-Some-TextElement.own.now) (length c.in-Some-TextElement-Some-TextElement.value.now)) (search (rules, of_element.the_lemmas))

pub returns-in-Some-Placeable-Some-Placeable : goal.returns-in-Some-Placeable-Some-Placeable
returns-in-Some-Placeable-Some-Placeable c =
    by_firsts c.args.one.now c.args.other.now c.deref.result.now c.deref-2.result.now c.deref.ensures.value c.deref-2.ensures.value (option_copied c.first.result) (option_copied c.first-2.result) c.first.ensures.value c.first-2.ensures.value
    c.are_alike.result (search (rules, of_element.the_lemmas))

pub returns-in-None-None : goal.returns-in-None-None
returns-in-None-None c = by_firsts c.args.one.now c.args.other.now c.deref.result.now c.deref-2.result.now c.deref.ensures.value c.deref-2.ensures.value None None c.in-None-None.ensures.value c.in-None-None.ensures'.value true refl

pub returns-in_default : goal.returns-in_default
returns-in_default c = by_firsts c.args.one.now c.args.other.now c.deref.result.now c.deref-2.result.now c.deref.ensures.value c.deref-2.ensures.value (Some c.in_default.field-0-0.now) (Some c.in_default.field-0-1.now) c.in_default.ensures.value c.in_default.ensures'.value false (search (rules, of_element.the_lemmas))

pub returns-in_default-2 : goal.returns-in_default-2
returns-in_default-2 c = by_firsts c.args.one.now c.args.other.now c.deref.result.now c.deref-2.result.now c.deref.ensures.value c.deref-2.ensures.value (Some c.in_default.field-0-0.now) None c.in_default.ensures.value c.in_default.ensures'.value false refl

pub returns-in_default-3 : goal.returns-in_default-3
returns-in_default-3 c = by_firsts c.args.one.now c.args.other.now c.deref.result.now c.deref-2.result.now c.deref.ensures.value c.deref-2.ensures.value (Some c.in_default.field-0-0.now) (Some c.in_default.field-0-1.now) c.in_default.ensures.value c.in_default.ensures'.value false (search (rules, of_element.the_lemmas))

pub returns-in_default-4 : goal.returns-in_default-4
returns-in_default-4 c = by_firsts c.args.one.now c.args.other.now c.deref.result.now c.deref-2.result.now c.deref.ensures.value c.deref-2.ensures.value (Some c.in_default.field-0-0.now) None c.in_default.ensures.value c.in_default.ensures'.value false refl

pub returns-in_default-5 : goal.returns-in_default-5
returns-in_default-5 c = by_firsts c.args.one.now c.args.other.now c.deref.result.now c.deref-2.result.now c.deref.ensures.value c.deref-2.ensures.value None (Some c.in_default.field-0-1.now) c.in_default.ensures.value c.in_default.ensures'.value false refl
