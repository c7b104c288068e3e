-- Counts by what is known are those of the bundle, from some depth on.
use Rattle.std.proofs.Common.{◌≡◌, ℕ, zero, suc, ◌+◌, ◌<◌, ◌≤◌, ◌^◌, max, List, [], ◌∷◌, ◌++◌, IfSome, refl, sym, ap, subst, ◌∙◌, arith}
use Rattle.std.specs.List.{AllByRecursion}
use Rattle.fluent_ast.specs.Tree.{Text, Pattern, nothing, more, Element, text, placeable, Expression, inline, select, Variants, no_variants, variant, Inline, string, number, function, message, term, variable, nested, Call, no_call, call, Arguments, arguments, Inlines, no_inlines, argument, Nameds, no_nameds, named_argument}
use Rattle.fluent_semantics.specs.Bundle.{Target, found}
use Rattle.fluent_places.specs.Places.{Place, Names, place_target}
use Rattle.fluent_places.specs.Needs.{Need, a_message, a_term, a_function, a_variable, a_default, has_default, unless, needs, in_element, in_expression, in_variants, in_inline, in_call, in_arguments, in_positional, in_named, place_of}
use Rattle.fluent_clean.specs.Clean.{IsClean, IsCleanAt, IsMet, at_target, at_place, most_in_pattern, most_in_element, most_in_expression, most_in_variants, most_in_inline, most_in_call, most_in_arguments, most_in_positional, most_in_named, placeables_deep, IsFine}
use Rattle.fluent_clean.specs.Laws.{DeeperCountsMore, MetIsClean}
use Rattle.fluent_clean.specs.Findings.{capped, IsRight}
use Rattle.fluent_clean.specs.Inside.Table.{Known, count_of, IsCounted, IsWell}

all_left : {A : Type 0} (P : A → Type 0) (xs ys : List A) → AllByRecursion P (xs ++ ys) → AllByRecursion P xs
all_left P [] ys h = tt
all_left P (x ∷ xs) ys h = (h.0, all_left P xs ys h.1)

all_right : {A : Type 0} (P : A → Type 0) (xs ys : List A) → AllByRecursion P (xs ++ ys) → AllByRecursion P ys
all_right P [] ys h = h
all_right P (x ∷ xs) ys h = all_right P xs ys h.1

pub capped_sum : (a b c d : ℕ) → capped a ≡ capped c → capped b ≡ capped d → capped (a + b) ≡ capped (c + d)
capped_sum a b c d h j = omega (arith, h, j)

pub capped_max : (a b c d : ℕ) → capped a ≡ capped c → capped b ≡ capped d → capped (max a b) ≡ capped (max c d)
capped_max a b c d h j = omega (arith, h, j)

pub capped_twice : (a : ℕ) → capped (capped a) ≡ capped a
capped_twice a = omega arith

module _ (f g : Place → ℕ) where
  abbrev IsAlike : Need → Type 0
  IsAlike n = IfSome (place_of n) (λ x. capped (f x) ≡ capped (g x))

  mutual
    pub pattern_alike : (p : Pattern) → AllByRecursion IsAlike (needs p) → capped (most_in_pattern f p) ≡ capped (most_in_pattern g p)
    pattern_alike nothing h = refl
    pattern_alike (more e p) h = capped_sum _ _ _ _ (element_alike e (all_left IsAlike (in_element e) (needs p) h)) (pattern_alike p (all_right IsAlike (in_element e) (needs p) h))

    element_alike : (e : Element) → AllByRecursion IsAlike (in_element e) → capped (most_in_element f e) ≡ capped (most_in_element g e)
    element_alike (text t) h = refl
    element_alike (placeable e) h = capped_sum _ 1 _ 1 (expression_alike e h) refl

    expression_alike : (e : Expression) → AllByRecursion IsAlike (in_expression e) → capped (most_in_expression f e) ≡ capped (most_in_expression g e)
    expression_alike (inline x) h = inline_alike x h
    expression_alike (select x vs) h =
        let later = all_right IsAlike (in_inline x) (in_variants vs ++ unless (has_default vs) a_default) h in
        capped_sum _ _ _ _ (inline_alike x (all_left IsAlike (in_inline x) _ h)) (variants_alike vs (all_left IsAlike (in_variants vs) (unless (has_default vs) a_default) later))

    variants_alike : (vs : Variants) → AllByRecursion IsAlike (in_variants vs) → capped (most_in_variants f vs) ≡ capped (most_in_variants g vs)
    variants_alike no_variants h = refl
    variants_alike (variant k q d vs) h = capped_max _ _ _ _ (pattern_alike q (all_left IsAlike (needs q) (in_variants vs) h)) (variants_alike vs (all_right IsAlike (needs q) (in_variants vs) h))

    inline_alike : (x : Inline) → AllByRecursion IsAlike (in_inline x) → capped (most_in_inline f x) ≡ capped (most_in_inline g x)
    inline_alike (string t) h = refl
    inline_alike (number t) h = refl
    inline_alike (function n a) h = arguments_alike a h.1
    inline_alike (message m a) h = h.0
    inline_alike (term t a c) h = capped_sum _ _ _ _ (call_alike c h.1) h.0
    inline_alike (variable v) h = refl
    inline_alike (nested e) h = expression_alike e h

    call_alike : (c : Call) → AllByRecursion IsAlike (in_call c) → capped (most_in_call f c) ≡ capped (most_in_call g c)
    call_alike no_call h = refl
    call_alike (call a) h = arguments_alike a h

    arguments_alike : (a : Arguments) → AllByRecursion IsAlike (in_arguments a) → capped (most_in_arguments f a) ≡ capped (most_in_arguments g a)
    arguments_alike (arguments xs ns) h = capped_sum _ _ _ _ (positional_alike xs (all_left IsAlike (in_positional xs) (in_named ns) h)) (named_alike ns (all_right IsAlike (in_positional xs) (in_named ns) h))

    positional_alike : (xs : Inlines) → AllByRecursion IsAlike (in_positional xs) → capped (most_in_positional f xs) ≡ capped (most_in_positional g xs)
    positional_alike no_inlines h = refl
    positional_alike (argument x xs) h = capped_sum _ _ _ _ (inline_alike x (all_left IsAlike (in_inline x) (in_positional xs) h)) (positional_alike xs (all_right IsAlike (in_inline x) (in_positional xs) h))

    named_alike : (ns : Nameds) → AllByRecursion IsAlike (in_named ns) → capped (most_in_named f ns) ≡ capped (most_in_named g ns)
    named_alike no_nameds h = refl
    named_alike (named_argument name x ns) h = capped_sum _ _ _ _ (inline_alike x (all_left IsAlike (in_inline x) (in_named ns) h)) (named_alike ns (all_right IsAlike (in_inline x) (in_named ns) h))

module _ (named : Names Text) (known : Known) where
  -- what is known of needs is right from this depth on
  abbrev AlikeFrom : ℕ → List Need → Type 0
  AlikeFrom deep ns = (n : ℕ) → deep ≤ n → AllByRecursion (IsAlike (count_of known) (at_place named (placeables_deep named n))) ns

  -- the depth of one need
  abbrev one_deep : (n : Need) → IsCounted named known n → ℕ
  one_deep (a_message m a) h = h.0
  one_deep (a_term t a names) h = h.0
  one_deep (a_function f) h = 0
  one_deep (a_variable v) h = 0
  one_deep a_default h = 0

  one_alike : (n : Need) (h : IsCounted named known n) (k : ℕ) → one_deep n h ≤ k → IsAlike (count_of known) (at_place named (placeables_deep named k)) n
  one_alike (a_message m a) h k le = ap capped (h.1 k le) ∙ capped_twice _
  one_alike (a_term t a names) h k le = ap capped (h.1 k le) ∙ capped_twice _
  one_alike (a_function f) h k le = tt
  one_alike (a_variable v) h k le = tt
  one_alike a_default h k le = tt

  all_alike : (ns : List Need) → AllByRecursion (IsWell named known) ns → (deep : ℕ) × AlikeFrom deep ns
  all_alike [] h = (0, λ n le. tt)
  all_alike (m ∷ ns) h =
      let rest = all_alike ns h.1 in
      (max (one_deep m h.0.1) rest.0, λ n le. (one_alike m h.0.1 n (omega (arith, le)), rest.1 n (omega (arith, le))))

  all_met : (ns : List Need) → AllByRecursion (IsWell named known) ns → AllByRecursion (IsMet named) ns
  all_met [] h = tt
  all_met (n ∷ ns) h = (h.0.0, all_met ns h.1)

  deep_counts : (p : Pattern) (deep : ℕ) → AlikeFrom deep (needs p) → (t : Target) → t ≡ found p → (n : ℕ) → deep + 1 ≤ n → capped (most_in_pattern (count_of known) p) ≡ capped (at_target (placeables_deep named n) t)
  unfolding placeables_deep
  deep_counts p deep h t e zero le = absurd (omega (arith, le))
  deep_counts p deep h t e (suc n) le = subst (λ u. capped (most_in_pattern (count_of known) p) ≡ capped (at_target (placeables_deep named (suc n)) u)) (sym e) (pattern_alike (count_of known) (at_place named (placeables_deep named n)) p (h n (omega (arith, le))))

  same_pattern : (p : Pattern) (t : Target) → t ≡ found p → IsClean named p → IsCleanAt named t
  same_pattern p t e c q f = let same : p ≡ q = cc in subst (λ z. IsClean named z) same c

  -- where all needs of what stands at a place are well, it is clean, and is counted by what is known
  pub right : MetIsClean Text → (x : Place) (p : Pattern) (k : ℕ) → place_target named x ≡ found p → AllByRecursion (IsWell named known) (needs p) → k ≡ capped (most_in_pattern (count_of known) p) → IsRight named x k
  right met x p k e h counted =
      let a = all_alike (needs p) h in
      (same_pattern p (place_target named x) e (met named p (all_met (needs p) h)), (a.0 + 1, λ n le. counted ∙ deep_counts p a.0 a.1 (place_target named x) e n le))

module _ (more : DeeperCountsMore Text) (named : Names Text) where
  trans_le : (a b c : ℕ) → a ≤ b → b ≤ c → a ≤ c
  trans_le a b c h j = omega (arith, h, j)

  deeper : (m n : ℕ) (p : Pattern) (k : ℕ) → k ≡ m + n → placeables_deep named n p ≤ placeables_deep named k p
  deeper zero n p k e = let same : k ≡ n = omega (arith, e) in subst (λ j. placeables_deep named n p ≤ placeables_deep named j p) (sym same) (omega arith)
  deeper (suc m) n p k e = let same : k ≡ suc (m + n) = omega (arith, e) in subst (λ j. placeables_deep named n p ≤ placeables_deep named j p) (sym same) (trans_le _ _ _ (deeper m n p (m + n) refl) (more named (m + n) p))

  at_found : (n : ℕ) (t : Target) (p : Pattern) → t ≡ found p → at_target (placeables_deep named n) t ≡ placeables_deep named n p
  at_found n t p e = ap (at_target (placeables_deep named n)) e

  within : (a b k limit : ℕ) → a ≤ b → k ≡ capped b → k ≤ limit → limit < 2 ^ 32 → a ≤ limit
  within a b k limit h e le small = omega (arith, h, e, le, small)

  -- what is right and within a limit is fine
  pub fine : (x : Place) (k limit : ℕ) → IsRight named x k → k ≤ limit → limit < 2 ^ 32 → IsFine named limit x
  fine x k limit h le small p e = (h.0 p e, λ n. within _ _ k limit (deeper h.1.0 n p (h.1.0 + n) refl) (h.1.1 (h.1.0 + n) (omega arith) ∙ ap capped (at_found (h.1.0 + n) (place_target named x) p e)) le small)
