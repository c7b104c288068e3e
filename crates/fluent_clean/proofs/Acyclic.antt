-- No reference of a clean pattern leads back to it.
use Rattle.std.proofs.Common.{◌≡◌, ℕ, zero, suc, List, [], ◌∷◌, ◌++◌, Bool, true, false, if◌then◌else◌, refl, sym, subst}
use Rattle.std.specs.List.{AllByRecursion}
use Rattle.fluent_ast.specs.Tree.{is_yes, pattern_same, Pattern}
use Rattle.fluent_semantics.specs.Walk.{is_on}
use Rattle.fluent_places.specs.Places.{Names}
use Rattle.fluent_clean.specs.Clean.{RefersTo, IsClean, clean}

module _ {C : Type 0} (named : Names C) where
  -- n references lead from one pattern to another
  abbrev pub Leads : ℕ → Pattern → Pattern → Type 0
  Leads zero p q = p ≡ q
  Leads (suc n) p q = (s : Pattern) × RefersTo named p s × Leads n s q

  pub one_more : (n : ℕ) (p q r : Pattern) → Leads n p q → RefersTo named q r → Leads (suc n) p r
  one_more zero p q r h j = (r, subst (λ z. RefersTo named z r) (sym h) j, refl)
  one_more (suc n) p q r h j = (h.0, h.1, one_more n h.0 q r h.2 j)

  pub acyclic : {p : Pattern} → IsClean named p → (n : ℕ) → Leads (suc n) p p → ⊥
  acyclic {p} (clean there below) n h = acyclic (below h.0 h.1) n (one_more n h.0 p h.0 h.2 h.1)

  -- what leads to a pattern, so many references before it
  abbrev pub IsAbove : Pattern → Pattern → Type 0
  IsAbove q r = (n : ℕ) × Leads n r q

  abbrev pub IsStrictlyAbove : Pattern → Pattern → Type 0
  IsStrictlyAbove q r = (n : ℕ) × Leads (suc n) r q

  neither : {P : Type 0} (d : Dec P) (c : Bool) → (P → ⊥) → c ≡ false → (if is_yes d then true else c) ≡ false
  neither (yes h) c no_p e = absurd (no_p h)
  neither (no h) c no_p e = e

  pub off_path : (path : List Pattern) (q : Pattern) → IsClean named q → AllByRecursion (IsStrictlyAbove q) path → is_on path q ≡ false
  off_path [] q c h = refl
  off_path (r ∷ path) q c h = neither (pattern_same r q) (is_on path q) (λ e. acyclic c h.0.0 (subst (λ z. Leads (suc h.0.0) z q) e h.0.1)) (off_path path q c h.1)

  -- the path of a pattern that p refers to
  pub goes_on : (path : List Pattern) (p q : Pattern) → RefersTo named p q → AllByRecursion (IsAbove p) path → AllByRecursion (IsStrictlyAbove q) path
  goes_on [] p q h j = tt
  goes_on (r ∷ path) p q h j = ((j.0.0, one_more j.0.0 r p q j.0.1 h), goes_on path p q h j.1)

  pub path_on : (path : List Pattern) (q : Pattern) → AllByRecursion (IsStrictlyAbove q) path → AllByRecursion (IsAbove q) (path ++ q ∷ [])
  path_on [] q h = ((0, refl), tt)
  path_on (r ∷ path) q h = ((suc h.0.0, h.0.1), path_on path q h.1)
