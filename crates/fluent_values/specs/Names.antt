-- Pairs in the order of their names' bytes.
use Rattle.std.specs.Prelude.{◌≡◌, ◌≤◌, ◌<◌, ℕ, List, length, map, Result, MatchResult, T}
use Rattle.std.specs.Ordering.{nat_cmp}
use Rattle.std.specs.Cow.{cow_str_bytes}
use Rattle.std.specs.Cmp.Lexicographic.{slice_cmp}
use Rattle.std.specs.FinMap.{is_sorted}
use Rattle.std.specs.List.{AllWithin, HoldsAt}
use Rattle.std.specs.declared.borrow.CowStr.{CowStr}
use Rattle.std.specs.declared.cmp.Ordering.{Ordering}
use Rattle.std.specs.declared.cmp.Ordering.TheVariants.{Less, Equal, Greater}
use Rattle.std.proofs.Common.{Global}
use Rattle.fluent_ast.specs.Tree.{Text}

-- each name stands once, and the names rise
abbrev pub NamesRise : {X : Type 0} → List (CowStr Global × X) → Type 0
NamesRise es = T (is_sorted (slice_cmp nat_cmp) (map (λ e. (cow_str_bytes e.0, e.1)) es))

-- how a pair's name stands to a name
abbrev pub to_name : {X : Type 0} → Text → CowStr Global × X → Ordering
to_name name e = slice_cmp nat_cmp (cow_str_bytes e.0) name

-- the index of the pair with the name; else the place between the smaller names and the greater
abbrev pub IsPlaceOf : {X : Type 0} → Text → List (CowStr Global × X) → Result ℕ ℕ → Type 0
IsPlaceOf name es r = MatchResult r
    (λ i. (i < length es) × HoldsAt (λ e. to_name name e ≡ Equal) es i)
    (λ i. (i ≤ length es) × AllWithin (λ e. to_name name e ≡ Less) es 0 i × AllWithin (λ e. to_name name e ≡ Greater) es i (length es))
