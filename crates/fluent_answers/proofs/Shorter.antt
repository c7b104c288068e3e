-- What stands after a record is shorter.
use Rattle.std.proofs.Common.{arith, ◌≡◌, ◌<◌, ◌≤◌, ℕ, Bool, true, false, List, [], ◌∷◌, Option, Some, None, length, take, drop, refl, ap, subst}
use Rattle.std.specs.Prelude.{if◌then◌else◌, nat_lt}
use Rattle.std.specs.Int.{w32, from_le_bytes}
use Rattle.std.proofs.lemmas.List.{length-drop}
use Rattle.fluent_text.specs.Parser.{and_then}
use Rattle.fluent_answers.specs.Kinds.{kind_of}
use Rattle.fluent_answers.specs.Records.{Record, exactly, kind_by, one_record, sized}
use Rattle.fluent_answers.specs.declared.kind.Kind.{Kind}

abbrev after : {A : Type 0} → List ℕ → Option (A × List ℕ) → List ℕ
after s None = s
after s (Some p) = p.1

by_test : (b : Bool) (n : ℕ) (s a r : List ℕ) → ◌≡◌ {A = Option (List ℕ × List ℕ)} (if b then None else Some (take n s, drop n s)) (Some (a, r)) → length r ≤ length s
by_test true n s a r h = absurd cc
by_test false n s a r h = let le : length (drop n s) ≤ length s = omega (arith, length-drop n s) in subst (λ t. length t ≤ length s) (ap (after s) h) le

exactly_shorter : (n : ℕ) (s a r : List ℕ) → exactly n s ≡ Some (a, r) → length r ≤ length s
exactly_shorter n s a r h = by_test (nat_lt (length s) n) n s a r h

by_size : (o : Option (List ℕ × List ℕ)) (s a r : List ℕ) → exactly 4 s ≡ o → and_then o (λ size. exactly (from_le_bytes w32 size)) ≡ Some (a, r) → length r ≤ length s
by_size None s a r e h = absurd cc
by_size (Some p) s a r e h =
    let first : length p.1 ≤ length s = exactly_shorter 4 s p.0 p.1 e in
    let second : length r ≤ length p.1 = exactly_shorter (from_le_bytes w32 p.0) p.1 a r h in
    omega (arith, first, second)

sized_shorter : (s a r : List ℕ) → sized s ≡ Some (a, r) → length r ≤ length s
sized_shorter s a r h = by_size (exactly 4 s) s a r refl h

module _ (k : Kind) (s : List ℕ) (r : Record) (rest : List ℕ) where
  by_value : (name t : List ℕ) (o : Option (List ℕ × List ℕ)) → sized t ≡ o → length t ≤ length s
      → and_then o (λ value more. Some (record { name = name; kind = k; value = value }, more)) ≡ Some (r, rest) → length rest ≤ length s
  by_value name t None e le h = absurd cc
  by_value name t (Some p) e le h =
      let more : length p.1 ≤ length t = sized_shorter t p.0 p.1 e in
      let all : length p.1 ≤ length s = omega (arith, more, le) in
      subst (λ u. length u ≤ length s) (ap (after s) h) all

  by_name : (o : Option (List ℕ × List ℕ)) → sized s ≡ o
      → and_then o (λ name t. and_then (sized t) (λ value more. Some (record { name = name; kind = k; value = value }, more))) ≡ Some (r, rest) → length rest ≤ length s
  by_name None e h = absurd cc
  by_name (Some p) e h = by_value p.0 p.1 (sized p.1) refl (sized_shorter s p.0 p.1 e) h

by_kind : (o : Option Kind) (s : List ℕ) (r : Record) (rest : List ℕ)
    → and_then (kind_by o s) (λ k t. and_then (sized t) (λ name u. and_then (sized u) (λ value more. Some (record { name = name; kind = k; value = value }, more)))) ≡ Some (r, rest)
    → length rest ≤ length s
by_kind None s r rest h = absurd cc
by_kind (Some k) s r rest h = by_name k s r rest (sized s) refl h

pub shorter : (s rest : List ℕ) (r : Record) → one_record s ≡ Some (r, rest) → length rest < length s
shorter [] rest r h = absurd cc
shorter (c ∷ s) rest r h = let le : length rest ≤ length s = by_kind (kind_of c) s r rest h in omega (arith, le)
