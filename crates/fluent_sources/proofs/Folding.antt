-- Findings, one after the other, by their causes.
use Rattle.std.proofs.Common.{◌≡◌, ◌∙◌, ◌+◌, ◌<◌, ◌≤◌, ◌&&◌, ℕ, Bool, true, false, List, [], ◌∷◌, ◌++◌, length, get_or, map, take, drop, cond, Option, Some, None, Result, Ok, Err, OnOk, refl, sym, ap, arith, Vec, Global, if◌then◌else◌}
use Rattle.std.specs.Map.{lookup}
use Rattle.std.specs.Str.{bytes_eq}
use Rattle.std.proofs.lemmas.List.{append_assoc, append-nil, drop_more, drop_all, map-append, take_more}
use Rattle.std.proofs.lemmas.Slice.Eq.{bytes_eq-Decides}
use Rattle.indexmap.specs.IndexMap.{IndexMap}
use Rattle.fluent_patterns.specs.Found.{Found, found_view}
use Rattle.fluent_patterns.specs.declared.finding.Finding.{Finding}
use Rattle.fluent_sources.specs.Causes.{Cause, Folded, cause_of, count_of, folded_from, folded_views, one_if, same_cause, told_at, told_by}
use Rattle.fluent_sources.specs.Inside.Causes.{AreCounts, Counts, Tells, cause_view, number_in, number_or_0}
use Rattle.fluent_sources.specs.contracts.causes.CausePartialEq.TheImpl.{eq-value}
use Rattle.fluent_sources.specs.declared.causes.Cause as code
use Rattle.fluent_sources.specs.declared.causes.Folded as code_folded

-- ---- causes of the code

-- the derived test
abbrev pub is_same : code.Cause → code.Cause → Bool
is_same = (eq-value).it

and_left : (a b : Bool) → (a && b) ≡ true → a ≡ true
and_left true b h = refl
and_left false b h = absurd cc

and_right : (a b : Bool) → (a && b) ≡ true → b ≡ true
and_right true b h = h
and_right false b h = absurd cc

and_both : (a b : Bool) → a ≡ true → b ≡ true → (a && b) ≡ true
and_both true b h k = k
and_both false b h k = absurd cc

pub same : (x y : code.Cause) → is_same x y ≡ same_cause (cause_view x) (cause_view y)
same x y = refl

itself : (a : Cause) → same_cause a a ≡ true
itself a =
    and_both (bytes_eq a.name a.name) (bytes_eq a.id a.id && bytes_eq a.attribute a.attribute) ((bytes_eq-Decides a.name a.name).1 refl)
    (and_both (bytes_eq a.id a.id) (bytes_eq a.attribute a.attribute) ((bytes_eq-Decides a.id a.id).1 refl) ((bytes_eq-Decides a.attribute a.attribute).1 refl))

equal : (a b : Cause) → same_cause a b ≡ true → a ≡ b
equal a b h =
    let rest : (bytes_eq a.id b.id && bytes_eq a.attribute b.attribute) ≡ true = and_right (bytes_eq a.name b.name) (bytes_eq a.id b.id && bytes_eq a.attribute b.attribute) h in
    ap (λ n. record { name = n; id = a.id; attribute = a.attribute }) ((bytes_eq-Decides a.name b.name).0 (and_left (bytes_eq a.name b.name) (bytes_eq a.id b.id && bytes_eq a.attribute b.attribute) h))
    ∙ (ap (λ i. record { name = b.name; id = i; attribute = a.attribute }) ((bytes_eq-Decides a.id b.id).0 (and_left (bytes_eq a.id b.id) (bytes_eq a.attribute b.attribute) rest))
    ∙ ap (λ t. record { name = b.name; id = b.id; attribute = t }) ((bytes_eq-Decides a.attribute b.attribute).0 (and_right (bytes_eq a.id b.id) (bytes_eq a.attribute b.attribute) rest)))

-- ---- counts

abbrev pub number_at : List (code.Cause × ℕ) → Cause → ℕ
number_at es c = number_or_0 (lookup (λ k. same_cause c (cause_view k)) es)

one_same : (a b : Cause) → a ≡ b → one_if a (Some b) ≡ 1
one_same a b e = ap (λ x. one_if x (Some b)) e ∙ ap (λ t. if t then 1 else 0) (itself b)

one_other : (a b : Cause) (t : Bool) → same_cause b a ≡ false → same_cause a b ≡ t → one_if a (Some b) ≡ 0
one_other a b true h e = absurd (let back : same_cause b a ≡ true = ap (λ x. same_cause x a) (sym (equal a b e)) ∙ itself a in cc)
one_other a b false h e = ap (λ t. if t then 1 else 0) e

counted_if : (k q : code.Cause) (n : ℕ) (old : List (code.Cause × ℕ)) (b : Bool) → is_same k q ≡ b → n ≡ number_at old (cause_view k)
    → number_or_0 (cond b (Some (n + 1)) (lookup (is_same q) old)) ≡ number_at old (cause_view q) + one_if (cause_view q) (Some (cause_view k))
counted_if k q n old true e is =
    let views : cause_view k ≡ cause_view q = equal (cause_view k) (cause_view q) (sym (same k q) ∙ e) in
    let number : n ≡ number_at old (cause_view q) = is ∙ ap (number_at old) views in
    let one : one_if (cause_view q) (Some (cause_view k)) ≡ 1 = one_same (cause_view q) (cause_view k) (sym views) in
    omega (arith, number, one)
counted_if k q n old false e is =
    let zero : one_if (cause_view q) (Some (cause_view k)) ≡ 0 = one_other (cause_view q) (cause_view k) (same_cause (cause_view q) (cause_view k)) (sym (same k q) ∙ e) refl in
    let number : number_or_0 (lookup (is_same q) old) ≡ number_at old (cause_view q) = refl in
    omega (arith, number, zero)

pub counted : (k : code.Cause) (n : ℕ) (old new : List (code.Cause × ℕ)) → ((q : code.Cause) → lookup (is_same q) new ≡ cond (is_same k q) (Some (n + 1)) (lookup (is_same q) old)) → n ≡ number_at old (cause_view k)
    → (q : code.Cause) → number_at new (cause_view q) ≡ number_at old (cause_view q) + one_if (cause_view q) (Some (cause_view k))
counted k n old new updates is q = ap number_or_0 (updates q) ∙ counted_if k q n old (is_same k q) refl is

count_snoc : (c : Cause) (xs : List (Option Cause)) (d : Option Cause) → count_of c (xs ++ d ∷ []) ≡ count_of c xs + one_if c d
count_snoc c [] d = omega arith
count_snoc c (x ∷ xs) d = let e : count_of c (xs ++ d ∷ []) ≡ count_of c xs + one_if c d = count_snoc c xs d in omega (arith, e)

-- those so far, with one more
pub causes_more : (xs : List Finding) (i : ℕ) (d : Finding) → i < length xs → map cause_of (map found_view (take (i + 1) xs)) ≡ map cause_of (map found_view (take i xs)) ++ cause_of (found_view (get_or xs i d)) ∷ []
causes_more xs i d h =
    ap (map cause_of) (ap (map found_view) (take_more xs i d h) ∙ map-append found_view (take i xs) (get_or xs i d ∷ []))
    ∙ map-append cause_of (map found_view (take i xs)) (found_view (get_or xs i d) ∷ [])

pub counts_more : (c : Cause) (xs : List Finding) (i : ℕ) (d : Finding) (o : Option Cause) (old new : ℕ) → i < length xs → o ≡ cause_of (found_view (get_or xs i d)) → old ≡ count_of c (map cause_of (map found_view (take i xs))) → new ≡ old + one_if c o
    → new ≡ count_of c (map cause_of (map found_view (take (i + 1) xs)))
counts_more c xs i d o old new h of so_far more =
    let before = map cause_of (map found_view (take i xs)) in
    more ∙ (ap (λ n. n + one_if c o) so_far ∙ (ap (λ z. count_of c before + one_if c z) of
    ∙ (sym (count_snoc c before (cause_of (found_view (get_or xs i d)))) ∙ ap (count_of c) (sym (causes_more xs i d h)))))

-- ---- what is told

pub told_alone : (all before : List (Option Cause)) (f : Found) (old new : List Folded) → cause_of f ≡ None → new ≡ old ++ record { found = f; others = 0 } ∷ [] → new ≡ old ++ told_by all before f (cause_of f)
told_alone all before f old new e more = more ∙ ap (λ o. old ++ told_by all before f o) (sym e)

pub told_some : (all before : List (Option Cause)) (f : Found) (old new : List Folded) (c : Cause) (m n : ℕ) → cause_of f ≡ Some c → m ≡ count_of c before → n ≡ count_of c all → new ≡ old ++ told_at f m n → new ≡ old ++ told_by all before f (cause_of f)
told_some all before f old new c m n e m_is n_is more =
    more ∙ (ap (λ k. old ++ told_at f k n) m_is ∙ (ap (λ k. old ++ told_at f (count_of c before) k) n_is ∙ ap (λ o. old ++ told_by all before f o) (sym e)))

pub tells_alone : {S R E : Type 0} (r : Result (Unit {0}) E) (f : Found) (counts : IndexMap code.Cause ℕ S) (seen : IndexMap code.Cause ℕ R) (old new : Vec code_folded.Folded Global) → cause_of f ≡ None
    → OnOk r (folded_views new.items ≡ folded_views old.items ++ record { found = f; others = 0 } ∷ []) → OnOk r (Tells f counts seen seen old new)
tells_alone (Err e) f counts seen old new none more = more
tells_alone (Ok u) f counts seen old new none more = record {
  counted = λ c. let zero : one_if (cause_view c) (cause_of f) ≡ 0 = ap (one_if (cause_view c)) none in omega (arith, zero);
  told = λ all before counts_are before_is. told_alone all before f (folded_views old.items) (folded_views new.items) none more;
}

pub tells_some : {S R E : Type 0} (r : Result (Unit {0}) E) (f : Found) (counts : IndexMap code.Cause ℕ S) (seen seen' : IndexMap code.Cause ℕ R) (old new : Vec code_folded.Folded Global) (c : code.Cause) (m n : ℕ) → cause_of f ≡ Some (cause_view c)
    → m ≡ number_in seen (cause_view c) → n ≡ number_in counts (cause_view c) → Counts (Some (cause_view c)) seen seen'
    → OnOk r (folded_views new.items ≡ folded_views old.items ++ told_at f m n) → OnOk r (Tells f counts seen seen' old new)
tells_some (Err e) f counts seen seen' old new c m n some m_is n_is counted more = more
tells_some (Ok u) f counts seen seen' old new c m n some m_is n_is counted more = record {
  counted = λ q. counted q ∙ ap (λ o. number_in seen (cause_view q) + one_if (cause_view q) o) (sym some);
  told = λ all before counts_are before_is. told_some all before f (folded_views old.items) (folded_views new.items) (cause_view c) m n some (m_is ∙ before_is c) (n_is ∙ counts_are c) more;
}

-- ---- one after the other

pub folds_more : (all : List (Option Cause)) (xs : List Finding) (i : ℕ) (d : Finding) (old new whole : List Folded) → i < length xs
    → new ≡ old ++ told_by all (map cause_of (map found_view (take i xs))) (found_view (get_or xs i d)) (cause_of (found_view (get_or xs i d)))
    → old ++ folded_from all (map cause_of (map found_view (take i xs))) (map found_view (drop i xs)) ≡ whole
    → new ++ folded_from all (map cause_of (map found_view (take (i + 1) xs))) (map found_view (drop (i + 1) xs)) ≡ whole
folds_more all xs i d old new whole h more so_far =
    let before = map cause_of (map found_view (take i xs)) in
    let rest = map found_view (drop (i + 1) xs) in
    let f = found_view (get_or xs i d) in
    ap (λ l. new ++ folded_from all l rest) (causes_more xs i d h)
    ∙ (ap (λ l. l ++ folded_from all (before ++ cause_of f ∷ []) rest) more
    ∙ (append_assoc old (told_by all before f (cause_of f)) (folded_from all (before ++ cause_of f ∷ []) rest)
    ∙ (ap (λ l. old ++ folded_from all before (map found_view l)) (sym (drop_more xs i d h)) ∙ so_far)))

pub folds_all : (all before : List (Option Cause)) (xs : List Finding) (i : ℕ) (old whole : List Folded) → length xs ≤ i → old ++ folded_from all before (map found_view (drop i xs)) ≡ whole → old ≡ whole
folds_all all before xs i old whole h so_far = sym (append-nil old) ∙ (ap (λ l. old ++ folded_from all before (map found_view l)) (sym (drop_all i xs h)) ∙ so_far)
