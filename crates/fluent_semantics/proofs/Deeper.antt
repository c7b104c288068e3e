-- References followed deeper than there are stored patterns off the path make no difference.
use Rattle.std.proofs.Common.{◌≡◌, ℕ, zero, suc, ◌+◌, ◌≤◌, ◌<◌, List, [], ◌∷◌, ◌++◌, length, map, Bool, true, false, Option, Some, None, if◌then◌else◌, cond, refl, sym, ap, ◌∙◌, arith, inl, inr, ◌⊎◌}
use Rattle.std.specs.Ordering.{nat_cmp, eq_by_cmp}
use Rattle.std.specs.Cmp.Lexicographic.{slice_cmp}
use Rattle.fluent_ast.specs.Tree.{Text, Attribute, no_attribute, attribute, Attributes, is_yes, pattern_same, Pattern}
use Rattle.fluent_semantics.specs.Number.{is_text}
use Rattle.fluent_semantics.specs.Arguments.{Map, get}
use Rattle.fluent_semantics.specs.Bundle.{Bundle, Entry, a_message, a_term, a_function, number_builtin, Target, found, first_of, message_target, term_target, patterns_of, stored_in, stored}
use Rattle.fluent_semantics.specs.Walk.{Environment, is_on, has_one, inner, deep}
use Rattle.fluent_semantics.specs.Meaning.{joined, by_substitution, substituted, settling}
use Rattle.fluent_semantics.proofs.Related.{Relation, elements_related}

-- how many of these are off the path
abbrev pub off : List Pattern → List Pattern → ℕ
off path [] = 0
off path (p ∷ ps) = (if is_on path p then 0 else 1) + off path ps

-- p stands in the list
abbrev pub Stands : Pattern → List Pattern → Type 0
Stands p [] = ⊥
Stands p (q ∷ qs) = (p ≡ q) ⊎ Stands p qs

same_itself : (p : Pattern) (d : Dec (p ≡ p)) → is_yes d ≡ true
same_itself p (yes e) = refl
same_itself p (no h) = absurd (h refl)

or_longer : (b c d : Bool) → (c ≡ true → d ≡ true) → (if b then true else c) ≡ true → (if b then true else d) ≡ true
or_longer true c d h e = refl
or_longer false c d h e = h e

on_longer : (path : List Pattern) (q p : Pattern) → is_on path p ≡ true → is_on (path ++ q ∷ []) p ≡ true
on_longer [] q p h = absurd cc
on_longer (r ∷ path) q p h = or_longer (is_yes (pattern_same r p)) (is_on path p) (is_on (path ++ q ∷ []) p) (on_longer path q p) h

or_first : (b c : Bool) → b ≡ true → (if b then true else c) ≡ true
or_first true c h = refl
or_first false c h = absurd cc

or_end : (b c : Bool) → c ≡ true → (if b then true else c) ≡ true
or_end true c h = refl
or_end false c h = h

on_end : (path : List Pattern) (p : Pattern) → is_on (path ++ p ∷ []) p ≡ true
on_end [] p = or_first (is_yes (pattern_same p p)) false (same_itself p (pattern_same p p))
on_end (r ∷ path) p = or_end (is_yes (pattern_same r p)) _ (on_end path p)

counts_less : (b c : Bool) → (b ≡ true → c ≡ true) → (if c then 0 else 1) ≤ (if b then 0 else 1)
counts_less true true h = omega arith
counts_less true false h = absurd (let e : false ≡ true = h refl in cc)
counts_less false true h = omega arith
counts_less false false h = omega arith

off_less : (path : List Pattern) (q : Pattern) (ps : List Pattern) → off (path ++ q ∷ []) ps ≤ off path ps
off_less path q [] = omega arith
off_less path q (p ∷ ps) = omega (arith, counts_less (is_on path p) (is_on (path ++ q ∷ []) p) (on_longer path q p), off_less path q ps)

off_inner : (path : List Pattern) (q : Pattern) (ps : List Pattern) → off (inner path q) ps ≤ off path ps
off_inner [] q ps = off_less [] q ps
off_inner (r ∷ path) q ps = omega arith

counts_now : (b c : Bool) → b ≡ false → c ≡ true → (if c then 0 else 1) < (if b then 0 else 1)
counts_now true c h e = absurd cc
counts_now false true h e = omega arith
counts_now false false h e = absurd cc

-- a step onto a stored pattern that is off the path takes it from those that are off
off_falls : (path : List Pattern) (p : Pattern) (ps : List Pattern) → Stands p ps → is_on path p ≡ false → off (path ++ p ∷ []) ps < off path ps
off_falls path p [] h e = absurd h
off_falls path p (q ∷ ps) (inl h) e =
    omega (arith, counts_now (is_on path q) (is_on (path ++ p ∷ []) q) (ap (is_on path) (sym h) ∙ e) (ap (is_on (path ++ p ∷ [])) (sym h) ∙ on_end path p), off_less path p ps)
off_falls path p (q ∷ ps) (inr h) e = omega (arith, counts_less (is_on path q) (is_on (path ++ p ∷ []) q) (on_longer path p q), off_falls path p ps h e)

off_all : (path ps : List Pattern) → off path ps ≤ length ps
off_all path [] = omega arith
off_all path (p ∷ ps) = omega (arith, counts_less false (is_on path p) (λ e. absurd cc), off_all path ps)

stands_left : (p : Pattern) (xs ys : List Pattern) → Stands p xs → Stands p (xs ++ ys)
stands_left p [] ys h = absurd h
stands_left p (x ∷ xs) ys (inl h) = inl h
stands_left p (x ∷ xs) ys (inr h) = inr (stands_left p xs ys h)

stands_right : (p : Pattern) (xs ys : List Pattern) → Stands p ys → Stands p (xs ++ ys)
stands_right p [] ys h = h
stands_right p (x ∷ xs) ys h = inr (stands_right p xs ys h)

-- ---- what a reference finds is stored

chosen_stands : (p q : Pattern) (t : Target) (qs : List Pattern) (b : Bool) → (t ≡ found p → Stands p qs) → (if b then found q else t) ≡ found p → Stands p (q ∷ qs)
chosen_stands p q t qs true rest h = inl cc
chosen_stands p q t qs false rest h = inr (rest h)

first_stands : (p : Pattern) (name : Text) (as' : Attributes) → first_of name as' ≡ found p → Stands p (map (λ a. a.1) as')
first_stands p name [] h = absurd cc
first_stands p name (a ∷ as') h = chosen_stands p a.1 (first_of name as') _ (is_text a.0 name) (first_stands p name as') h

module _ {C : Type 0} where
  message_stands : (p : Pattern) (e : Entry C) (a : Attribute) → message_target (Some e) a ≡ found p → Stands p (patterns_of e)
  message_stands p (a_message None as') no_attribute h = absurd cc
  message_stands p (a_message (Some q) as') no_attribute h = inl cc
  message_stands p (a_message None as') (attribute name) h = first_stands p name as' h
  message_stands p (a_message (Some q) as') (attribute name) h = inr (first_stands p name as' h)
  message_stands p (a_term q as') a h = absurd cc
  message_stands p (a_function f) a h = absurd cc
  message_stands p number_builtin a h = absurd cc

  term_stands : (p : Pattern) (e : Entry C) (a : Attribute) → term_target (Some e) a ≡ found p → Stands p (patterns_of e)
  term_stands p (a_term q as') no_attribute h = inl cc
  term_stands p (a_term q as') (attribute name) h = inr (first_stands p name as' h)
  term_stands p (a_message v as') a h = absurd cc
  term_stands p (a_function f) a h = absurd cc
  term_stands p number_builtin a h = absurd cc

  entry_stands : (p : Pattern) (target : Option (Entry C) → Target) → ((e : Entry C) → target (Some e) ≡ found p → Stands p (patterns_of e)) →
      (e : Entry C) (rest : Option (Entry C)) (qs : List Pattern) → (target rest ≡ found p → Stands p qs) → (b : Bool) → target (cond b (Some e) rest) ≡ found p → Stands p (patterns_of e ++ qs)
  entry_stands p target stands e rest qs h true j = stands_left p (patterns_of e) qs (stands e j)
  entry_stands p target stands e rest qs h false j = stands_right p (patterns_of e) qs (h j)

  id_stands : (p : Pattern) (target : Option (Entry C) → Target) → ((e : Entry C) → target (Some e) ≡ found p → Stands p (patterns_of e)) → (target None ≡ found p → ⊥) →
      (id : Text) (ids : Map (Entry C)) → target (get id ids) ≡ found p → Stands p (stored_in ids)
  id_stands p target stands none id [] h = none h
  id_stands p target stands none id (e ∷ es) h = entry_stands p target stands e.1 (get id es) (stored_in es) (id_stands p target stands none id es) (eq_by_cmp (slice_cmp nat_cmp) id e.0) h

  pub message_is_stored : (b : Bundle C) (a : Attribute) (id : Text) (p : Pattern) → message_target (get id b.ids) a ≡ found p → Stands p (stored b)
  message_is_stored b a id p h = id_stands p (λ e. message_target e a) (λ e. message_stands p e a) (λ j. cc) id b.ids h

  pub term_is_stored : (b : Bundle C) (a : Attribute) (id : Text) (p : Pattern) → term_target (get id b.ids) a ≡ found p → Stands p (stored b)
  term_is_stored b a id p h = id_stands p (λ e. term_target e a) (λ e. term_stands p e a) (λ j. cc) id b.ids h

-- ---- the law

abbrev equals : Relation by_substitution by_substitution
equals = record {
  At = λ m n. m ≡ n;
  Part = λ m n. m ≡ n;
  In = λ m n. m ≡ n;
  Gives = λ m n. m ≡ n;
  ends = refl;
  element = λ m k n l h j. ap (λ x. by_substitution.element x k) h ∙ ap (by_substitution.element n) j;
  text = λ t. refl;
  opens = λ marked t m n h. ap (by_substitution.opens marked t) h;
  enters = λ k m n h. h;
  give = λ t. refl;
  fails = λ e t i. refl;
  bind = λ m n f g h j. ap (joined m) (j m.value) ∙ ap (λ o. joined o (g o.value)) h;
  give_value = λ x. refl;
  bind_value = λ m n f g h j. ap (joined m) (j m.value) ∙ ap (λ o. joined o (g o.value)) h;
  value_of = λ m n v h. ap (λ o. by_substitution.bind o (λ t. by_substitution.give (v t))) h;
}

inner_longer : (path : List Pattern) (q p : Pattern) → inner (path ++ q ∷ []) p ≡ path ++ q ∷ []
inner_longer [] q p = refl
inner_longer (r ∷ path) q p = refl

module _ {C : Type 0} (b : Bundle C) where
  pub deeper : (n m : ℕ) (env : Environment C) (path : List Pattern) (p : Pattern) → off (inner path p) (stored b) < n → off (inner path p) (stored b) < m → deep by_substitution b n env path p ≡ deep by_substitution b m env path p
  deeper zero m env path p h j = absurd (omega arith)
  deeper (suc n) zero env path p h j = absurd (omega arith)
  deeper (suc n) (suc m) env path p h j =
      elements_related by_substitution by_substitution equals b (deep by_substitution b n) (deep by_substitution b m) env
      (λ q. Stands q (stored b)) (λ path'. (off path' (stored b) < suc n) × (off path' (stored b) < suc m))
      (λ a id q e. message_is_stored b a id q e)
      (λ a id q e. term_is_stored b a id q e)
      (λ path' q u. (omega (arith, u.0, off_inner path' q (stored b)), omega (arith, u.1, off_inner path' q (stored b))))
      (λ env' path' q u k e.
      let falls = off_falls path' q (stored b) k e in
      let same = ap (λ x. off x (stored b)) (inner_longer path' q q) in
      deeper n m env' (path' ++ q ∷ []) q (omega (arith, falls, same, u.0)) (omega (arith, falls, same, u.1)))
      (inner path p) (has_one p) p (h, j)

  -- from one more than the number of stored patterns on, every depth gives the same
  pub settled : (n : ℕ) (env : Environment C) (path : List Pattern) (p : Pattern) → length (stored b) < n → substituted b n env path p ≡ substituted b (settling b) env path p
  unfolding substituted
  settled n env path p h = deeper n (suc (length (stored b))) env path p (omega (arith, h, off_all (inner path p) (stored b))) (omega (arith, off_all (inner path p) (stored b)))
