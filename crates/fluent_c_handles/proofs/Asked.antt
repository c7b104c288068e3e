-- The variables that are asked for: the same whatever is answered, and as a set whose elements rise.
use Rattle.std.proofs.Common.{◌≡◌, ◌↔◌, ◌⊎◌, ℕ, ◌+◌, ◌<◌, List, [], ◌∷◌, ◌++◌, length, get_or, take, Option, Some, None, Ordering, Less, Equal, Greater, inl, inr, refl, sym, ap, subst, ◌∙◌}
use Rattle.std.specs.Borrow.{Bor}
use Rattle.std.specs.List.{AllByRecursion}
use Rattle.std.specs.List.Sorted.{IsStrictlySortedBy}
use Rattle.std.specs.Option.{option_map}
use Rattle.std.proofs.lemmas.List.{take_more}
use Rattle.std.specs.BTreeSet.{insert_key}
use Rattle.std.specs.Ordering.{nat_cmp, match_ordering}
use Rattle.std.specs.Cmp.Lexicographic.{slice_cmp}
use Rattle.std.specs.FinMap.{slice_cmp-IsAntisymmetric, nat_cmp-IsAntisymmetric}
use Rattle.fluent_ast.specs.Tree.{Text, Attribute, no_attribute, attribute, Pattern}
use Rattle.fluent_semantics.specs.Arguments.{get}
use Rattle.fluent_semantics.specs.Bundle as m
use Rattle.fluent_semantics.specs.Bundle.{Bundle, a_message, a_term, a_function, number_builtin, message_target, term_target}
use Rattle.fluent_answers.specs.Tables.{Table}
use Rattle.fluent_places.specs.Asked.{AreAsked, AsksForAt, texts}
use Rattle.fluent_places.specs.Places.{Names, Place, names_of, of_message, of_term, place_target}
use Rattle.fluent_places.specs.Needs.{AsksFor, IsAmong, itself, by_message}
use Rattle.fluent_c_handles.specs.Calls.Finding.{ListsAsked, Rise, id_lines}
use Rattle.fluent_c_handles.specs.Family.{Declares, answered_by, entry_at}
use Rattle.fluent_c_handles.specs.Inside.Gathered.{HaveSame, texts_of}
use Rattle.fluent_c_handles.proofs.Family.{get_at}

-- ---- whatever is answered

module _ (all : Table) where
  message_same : (q : Text) (o : Option (m.Entry Text)) (a : Attribute) → message_target (option_map (entry_at all q) o) a ≡ message_target o a
  message_same q None a = refl
  message_same q (Some (a_message v as')) no_attribute = refl
  message_same q (Some (a_message v as')) (attribute name) = refl
  message_same q (Some (a_term p as')) a = refl
  message_same q (Some (a_function f)) a = refl
  message_same q (Some number_builtin) a = refl

  term_same : (q : Text) (o : Option (m.Entry Text)) (a : Attribute) → term_target (option_map (entry_at all q) o) a ≡ term_target o a
  term_same q None a = refl
  term_same q (Some (a_message v as')) a = refl
  term_same q (Some (a_term p as')) no_attribute = refl
  term_same q (Some (a_term p as')) (attribute name) = refl
  term_same q (Some (a_function f)) a = refl
  term_same q (Some number_builtin) a = refl

  target_same : (d : Declares) (b : Bundle Text) (x : Place) → place_target (names_of b) x ≡ place_target (names_of (answered_by all d b)) x
  target_same d b (of_message id a) = sym (ap (λ o. message_target o a) (get_at all id b.ids) ∙ message_same id (get id b.ids) a)
  target_same d b (of_term id a) = sym (ap (λ o. term_target o a) (get_at all id b.ids) ∙ term_same id (get id b.ids) a)

asks_same : (named named' : Names Text) → ((x : Place) → place_target named x ≡ place_target named' x) → (v : Text) (p : Pattern) → AsksFor named v p → AsksFor named' v p
asks_same named named' same v p (itself h) = itself h
asks_same named named' same v p (by_message id a h at asks) = by_message id a h (sym (same (of_message id a)) ∙ at) (asks_same named named' same v _ asks)

there_same : (named named' : Names Text) → ((x : Place) → place_target named x ≡ place_target named' x) → (x : Place) (v : Text) → AsksForAt named x v → AsksForAt named' x v
there_same named named' same x v h = (h.0, sym (same x) ∙ h.1, asks_same named named' same v h.0 h.2)

-- what is asked for is the same by all answers
pub asked_same : (all : Table) (d : Declares) (b : Bundle Text) (x : Place) (vs : List Text) → AreAsked (names_of b) x vs → AreAsked (names_of (answered_by all d b)) x vs
asked_same all d b x vs asked v =
    let named = names_of b in
    let named' = names_of (answered_by all d b) in (
      (λ h. there_same named named' (target_same all d b) x v ((asked v).0 h)),
      (λ h. (asked v).1 (there_same named' named (λ y. sym (target_same all d b y)) x v h)),
    )

-- ---- a set of names

abbrev name_cmp : Bor Text → Bor Text → Ordering
name_cmp x y = slice_cmp nat_cmp x.now y.now

inserted : (ids : List (Bor Text)) (id : Bor Text) (q : Text) → IsAmong q (texts_of (insert_key name_cmp ids id)) ↔ ((q ≡ id.now) ⊎ IsAmong q (texts_of ids))
inserted [] id q = ((λ h. h), (λ h. h))
inserted (x ∷ xs) id q = by (name_cmp id x) refl (inserted xs id q)
  where
    by : (r : Ordering) → name_cmp id x ≡ r → IsAmong q (texts_of (insert_key name_cmp xs id)) ↔ ((q ≡ id.now) ⊎ IsAmong q (texts_of xs))
        → IsAmong q (texts_of (match_ordering r (id ∷ x ∷ xs) (x ∷ xs) (x ∷ insert_key name_cmp xs id))) ↔ ((q ≡ id.now) ⊎ IsAmong q (texts_of (x ∷ xs)))
    by Less k rest = ((λ h. h), (λ h. h))
    by Equal k rest = (
      (λ h. inr h),
      (λ h. elim h [ inl e ↦ inl (e ∙ slice_cmp-IsAntisymmetric nat_cmp-IsAntisymmetric id.now x.now k) | inr there ↦ there ]),
    )
    by Greater k rest = (
      (λ h. elim h [ inl e ↦ inr (inl e) | inr later ↦ elim (rest.0 later) [ inl e ↦ inl e | inr there ↦ inr (inr there) ] ]),
      (λ h. elim h [ inl e ↦ inr (rest.1 (inl e)) | inr there ↦ elim there [ inl e ↦ inl e | inr later ↦ inr (rest.1 (inr later)) ] ]),
    )

among_end : (xs : List (Bor Text)) (x : Bor Text) (q : Text) → IsAmong q (texts (xs ++ x ∷ [])) ↔ ((q ≡ x.now) ⊎ IsAmong q (texts xs))
among_end [] x q = ((λ h. h), (λ h. h))
among_end (y ∷ ys) x q =
    let rest = among_end ys x q in (
      (λ h. elim h [ inl e ↦ inr (inl e) | inr later ↦ elim (rest.0 later) [ inl e ↦ inl e | inr there ↦ inr (inr there) ] ]),
      (λ h. elim h [ inl e ↦ inr (rest.1 (inl e)) | inr there ↦ elim there [ inl e ↦ inl e | inr later ↦ inr (rest.1 (inr later)) ] ]),
    )

-- none, and one more
pub has_none : (ids : List (Bor Text)) → ids ≡ [] → HaveSame (texts_of ids) (texts [])
has_none ids is q = subst (λ l. IsAmong q (texts_of l) ↔ IsAmong q (texts [])) (sym is) ((λ h. h), (λ h. h))

pub has_more : (ids ids' names : List (Bor Text)) (i : ℕ) (d : Bor Text) → i < length names → ids' ≡ insert_key name_cmp ids (get_or names i d) → HaveSame (texts_of ids) (texts (take i names)) → HaveSame (texts_of ids') (texts (take (i + 1) names))
has_more ids ids' names i d lt is same q =
    let name = get_or names i d in
    let done = take i names in
    subst (λ l. IsAmong q (texts_of l) ↔ IsAmong q (texts (take (i + 1) names))) (sym is)
    (subst (λ l. IsAmong q (texts_of (insert_key name_cmp ids name)) ↔ IsAmong q (texts l)) (sym (take_more names i d lt)) (
      (λ h. (among_end done name q).1 (elim ((inserted ids name q).0 h) [ inl e ↦ inl e | inr there ↦ inr ((same q).0 there) ])),
      (λ h. (inserted ids name q).1 (elim ((among_end done name q).0 h) [ inl e ↦ inl e | inr there ↦ inr ((same q).1 there) ])),
    ))

-- ---- they rise

below_texts : (x : Bor Text) (ids : List (Bor Text)) → AllByRecursion (λ y. name_cmp x y ≡ Less) ids → AllByRecursion (λ t. slice_cmp nat_cmp x.now t ≡ Less) (texts_of ids)
below_texts x [] h = tt
below_texts x (y ∷ ys) h = (h.0, below_texts x ys h.1)

pub texts_rise : (ids : List (Bor Text)) → IsStrictlySortedBy name_cmp ids → Rise (texts_of ids)
unfolding IsStrictlySortedBy
texts_rise [] h = tt
texts_rise (x ∷ xs) h = (below_texts x xs h.0, texts_rise xs h.1)

-- ---- their lines

-- the lines of a set that has what is asked for
pub lists_asked : (all : Table) (d : Declares) (b : Bundle Text) (x : Place) (asked names : List Text) (text : List ℕ) → AreAsked (names_of b) x asked → HaveSame names asked → Rise names → text ≡ id_lines names → ListsAsked (names_of (answered_by all d b)) x text
lists_asked all d b x asked names text are same rise is = record {
  names = names;
  asked = asked_same all d b x names (λ v. ((λ h. (are v).0 ((same v).0 h)), (λ h. (same v).1 ((are v).1 h))));
  rise = rise;
  is = is;
}
