-- Lists of variables, and the places that share them.
use Rattle.std.proofs.Common.{◌≡◌, ◌∙◌, ℕ, zero, suc, ◌+◌, ◌<◌, List, [], ◌∷◌, ◌++◌, length, get_or, slice_get, take, cond, Option, Some, None, inl, inr, refl, sym, ap, subst, add-one, arith}
use Rattle.std.specs.Borrow.{Bor}
use Rattle.std.specs.List.{AllByRecursion}
use Rattle.std.specs.Map.{lookup}
use Rattle.std.specs.Option.{option_map}
use Rattle.std.specs.Prelude.{Result, Ok, Err}
use Rattle.std.specs.Result.{OnOk}
use Rattle.fluent_ast.specs.Tree.{Text, is_yes}
use Rattle.fluent_places.specs.Places.{Place, place_same, place_view, views, Names}
use Rattle.fluent_places.specs.Needs.{Need, IsAmong}
use Rattle.fluent_places.specs.Asked.{AreAsked, AreDistinct, texts, index_of, list_at, list_of, AreAskedIn}
use Rattle.fluent_places.specs.Inside.Sharing.{IsSetTo, AddsList, IsList, AreListed, IsGathered, Covers, IsOfList, LeadsToList, IsKnown, KeepsKnown, Joins, Settles}
use Rattle.fluent_places.specs.Inside.Reached.{IsReference, needs_at}
use Rattle.fluent_places.specs.declared.asked.Asked.{Asked}
use Rattle.fluent_places.specs.declared.place.Place as code
use Rattle.fluent_places.specs.declared.asking.Gathered.{Gathered}
use Rattle.fluent_places.proofs.Gathering.{asks_through}

pub ok_map : {T E : Type 0} (r : Result T E) (P Q : Type 0) → (P → Q) → OnOk r P → OnOk r Q
ok_map (Ok x) P Q f h = f h
ok_map (Err e) P Q f h = h

-- ---- a list behind others

pub kept_list : {A B : Type 0} (f : A → B) (xs ys : List A) (j : ℕ) (m : B) → option_map f (slice_get xs j) ≡ Some m → option_map f (slice_get (xs ++ ys) j) ≡ Some m
kept_list f [] ys j m h = absurd cc
kept_list f (x ∷ xs) ys zero m h = h
kept_list f (x ∷ xs) ys (suc j) m h = kept_list f xs ys j m h

pub last_list : {A B : Type 0} (f : A → B) (xs : List A) (x : A) → option_map f (slice_get (xs ++ x ∷ []) (length xs)) ≡ Some (f x)
last_list f [] x = refl
last_list f (y ∷ ys) x = last_list f ys x

-- ---- lists that are right

pub listed_none : (named : Names Text) (a : Asked) → a.indexes.entries ≡ [] → AreListed named a
listed_none named a e q k h =
    let none : index_of a (place_view q) ≡ None = ap (λ es. lookup (λ p. is_yes (place_same (place_view q) (place_view p))) es) e in
    absurd cc

listed_at : (named : Names Text) (a : Asked) (x : Place) (o : Option ℕ) (l : List (Bor Text)) → ((k : ℕ) → o ≡ Some k → IsList named a x k) → list_at a.lists.items o ≡ Some l → AreAsked named x (texts l) × AreDistinct (texts l)
listed_at named a x None l f h = absurd cc
listed_at named a x (Some k) l f h =
    let i = f k refl in
    let same : i.list ≡ l = let there = i.there in cc in
    (subst (λ m. AreAsked named x (texts m)) same i.asked, subst (λ m. AreDistinct (texts m)) same i.distinct)

-- what a list says of its place
pub listed_of : (named : Names Text) (a : Asked) (q : code.Place) (l : List (Bor Text)) → AreListed named a → list_of a (place_view q) ≡ Some l → AreAsked named (place_view q) (texts l) × AreDistinct (texts l)
listed_of named a q l listed h = listed_at named a (place_view q) (index_of a (place_view q)) l (listed q) h

-- ---- one that is added

pub listed_taken : (named : Names Text) (old new : Asked) (x : code.Place) (names : List (Bor Text)) (k : ℕ) → AreListed named old → AddsList old new x names k → AreAsked named (place_view x) (texts names) → AreDistinct (texts names) → AreListed named new
listed_taken named old new x names k listed takes asked distinct q j h = at (place_same (place_view x) (place_view q)) (sym (takes.2 q) ∙ h)
  where
    at : (d : Dec (place_view x ≡ place_view q)) → cond (is_yes d) (Some k) (index_of old (place_view q)) ≡ Some j → IsList named new (place_view q) j
    at (yes p) e =
        let same : k ≡ j = cc in
        let this : IsList named new (place_view x) k = record { list = names; there = takes.1; asked = asked; distinct = distinct } in
        subst (λ y. IsList named new y j) p (subst (λ i. IsList named new (place_view x) i) same this)
    at (no other) e = let i = listed q j e in record { list = i.list; there = takes.0 j i.list i.there; asked = i.asked; distinct = i.distinct }

pub kept_set : (old new : Asked) (x : code.Place) (k : ℕ) → IsSetTo old new x k → KeepsKnown old new
kept_set old new x k set q known = at (place_same (place_view x) (place_view q)) (set q)
  where
    at : (d : Dec (place_view x ≡ place_view q)) → index_of new (place_view q) ≡ cond (is_yes d) (Some k) (index_of old (place_view q)) → IsKnown new (place_view q)
    at (yes p) e = (k, e)
    at (no other) e = (known.0, e ∙ known.1)

pub known_set : (old new : Asked) (x : code.Place) (k : ℕ) → IsSetTo old new x k → IsKnown new (place_view x)
known_set old new x k set = at (place_same (place_view x) (place_view x)) (set x)
  where
    at : (d : Dec (place_view x ≡ place_view x)) → index_of new (place_view x) ≡ cond (is_yes d) (Some k) (index_of old (place_view x)) → IsKnown new (place_view x)
    at (yes p) e = (k, e)
    at (no other) e = absurd (other refl)

-- ---- places that share one

pub covers_taken : (named : Names Text) (old new : Asked) (x : code.Place) (g : Gathered) (k : ℕ) → IsGathered named (place_view x) g → AddsList old new x g.names.keys k → Covers named (views g.reached.keys) new k
covers_taken named old new x g k is takes = record {
  list = g.names.keys;
  there = takes.1;
  all = λ y among v asks. (is.asked v).1 (is.leads y among v asks);
  distinct = is.distinct;
}

pub covers_kept : (named : Names Text) (xs : List Place) (old new : Asked) (k : ℕ) → new.lists.items ≡ old.lists.items → Covers named xs old k → Covers named xs new k
covers_kept named xs old new k e covers = record { list = covers.list; there = ap (λ ls. list_at ls (Some k)) e ∙ covers.there; all = covers.all; distinct = covers.distinct }

pub joined : (named : Names Text) (old new : Asked) (y : code.Place) (k : ℕ) (xs : List Place) → AreListed named old → Covers named xs old k → IsAmong (place_view y) xs → LeadsToList named old (place_view y) k
    → new.lists.items ≡ old.lists.items → IsSetTo old new y k → Joins named old new
joined named old new y k xs listed covers among leads e set = record { lists = e; listed = listed_now; kept = kept_set old new y k set }
  where
    this : IsList named new (place_view y) k
    this =
        let there = listed leads.0 k leads.2 in
        let same : covers.list ≡ there.list = let a = covers.there in let b = there.there in cc in record {
          list = covers.list;
          there = ap (λ ls. list_at ls (Some k)) e ∙ covers.there;
          asked = λ v. (
            λ h. asks_through named (place_view y) (place_view leads.0) v leads.1 ((there.asked v).0 (subst (λ l. IsAmong v (texts l)) same h)),
            covers.all (place_view y) among v,
          );
          distinct = covers.distinct;
        }

    at : (q : code.Place) (j : ℕ) (d : Dec (place_view y ≡ place_view q)) → cond (is_yes d) (Some k) (index_of old (place_view q)) ≡ Some j → IsList named new (place_view q) j
    at q j (yes p) h = let same : k ≡ j = cc in subst (λ x. IsList named new x j) p (subst (λ i. IsList named new (place_view y) i) same this)
    at q j (no other) h = let i = listed q j h in record { list = i.list; there = ap (λ ls. list_at ls (Some j)) e ∙ i.there; asked = i.asked; distinct = i.distinct }

    listed_now : AreListed named new
    listed_now q j h = at q j (place_same (place_view y) (place_view q)) (sym (set q) ∙ h)

pub joined_not : (named : Names Text) (a : Asked) → AreListed named a → Joins named a a
joined_not named a listed = record { lists = refl; listed = listed; kept = λ q h. h }

pub joined_on : (named : Names Text) (old mid new : Asked) → Joins named old mid → Joins named mid new → Joins named old new
joined_on named old mid new h j = record { lists = j.lists ∙ h.lists; listed = j.listed; kept = λ q known. j.kept q (h.kept q known) }

pub settled : (named : Names Text) (old mid new : Asked) (x : code.Place) (names : List (Bor Text)) (k : ℕ) → AddsList old mid x names k → Joins named mid new → Settles named old new (place_view x)
settled named old mid new x names k takes joins = record {
  listed = joins.listed;
  kept = λ q known. joins.kept q (kept_set old mid x k takes.2 q known);
  known = joins.kept x (known_set old mid x k takes.2);
}

-- ---- references to a place with a list

pub leads_by : (named : Names Text) (a : Asked) (y : Place) (k : ℕ) (n : Need) (ns : List Need) → ns ≡ needs_at named y → IsAmong n ns → IsOfList a k n → LeadsToList named a y k
leads_by named a y k n ns e among is = (is.0, reference is.1, is.2)
  where
    reference : IsReference (n ∷ []) (place_view is.0) → IsReference (needs_at named y) (place_view is.0)
    reference (m, b, inl same, p) = (m, b, subst (IsAmong _) e (subst (λ o. IsAmong o ns) (sym same) among), p)
    reference (m, b, inr never, p) = absurd never

-- ---- all of some places

pub all_known : (old new : Asked) (qs : List code.Place) → KeepsKnown old new → AllByRecursion (λ q. IsKnown old (place_view q)) qs → AllByRecursion (λ q. IsKnown new (place_view q)) qs
all_known old new [] kept all = tt
all_known old new (q ∷ qs) kept all = (kept q all.0, all_known old new qs kept all.1)

known_next : (a : Asked) (qs : List code.Place) (i : ℕ) (q : code.Place) → i < length qs → q ≡ get_or qs i q → AllByRecursion (λ p. IsKnown a (place_view p)) (take i qs) → IsKnown a (place_view q) → AllByRecursion (λ p. IsKnown a (place_view p)) (take (suc i) qs)
known_next a [] i q h is all known = absurd (omega arith)
known_next a (p ∷ ps) zero q h is all known = (subst (λ x. IsKnown a (place_view x)) is known, tt)
known_next a (p ∷ ps) (suc i) q h is all known = (all.0, known_next a ps i q (omega arith) is all.1 known)

pub known_more : (a : Asked) (qs : List code.Place) (i : ℕ) (q : code.Place) → i < length qs → q ≡ get_or qs i q → AllByRecursion (λ p. IsKnown a (place_view p)) (take i qs) → IsKnown a (place_view q) → AllByRecursion (λ p. IsKnown a (place_view p)) (take (i + 1) qs)
known_more a qs i q h is all known = rw add-one (known_next a qs i q h is all known)

pub all_asked : (named : Names Text) (a : Asked) (qs : List code.Place) → AreListed named a → AllByRecursion (λ q. IsKnown a (place_view q)) qs → AreAskedIn named (views qs) a
all_asked named a [] listed all = tt
all_asked named a (q ∷ qs) listed all =
    let i = listed q all.0.0 all.0.1 in
    ((i.list, ap (list_at a.lists.items) all.0.1 ∙ i.there, i.asked, i.distinct), all_asked named a qs listed all.1)
