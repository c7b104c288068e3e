-- Variables are gathered from a place and the messages that it leads to.
use mathlib.Core.Bool.{true≢false}
use Rattle.std.proofs.Common.{◌≡◌, ◌⊎◌, ◌∙◌, ◌||◌, if◌then◌else◌, Bool, true, false, ℕ, zero, suc, ◌+◌, ◌<◌, ◌≤◌, List, [], ◌∷◌, ◌++◌, length, get_or, map, take, None, inl, inr, refl, sym, ap, subst, add-one, arith}
use Rattle.std.specs.List.{AllByRecursion, list_any}
use Rattle.std.specs.Result.{OnOk}
use Rattle.std.specs.Prelude.{Result}
use Rattle.std.specs.Bool.{Decides}
use Rattle.std.specs.Borrow.{Bor}
use Rattle.std.specs.Str.{bytes_eq}
use Rattle.std.proofs.lemmas.Slice.Eq.{bytes_eq-Decides}
use Rattle.indexmap.specs.IndexSet.{insert_key}
use Rattle.std.proofs.lemmas.List.{append_assoc, append-nil, map-append}
use Rattle.fluent_ast.specs.Tree.{Text, Attribute, Pattern, is_yes}
use Rattle.fluent_semantics.specs.Bundle.{Target, unknown, without_value, found}
use Rattle.fluent_places.specs.Places.{Place, of_message, place_same, place_view, views, Names, place_target}
use Rattle.fluent_places.specs.Needs.{Need, a_message, a_term, a_function, a_variable, a_default, needs, IsAmong, AsksFor, itself, by_message}
use Rattle.fluent_places.specs.Asked.{AsksForAt, AreAsked, AreDistinct, texts}
use Rattle.fluent_places.specs.PlaceView.{pattern_in}
use Rattle.fluent_places.specs.Inside.Reached.{Adds, AddsNames, IsReference, NotesOf, TellsAll, needs_there, needs_at, IsThrough, Gathered}
use Rattle.fluent_places.specs.Facts.Growing.{all_map, among_at, prefix, last_of, wider, at_last}
use Rattle.fluent_places.specs.NeedsView.{need_view}
use Rattle.fluent_places.specs.declared.listing.Need as code
use Rattle.fluent_places.specs.declared.place.Place as places

-- what stands at a place of a list is there whatever the default
pub got_self : {A : Type 0} (xs : List A) (i : ℕ) (d : A) → i < length xs → get_or xs i d ≡ get_or xs i (get_or xs i d)
got_self [] i d h = absurd (omega arith)
got_self (x ∷ xs) zero d h = refl
got_self (x ∷ xs) (suc i) d h = got_self xs i d (omega arith)

-- ---- one that is added

pub adds_prefix : {A : Type 0} (x : A) (old new : List A) → Adds x old new → (rest : List A) × (new ≡ old ++ rest)
adds_prefix x old new (inl h) = ([], h.1 ∙ sym (append-nil old))
adds_prefix x old new (inr h) = (x ∷ [], h.1)

pub adds_kept : {A : Type 0} (x y : A) (old new : List A) → Adds x old new → IsAmong y old → IsAmong y new
adds_kept x y old new (inl h) among = subst (IsAmong y) (sym h.1) among
adds_kept x y old new (inr h) among = subst (IsAmong y) (sym h.1) (wider y x old among)

pub adds_here : {A : Type 0} (x : A) (old new : List A) → Adds x old new → IsAmong x new
adds_here x old new (inl h) = subst (IsAmong x) (sym h.1) h.0
adds_here x old new (inr h) = subst (IsAmong x) (sym h.1) (at_last x old)

pub adds_only : {A : Type 0} (x y : A) (old new : List A) → Adds x old new → IsAmong y new → IsAmong y old ⊎ (y ≡ x)
adds_only x y old new (inl h) among = inl (subst (IsAmong y) h.1 among)
adds_only x y old new (inr h) among = last_of y x old (subst (IsAmong y) h.1 among)

distinct_snoc : {A : Type 0} (x : A) (xs : List A) → (IsAmong x xs → ⊥) → AreDistinct xs → AreDistinct (xs ++ x ∷ [])
distinct_snoc x [] new d = (λ h. h, tt)
distinct_snoc x (y ∷ ys) new d = (
  λ h. elim (last_of y x ys h) [ inl there ↦ d.0 there | inr same ↦ new (inl (sym same)) ],
  distinct_snoc x ys (λ h. new (inr h)) d.1,
)

pub adds_distinct : {A : Type 0} (x : A) (old new : List A) → Adds x old new → AreDistinct old → AreDistinct new
adds_distinct x old new (inl h) d = subst AreDistinct (sym h.1) d
adds_distinct x old new (inr h) d = subst AreDistinct (sym h.1) (distinct_snoc x old h.0 d)

-- ---- one that is inserted into a set

module _ {A B : Type 0} (f : A → B) (eq : A → A → Bool) (test : (a b : A) → Decides (eq a b) (f a ≡ f b)) where
  among_head : (x y : A) (ys : List A) (b : Bool) → eq x y ≡ b → (list_any (eq x) ys ≡ true → IsAmong (f x) (map f ys)) → (b || list_any (eq x) ys) ≡ true → IsAmong (f x) (f y ∷ map f ys)
  among_head x y ys true e rest h = inl ((test x y).0 e)
  among_head x y ys false e rest h = inr (rest h)

  pub found_among : (x : A) (ys : List A) → list_any (eq x) ys ≡ true → IsAmong (f x) (map f ys)
  found_among x [] h = absurd (true≢false (sym h))
  found_among x (y ∷ ys) h = among_head x y ys (eq x y) refl (found_among x ys) h

  missing_head : (x y : A) (ys : List A) (b : Bool) → eq x y ≡ b → (list_any (eq x) ys ≡ false → IsAmong (f x) (map f ys) → ⊥) → (b || list_any (eq x) ys) ≡ false → IsAmong (f x) (f y ∷ map f ys) → ⊥
  missing_head x y ys true e rest h among = true≢false h
  missing_head x y ys false e rest h (inl same) = true≢false (sym ((test x y).1 same) ∙ e)
  missing_head x y ys false e rest h (inr later) = rest h later

  not_among : (x : A) (ys : List A) → list_any (eq x) ys ≡ false → IsAmong (f x) (map f ys) → ⊥
  not_among x [] h among = among
  not_among x (y ∷ ys) h among = missing_head x y ys (eq x y) refl (not_among x ys) h among

  adds_by : (x : A) (old : List A) (b : Bool) → list_any (eq x) old ≡ b → Adds (f x) (map f old) (map f (if b then old else old ++ x ∷ []))
  adds_by x old true e = inl (found_among x old e, refl)
  adds_by x old false e = inr (not_among x old e, map-append f old (x ∷ []))

  pub adds_inserted : (x : A) (old new : List A) → new ≡ insert_key eq old x → Adds (f x) (map f old) (map f new)
  adds_inserted x old new e = subst (λ l. Adds (f x) (map f old) (map f l)) (sym e) (adds_by x old (list_any (eq x) old) refl)

pub place_test : (a b : places.Place) → Decides (is_yes (place_same (place_view a) (place_view b))) (place_view a ≡ place_view b)
place_test a b = by (place_same (place_view a) (place_view b))
  where
    by : (d : Dec (place_view a ≡ place_view b)) → Decides (is_yes d) (place_view a ≡ place_view b)
    by (yes p) = (λ h. p, λ h. refl)
    by (no other) = (λ h. absurd (true≢false (sym h)), λ h. absurd (other h))

pub text_test : (a b : Bor Text) → Decides (bytes_eq a.now b.now) (a.now ≡ b.now)
text_test a b = bytes_eq-Decides a.now b.now

-- ---- names that are added

pub added_none : (vs : List Text) → AddsNames [] vs vs
added_none vs = record { kept = λ v h. h; named = λ v h. inl h; added = λ v h. absurd h; distinct = λ d. d }

pub added_one : (all vs vs' vs'' : List Text) (v : Text) → AddsNames all vs vs' → Adds v vs' vs'' → AddsNames (all ++ v ∷ []) vs vs''
added_one all vs vs' vs'' v h adds = record {
  kept = λ w among. adds_kept v w vs' vs'' adds (h.kept w among);
  named = λ w among. elim (adds_only v w vs' vs'' adds among) [
    | inl there ↦ elim (h.named w there) [ inl old ↦ inl old | inr new ↦ inr (wider w v all new) ]
    | inr same ↦ inr (subst (λ u. IsAmong u (all ++ v ∷ [])) (sym same) (at_last v all))
  ];
  added = λ w among. elim (last_of w v all among) [
    | inl there ↦ adds_kept v w vs' vs'' adds (h.added w there)
    | inr same ↦ subst (λ u. IsAmong u vs'') (sym same) (adds_here v vs' vs'' adds)
  ];
  distinct = λ d. adds_distinct v vs' vs'' adds (h.distinct d);
}

pub added_more : (items : List (Bor Text)) (i : ℕ) (d : Bor Text) (vs vs' vs'' : List Text) → i < length items → AddsNames (texts (take i items)) vs vs' → Adds (get_or items i d).now vs' vs'' → AddsNames (texts (take (i + 1) items)) vs vs''
added_more items i d vs vs' vs'' h so_far adds =
    let x = get_or items i d in
    subst (λ all. AddsNames all vs vs'') (sym (prefix (λ b. b.now) items i x h (got_self items i d h))) (added_one (texts (take i items)) vs vs' vs'' x.now so_far adds)

-- ---- the needs so far, and one more

pub notes_none : (xs : List Place) (vs : List Text) → NotesOf [] xs xs vs vs
notes_none xs vs = record {
  prefix = ([], sym (append-nil xs));
  reached = λ x h. inl h;
  named = λ v h. inl h;
  kept = λ v h. h;
  messages = λ x h. absurd h.2;
  variables = λ v h. absurd h;
  distinct = λ d. d;
}

later_reference : (ns : List Need) (n : Need) (x : Place) → IsReference ns x → IsReference (ns ++ n ∷ []) x
later_reference ns n x h = (h.0, h.1, wider (a_message h.0 h.1) n ns h.2, h.3)

pub notes_variable : (ns : List Need) (v : Text) (xs xs' : List Place) (vs vs' vs'' : List Text) → NotesOf ns xs xs' vs vs' → Adds v vs' vs'' → NotesOf (ns ++ a_variable v ∷ []) xs xs' vs vs''
notes_variable ns v xs xs' vs vs' vs'' h adds = record {
  prefix = h.prefix;
  reached = λ x among. elim (h.reached x among) [ inl old ↦ inl old | inr new ↦ inr (later_reference ns (a_variable v) x new) ];
  named = λ w among. elim (adds_only v w vs' vs'' adds among) [
    | inl there ↦ elim (h.named w there) [ inl old ↦ inl old | inr new ↦ inr (wider (a_variable w) (a_variable v) ns new) ]
    | inr same ↦ inr (subst (λ u. IsAmong (a_variable u) (ns ++ a_variable v ∷ [])) (sym same) (at_last (a_variable v) ns))
  ];
  kept = λ w among. adds_kept v w vs' vs'' adds (h.kept w among);
  messages = λ x r. elim (last_of (a_message r.0 r.1) (a_variable v) ns r.2) [ inl there ↦ h.messages x (r.0, r.1, there, r.3) | inr same ↦ absurd cc ];
  variables = λ w among. elim (last_of (a_variable w) (a_variable v) ns among) [
    | inl there ↦ adds_kept v w vs' vs'' adds (h.variables w there)
    | inr same ↦ let is : w ≡ v = cc in subst (λ u. IsAmong u vs'') (sym is) (adds_here v vs' vs'' adds)
  ];
  distinct = λ d. adds_distinct v vs' vs'' adds (h.distinct d);
}

pub notes_message : (ns : List Need) (m : Text) (a : Attribute) (xs xs' xs'' : List Place) (vs vs' : List Text) → NotesOf ns xs xs' vs vs' → Adds (of_message m a) xs' xs'' → NotesOf (ns ++ a_message m a ∷ []) xs xs'' vs vs'
notes_message ns m a xs xs' xs'' vs vs' h adds =
    let more = adds_prefix (of_message m a) xs' xs'' adds in record {
      prefix = (h.prefix.0 ++ more.0, more.1 ∙ (ap (λ l. l ++ more.0) h.prefix.1 ∙ append_assoc xs h.prefix.0 more.0));
      reached = λ x among. elim (adds_only (of_message m a) x xs' xs'' adds among) [
        | inl there ↦ elim (h.reached x there) [ inl old ↦ inl old | inr new ↦ inr (later_reference ns (a_message m a) x new) ]
        | inr same ↦ inr (m, a, at_last (a_message m a) ns, same)
      ];
      named = λ w among. elim (h.named w among) [ inl old ↦ inl old | inr new ↦ inr (wider (a_variable w) (a_message m a) ns new) ];
      kept = h.kept;
      messages = λ x r. elim (last_of (a_message r.0 r.1) (a_message m a) ns r.2) [
        | inl there ↦ adds_kept (of_message m a) x xs' xs'' adds (h.messages x (r.0, r.1, there, r.3))
        | inr same ↦ let id : r.0 ≡ m = cc in let at : r.1 ≡ a = cc in
            let is : x ≡ of_message m a = r.3 ∙ (ap (λ k. of_message k r.1) id ∙ ap (of_message m) at) in
            subst (λ u. IsAmong u xs'') (sym is) (adds_here (of_message m a) xs' xs'' adds)
      ];
      variables = λ w among. elim (last_of (a_variable w) (a_message m a) ns among) [ inl there ↦ h.variables w there | inr same ↦ absurd cc ];
      distinct = h.distinct;
    }

pub notes_other : (ns : List Need) (n : Need) (xs xs' : List Place) (vs vs' : List Text) → ((m : Text) (a : Attribute) → a_message m a ≡ n → ⊥) → ((v : Text) → a_variable v ≡ n → ⊥) → NotesOf ns xs xs' vs vs' → NotesOf (ns ++ n ∷ []) xs xs' vs vs'
notes_other ns n xs xs' vs vs' no_message no_variable h = record {
  prefix = h.prefix;
  reached = λ x among. elim (h.reached x among) [ inl old ↦ inl old | inr new ↦ inr (later_reference ns n x new) ];
  named = λ w among. elim (h.named w among) [ inl old ↦ inl old | inr new ↦ inr (wider (a_variable w) n ns new) ];
  kept = h.kept;
  messages = λ x r. elim (last_of (a_message r.0 r.1) n ns r.2) [ inl there ↦ h.messages x (r.0, r.1, there, r.3) | inr same ↦ absurd (no_message r.0 r.1 same) ];
  variables = λ w among. elim (last_of (a_variable w) n ns among) [ inl there ↦ h.variables w there | inr same ↦ absurd (no_variable w same) ];
  distinct = h.distinct;
}

-- by what the need is, and with what it leaves
pub notes_as : (ns : List Need) (n n' : Need) (xs xs' xs'' : List Place) (vs vs' vs'' : List Text) → n ≡ n' → xs'' ≡ xs' → vs'' ≡ vs' → NotesOf (ns ++ n' ∷ []) xs xs' vs vs' → NotesOf (ns ++ n ∷ []) xs xs'' vs vs''
notes_as ns n n' xs xs' xs'' vs vs' vs'' e f g h = subst (λ m. NotesOf (ns ++ m ∷ []) xs xs'' vs vs'') (sym e) (subst (λ l. NotesOf (ns ++ n' ∷ []) xs l vs vs'') (sym f) (subst (λ l. NotesOf (ns ++ n' ∷ []) xs xs' vs l) (sym g) h))

pub notes_term : (ns : List Need) (t : Text) (a : Attribute) (names : List Text) (xs xs' : List Place) (vs vs' : List Text) → NotesOf ns xs xs' vs vs' → NotesOf (ns ++ a_term t a names ∷ []) xs xs' vs vs'
notes_term ns t a names xs xs' vs vs' = notes_other ns (a_term t a names) xs xs' vs vs' (λ m b e. absurd cc) (λ v e. absurd cc)

pub notes_function : (ns : List Need) (f : Text) (xs xs' : List Place) (vs vs' : List Text) → NotesOf ns xs xs' vs vs' → NotesOf (ns ++ a_function f ∷ []) xs xs' vs vs'
notes_function ns f xs xs' vs vs' = notes_other ns (a_function f) xs xs' vs vs' (λ m b e. absurd cc) (λ v e. absurd cc)

pub notes_default : (ns : List Need) (xs xs' : List Place) (vs vs' : List Text) → NotesOf ns xs xs' vs vs' → NotesOf (ns ++ a_default ∷ []) xs xs' vs vs'
notes_default ns xs xs' vs vs' = notes_other ns a_default xs xs' vs vs' (λ m b e. absurd cc) (λ v e. absurd cc)

pub notes_next : (list : List code.Need) (i : ℕ) (n : code.Need) (xs xs' : List Place) (vs vs' : List Text) → i < length list → n ≡ get_or list i n → NotesOf (map need_view (take i list) ++ need_view n ∷ []) xs xs' vs vs' → NotesOf (map need_view (take (i + 1) list)) xs xs' vs vs'
notes_next list i n xs xs' vs vs' h is notes = subst (λ ns. NotesOf ns xs xs' vs vs') (sym (prefix need_view list i n h is)) notes

-- ---- where nothing stands

pub none_there : (t : Target) → None ≡ pattern_in t → needs_there t ≡ []
none_there unknown h = refl
none_there without_value h = refl
none_there (found p) h = absurd cc

pub all_noted : {R : Type 0} (result : Result (Unit {0}) R) (named : Names Text) (x : Place) (q : Pattern) (ns : List Need) (xs xs' : List Place) (vs vs' : List Text) → ns ≡ needs q → place_target named x ≡ found q → OnOk result (NotesOf ns xs xs' vs vs') → OnOk result (NotesOf (needs_at named x) xs xs' vs vs')
all_noted result named x q ns xs xs' vs vs' listed at h = subst (λ l. OnOk result (NotesOf l xs xs' vs vs')) (listed ∙ sym (ap needs_there at)) h

-- ---- place by place

pub gathered_first : (named : Names Text) (x : Place) → Gathered named x 0 (x ∷ []) []
gathered_first named x = record {
  started = inl refl;
  leads = λ y among v asks. elim among [ inl same ↦ subst (λ z. AsksForAt named z v) same asks | inr never ↦ absurd never ];
  told = λ v h. absurd h;
  through = tt;
  distinct = tt;
}

asks_itself : (named : Names Text) (y : Place) (v : Text) (t : Target) → place_target named y ≡ t → IsAmong (a_variable v) (needs_there t) → AsksForAt named y v
asks_itself named y v unknown e h = absurd h
asks_itself named y v without_value e h = absurd h
asks_itself named y v (found p) e h = (p, e, itself h)

asks_by : (named : Names Text) (y : Place) (v m : Text) (a : Attribute) (t : Target) → place_target named y ≡ t → IsAmong (a_message m a) (needs_there t) → AsksForAt named (of_message m a) v → AsksForAt named y v
asks_by named y v m a unknown e h asks = absurd h
asks_by named y v m a without_value e h asks = absurd h
asks_by named y v m a (found p) e h asks = (p, e, by_message m a h asks.1 asks.2)

-- by a reference to a message that asks for it
pub asks_through : (named : Names Text) (y z : Place) (v : Text) → IsReference (needs_at named y) z → AsksForAt named z v → AsksForAt named y v
asks_through named y z v r asks = asks_by named y v r.0 r.1 (place_target named y) refl r.2 (subst (λ x. AsksForAt named x v) r.3 asks)

next_all : {A B : Type 0} (P : B → Type 0) (f : A → B) (xs : List A) (rest : List B) (i : ℕ) (x : A) → i < length xs → x ≡ get_or xs i x → AllByRecursion P (take i (map f xs)) → P (f x) → AllByRecursion P (take (suc i) (map f xs ++ rest))
next_all P f [] rest i x h is all p = absurd (omega arith)
next_all P f (z ∷ zs) rest zero x h is all p = (subst (λ w. P (f w)) is p, tt)
next_all P f (z ∷ zs) rest (suc i) x h is all p = (all.0, next_all P f zs rest i x (omega arith) is all.1 p)

pub gathered_more : {A : Type 0} (f : A → Place) (named : Names Text) (from : Place) (i : ℕ) (xs : List A) (y : A) (xs' : List Place) (vs vs' : List Text) → i < length xs → y ≡ get_or xs i y
    → Gathered named from i (map f xs) vs → NotesOf (needs_at named (f y)) (map f xs) xs' vs vs' → IsAmong (f y) (map f xs) → Gathered named from (i + 1) xs' vs'
gathered_more f named from i xs y xs' vs vs' h is old notes here =
    let longer : (x : Place) → IsAmong x (map f xs) → IsAmong x xs' = λ x among. subst (IsAmong x) (sym notes.prefix.1) (prepended x (map f xs) notes.prefix.0 among) in
    let asks_here : (v : Text) → AsksForAt named (f y) v → AsksForAt named from v = old.leads (f y) here in record {
      started = longer from old.started;
      leads = λ x among v asks. elim (notes.reached x among) [
        | inl there ↦ old.leads x there v asks
        | inr r ↦ asks_here v (asks_by named (f y) v r.0 r.1 (place_target named (f y)) refl r.2 (subst (λ z. AsksForAt named z v) r.3 asks))
      ];
      told = λ v among. elim (notes.named v among) [
        | inl there ↦ old.told v there
        | inr new ↦ asks_here v (asks_itself named (f y) v (place_target named (f y)) refl new)
      ];
      through = rw add-one (subst (λ l. AllByRecursion (IsThrough named xs' vs') (take (suc i) l)) (sym notes.prefix.1)
          (next_all (IsThrough named xs' vs') f xs notes.prefix.0 i y h is (all_map _ _ (take i (map f xs)) (λ x t. elim t [
            | inl goes ↦ inl (λ z r. longer z (goes.0 z r), λ v r. notes.kept v (goes.1 v r))
            | inr told ↦ inr (λ v asks. notes.kept v (told v asks))
          ]) old.through) (inl (notes.messages, notes.variables))));
      distinct = notes.distinct old.distinct;
    }
  where
    prepended : (x : Place) (ys rest : List Place) → IsAmong x ys → IsAmong x (ys ++ rest)
    prepended x [] rest among = absurd among
    prepended x (z ∷ zs) rest (inl same) = inl same
    prepended x (z ∷ zs) rest (inr later) = inr (prepended x zs rest later)

-- the same where all that a place asks for is known
pub gathered_told : {A : Type 0} (f : A → Place) (named : Names Text) (from : Place) (i : ℕ) (xs : List A) (y : A) (xs' : List Place) (vs vs' : List Text) → i < length xs → y ≡ get_or xs i y
    → Gathered named from i (map f xs) vs → TellsAll named (f y) (map f xs) xs' vs vs' → IsAmong (f y) (map f xs) → Gathered named from (i + 1) xs' vs'
gathered_told f named from i xs y xs' vs vs' h is old tells here =
    let adds = tells.1.2 in
    let asked = tells.1.1 in record {
      started = subst (IsAmong from) (sym tells.0) old.started;
      leads = λ x among v asks. old.leads x (subst (IsAmong x) tells.0 among) v asks;
      told = λ v among. elim (adds.named v among) [ inl there ↦ old.told v there | inr new ↦ old.leads (f y) here v ((asked v).0 new) ];
      through = rw add-one (subst (λ l. AllByRecursion (IsThrough named xs' vs') (take (suc i) l)) (append-nil (map f xs) ∙ sym tells.0)
          (next_all (IsThrough named xs' vs') f xs [] i y h is (all_map _ _ (take i (map f xs)) (λ x t. elim t [
            | inl goes ↦ inl (λ z r. subst (IsAmong z) (sym tells.0) (goes.0 z r), λ v r. adds.kept v (goes.1 v r))
            | inr told ↦ inr (λ v asks. adds.kept v (told v asks))
          ]) old.through) (inr (λ v asks. adds.added v ((asked v).1 asks)))));
      distinct = adds.distinct old.distinct;
    }

-- by what was noted
pub gathered_on : {A : Type 0} (f : A → Place) (named : Names Text) (from : Place) (i : ℕ) (xs : List A) (y : A) (xs' : List Place) (vs vs' : List Text) → i < length xs → y ≡ get_or xs i y
    → Gathered named from i (map f xs) vs → NotesOf (needs_at named (f y)) (map f xs) xs' vs vs' ⊎ TellsAll named (f y) (map f xs) xs' vs vs' → Gathered named from (i + 1) xs' vs'
gathered_on f named from i xs y xs' vs vs' h is old (inl notes) = gathered_more f named from i xs y xs' vs vs' h is old notes (among_at f xs i y h is)
gathered_on f named from i xs y xs' vs vs' h is old (inr tells) = gathered_told f named from i xs y xs' vs vs' h is old tells (among_at f xs i y h is)

-- ---- at the end

one_of : {A : Type 0} (P : A → Type 0) (xs : List A) (x : A) → IsAmong x xs → AllByRecursion P xs → P x
one_of P [] x among all = absurd among
one_of P (y ∷ ys) x (inl same) all = subst P (sym same) all.0
one_of P (y ∷ ys) x (inr later) all = one_of P ys x later all.1

all_told : (named : Names Text) (xs : List Place) (vs : List Text) (v : Text) → AllByRecursion (IsThrough named xs vs) xs → (p : Pattern) → AsksFor named v p → (y : Place) → IsAmong y xs → place_target named y ≡ found p → IsAmong v vs
all_told named xs vs v all p (itself h) y among at = elim (one_of (IsThrough named xs vs) xs y among all) [
  | inl goes ↦ goes.1 v (subst (λ t. IsAmong (a_variable v) (needs_there t)) (sym at) h)
  | inr told ↦ told v (p, at, itself h)
]
all_told named xs vs v all p (by_message m a h there asks) y among at = elim (one_of (IsThrough named xs vs) xs y among all) [
  | inl goes ↦ all_told named xs vs v all _ asks (of_message m a) (goes.0 (of_message m a) (m, a, subst (λ t. IsAmong (a_message m a) (needs_there t)) (sym at) h, refl)) there
  | inr told ↦ told v (p, at, by_message m a h there asks)
]

map_length : {A B : Type 0} (f : A → B) (xs : List A) (i : ℕ) → length xs ≤ i → take i (map f xs) ≡ map f xs
map_length f [] zero h = refl
map_length f [] (suc i) h = refl
map_length f (x ∷ xs) zero h = absurd (omega arith)
map_length f (x ∷ xs) (suc i) h = ap (λ l. f x ∷ l) (map_length f xs i (omega arith))

pub gathered_all : (named : Names Text) (from : Place) (i : ℕ) (xs : List places.Place) (vs : List Text) → length xs ≤ i → Gathered named from i (views xs) vs → AreAsked named from vs
gathered_all named from i xs vs h g v = (
  g.told v,
  λ asks. all_told named (views xs) vs v (subst (AllByRecursion (IsThrough named (views xs) vs)) (map_length place_view xs i h) g.through) asks.0 asks.2 from g.started asks.1,
)
