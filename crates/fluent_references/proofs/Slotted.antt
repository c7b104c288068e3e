-- Look-ups among slots by id and by number, and what a new slot and a filled one change.
use Rattle.std.proofs.Common.{◌≡◌, ℕ, zero, suc, ◌+◌, ◌<◌, List, [], ◌∷◌, ◌++◌, map, length, position, slice_get, nat_lt, not, Option, Some, None, Bool, true, false, cond, refl, sym, ap, subst, ◌∙◌, arith, is_some, true≢false, unwrap_or, if◌then◌else◌, lt-ltb, ltb-true, Global, Bor, Result, Ok, Err, IfOk, OnErr, OnOk}
use Rattle.std.proofs.lemmas.Grind.{common_steps}
use Rattle.std.proofs.lemmas.List.{map-append, length-append}
use Rattle.std.proofs.lemmas.List.Folds.{position_or_len_push}
use Rattle.std.proofs.lemmas.List.Sums.{prefix_len-le-length}
use Rattle.std.proofs.lemmas.Option.{slice_get-map}
use Rattle.std.proofs.lemmas.Slice.Eq.{bytes_eq-Decides}
use Rattle.std.specs.Cow.{cow_str_bytes}
use Rattle.std.specs.declared.borrow.CowStr.{CowStr}
use Rattle.std.specs.Cmp.Lexicographic.{nat_list_eq_equiv}
use Rattle.std.specs.List.{position_or_len}
use Rattle.std.specs.Map.{lookup, keys_of}
use Rattle.std.specs.Option.{option_map, option_copied}
use Rattle.std.specs.Result.{IsErr}
use Rattle.std.specs.Str.{bytes_eq}
use Rattle.indexmap.proofs.MapLemmas.{Found-position, Missing-position, some_index}
use Rattle.indexmap.proofs.CallerLemmas.{insert_entry-new}
use Rattle.indexmap.specs.IndexMap.{IndexMap, insert_entry, set_value_at}
use Rattle.fluent_ast.specs.Tree.{Text}
use Rattle.fluent_references.specs.Slots.{number, named, flat, slot_at, with_slot}

-- in the slot of an id's number stands what the id names
pub by_number : {X : Type 0} (ss : List (Text × Option X)) (id : Text) (n : ℕ) → number ss id ≡ Some n → slot_at n ss ≡ named id ss
by_number ss id n h = ap flat (sym ((Found-position (bytes_eq id) ss n h).value ∙ slice_get-map (λ e. e.1) ss n))

-- the index that an index from a list's prefix gives
placed : (b : Bool) (m n : ℕ) → cond b (Some m) None ≡ Some n → (b ≡ true) × (m ≡ n)
placed true m n h = (refl, ap (λ o. unwrap_or o m) h)
placed false m n h = absurd cc

first_in_push : (t : Text → Bool) (ks : List Text) (k : Text) → t k ≡ true → position_or_len t (ks ++ k ∷ []) ≡ position_or_len t ks
first_in_push t [] k is = ap (λ b. cond (not b) 1 0) is
first_in_push t (x ∷ ks) k is = ap (λ n. cond (not (t x)) (1 + n) 0) (first_in_push t ks k is)

module _ {X : Type 0} (ss : List (Text × Option X)) (id : Text) (x : Option X) where
  keys_more : keys_of (ss ++ (id, x) ∷ []) ≡ keys_of ss ++ id ∷ []
  keys_more = map-append (λ e. e.0) ss ((id, x) ∷ [])

  -- a slot more changes no number
  pub number_kept : (q : Text) (n : ℕ) → number ss q ≡ Some n → number (ss ++ (id, x) ∷ []) q ≡ Some n
  number_kept q n h =
      ap (position (bytes_eq q)) keys_more ∙ grind (arith, common_steps, position_or_len_push (bytes_eq q) (keys_of ss) id, h)

  number_placed : number (ss ++ (id, x) ∷ []) id ≡ Some (position_or_len (bytes_eq id) (keys_of ss))
  number_placed =
      let ks = keys_of ss in
      let here : position_or_len (bytes_eq id) (ks ++ id ∷ []) ≡ position_or_len (bytes_eq id) ks = first_in_push (bytes_eq id) ks id ((bytes_eq-Decides id id).1 refl) in
      let within : position_or_len (bytes_eq id) ks < length (ks ++ id ∷ []) = omega (arith, length-append ks (id ∷ []), prefix_len-le-length (λ y. not (bytes_eq id y)) ks) in
      ap (position (bytes_eq id)) keys_more
      ∙ ap (λ n. cond (nat_lt n (length (ks ++ id ∷ []))) (Some n) None) here
      ∙ ap (λ b. cond b (Some (position_or_len (bytes_eq id) ks)) None) (lt-ltb _ _ within)

  -- and the number of its id is the index after the others
  pub number_new : number ss id ≡ None → number (ss ++ (id, x) ∷ []) id ≡ Some (length ss)
  number_new none = number_placed ∙ ap Some (Missing-position (bytes_eq id) ss none).or_len

-- an id that has a slot gets no other
pub slot_stays : {X : Type 0} (ss : List (Text × Option X)) (id : Text) (n : ℕ) → number ss id ≡ Some n → ss ≡ with_slot id ss
slot_stays ss id n h = sym (ap (λ o. if is_some o then ss else ss ++ (id, None) ∷ []) h)

pub slot_new : {X : Type 0} (ss : List (Text × Option X)) (id : Text) → number ss id ≡ None → with_slot id ss ≡ ss ++ (id, None) ∷ []
slot_new ss id h = ap (λ o. if is_some o then ss else ss ++ (id, None) ∷ []) h

-- an empty slot more names nothing
pub named_new : {X : Type 0} (ss : List (Text × Option X)) (id q : Text) → named q (ss ++ (id, None) ∷ []) ≡ named q ss
named_new {X} [] id q = elim (bytes_eq q id) as (λ b. flat {X = X} (cond b (Some None) None) ≡ None) [ true ↦ refl | false ↦ refl ]
named_new {X} (s ∷ ss) id q =
    elim (bytes_eq q s.0) as (λ b. flat (cond b (Some s.1) (lookup (bytes_eq q) (ss ++ (id, None) ∷ []))) ≡ flat (cond b (Some s.1) (lookup (bytes_eq q) ss)))
    [ true ↦ refl | false ↦ named_new ss id q ]

module _ {K X : Type 0} (key : K → Text) where
  abbrev pub seen : List (K × X) → List (Text × X)
  seen es = map (λ e. (key e.0, e.1)) es

  pub lookup_seen : (t : Text → Bool) (es : List (K × X)) → lookup t (seen es) ≡ lookup (λ k. t (key k)) es
  lookup_seen t [] = refl
  lookup_seen t (e ∷ es) = ap (cond (t (key e.0)) (Some e.1)) (lookup_seen t es)

  length_seen : (es : List (K × X)) → length (keys_of (seen es)) ≡ length (keys_of es)
  length_seen [] = refl
  length_seen (e ∷ es) = ap suc (length_seen es)

  pub first_seen : (t : Text → Bool) (es : List (K × X)) → position_or_len t (keys_of (seen es)) ≡ position_or_len (λ k. t (key k)) (keys_of es)
  first_seen t [] = refl
  first_seen t (e ∷ es) = ap (λ n. cond (not (t (key e.0))) (1 + n) 0) (first_seen t es)

  pub position_seen : (t : Text → Bool) (es : List (K × X)) → position t (keys_of (seen es)) ≡ position (λ k. t (key k)) (keys_of es)
  position_seen t es =
      ap (λ n. cond (nat_lt n (length (keys_of (seen es)))) (Some n) None) (first_seen t es)
      ∙ ap (λ l. cond (nat_lt (position_or_len (λ k. t (key k)) (keys_of es)) l) (Some (position_or_len (λ k. t (key k)) (keys_of es))) None) (length_seen es)

  -- a look-up by the bytes of an id
  pub position_by : (id text : Text) (es : List (K × X)) → text ≡ id → position (bytes_eq id) (keys_of (seen es)) ≡ position (λ k. bytes_eq text (key k)) (keys_of es)
  position_by id text es same = position_seen (bytes_eq id) es ∙ ap (λ t. position (λ k. bytes_eq t (key k)) (keys_of es)) (sym same)

  -- a value in place of another leaves the keys
  pub keys_set : (es : List (K × X)) (n : ℕ) (w : X) → keys_of (seen (set_value_at es n w)) ≡ keys_of (seen es)
  keys_set [] n w = refl
  keys_set (e ∷ es) zero w = refl
  keys_set (e ∷ es) (suc n) w = ap (λ ks. key e.0 ∷ ks) (keys_set es n w)

  pub set_seen : (es : List (K × X)) (n : ℕ) (w : X) → seen (set_value_at es n w) ≡ set_value_at (seen es) n w
  set_seen [] n w = refl
  set_seen (e ∷ es) zero w = refl
  set_seen (e ∷ es) (suc n) w = ap (λ fs. (key e.0, e.1) ∷ fs) (set_seen es n w)

  -- there is no value at an index beyond them
  past : (es : List (K × X)) (n : ℕ) (w : X) → slice_get (map (λ e. e.1) es) n ≡ None → set_value_at es n w ≡ es
  past [] n w h = refl
  past (e ∷ es) zero w h = absurd cc
  past (e ∷ es) (suc n) w h = ap (λ fs. e ∷ fs) (past es n w h)

  pub set_past : (es : List (K × X)) (n : ℕ) (w : X) → slice_get (map (λ e. e.1) es) n ≡ None → seen es ≡ set_value_at (seen es) n w
  set_past es n w h = ap seen (sym (past es n w h)) ∙ set_seen es n w

  set_here : (id q k : Text) (w v : X) (rest : Option X) → bytes_eq id k ≡ true
      → cond (bytes_eq q k) (Some w) rest ≡ cond (bytes_eq id q) (Some w) (cond (bytes_eq q k) (Some v) rest)
  set_here id q k w v rest is =
      let same : bytes_eq q k ≡ bytes_eq id q = ap (bytes_eq q) (sym ((bytes_eq-Decides id k).0 is)) ∙ nat_list_eq_equiv.symm q id in
      ap (λ b. cond b (Some w) rest) same
      ∙ (elim (bytes_eq id q) as (λ b. cond b (Some w) rest ≡ cond b (Some w) (cond b (Some v) rest)) [ true ↦ refl | false ↦ refl ])
      ∙ ap (λ b. cond (bytes_eq id q) (Some w) (cond b (Some v) rest)) (sym same)

  set_after : (b : Bool) (id q k : Text) (w v : X) (rest rest' : Option X) → bytes_eq id k ≡ false → bytes_eq q k ≡ b → rest' ≡ cond (bytes_eq id q) (Some w) rest
      → cond b (Some v) rest' ≡ cond (bytes_eq id q) (Some w) (cond b (Some v) rest)
  set_after true id q k w v rest rest' other at more =
      sym (ap (λ b. cond b (Some w) (Some v)) (ap (bytes_eq id) ((bytes_eq-Decides q k).0 at) ∙ other))
  set_after false id q k w v rest rest' other at more = more

  -- the value at the first index of an id is what the id names, and other ids name what they named
  pub set_at : (es : List (K × X)) (n : ℕ) (w : X) (id q : Text) → position_or_len (bytes_eq id) (keys_of (seen es)) ≡ n → n < length es
      → lookup (bytes_eq q) (seen (set_value_at es n w)) ≡ cond (bytes_eq id q) (Some w) (lookup (bytes_eq q) (seen es))
  set_at [] n w id q first h = absurd (omega arith)
  set_at (e ∷ es) zero w id q first h = by (bytes_eq id (key e.0)) refl
    where
      by : (b : Bool) → bytes_eq id (key e.0) ≡ b → lookup (bytes_eq q) (seen (set_value_at (e ∷ es) zero w)) ≡ cond (bytes_eq id q) (Some w) (lookup (bytes_eq q) (seen (e ∷ es)))
      by true is = set_here id q (key e.0) w e.1 (lookup (bytes_eq q) (seen es)) is
      by false is = let none : 1 + position_or_len (bytes_eq id) (keys_of (seen es)) ≡ 0 = sym (ap (λ b. cond (not b) (1 + position_or_len (bytes_eq id) (keys_of (seen es))) 0) is) ∙ first in absurd (omega arith)
  set_at (e ∷ es) (suc n) w id q first h = by (bytes_eq id (key e.0)) refl (λ first. set_at es n w id q first (omega (arith, h)))
    where
      by : (b : Bool) → bytes_eq id (key e.0) ≡ b → (position_or_len (bytes_eq id) (keys_of (seen es)) ≡ n → lookup (bytes_eq q) (seen (set_value_at es n w)) ≡ cond (bytes_eq id q) (Some w) (lookup (bytes_eq q) (seen es)))
          → lookup (bytes_eq q) (seen (set_value_at (e ∷ es) (suc n) w)) ≡ cond (bytes_eq id q) (Some w) (lookup (bytes_eq q) (seen (e ∷ es)))
      by true is later = let none : 0 ≡ suc n = sym (ap (λ b. cond (not b) (1 + position_or_len (bytes_eq id) (keys_of (seen es))) 0) is) ∙ first in absurd (omega arith)
      by false is later =
          let rest : 1 + position_or_len (bytes_eq id) (keys_of (seen es)) ≡ suc n = sym (ap (λ b. cond (not b) (1 + position_or_len (bytes_eq id) (keys_of (seen es))) 0) is) ∙ first in
          set_after (bytes_eq q (key e.0)) id q (key e.0) w e.1 (lookup (bytes_eq q) (seen es)) (lookup (bytes_eq q) (seen (set_value_at es n w))) is refl
          (later (omega (arith, rest)))

-- the same of slots
module _ {K X : Type 0} (key : K → Text) (es : List (K × Option X)) (n : ℕ) (x : Option X) where
  flat_cond : (b : Bool) (o : Option (Option X)) → flat (cond b (Some x) o) ≡ cond b x (flat o)
  flat_cond true o = refl
  flat_cond false o = refl

  pub filled : (id : Text) → number (seen key es) id ≡ Some n → (q : Text)
      → named q (seen key (set_value_at es n x)) ≡ cond (bytes_eq id q) x (named q (seen key es))
  filled id h q =
      let at = placed _ (position_or_len (bytes_eq id) (keys_of (seen key es))) n h in
      let within : n < length (keys_of (seen key es)) = subst (λ m. m < length (keys_of (seen key es))) at.1 (ltb-true _ _ at.0) in
      ap flat (set_at key es n x id q at.1 (omega (arith, within, all_of es))) ∙ flat_cond (bytes_eq id q) (lookup (bytes_eq q) (seen key es))
    where
      all_of : (fs : List (K × Option X)) → length (keys_of (seen key fs)) ≡ length fs
      all_of [] = refl
      all_of (f ∷ fs) = ap suc (all_of fs)

-- what `insert_full` makes of slots in which the id has none
pub added_seen : {X S : Type 0} (m : IndexMap (CowStr Global) (Option X) S) (k : CowStr Global) (es : List (CowStr Global × Option X)) → number (seen cow_str_bytes m.entries) (cow_str_bytes k) ≡ None
    → es ≡ insert_entry (λ a b. bytes_eq (cow_str_bytes a) (cow_str_bytes b)) m.entries k None
    → seen cow_str_bytes es ≡ seen cow_str_bytes m.entries ++ (cow_str_bytes k, None) ∷ []
added_seen m k es none is =
    ap (seen cow_str_bytes) (is ∙ insert_entry-new (λ a b. bytes_eq (cow_str_bytes a) (cow_str_bytes b)) m k None (nothing (lookup _ m.entries) (sym (some_index _ m.entries) ∙ ap is_some (sym (position_seen cow_str_bytes (bytes_eq (cow_str_bytes k)) m.entries) ∙ none))))
    ∙ map-append (λ e. (cow_str_bytes e.0, e.1)) m.entries ((k, None) ∷ [])
  where
    nothing : {X : Type 0} (o : Option X) → is_some o ≡ false → o ≡ None
    nothing None h = refl
    nothing (Some x) h = absurd (true≢false h)

-- an index that may have been too large for a number
pub if_ok : {E : Type 0} (r : Result ℕ E) (index : ℕ) (at : Option ℕ) → IfOk r (λ n. n ≡ index) → at ≡ Some index → IfOk r (λ n. at ≡ Some n)
if_ok (Ok n) index at h is = is ∙ ap Some (sym h)
if_ok (Err e) index at h is = tt

pub on_ok : {A E P : Type 0} (r : Result A E) → P → OnOk r P
on_ok (Ok a) p = p
on_ok (Err e) p = tt

pub no_ok : {A E : Type 0} (P : Type 0) (r : Result A E) → IsErr r → OnOk r P
no_ok P (Ok a) h = absurd (true≢false (sym h))
no_ok P (Err e) h = tt

pub on_err : {A E P : Type 0} (r : Result A E) → P → OnErr r P
on_err (Ok a) p = tt
on_err (Err e) p = p

pub ok_is : {A E P Q : Type 0} (r : Result A E) → (P → Q) → OnOk r P → OnOk r Q
ok_is (Ok a) f p = f p
ok_is (Err e) f p = tt

pub err_is : {A E P Q : Type 0} (r : Result A E) → (P → Q) → OnErr r P → OnErr r Q
err_is (Ok a) f p = tt
err_is (Err e) f p = f p

pub copied_now : {X : Type 0} (o : Option (Bor X)) → option_map (λ x. x.now) o ≡ option_copied o
copied_now None = refl
copied_now (Some x) = refl

-- the entry of a number is what stands in its slot
pub slot_of_entry : {K X : Type 0} (key : K → Text) (es : List (K × Option X)) (n : ℕ) (e : K × Option X) → Some e ≡ slice_get es n → e.1 ≡ slot_at n (seen key es)
slot_of_entry key es n e at = sym (ap (λ o. flat (option_map (λ e. e.1) o)) (slice_get-map (λ e. (key e.0, e.1)) es n ∙ ap (option_map (λ e. (key e.0, e.1))) (sym at)))
