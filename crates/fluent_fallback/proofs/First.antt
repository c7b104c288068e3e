-- The first bundle that has a pattern.
use Rattle.std.proofs.Common.{◌≡◌, ◌∙◌, sym, ap, subst, refl, ℕ, Bool, true, false, cond, suc, zero, ◌+◌, ◌<◌, ◌≤◌, add-one, length, List, [], ◌∷◌, ◌++◌, append-nil, map, drop, Option, Some, None, Result, Ok, Err, OnOk, OnErr, IfOk, is_ok, String, string_bytes, Global}
use Rattle.std.specs.Prelude.{is_some, ◌||◌, slice_get}
use Rattle.std.specs.Result.{IsErr, IsErrAnd}
use Rattle.std.specs.Borrow.{Bor}
use Rattle.std.specs.Slice.{IsItemAt}
use Rattle.std.proofs.lemmas.Bool.{true≢false}
use Rattle.std.proofs.lemmas.Option.{slice_get_past, slice_get_read, slice_get-map}
use Rattle.std.specs.Cow.{cow_str_bytes}
use Rattle.std.specs.List.{list_any, position_from}
use Rattle.std.proofs.Math.Seq.{drop-nil}
use Rattle.std.proofs.Math.ListN.{drop_of_length-le}
use Rattle.std.specs.Option.{option_map}
use Rattle.std.specs.Io.KnownBytes.{Appends}
use Rattle.fluent_text.specs.Taken.{TookPrefix}
use Rattle.std.specs.declared.borrow.CowStr.{CowStr}
use Rattle.fluent_ast.specs.Tree.{Text, Pattern}
use Rattle.fluent_semantics.specs.Errors.{Error}
use Rattle.fluent_bundle_entries.specs.declared.errors.FluentError.{FluentError}
use Rattle.fluent_semantics.specs.Events.{writes}
use Rattle.fluent_resolver_state.specs.Status.{reported}
use Rattle.fluent_bundle.specs.Facts.Events.{errors_of, text_of, writes_on}
use Rattle.fluent_bundle.specs.Formatted.{AddsPrefix, GivesText, WritesAll, WritesPrefix, Errors}
use Rattle.fluent_text.specs.declared.counting.WriteFault.{WriteFault}
use Rattle.std.specs.declared.alloc.AllocError.{AllocError}
use Rattle.fluent_semantics.specs.Arguments.{Map}
use Rattle.fluent_semantics.specs.Bundle.{Bundle}
use Rattle.fluent_semantics.specs.Value.{Value}
use Rattle.fluent_fallback.specs.declared.chain.BundleRef.{BundleRef}
use Rattle.fluent_fallback.specs.Chain.{index_with, or_others, first_with, referred, GivesOrId, GivesOwned, WritesOrId}

-- a bundle that has none is passed over
pub first_with-none : {B : Type 0} (has : B → Option Pattern) (b : B) (bs : List B) → has b ≡ None → first_with has (b ∷ bs) ≡ first_with has bs
first_with-none has b bs none = ap (λ o. or_others b o (first_with has bs)) none

-- one that has a pattern is the first
pub first_with-some : {B : Type 0} (has : B → Option Pattern) (b : B) (p : Pattern) (bs : List B) → has b ≡ Some p → first_with has (b ∷ bs) ≡ Some (b, p)
first_with-some has b p bs some = ap (λ o. or_others b o (first_with has bs)) some

module _ {A B : Type 0} (of : A → B) (has : B → Option Pattern) where
  abbrev pub seen : A × Pattern → B × Pattern
  seen found = (of found.0, found.1)

  seen-or_others : (a : A) (o : Option Pattern) (others : Option (A × Pattern)) → option_map seen (or_others a o others) ≡ or_others (of a) o (option_map seen others)
  seen-or_others a (Some p) others = refl
  seen-or_others a None others = refl

  -- among what bundles mean it is what the first bundle means
  pub first_with-map : (as' : List A) → first_with has (map of as') ≡ option_map seen (first_with (λ a. has (of a)) as')
  first_with-map [] = refl
  first_with-map (a ∷ as') =
      ap (or_others (of a) (has (of a))) (first_with-map as') ∙ sym (seen-or_others a (has (of a)) (first_with (λ b. has (of b)) as'))

  -- by what was found among the bundles themselves
  pub first_with-found : (as' : List A) (found : Option (A × Pattern)) → found ≡ first_with (λ a. has (of a)) as' → first_with has (map of as') ≡ option_map seen found
  first_with-found as' found is = first_with-map as' ∙ ap (option_map seen) (sym is)

-- whether there is one
is_some-cond : (t : Bool) (i : ℕ) (r : Option ℕ) (rest : Bool) → is_some r ≡ rest → is_some (cond t (Some i) r) ≡ (t || rest)
is_some-cond true i r rest h = refl
is_some-cond false i r rest h = h

pub is_some-position : {B : Type 0} (test : B → Bool) (i : ℕ) (bs : List B) → is_some (position_from test i bs) ≡ list_any test bs
is_some-position test i [] = refl
is_some-position test i (b ∷ bs) = is_some-cond (test b) i (position_from test (i + 1) bs) (list_any test bs) (is_some-position test (i + 1) bs)

-- where the first stands among them is where it stands among what they mean
position-map : {A B : Type 0} (of : A → B) (test : B → Bool) (i : ℕ) (as' : List A) → position_from (λ a. test (of a)) i as' ≡ position_from test i (map of as')
position-map of test i [] = refl
position-map of test i (a ∷ as') = ap (cond (test (of a)) (Some i)) (position-map of test (i + 1) as')

pub index-map : {A B : Type 0} (of : A → B) (has : B → Option Pattern) (as' : List A) → index_with (λ a. has (of a)) as' ≡ index_with has (map of as')
index-map of has as' = position-map of (λ b. is_some (has b)) 0 as'

pub is_some-map : {A B : Type 0} (f : A → B) (o : Option A) → is_some (option_map f o) ≡ is_some o
is_some-map f None = refl
is_some-map f (Some x) = refl

-- what is said of the bundle that was found is said of what it means
pub gives_of : {A : Type 0} (of : A → Bundle Text) (has : Bundle Text → Option Pattern) (as' : List A) (found : Option (A × Pattern)) → found ≡ first_with (λ a. has (of a)) as'
    → (id : Text) (args : Map (Value Text)) (result : Result (CowStr Global) AllocError) (errors errors' : Errors)
    → GivesOrId id args (option_map (seen of has) found) result errors errors' → GivesOrId id args (first_with has (map of as')) result errors errors'
gives_of of has as' found is id args result errors errors' gives =
    subst (λ f. GivesOrId id args f result errors errors') (sym (first_with-found of has as' found is)) gives

pub writes_of : {A : Type 0} (of : A → Bundle Text) (has : Bundle Text → Option Pattern) (as' : List A) (found : Option (A × Pattern)) → found ≡ first_with (λ a. has (of a)) as'
    → (id : Text) (args : Map (Value Text)) (result : Result (Unit {0}) WriteFault) (held held' : Option Text) (errors errors' : Errors)
    → WritesOrId id args (option_map (seen of has) found) result held held' errors errors' → WritesOrId id args (first_with has (map of as')) result held held' errors errors'
writes_of of has as' found is id args result held held' errors errors' writes =
    subst (λ f. WritesOrId id args f result held held' errors errors') (sym (first_with-found of has as' found is)) writes

-- nothing is added
pub adds_none : (list : List FluentError) → AddsPrefix [] list list
adds_none list = record { prefix = []; rest = []; whole = refl; adds = record { added = sym (append-nil _) } }

-- where there is none, a text is answered and nothing is added
pub gives_alone : {E : Type 0} (text : CowStr Global) (list : List FluentError) → GivesText {E = E} (cow_str_bytes text) [] (Ok text) list list
gives_alone text list = record { text = refl; adds = record { added = sym (append-nil _) } }

-- where there is none, a text is written and nothing is added
pub puts_alone : {T E : Type 0} (r : Result T E) (piece text : Text) (held held' : Option Text) (list : List FluentError) → piece ≡ text → OnOk r (Appends held held' piece) → OnOk r (WritesAll text [] held held' list list)
puts_alone (Ok x) piece text held held' list same took = record { taken = subst (Appends held held') same took; adds = record { added = sym (append-nil _) } }
puts_alone (Err e) piece text held held' list same took = tt

put_so_far : (taken left text : Text) (held held' : Option Text) (list : List FluentError) → taken ++ left ≡ text → Appends held held' taken → WritesPrefix (writes text) held held' list list
put_so_far taken left text held held' list whole took = record {
  done = writes taken;
  rest = writes left;
  whole = sym (writes_on taken left) ∙ ap writes whole;
  taken = subst (Appends held held') (sym (text_of taken)) took;
  adds = record { added = sym (ap (λ es. reported list ++ es) (errors_of taken) ∙ append-nil (reported list)) };
}

pub prefix_alone : {T E : Type 0} (r : Result T E) (piece text : Text) (held held' : Option Text) (list : List FluentError) → piece ≡ text → OnOk r (Appends held held' piece) → OnErr r (TookPrefix held held' piece) → WritesPrefix (writes text) held held' list list
prefix_alone (Ok x) piece text held held' list same took left = put_so_far piece [] text held held' list (append-nil piece ∙ same) took
prefix_alone (Err e) piece text held held' list same took left = put_so_far left.0 left.1 text held held' list (sym left.2 ∙ same) left.3

-- a text that is answered in memory of its own
pub owned : {D : Type 0} (all : Text) (errors : List Error) (text : CowStr Global) (r : Result (String Global) AllocError) (list list' : List FluentError) → GivesText {E = D} all errors (Ok text) list list' → IfOk r (λ s. string_bytes s ≡ cow_str_bytes text) → GivesOwned all errors r list list'
owned all errors text (Ok s) list list' gives same = record { text = same ∙ gives.text; adds = gives.adds }
owned all errors text (Err e) list list' gives same = record { text = tt; adds = tt }

-- ---- bundles that are asked by their indices

-- what stands at an index begins what is left
pub drop-at : {X : Type 0} (xs : List X) (i : ℕ) (x : X) → slice_get xs i ≡ Some x → drop i xs ≡ x ∷ drop (suc i) xs
drop-at [] i x h = absurd (cc h)
drop-at (y ∷ ys) zero x h = ap (λ z. z ∷ ys) (cc h)
drop-at (y ∷ ys) (suc i) x h = drop-at ys i x h

drop-none : {X : Type 0} (xs : List X) (i : ℕ) → slice_get xs i ≡ None → drop (suc i) xs ≡ drop i xs
drop-none [] i h = drop-nil (suc i) ∙ sym (drop-nil i)
drop-none (x ∷ xs) zero h = cc
drop-none (x ∷ xs) (suc i) h = drop-none xs i h

module _ {B : Type 0} (has : B → Option Pattern) (bs : List B) (i : ℕ) (first : first_with has (drop i bs) ≡ first_with has bs) where
  next : first_with has (drop (suc i) bs) ≡ first_with has (drop i bs) → first_with has (drop (i + 1) bs) ≡ first_with has bs
  next same = ap (λ n. first_with has (drop n bs)) (add-one i) ∙ same ∙ first

  -- a bundle that has none is passed over
  pub passes : (b : B) → slice_get bs i ≡ Some b → has b ≡ None → first_with has (drop (i + 1) bs) ≡ first_with has bs
  passes b at none = next (sym (ap (first_with has) (drop-at bs i b at) ∙ first_with-none has b (drop (suc i) bs) none))

  -- and so is an index where none stands
  pub passes_end : slice_get bs i ≡ None → first_with has (drop (i + 1) bs) ≡ first_with has bs
  passes_end none = next (ap (first_with has) (drop-none bs i none))

  -- one that has a pattern is the first
  pub answers : (b : B) (p : Pattern) → slice_get bs i ≡ Some b → has b ≡ Some p → Some (b, p) ≡ first_with has bs
  answers b p at some = sym (ap (first_with has) (drop-at bs i b at) ∙ first_with-some has b p (drop (suc i) bs) some) ∙ first

  -- at the end there is none
  pub none_left : length bs ≤ i → None ≡ first_with has bs
  none_left past = sym (ap (first_with has) (drop_of_length-le bs past)) ∙ first

module _ {B : Type 0} (test : B → Bool) (bs : List B) (i : ℕ) (b : B) (at : slice_get bs i ≡ Some b) (index : Option ℕ) (first : position_from test i (drop i bs) ≡ index) where
  here : cond (test b) (Some i) (position_from test (i + 1) (drop (suc i) bs)) ≡ index
  here = sym (ap (position_from test i) (drop-at bs i b at)) ∙ first

  pub index_here : test b ≡ true → Some i ≡ index
  index_here there = sym (ap (λ t. cond t (Some i) (position_from test (i + 1) (drop (suc i) bs))) there) ∙ here

  pub index_after : test b ≡ false → position_from test (i + 1) (drop (i + 1) bs) ≡ index
  index_after gone =
      ap (λ n. position_from test (i + 1) (drop n bs)) (add-one i)
      ∙ sym (ap (λ t. cond t (Some i) (position_from test (i + 1) (drop (suc i) bs))) gone) ∙ here

drop-end : {X : Type 0} (xs : List X) (i : ℕ) → slice_get xs i ≡ None → drop i xs ≡ []
drop-end [] i h = drop-nil i
drop-end (x ∷ xs) zero h = cc
drop-end (x ∷ xs) (suc i) h = drop-end xs i h

pub index_past : {B : Type 0} (test : B → Bool) (bs : List B) (i : ℕ) (index : Option ℕ) → slice_get bs i ≡ None → position_from test i (drop i bs) ≡ index → position_from test (i + 1) (drop (i + 1) bs) ≡ index
index_past test bs i index none first =
    ap (λ n. position_from test (i + 1) (drop n bs)) (add-one i)
    ∙ ap (position_from test (i + 1)) (drop-none bs i none ∙ drop-end bs i none)
    ∙ sym (ap (position_from test i) (drop-end bs i none)) ∙ first

pub index_none : {B : Type 0} (test : B → Bool) (bs : List B) (i : ℕ) (index : Option ℕ) → length bs ≤ i → position_from test i (drop i bs) ≡ index → None ≡ index
index_none test bs i index past first = sym (ap (position_from test i) (drop_of_length-le bs past)) ∙ first

-- what a slice lends at an index stands there
pub lent_at : {X : Type 0} (xs : List X) (i : ℕ) (o : Option (Bor X)) → IsItemAt xs i o → option_map (λ x. x.now) o ≡ slice_get xs i
lent_at xs i None at = sym (slice_get_past xs i at.3)
lent_at xs i (Some x) at = let within : i < length xs = at.3.0 in sym (slice_get_read xs (length xs) i x.now refl within at.1)

pub referred_at : {M C F G X : Type 0} (refs : List (BundleRef M C F G X)) (i : ℕ) (o : Option (Bor (BundleRef M C F G X))) → IsItemAt refs i o → option_map (λ r. r.now.0.now) o ≡ slice_get (referred refs) i
referred_at refs i None at = sym (slice_get-map (λ r. r.0.now) refs i ∙ ap (option_map (λ r. r.0.now)) (slice_get_past refs i at.3))
referred_at refs i (Some x) at =
    let within : i < length refs = at.3.0 in
    sym (slice_get-map (λ r. r.0.now) refs i ∙ ap (option_map (λ r. r.0.now)) (slice_get_read refs (length refs) i x.now refl within at.1))

-- ---- an error that is passed on

pub passed_on : {A E : Type 0} (r : Result A E) (e : E) → IsErrAnd r (λ x. x ≡ e) → r ≡ Err e
passed_on (Ok x) e h = absurd h
passed_on (Err x) e h = ap Err h

pub not_ok : {A E : Type 0} (r : Result A E) → IsErr r → is_ok r ≡ false
not_ok (Ok x) h = absurd (true≢false (sym h))
not_ok (Err e) h = refl

pub never_both : {A E : Type 0} (x : A) (e : E) → Ok x ≡ Err e → ⊥
never_both x e h = cc
