-- Links gathered part after part.
use Rattle.std.proofs.Common.{◌≡◌, ℕ, ◌+◌, ◌<◌, List, [], ◌∷◌, ◌++◌, length, get_or, map, drop, take, Bool, true, false, is_some, nat_eq, true≢false, arith, if◌then◌else◌, Option, Some, None, refl, ap, sym, subst, ◌∙◌, unwrap_or}
use Rattle.std.proofs.lemmas.Bool.{eqb-true}
use Rattle.std.proofs.lemmas.List.{append_assoc, append-nil, length-append, map-append, take-append-drop, take_more}
use Rattle.std.proofs.lemmas.List.Sums.{fold-append}
use Rattle.fluent_ast.specs.Tree.{Text, Pattern}
use Rattle.fluent_ast.specs.References.{AreSome, Reference, references}
use Rattle.fluent_references.specs.Classes.{HasClass, with_class}
use Rattle.fluent_references.specs.Linked.{IsClassOf, are_some, with_referring}
use Rattle.fluent_references.specs.Links.{id_of, KeepsNumbers}
use Rattle.fluent_references.specs.Inside.LinkGrowth.{AppendsLinks, SlotsOfPrefix, with_slots}
use Rattle.fluent_references.specs.Inside.LinkNumbers.{AreNumbers, keeps_numbers}
use Rattle.fluent_references.specs.CursorSteps.{IsInTurn, here}
use Rattle.fluent_references.specs.Slots.{number, named, with_slot}
use Rattle.fluent_references.proofs.Slotted.{number_kept, named_new}

abbrev Entries : Type 0 → Type 0
Entries X = List (Text × Option X)

-- a slot more changes no number, and names nothing
slot_keeps : {X : Type 0} (id : Text) (ss : Entries X) → KeepsNumbers (number ss) (number (with_slot id ss)) × ((q : Text) → named q (with_slot id ss) ≡ named q ss)
slot_keeps {X} id ss = by (is_some (number ss id))
  where
    by : (b : Bool) → KeepsNumbers (number ss) (number (if b then ss else ss ++ (id, None) ∷ [])) × ((q : Text) → named q (if b then ss else ss ++ (id, None) ∷ []) ≡ named q ss)
    by true = ((λ q n at. at), (λ q. refl))
    by false = (number_kept ss id None, named_new ss id)

slots_keep : {X : Type 0} (rs : List Reference) (ss : Entries X) → KeepsNumbers (number ss) (number (with_slots rs ss)) × ((q : Text) → named q (with_slots rs ss) ≡ named q ss)
slots_keep [] ss = ((λ q n at. at), (λ q. refl))
slots_keep (r ∷ rs) ss =
    let one = slot_keeps (id_of r) ss in
    let others = slots_keep rs (with_slot (id_of r) ss) in
    ((λ q n at. others.0 q n (one.0 q n at)), (λ q. others.1 q ∙ one.1 q))

pub kept : {X : Type 0} (a b : Entries X) (rs : List Reference) → b ≡ with_slots rs a → KeepsNumbers (number a) (number b)
kept a b rs h = subst (λ ss. KeepsNumbers (number a) (number ss)) (sym h) (slots_keep rs a).0

pub names_kept : {X : Type 0} (a b : Entries X) (rs : List Reference) → b ≡ with_slots rs a → (q : Text) → named q b ≡ named q a
names_kept a b rs h q = ap (named q) h ∙ (slots_keep rs a).1 q

slots_on : {X : Type 0} (a b c : Entries X) (xs ys : List Reference) → b ≡ with_slots xs a → c ≡ with_slots ys b → c ≡ with_slots (xs ++ ys) a
slots_on a b c xs ys first second = second ∙ (ap (with_slots ys) first ∙ sym (fold-append (λ ss r. with_slot (id_of r) ss) a xs ys))

pub begins_all : {X : Type 0} (a b : Entries X) (rs : List Reference) → b ≡ with_slots rs a → SlotsOfPrefix a b rs
begins_all a b rs h = (rs, [], sym (append-nil rs), h)

pub begins_more : {X : Type 0} (a b : Entries X) (xs ys : List Reference) → SlotsOfPrefix a b xs → SlotsOfPrefix a b (xs ++ ys)
begins_more a b xs ys h = (h.0, h.1 ++ ys, ap (λ rs. rs ++ ys) h.2 ∙ append_assoc h.0 h.1 ys, h.3)

pub begins_on : {X : Type 0} (a b c : Entries X) (xs ys : List Reference) → b ≡ with_slots xs a → SlotsOfPrefix b c ys → SlotsOfPrefix a c (xs ++ ys)
begins_on a b c xs ys first h = (xs ++ h.0, h.1, ap (λ rs. xs ++ rs) h.2 ∙ sym (append_assoc xs h.0 h.1), slots_on a b c xs h.0 first h.3)

pub begins_as : {X : Type 0} (a b : Entries X) (xs ys : List Reference) → xs ≡ ys → SlotsOfPrefix a b xs → SlotsOfPrefix a b ys
begins_as a b xs ys same h = subst (λ rs. SlotsOfPrefix a b rs) same h

numbers_push : (number : Text → Option ℕ) (rs : List Reference) (r : Reference) (ls : List ℕ) (l : ℕ) → AreNumbers number rs ls → number (id_of r) ≡ Some l → AreNumbers number (rs ++ r ∷ []) (ls ++ l ∷ [])
numbers_push number rs r ls l h at =
    map-append (λ r. number (id_of r)) rs (r ∷ [])
    ∙ (ap (λ ns. ns ++ number (id_of r) ∷ []) h
    ∙ (ap (λ n. map Some ls ++ n ∷ []) at
    ∙ sym (map-append Some ls (l ∷ []))))

pub adds_one : {X : Type 0} (a b : Entries X) → KeepsNumbers (number a) (number b) → (r : Reference) (id : Text) (ls ls' : List ℕ) (l : ℕ) → b ≡ with_slot id a → number b id ≡ Some l → ls' ≡ ls ++ l ∷ [] → id_of r ≡ id → AppendsLinks a b ls ls' (r ∷ [])
adds_one a b kept r id ls ls' l with_one at pushed same = (
  with_one ∙ sym (ap (λ id. with_slot id a) same),
  λ done h. subst (λ ls. AreNumbers (number b) (done ++ r ∷ []) ls) (sym pushed) (numbers_push (number b) done r ls l (keeps_numbers (number a) (number b) kept done ls h) (ap (number b) same ∙ at)),
)

-- no references
pub adds_none : {X : Type 0} (a : Entries X) (ls : List ℕ) → AppendsLinks a a ls ls []
adds_none a ls = (refl, λ done h. subst (λ rs. AreNumbers (number a) rs ls) (sym (append-nil done)) h)

pub adds_on : {X : Type 0} (a b c : Entries X) (ls ls' ls'' : List ℕ) (xs ys : List Reference) → AppendsLinks a b ls ls' xs → AppendsLinks b c ls' ls'' ys → AppendsLinks a c ls ls'' (xs ++ ys)
adds_on a b c ls ls' ls'' xs ys first second = (
  slots_on a b c xs ys first.0 second.0,
  λ done h. subst (λ rs. AreNumbers (number c) rs ls'') (append_assoc done xs ys) (second.1 (done ++ xs) (first.1 done h)),
)

-- references by another name
pub adds_as : {X : Type 0} (a b : Entries X) (ls ls' : List ℕ) (xs ys : List Reference) → xs ≡ ys → AppendsLinks a b ls ls' xs → AppendsLinks a b ls ls' ys
adds_as a b ls ls' xs ys same adds = subst (λ rs. AppendsLinks a b ls ls' rs) same adds

-- a loop over parts in turn
module _ {P : Type 0} (f : P → List Reference) (L : List P → List Reference) (step : IsInTurn f L) (none : L [] ≡ []) where
  both : (xs ys : List P) → L (xs ++ ys) ≡ L xs ++ L ys
  both [] ys = sym (ap (λ rs. rs ++ L ys) none)
  both (x ∷ xs) ys = step x (xs ++ ys) ∙ (ap (λ rs. f x ++ rs) (both xs ys) ∙ (sym (append_assoc (f x) (L xs) (L ys)) ∙ sym (ap (λ rs. rs ++ L ys) (step x xs))))

  alone : (x : P) → L (x ∷ []) ≡ f x
  alone x = step x [] ∙ (ap (λ rs. f x ++ rs) none ∙ append-nil (f x))

  next_taken : (xs : List P) (i : ℕ) (x : P) → i < length xs → x ≡ get_or xs i x → L (take i xs) ++ f x ≡ L (take (i + 1) xs)
  next_taken xs i x h is = sym (ap L (take_more xs i x h ∙ ap (λ y. take i xs ++ y ∷ []) (sym is)) ∙ (both (take i xs) (x ∷ []) ∙ ap (λ rs. L (take i xs) ++ rs) (alone x)))

  next_left : (xs : List P) (i : ℕ) (x : P) → i < length xs → x ≡ get_or xs i x → L (take i xs) ++ (f x ++ L (drop (i + 1) xs)) ≡ L xs
  next_left xs i x h is =
      sym (ap (λ rs. L (take i xs) ++ rs) (here f L step xs i x h is))
      ∙ (sym (both (take i xs) (drop i xs)) ∙ ap L (take-append-drop i xs))

  -- after a part that was begun
  pub begins_next : {X : Type 0} (xs : List P) (i : ℕ) (x : P) → i < length xs → x ≡ get_or xs i x → (a b c : Entries X) (ls ls' : List ℕ) → AppendsLinks a b ls ls' (L (take i xs)) → SlotsOfPrefix b c (f x) → SlotsOfPrefix a c (L xs)
  begins_next xs i x h is a b c ls ls' first second =
      begins_as a c (L (take i xs) ++ (f x ++ L (drop (i + 1) xs))) (L xs) (next_left xs i x h is)
      (begins_on a b c (L (take i xs)) (f x ++ L (drop (i + 1) xs)) first.0 (begins_more b c (f x) (L (drop (i + 1) xs)) second))

  -- a reference in one part is a reference in all
  pub some_in : (xs : List P) (i : ℕ) (x : P) → i < length xs → x ≡ get_or xs i x → (rs : List Reference) → L xs ≡ rs → AreSome (f x) → AreSome rs
  some_in xs i x h is rs all some =
      omega (arith, ap length (next_left xs i x h is ∙ all), length-append (L (take i xs)) (f x ++ L (drop (i + 1) xs)), length-append (f x) (L (drop (i + 1) xs)))

  -- after one more part
  pub adds_next : {X : Type 0} (xs : List P) (i : ℕ) (x : P) → i < length xs → x ≡ get_or xs i x → (a b c : Entries X) (ls ls' ls'' : List ℕ) → AppendsLinks a b ls ls' (L (take i xs)) → AppendsLinks b c ls' ls'' (f x) → AppendsLinks a c ls ls'' (L (take (i + 1) xs))
  adds_next xs i x h is a b c ls ls' ls'' first second = adds_as a c ls ls'' (L (take i xs) ++ f x) (L (take (i + 1) xs)) (next_taken xs i x h is) (adds_on a b c ls ls' ls'' (L (take i xs)) (f x) first second)

-- ---- whether anything is referred to

-- no links are those of no references
pub none_referred : (number : Text → Option ℕ) (rs : List Reference) (ls : List ℕ) → ls ≡ [] → AreNumbers number rs ls → rs ≡ []
none_referred number [] ls h are = refl
none_referred number (r ∷ rs) [] h are = absurd cc
none_referred number (r ∷ rs) (l ∷ ls) h are = absurd cc

-- no references have no links
pub none_linked : (number : Text → Option ℕ) (rs : List Reference) (ls : List ℕ) → rs ≡ [] → AreNumbers number rs ls → ls ≡ []
none_linked number [] [] h are = refl
none_linked number [] (l ∷ ls) h are = absurd cc
none_linked number (r ∷ rs) ls h are = absurd cc

-- by a test of their count
pub no_items : (ls : List ℕ) (b : Bool) → b ≡ nat_eq (length ls) 0 → b ≡ true → ls ≡ []
no_items [] b is h = refl
no_items (l ∷ ls) b is h = let e : length (l ∷ ls) ≡ 0 = eqb-true (length (l ∷ ls)) 0 (sym is ∙ h) in absurd (omega (arith, e))

pub some_items : (ls : List ℕ) (b : Bool) → b ≡ nat_eq (length ls) 0 → b ≡ false → ls ≡ [] → ⊥
some_items ls b is h none = true≢false (ap (λ ls. nat_eq (length ls) 0) (sym none) ∙ sym is ∙ h)

-- where there are links, the content is stored
pub referring : (number : Text → Option ℕ) (rs : List Reference) (ls : List ℕ) (p : Pattern) (table : List Pattern) → (ls ≡ [] → ⊥) → AreNumbers number rs ls → with_class p table ≡ with_referring rs p table
referring number [] [] p table some are = absurd (some refl)
referring number [] (l ∷ ls) p table some are = absurd cc
referring number (r ∷ rs) ls p table some are = refl

-- where there are links, there are references
pub some_referred : (number : Text → Option ℕ) (rs : List Reference) (ls : List ℕ) → (ls ≡ [] → ⊥) → AreNumbers number rs ls → are_some rs ≡ true
some_referred number [] [] some are = absurd (some refl)
some_referred number [] (l ∷ ls) some are = absurd cc
some_referred number (r ∷ rs) ls some are = refl

pub has_class : (table : List Pattern) (p : Pattern) (class : ℕ) → HasClass table class p → are_some (references p) ≡ true → IsClassOf table p (Some class)
has_class table p class h some = (λ c at. (subst (λ n. HasClass table n p) (ap (λ o. unwrap_or o class) at) h, some), λ none. absurd cc)

pub no_class : (table : List Pattern) (p : Pattern) → references p ≡ [] → IsClassOf table p None
no_class table p h = (λ c at. absurd cc, λ none. ap are_some h)
