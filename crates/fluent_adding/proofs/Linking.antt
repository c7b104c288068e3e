-- What is kept of the patterns of an entry is theirs.
use Rattle.std.specs.Prelude.{◌≡◌, ◌&&◌, ℕ, zero, suc, List, [], ◌∷◌, ◌++◌, length, map, take, slice_get, is_none, Bool, true, Option, Some, None, refl, ◌<◌, ◌+◌}
use Rattle.std.specs.Option.{unwrap_or}
use Rattle.std.specs.Global.{Box}
use Rattle.std.specs.List.{list_all}
use Rattle.std.proofs.Common.{ap, sym, subst, ◌∙◌, get_or}
use Rattle.std.proofs.lemmas.Bool.{and_parts}
use Rattle.std.proofs.lemmas.List.{map_more}
use Rattle.fluent_ast.specs.Tree.{Text, Pattern, nothing, more, text, placeable}
use Rattle.fluent_ast.specs.References.{references}
use Rattle.fluent_ast.specs.View.{pattern_view}
use Rattle.fluent_ast.specs.declared.ast.Attribute.{Attribute}
use Rattle.fluent_references.specs.Classes.{Grows}
use Rattle.fluent_references.specs.Linked.{IsOf, are_some, class_of, still_of}
use Rattle.fluent_references.specs.Links.{KeepsNumbers}
use Rattle.fluent_references.specs.declared.linked.Linked.{Linked}
use Rattle.fluent_bundle_entries.specs.declared.ids.Ids.{Ids}
use Rattle.fluent_bundle_entries.specs.declared.slot.Kept.{Kept}
use Rattle.fluent_bundle_entries.specs.declared.slot.Slot.{Slot}
use Rattle.fluent_bundle_entries.specs.IdNumbers.{Grown, numbers, table}
use Rattle.fluent_bundle_entries.specs.KeptLaws.{grows_by, kept_by}
use Rattle.fluent_bundle_entries.specs.KeptLinks.{AreKept, AreOf, IsKeptOf, IsLinked, IsValueKept, Keeps, RefersToNothing, attributes_in, is_bare, is_value_bare, patterns, value_in}
use Rattle.fluent_bundle_entries.specs.Texts.{is_text}

some_is : {A : Type 0} (x y : A) → Some x ≡ Some y → x ≡ y
some_is x y h = ap (λ o. unwrap_or o x) h

is_none_of : {A : Type 0} (o : Option A) → is_none o ≡ true → o ≡ None
is_none_of None h = refl
is_none_of (Some x) h = absurd cc

none_at : (i : ℕ) (l : Linked) → slice_get [] i ≡ Some l → ⊥
none_at zero l h = cc
none_at (suc i) l h = cc

all_mapped : {A B : Type 0} (f : B → Bool) (g : A → B) (xs : List A) → list_all (λ x. f (g x)) xs ≡ list_all f (map g xs)
all_mapped f g [] = refl
all_mapped f g (x ∷ xs) = ap (λ b. f (g x) && b) (all_mapped f g xs)

pub all_texts : (as' : List Attribute) → list_all (λ a. is_text (pattern_view a.value)) as' ≡ list_all is_text (patterns as')
all_texts as' = all_mapped is_text (λ a. pattern_view a.value) as'

-- texts refer to nothing
texts_refer : (p : Pattern) → is_text p ≡ true → references p ≡ []
texts_refer nothing h = refl
texts_refer (more (text t) p) h = texts_refer p h
texts_refer (more (placeable e) p) h = absurd cc

refers_to_nothing : (p : Pattern) → is_text p ≡ true → RefersToNothing p
refers_to_nothing p h = ap are_some (texts_refer p h)

pub keeps_twice : (a b c : Text → Option ℕ) → KeepsNumbers a b → KeepsNumbers b c → KeepsNumbers a c
keeps_twice a b c h k = λ id n at. k id n (h id n at)

pub grows_twice : (a b c : List Pattern) → Grows a b → Grows b c → Grows a c
grows_twice a b c h k = λ n p at. k n p (h n p at)

pub grown_by : {F : Type 0} (a b : Ids F) → ((id : Text) → numbers b id ≡ numbers a id) → table b ≡ table a → Grown a b
grown_by a b same t = (kept_by (numbers a) (numbers b) same, grows_by (table a) (table b) t)

pub grown_twice : {F : Type 0} (a b c : Ids F) → Grown a b → Grown b c → Grown a c
grown_twice a b c h k = (keeps_twice (numbers a) (numbers b) (numbers c) h.0 k.0, grows_twice (table a) (table b) (table c) h.1 k.1)

module _ (n n' : Text → Option ℕ) (t t' : List Pattern) (kept : KeepsNumbers n n') (grows : Grows t t') where
  pub still_value : (v : Option Pattern) (l : Option Linked) → IsValueKept n t v l → IsValueKept n' t' v l
  still_value v l h = record { value = λ p l' at here. still_of n n' t t' kept grows p l' (h.value p l' at here); left = h.left; none = h.none }

  more_of : (ps : List Pattern) (ls : List Linked) (p : Pattern) (l : Linked) → AreOf n t ps ls → IsOf n' t' p l → AreOf n' t' (ps ++ p ∷ []) (ls ++ l ∷ [])
  more_of [] [] p l h one = (one, tt)
  more_of [] (y ∷ ls) p l h one = absurd h
  more_of (x ∷ ps) [] p l h one = absurd h
  more_of (x ∷ ps) (y ∷ ls) p l h one = (still_of n n' t t' kept grows x y h.0, more_of ps ls p l h.1 one)

  -- one attribute more
  pub one_linked : (as' : List Attribute) (i : ℕ) (d a : Attribute) (ls ls' : List Linked) (l : Linked) → i < length as' → a ≡ get_or as' i d
      → IsOf n' t' (pattern_view a.value) l → ls' ≡ ls ++ l ∷ [] → AreOf n t (patterns (take i as')) ls → AreOf n' t' (patterns (take (i + 1) as')) ls'
  one_linked as' i d a ls ls' l lt is one longer h =
      let here : IsOf n' t' (pattern_view (get_or as' i d).value) l = subst (λ (x : Attribute). IsOf n' t' (pattern_view x.value) l) is one in
      subst (AreOf n' t' (patterns (take (i + 1) as'))) (sym longer)
      (subst (λ ps. AreOf n' t' ps (ls ++ l ∷ [])) (sym (map_more (λ x. pattern_view x.value) as' i d lt))
      (more_of (patterns (take i as')) ls (pattern_view (get_or as' i d).value) l h here))

module _ (n : Text → Option ℕ) (t : List Pattern) where
  each_of : (ps : List Pattern) (ls : List Linked) → AreOf n t ps ls → (k : ℕ) (p : Pattern) (l : Linked) → slice_get ps k ≡ Some p → slice_get ls k ≡ Some l → IsOf n t p l
  each_of [] ls h k p l at here = absurd cc
  each_of (x ∷ ps) [] h k p l at here = absurd h
  each_of (x ∷ ps) (y ∷ ls) h zero p l at here = subst (λ l. IsOf n t p l) (some_is y l here) (subst (λ p. IsOf n t p y) (some_is x p at) h.0)
  each_of (x ∷ ps) (y ∷ ls) h (suc k) p l at here = each_of ps ls h.1 k p l at here

  as_many : (ps : List Pattern) (ls : List Linked) → AreOf n t ps ls → length ls ≡ length ps
  as_many [] [] h = refl
  as_many [] (l ∷ ls) h = absurd h
  as_many (p ∷ ps) [] h = absurd h
  as_many (p ∷ ps) (l ∷ ls) h = ap (λ k. suc k) (as_many ps ls h.1)

  -- none is left out
  none_left : (ps : List Pattern) (ls : List Linked) → AreOf n t ps ls → (k : ℕ) (p : Pattern) → slice_get ps k ≡ Some p → slice_get ls k ≡ None → RefersToNothing p
  none_left [] ls h k p at here = absurd cc
  none_left (x ∷ ps) [] h k p at here = absurd h
  none_left (x ∷ ps) (y ∷ ls) h zero p at here = absurd cc
  none_left (x ∷ ps) (y ∷ ls) h (suc k) p at here = none_left ps ls h.1 k p at here

  -- one of which nothing needs to be kept refers to nothing
  bare_is : (p : Pattern) (l : Linked) → IsOf n t p l → is_bare l ≡ true → RefersToNothing p
  bare_is p l h bare = h.0.1 (is_none_of (class_of l) bare)

  -- what is kept of attributes, of each
  pub all_kept : (ps : List Pattern) (ls : List Linked) → AreOf n t ps ls → AreKept n t ps ls
  all_kept ps ls h = record { each = each_of ps ls h; left = none_left ps ls h; all = λ some. as_many ps ls h }

  -- or of none, where they are texts
  text_left : (ps : List Pattern) → list_all is_text ps ≡ true → (k : ℕ) (p : Pattern) → slice_get ps k ≡ Some p → RefersToNothing p
  text_left [] texts k p at = absurd cc
  text_left (x ∷ ps) texts zero p at = subst RefersToNothing (some_is x p at) (refers_to_nothing x (and_parts (is_text x) (list_all is_text ps) texts).0)
  text_left (x ∷ ps) texts (suc k) p at = text_left ps (and_parts (is_text x) (list_all is_text ps) texts).1 k p at

  pub texts_kept : (ps : List Pattern) → list_all is_text ps ≡ true → AreKept n t ps []
  texts_kept ps texts = record { each = λ k p l at here. absurd (none_at k l here); left = λ k p at here. text_left ps texts k p at; all = λ some. absurd (some refl) }

  -- what is kept of a value
  pub one_value : (p : Pattern) (l : Linked) → IsOf n t p l → IsValueKept n t (Some p) (Some l)
  one_value p l h = record {
    value = λ p' l' at here. subst (IsOf n t p') (some_is l l' here) (subst (λ p. IsOf n t p l) (some_is p p' at) h);
    left = λ p' at here. absurd cc;
    none = λ at. absurd cc;
  }

  pub text_value : (p : Pattern) → is_text p ≡ true → IsValueKept n t (Some p) None
  text_value p is = record {
    value = λ p' l at here. absurd cc;
    left = λ p' at here. subst RefersToNothing (some_is p p' at) (refers_to_nothing p is);
    none = λ at. refl;
  }

  pub no_value : IsValueKept n t None None
  no_value = record { value = λ p l at here. absurd cc; left = λ p at here. absurd cc; none = λ at. refl }

  bare_value : (v : Option Pattern) (l : Option Linked) → IsValueKept n t v l → is_value_bare l ≡ true → (p : Pattern) → v ≡ Some p → RefersToNothing p
  bare_value v None h bare p at = h.left p at refl
  bare_value v (Some l) h bare p at = bare_is p l (h.value p l at refl) bare

  bare_at : (ls : List Linked) → list_all is_bare ls ≡ true → (k : ℕ) (l : Linked) → slice_get ls k ≡ Some l → is_bare l ≡ true
  bare_at [] bare k l at = absurd cc
  bare_at (x ∷ ls) bare zero l at = subst (λ l. is_bare l ≡ true) (some_is x l at) (and_parts (is_bare x) (list_all is_bare ls) bare).0
  bare_at (x ∷ ls) bare (suc k) l at = bare_at ls (and_parts (is_bare x) (list_all is_bare ls) bare).1 k l at

  bare_all : (ps : List Pattern) (ls : List Linked) → AreKept n t ps ls → list_all is_bare ls ≡ true → (k : ℕ) (p : Pattern) → slice_get ps k ≡ Some p → (o : Option Linked) → slice_get ls k ≡ o → RefersToNothing p
  bare_all ps ls h bare k p at None here = h.left k p at here
  bare_all ps ls h bare k p at (Some l) here = bare_is p l (h.each k p l at here) (bare_at ls bare k l here)

  -- what is kept of both
  pub both_kept : (v : Option Pattern) (ps : List Pattern) (l : Option Linked) (ls : List Linked) (k : Option (Box Kept)) → IsValueKept n t v l → AreKept n t ps ls → Keeps l ls k → IsKeptOf n t v ps k
  both_kept v ps l ls None value all keeps = record {
    value = λ p l' at here. absurd cc;
    left = λ p at here. bare_value v l value keeps.0 p at;
    none = λ at. refl;
    attributes = record { each = λ i p l' at here. absurd (none_at i l' here); left = λ i p at here. bare_all ps ls all keeps.1 i p at (slice_get ls i) refl; all = λ some. absurd (some refl) };
  }
  both_kept v ps l ls (Some k) value all keeps = record {
    value = λ p l' at here. value.value p l' at (sym keeps.0 ∙ here);
    left = λ p at here. value.left p at (sym keeps.0 ∙ here);
    none = λ at. ap is_none keeps.0 ∙ value.none at;
    attributes = subst (AreKept n t ps) (sym keeps.1) all;
  }

  -- nothing is kept of an entry that has no patterns
  pub plain_linked : {F : Type 0} (s : Slot F) → value_in s.entry ≡ None → attributes_in s.entry ≡ [] → s.kept ≡ None → IsLinked n t s
  plain_linked s at none here =
      subst (λ v. IsKeptOf n t v (attributes_in s.entry) s.kept) (sym at)
      (subst (λ ps. IsKeptOf n t None ps s.kept) (sym none)
      (both_kept None [] None [] s.kept no_value (all_kept [] [] tt) (subst (Keeps None []) (sym here) (refl, refl))))
