-- Names that differ, from the last to the first.
use Rattle.std.proofs.Common.{◌≡◌, ℕ, zero, suc, ◌+◌, ◌<◌, Bool, true, false, not, ◌&&◌, ◌||◌, cond, List, [], ◌∷◌, length, map, drop, get_or, refl, sym, ap, ◌∙◌, arith}
use Rattle.std.specs.Str.{bytes_eq}
use Rattle.std.specs.Set.{is_member}
use Rattle.std.proofs.lemmas.List.{drop_more}
use Rattle.std.specs.Borrow.{Bor}
use Rattle.std.specs.BTreeSet.{BTreeSet, contains, UpdatesBy}
use Rattle.std.proofs.Common.{Ordering, nat_cmp}
use Rattle.std.specs.Cmp.Lexicographic.{slice_cmp}
use Rattle.std.proofs.lemmas.Slice.Eq.{bytes_eq-Decides}
use Rattle.std.proofs.lemmas.Map.Text.{is_eq-slice_cmp}
use Rattle.std.proofs.lemmas.Bool.{false≢true}
use Rattle.std.proofs.lemmas.Bool.Decides.{same_from_decides}
use Rattle.fluent_ast.specs.Tree.{Text, Named}
use Rattle.fluent_syntax.specs.Expressions.{names, differ}

-- the names from an index on
pub names-drop : {A : Type 0} (view : A → Named) (xs : List A) (i : ℕ) (x : A) → i < length xs → x ≡ get_or xs i x
    → names (map view (drop i xs)) ≡ (view x).0 ∷ names (map view (drop (i + 1) xs))
names-drop view xs i x h e = ap (λ l. names (map view l)) (drop_more xs i x h) ∙ ap (λ y. (view y).0 ∷ names (map view (drop (i + 1) xs))) (sym e)

-- one name differs from no other
pub differ-few : {A : Type 0} (view : A → Named) (xs : List A) → length xs < 2 → differ (names (map view xs)) ≡ true
differ-few view [] h = refl
differ-few view (x ∷ []) h = refl
differ-few view (x ∷ y ∷ xs) h = absurd (omega arith)

and_false : (b c : Bool) → c ≡ false → (b && c) ≡ false
and_false true c e = e
and_false false c e = refl

-- later names that are not all different
pub differ-later : {A : Type 0} (view : A → Named) (xs : List A) (i : ℕ) → differ (names (map view (drop i xs))) ≡ false → differ (names (map view xs)) ≡ false
differ-later view xs zero e = e
differ-later view [] (suc i) e = e
differ-later view (x ∷ xs) (suc i) e = and_false _ (differ (names (map view xs))) (differ-later view xs i e)

text_same_sym : (a b : List ℕ) → bytes_eq a b ≡ bytes_eq b a
text_same_sym a b = same_from_decides (bytes_eq a b) (bytes_eq b a) (bytes_eq-Decides a b) (let d = bytes_eq-Decides b a in (λ e. sym (d.0 e), λ e. d.1 (sym e)))

abbrev pub text_cmp : Bor (List ℕ) → Bor (List ℕ) → Ordering
text_cmp x y = slice_cmp nat_cmp x.now y.now

abbrev pub Holds : BTreeSet (Bor (List ℕ)) → List Text → Type 0
Holds set ts = (q : Bor (List ℕ)) → contains text_cmp set q ≡ is_member bytes_eq ts q.now

-- a name that was not new
pub differ-seen : (t : Text) (ts : List Text) → is_member bytes_eq ts t ≡ true → differ (t ∷ ts) ≡ false
differ-seen t ts e = rw e refl

-- a name that was new
pub differ-new : (t : Text) (ts : List Text) → is_member bytes_eq ts t ≡ false → differ ts ≡ true → differ (t ∷ ts) ≡ true
differ-new t ts e h = rw (e, h)

cond_or : (b m : Bool) → cond b true m ≡ (b || m)
cond_or true m = refl
cond_or false m = refl

-- what a set answered when a name was added
pub was_there : (added has : Bool) → added ≡ not has → added ≡ false → has ≡ true
was_there added true e h = refl
was_there added false e h = absurd (false≢true (sym h ∙ e))

pub was_absent : (added has : Bool) → added ≡ not has → added ≡ true → has ≡ false
was_absent added true e h = absurd (false≢true (sym e ∙ h))
was_absent added false e h = refl

pub members-more : (before after : BTreeSet (Bor (List ℕ))) (key : Bor (List ℕ)) (ts : List Text)
    → Holds before ts → UpdatesBy text_cmp (text_cmp key) before after true → Holds after (key.now ∷ ts)
members-more before after key ts h u q =
    u.0 q ∙ ap (λ b. cond b true (contains text_cmp before q)) (is_eq-slice_cmp key.now q.now ∙ text_same_sym key.now q.now) ∙ ap (λ m. cond (bytes_eq q.now key.now) true m) (h q) ∙ cond_or (bytes_eq q.now key.now) (is_member bytes_eq ts q.now)
