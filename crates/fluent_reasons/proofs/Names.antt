-- Names of arguments, in a set and in a list.
use Rattle.std.proofs.Common.{◌≡◌, ℕ, Bool, true, false, not, ◌||◌, cond, List, ◌∷◌, refl, sym, ap, ◌∙◌, Ordering, nat_cmp}
use Rattle.std.specs.Str.{bytes_eq}
use Rattle.std.specs.Set.{is_member}
use Rattle.std.specs.Borrow.{Bor}
use Rattle.std.specs.BTreeSet.{BTreeSet, contains, UpdatesBy}
use Rattle.std.specs.Cmp.Lexicographic.{slice_cmp}
use Rattle.std.proofs.lemmas.Slice.Eq.{bytes_eq-Decides}
use Rattle.std.proofs.lemmas.Map.Text.{is_eq-slice_cmp}
use Rattle.std.proofs.lemmas.Bool.{false≢true}
use Rattle.std.proofs.lemmas.Bool.Decides.{same_from_decides}
use Rattle.fluent_text.specs.Parser.{Text}

text_same_sym : (a b : List ℕ) → bytes_eq a b ≡ bytes_eq b a
text_same_sym a b = same_from_decides (bytes_eq a b) (bytes_eq b a) (bytes_eq-Decides a b) (let d = bytes_eq-Decides b a in (λ e. sym (d.0 e), λ e. d.1 (sym e)))

abbrev pub text_cmp : Bor (List ℕ) → Bor (List ℕ) → Ordering
text_cmp x y = slice_cmp nat_cmp x.now y.now

-- the set holds just these names
abbrev pub Holds : BTreeSet (Bor (List ℕ)) → List Text → Type 0
Holds set ts = (q : Bor (List ℕ)) → contains text_cmp set q ≡ is_member bytes_eq ts q.now

cond_or : (b m : Bool) → cond b true m ≡ (b || m)
cond_or true m = refl
cond_or false m = refl

-- what a set answered when a name was added
pub was_there : (added has : Bool) → added ≡ not has → added ≡ false → has ≡ true
was_there added true e h = refl
was_there added false e h = absurd (false≢true (sym h ∙ e))

pub was_absent : (added has : Bool) → added ≡ not has → added ≡ true → has ≡ false
was_absent added true e h = absurd (false≢true (sym e ∙ h))
was_absent added false e h = refl

pub members-more : (before after : BTreeSet (Bor (List ℕ))) (key : Bor (List ℕ)) (ts : List Text)
    → Holds before ts → UpdatesBy text_cmp (text_cmp key) before after true → Holds after (key.now ∷ ts)
members-more before after key ts h u q =
    u.0 q ∙ ap (λ b. cond b true (contains text_cmp before q)) (is_eq-slice_cmp key.now q.now ∙ text_same_sym key.now q.now) ∙ ap (λ m. cond (bytes_eq q.now key.now) true m) (h q) ∙ cond_or (bytes_eq q.now key.now) (is_member bytes_eq ts q.now)
