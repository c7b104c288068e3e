-- A text of characters ends in no prefix of a mark.
use lib.Dec.{ltb}
use lib.Utf8.{encode, encodes, next}
use Rattle.std.proofs.Common.{◌≡◌, ℕ, ◌/◌, ◌==◌, ◌<◌, ◌&&◌, not, List, [], ◌∷◌, Bool, true, false, cond, refl, subst, ap, ◌∙◌, arith}
use Rattle.std.specs.Str.{IsUtf8}
use Rattle.fluent_ast.specs.Tree.{Text}
use Rattle.fluent_semantics.specs.Marks.{is_whole}
use Rattle.fluent_semantics.proofs.Marked.{whole_append}

no_lead : (b : ℕ) → b < 226 → (b == 0xe2) ≡ false
no_lead b h = grind arith

one_whole : (a : ℕ) → a < 226 → is_whole (a ∷ []) ≡ true
one_whole a h = ap (λ x. not x && true) (no_lead a h)

two_whole : (a b : ℕ) → a < 226 → b < 226 → is_whole (a ∷ b ∷ []) ≡ true
two_whole a b h j = ap (λ x. not (x && b == 0x81) && is_whole (b ∷ [])) (no_lead a h) ∙ one_whole b j

low : (c : ℕ) → next c < 226
low c = grind arith

either : (q : Bool) (s t : Text) → (q ≡ true → is_whole s ≡ true) → is_whole t ≡ true → is_whole (cond q s t) ≡ true
either true s t h j = h refl
either false s t h j = j

one_character : (c : ℕ) → is_whole (encode c) ≡ true
unfolding encode
one_character c =
    either (ltb c 128) _ _ (λ h. one_whole c (grind arith))
    (either (ltb c 2048) _ _ (λ h. two_whole _ _ (grind arith) (low c))
    (either (ltb c 65536) _ _ (λ h. two_whole _ _ (low (c / 64)) (low c)) (two_whole _ _ (low (c / 64)) (low c))))

characters : (cs : List ℕ) → is_whole (encodes cs) ≡ true
characters [] = refl
characters (c ∷ cs) = whole_append (encode c) (encodes cs) (one_character c) (characters cs)

pub text_whole : (t : Text) → IsUtf8 t → is_whole t ≡ true
text_whole t h = subst (λ s. is_whole s ≡ true) h.1.1 (characters h.0)
