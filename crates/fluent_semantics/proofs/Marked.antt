-- As many opening as closing marks are written, where nothing else brings any.
use Rattle.std.proofs.Common.{◌≡◌, ℕ, zero, suc, ℤ, pos, ◌+◌, ◌/◌, ◌%◌, ◌==◌, ◌<◌, ◌^◌, ◌&&◌, not, List, [], ◌∷◌, ◌++◌, Bool, true, false, Option, Some, None, if◌then◌else◌, refl, sym, ap, ◌∙◌, arith, int_lt, unsigned_abs, map}
use Rattle.std.specs.List.{range_with_len}
use Rattle.std.specs.Bool.{⊤}
use Rattle.std.specs.Fmt.{decimal, digits, digits_onto, digit_glyph}
use Rattle.fluent_ast.specs.Tree.{Text, Attribute, no_attribute, attribute}
use Rattle.fluent_ast.specs.Fallback.{dotted, in_braces}
use Rattle.fluent_intl.specs.Decimal.{text_places, place_digit, point_text, decimal_text}
use Rattle.fluent_semantics.specs.Meaning.{first_mark, last_mark}
use Rattle.fluent_semantics.specs.Marks.{at_start, marks, cut_off, is_whole, IsBalanced, IsBalancedAttribute}

and_left : (a b : Bool) → (a && b) ≡ true → a ≡ true
and_left true b h = refl
and_left false b h = absurd cc

and_right : (a b : Bool) → (a && b) ≡ true → b ≡ true
and_right true b h = h
and_right false b h = absurd cc

not_true : (a : Bool) → not a ≡ true → a ≡ false
not_true true h = absurd cc
not_true false h = refl

prefix_one : (last a : ℕ) (t : Text) → (a == 0xe2) ≡ false → at_start last (a ∷ t) ≡ false
prefix_one last a [] h = refl
prefix_one last a (b ∷ []) h = refl
prefix_one last a (b ∷ c ∷ t) h = ap (λ x. x && b == 0x81 && c == last) h

prefix_two : (last a b : ℕ) (t : Text) → (a == 0xe2 && b == 0x81) ≡ false → at_start last (a ∷ b ∷ t) ≡ false
prefix_two last a b [] h = refl
prefix_two last a b (c ∷ t) h = ap (λ x. x && c == last) h

prefix_append : (last a : ℕ) (s t : Text) → cut_off (a ∷ s) ≡ false → at_start last (a ∷ (s ++ t)) ≡ at_start last (a ∷ s)
prefix_append last a [] t h = prefix_one last a t h
prefix_append last a (b ∷ []) t h = prefix_two last a b t h
prefix_append last a (b ∷ c ∷ s) t h = refl

cut_one : (a : ℕ) (t : Text) → (a == 0xe2) ≡ false → cut_off (a ∷ t) ≡ false
cut_one a [] h = h
cut_one a (b ∷ []) h = ap (λ x. x && b == 0x81) h
cut_one a (b ∷ c ∷ t) h = refl

cut_append : (a : ℕ) (s t : Text) → cut_off (a ∷ s) ≡ false → cut_off (a ∷ (s ++ t)) ≡ false
cut_append a [] t h = cut_one a t h
cut_append a (b ∷ []) [] h = h
cut_append a (b ∷ []) (c ∷ t) h = refl
cut_append a (b ∷ c ∷ s) t h = refl

marks_append : (last : ℕ) (s t : Text) → is_whole s ≡ true → marks last (s ++ t) ≡ marks last s + marks last t
marks_append last [] t h = omega arith
marks_append last (a ∷ s) t h =
    let rest = marks_append last s t (and_right (not (cut_off (a ∷ s))) (is_whole s) h) in
    let prefix = ap {B = ℕ} (λ x. (if x then 1 else 0)) (prefix_append last a s t (not_true _ (and_left _ _ h))) in
    omega (arith, rest, prefix)

pub whole_append : (s t : Text) → is_whole s ≡ true → is_whole t ≡ true → is_whole (s ++ t) ≡ true
whole_append [] t h j = j
whole_append (a ∷ s) t h j =
    ap (λ x. not x && is_whole (s ++ t)) (cut_append a s t (not_true _ (and_left _ _ h))) ∙ whole_append s t (and_right _ _ h) j

pub joined : (s t : Text) → IsBalanced s → IsBalanced t → IsBalanced (s ++ t)
joined s t h j = record {
  balanced = omega (arith, marks_append 0xa8 s t h.whole, marks_append 0xa9 s t h.whole, h.balanced, j.balanced);
  whole = whole_append s t h.whole j.whole;
}

pub empty : IsBalanced []
empty = record { balanced = refl; whole = refl }

-- ---- texts of small bytes

abbrev pub AreSmall : Text → Type 0
AreSmall [] = ⊤
AreSmall (b ∷ t) = (b < 128) × AreSmall t

no_mark : (b : ℕ) → b < 128 → (b == 0xe2) ≡ false
no_mark b h = grind arith

pub small : (t : Text) → AreSmall t → IsBalanced t
small [] h = empty
small (b ∷ t) h =
    let rest = small t h.1 in
    let other = no_mark b h.0 in
    record {
      balanced = ap (λ x. (if x then 1 else 0) + marks 0xa8 t) (prefix_one 0xa8 b t other) ∙ ap (λ n. 0 + n) rest.balanced ∙ sym (ap (λ x. (if x then 1 else 0) + marks 0xa9 t) (prefix_one 0xa9 b t other));
      whole = ap (λ x. not x && is_whole t) (cut_one b t other) ∙ rest.whole;
    }

small_append : (s t : Text) → AreSmall s → AreSmall t → AreSmall (s ++ t)
small_append [] t h j = j
small_append (b ∷ s) t h j = (h.0, small_append s t h.1 j)

glyph_small : (d : ℕ) → d < 10 → digit_glyph false d < 128
glyph_small d h = grind arith

chosen_small : (b : Bool) (s t : Text) → AreSmall s → AreSmall t → AreSmall (if b then s else t)
chosen_small true s t h j = h
chosen_small false s t h j = j

digits_small : (k n : ℕ) (acc : Text) → AreSmall acc → AreSmall (digits_onto k 10 false n acc)
digits_small zero n acc h = h
digits_small (suc k) n acc h =
    let more : AreSmall (digit_glyph false (n % 10) ∷ acc) = (glyph_small (n % 10) (omega arith), h) in
    chosen_small (n / 10 == 0) _ _ more (digits_small k (n / 10) (digit_glyph false (n % 10) ∷ acc) more)

places_small : (fraction : ℕ) (ps : List ℕ) → AreSmall (map (place_digit fraction) ps)
places_small fraction [] = tt
places_small fraction (p ∷ ps) = (omega arith, places_small fraction ps)

point_small : (fraction : ℕ) (places : Option ℕ) → AreSmall (point_text fraction places)
point_small fraction None = tt
point_small fraction (Some places) = (omega arith, places_small fraction (range_with_len 1 places))

sign_small : (b : Bool) → AreSmall (if b then 45 ∷ [] else [])
sign_small true = (omega arith, tt)
sign_small false = tt

decimal_small : (n : ℕ) → AreSmall (decimal n)
unfolding digits
decimal_small n = digits_small 64 n [] tt

pub number_balanced : (z : ℤ) (m : Option ℕ) → IsBalanced (decimal_text z m)
unfolding decimal_text
number_balanced z m =
    let fraction = unsigned_abs z % 10 ^ 18 in
    small _ (small_append (if int_lt z (pos 0) then 45 ∷ [] else []) _ (sign_small (int_lt z (pos 0)))
    (small_append (decimal (unsigned_abs z / 10 ^ 18)) _ (decimal_small (unsigned_abs z / 10 ^ 18)) (point_small fraction (text_places fraction m))))

-- ---- braces, dots and marks

between : (s t u : Text) → IsBalanced s → IsBalanced t → IsBalanced u → IsBalanced (s ++ (t ++ u))
between s t u h j k = joined s (t ++ u) h (joined t u j k)

pub braced : (t : Text) → IsBalanced t → IsBalanced (in_braces t)
braced t h = between (123 ∷ []) t (125 ∷ []) (small _ (omega arith, tt)) h (small _ (omega arith, tt))

pub dotted_balanced : (t : Text) (a : Attribute) → IsBalanced t → IsBalancedAttribute a → IsBalanced (dotted t a)
dotted_balanced t no_attribute h j = h
dotted_balanced t (attribute name) h j = between t (46 ∷ []) name h (small _ (omega arith, tt)) j

pub quoted : (t : Text) → IsBalanced t → IsBalanced (34 ∷ (t ++ 34 ∷ []))
quoted t h = between (34 ∷ []) t (34 ∷ []) (small _ (omega arith, tt)) h (small _ (omega arith, tt))

pub with_byte : (b : ℕ) (t : Text) → b < 128 → IsBalanced t → IsBalanced (b ∷ t)
with_byte b t h j = joined (b ∷ []) t (small _ (h, tt)) j

pub called_balanced : (t : Text) → IsBalanced t → IsBalanced (t ++ 40 ∷ 41 ∷ [])
called_balanced t h = joined t _ h (small _ (omega arith, (omega arith, tt)))

-- a text between an opening and a closing mark, or none
pub marked_balanced : (marked : Bool) (t : Text) → IsBalanced t → IsBalanced (first_mark marked ++ (t ++ last_mark marked))
marked_balanced true t h = record {
  balanced = omega (arith, marks_append 0xa8 (first_mark true) (t ++ last_mark true) refl, marks_append 0xa9 (first_mark true) (t ++ last_mark true) refl, marks_append 0xa8 t (last_mark true) h.whole, marks_append 0xa9 t (last_mark true) h.whole, h.balanced);
  whole = whole_append (first_mark true) (t ++ last_mark true) refl (whole_append t (last_mark true) h.whole refl);
}
marked_balanced false t h = joined t [] h empty
