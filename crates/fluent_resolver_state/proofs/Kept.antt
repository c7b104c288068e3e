-- What is kept of patterns, and of which pattern that is.
use Rattle.std.proofs.Common.{◌≡◌, ℕ, zero, suc, ◌+◌, ◌<◌, List, [], ◌∷◌, length, get_or, drop, map, ap, sym, ◌∙◌, arith, refl, slice_get, Option, None, Some, unwrap_or, Bool, false, cond}
use Rattle.std.specs.Borrow.{Bor}
use Rattle.std.specs.Option.{option_copied}
use Rattle.fluent_ast.specs.Tree.{Text}
use Rattle.fluent_ast.specs.View.{attribute_view, pattern_view}
use Rattle.fluent_ast.specs.declared.ast.Attribute.{Attribute}
use Rattle.fluent_semantics.specs.Bundle.{first_of, found}
use Rattle.fluent_semantics.specs.Number.{is_text}
use Rattle.fluent_resolver_state.specs.Facts.Lists.{next_of}

-- the first after so many is the one at that cursor
pub first_after : {X : Type 0} (xs : List X) (i : ℕ) → slice_get (drop i xs) 0 ≡ slice_get xs i
first_after [] zero = refl
first_after [] (suc i) = refl
first_after (x ∷ xs) zero = refl
first_after (x ∷ xs) (suc i) = first_after xs i

-- the pattern of the attribute at a cursor
pub pattern_at : (xs : List Attribute) (i : ℕ) (x : Attribute) → i < length xs → x ≡ get_or xs i x → slice_get (map (λ a. pattern_view a.value) xs) i ≡ Some (pattern_view x.value)
pattern_at [] i x h is = absurd (omega arith)
pattern_at (y ∷ ys) zero x h is = ap (λ x. Some (pattern_view x.value)) (sym is)
pattern_at (y ∷ ys) (suc i) x h is = pattern_at ys i x (omega (arith, h)) is

-- what is borrowed is what it is borrowed from
pub borrowed_from : {X : Type 0} (o : Option (Bor X)) (p : Option X) (b : Bor X) → option_copied o ≡ p → o ≡ Some b → p ≡ Some b.now
borrowed_from o p b copied is = sym copied ∙ ap option_copied is

pub borrowed_none : {X : Type 0} (o : Option (Bor X)) (p : Option X) → option_copied o ≡ p → o ≡ None → p ≡ None
borrowed_none o p copied is = sym copied ∙ ap option_copied is

pub value_is : {X : Type 0} (x y : X) → Some x ≡ Some y → x ≡ y
value_is x y h = ap (λ o. unwrap_or o x) h

-- an attribute of another name is not the first of this one
pub not_named : (name : Text) (xs : List Attribute) (i : ℕ) (x : Attribute) → i < length xs → x ≡ get_or xs i x → (r : Bool) → r ≡ is_text x.id.name.now name → r ≡ false → first_of name (map attribute_view (drop i xs)) ≡ first_of name (map attribute_view (drop (i + 1) xs))
not_named name xs i x h is r like other =
    ap (λ l. first_of name (map attribute_view l)) (next_of xs i x h is)
    ∙ ap (λ b. cond b (found (pattern_view x.value)) (first_of name (map attribute_view (drop (i + 1) xs)))) (sym like ∙ other)
