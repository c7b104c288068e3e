-- What the parts of a message gave, one after the other.
use Rattle.std.proofs.Common.{◌≡◌, ℕ, zero, suc, ◌+◌, ◌<◌, ◌≤◌, List, [], ◌∷◌, ◌++◌, append-nil, append_assoc, map, length, get_or, take, drop, refl, sym, ap, subst, ◌∙◌, Option, Global, arith}
use Rattle.std.proofs.lemmas.List.{map-append}
use Rattle.std.proofs.lemmas.Grind.{flat_map-append}
use Rattle.std.specs.Cow.{cow_str_bytes}
use Rattle.std.specs.Option.{option_map}
use Rattle.std.specs.declared.borrow.CowStr.{CowStr}
use Rattle.fluent_ast.specs.Tree.{Text, Pattern, Attributes}
use Rattle.fluent_ast.specs.View.{attribute_view}
use Rattle.fluent_ast.specs.declared.ast.Attribute.{Attribute}
use Rattle.fluent_semantics.specs.Errors.{Error}
use Rattle.fluent_semantics.specs.Value.{Value}
use Rattle.fluent_semantics.specs.Arguments.{Map}
use Rattle.fluent_semantics.specs.Bundle.{Bundle}
use Rattle.fluent_resolver_state.specs.Status.{reported}
use Rattle.fluent_bundle_entries.specs.declared.errors.FluentError.{FluentError}
use Rattle.fluent_bundle.specs.Formatted.{AddsAll, AddsPrefix, attribute_errors, attribute_shown, attribute_texts, errors_of, text_of, value_text, MessageText}
use Rattle.fluent_bundle.specs.declared.messages.FormattedAttribute.{FormattedAttribute}

-- ---- errors that are added one after the other

pub adds_none : (list : List FluentError) → AddsAll [] list list
adds_none list = record { added = sym (append-nil (reported list)) }

pub adds_both : (es fs : List Error) (list list' list'' : List FluentError) → AddsAll es list list' → AddsAll fs list' list'' → AddsAll (es ++ fs) list list''
adds_both es fs list list' list'' h k = record { added = k.added ∙ ap (λ r. r ++ fs) h.added ∙ append_assoc (reported list) es fs }

pub prefix_of_all : (es : List Error) (list list' : List FluentError) → AddsAll es list list' → AddsPrefix es list list'
prefix_of_all es list list' h = record { prefix = es; rest = []; whole = append-nil es; adds = h }

pub prefix_first : (es fs : List Error) (list list' : List FluentError) → AddsPrefix es list list' → AddsPrefix (es ++ fs) list list'
prefix_first es fs list list' h = record {
  prefix = h.prefix;
  rest = h.rest ++ fs;
  whole = sym (append_assoc h.prefix h.rest fs) ∙ ap (λ e. e ++ fs) h.whole;
  adds = h.adds;
}

pub prefix_second : (es fs : List Error) (list list' list'' : List FluentError) → AddsAll es list list' → AddsPrefix fs list' list'' → AddsPrefix (es ++ fs) list list''
prefix_second es fs list list' list'' h k = record {
  prefix = es ++ k.prefix;
  rest = k.rest;
  whole = append_assoc es k.prefix k.rest ∙ ap (λ e. es ++ e) k.whole;
  adds = adds_both es k.prefix list list' list'' h k.adds;
}

-- ---- a list up to an index

next_one : {A B : Type 0} (f : A → B) (xs : List A) (i : ℕ) (x : A) → i < length xs → x ≡ get_or xs i x → map f (take (suc i) xs) ≡ map f (take i xs) ++ f x ∷ []
next_one f [] i x fits is = absurd (omega arith)
next_one f (y ∷ xs) zero x fits is = ap (λ z. f z ∷ []) (sym is)
next_one f (y ∷ xs) (suc i) x fits is = ap (λ l. f y ∷ l) (next_one f xs i x (omega arith) is)

pub one_more : {A B : Type 0} (f : A → B) (xs : List A) (i : ℕ) (x : A) → i < length xs → x ≡ get_or xs i x → map f (take (i + 1) xs) ≡ map f (take i xs) ++ f x ∷ []
one_more f xs i x fits is =
    let next : i + 1 ≡ suc i = omega arith in
    ap (λ n. map f (take n xs)) next ∙ next_one f xs i x fits is

pub take_all : {A : Type 0} (xs : List A) (n : ℕ) → length xs ≤ n → take n xs ≡ xs
take_all [] zero fits = refl
take_all [] (suc n) fits = refl
take_all (x ∷ xs) zero fits = absurd (omega arith)
take_all (x ∷ xs) (suc n) fits = ap (λ l. x ∷ l) (take_all xs n (omega arith))

pub all_parts : {A B : Type 0} (f : A → B) (xs : List A) (i : ℕ) (x : A) → i < length xs → x ≡ get_or xs i x → map f xs ≡ map f (take i xs) ++ f x ∷ map f (drop (suc i) xs)
all_parts f [] i x fits is = absurd (omega arith)
all_parts f (y ∷ xs) zero x fits is = ap (λ z. f z ∷ map f xs) (sym is)
all_parts f (y ∷ xs) (suc i) x fits is = ap (λ l. f y ∷ l) (all_parts f xs i x (omega arith) is)

-- ---- attributes so far, and one more

-- a value and attributes
abbrev told : Option Text → List (Text × Text) → MessageText
told value attributes = record { value = value; attributes = attributes }

module _ (b : Bundle Text) (args : Map (Value Text)) where
  pub texts_more : (made made' : List FormattedAttribute) (a : FormattedAttribute) (done done' : Attributes) (v : Text × Pattern) → made' ≡ made ++ a ∷ [] → map attribute_shown made ≡ attribute_texts b args done
      → done' ≡ done ++ v ∷ [] → attribute_shown a ≡ (v.0, text_of b args v.1) → map attribute_shown made' ≡ attribute_texts b args done'
  texts_more made made' a done done' v grew same more one =
      ap (map attribute_shown) grew
      ∙ map-append attribute_shown made (a ∷ [])
      ∙ ap (λ l. l ++ attribute_shown a ∷ []) same
      ∙ ap (λ s. attribute_texts b args done ++ s ∷ []) one
      ∙ sym (map-append (λ w. (w.0, text_of b args w.1)) done (v ∷ []))
      ∙ sym (ap (attribute_texts b args) more)

  errors_then : (done left : Attributes) (v : Text × Pattern) → attribute_errors b args (done ++ v ∷ left) ≡ attribute_errors b args done ++ (errors_of b args v.1 ++ attribute_errors b args left)
  errors_then done left v = flat_map-append (λ a. errors_of b args a.1) done (v ∷ left)

  pub errors_more : (done done' : Attributes) (v : Text × Pattern) (list list' list'' : List FluentError) → done' ≡ done ++ v ∷ [] → AddsAll (attribute_errors b args done) list list' → AddsAll (errors_of b args v.1) list' list''
      → AddsAll (attribute_errors b args done') list list''
  errors_more done done' v list list' list'' more h k =
      subst (λ es. AddsAll es list list'') (sym (ap (attribute_errors b args) more ∙ errors_then done [] v ∙ ap (λ es. attribute_errors b args done ++ es) (append-nil (errors_of b args v.1))))
      (adds_both (attribute_errors b args done) (errors_of b args v.1) list list' list'' h k)

  pub prefix_at : (all done left : Attributes) (v : Text × Pattern) (list list' list'' : List FluentError) → all ≡ done ++ v ∷ left → AddsAll (attribute_errors b args done) list list' → AddsPrefix (errors_of b args v.1) list' list''
      → AddsPrefix (attribute_errors b args all) list list''
  prefix_at all done left v list list' list'' parts h k =
      subst (λ es. AddsPrefix es list list'') (sym (ap (attribute_errors b args) parts ∙ errors_then done left v))
      (prefix_second (attribute_errors b args done) (errors_of b args v.1 ++ attribute_errors b args left) list list' list'' h (prefix_first (errors_of b args v.1) (attribute_errors b args left) list' list'' k))

  -- a list that was gone over
  pub texts_of_done : (xs : List Attribute) (n : ℕ) (made : List FormattedAttribute) → length xs ≤ n → map attribute_shown made ≡ attribute_texts b args (map attribute_view (take n xs)) → map attribute_shown made ≡ attribute_texts b args (map attribute_view xs)
  texts_of_done xs n made fits h = h ∙ ap (λ ys. attribute_texts b args (map attribute_view ys)) (take_all xs n fits)

  pub errors_of_done : (xs : List Attribute) (n : ℕ) (list list' : List FluentError) → length xs ≤ n → AddsAll (attribute_errors b args (map attribute_view (take n xs))) list list' → AddsAll (attribute_errors b args (map attribute_view xs)) list list'
  errors_of_done xs n list list' fits = subst (λ ys. AddsAll (attribute_errors b args (map attribute_view ys)) list list') (take_all xs n fits)

  -- attributes after a value
  pub parts_texts : (value : Option (CowStr Global)) (p : Option Pattern) (made : List FormattedAttribute) (xs ys : List Attribute) → xs ≡ ys → option_map cow_str_bytes value ≡ value_text b args p → map attribute_shown made ≡ attribute_texts b args (map attribute_view xs)
      → told (option_map cow_str_bytes value) (map attribute_shown made) ≡ told (value_text b args p) (attribute_texts b args (map attribute_view ys))
  parts_texts value p made xs ys same h k =
      ap (λ v. told v (map attribute_shown made)) h
      ∙ ap (told (value_text b args p)) (k ∙ ap (λ zs. attribute_texts b args (map attribute_view zs)) same)

  pub parts_all : (es : List Error) (xs ys : List Attribute) (list list' list'' : List FluentError) → xs ≡ ys → AddsAll es list list' → AddsAll (attribute_errors b args (map attribute_view xs)) list' list''
      → AddsAll (es ++ attribute_errors b args (map attribute_view ys)) list list''
  parts_all es xs ys list list' list'' same h k =
      adds_both es (attribute_errors b args (map attribute_view ys)) list list' list'' h (subst (λ zs. AddsAll (attribute_errors b args (map attribute_view zs)) list' list'') same k)

  pub parts_prefix : (es : List Error) (xs ys : List Attribute) (list list' list'' : List FluentError) → xs ≡ ys → AddsAll es list list' → AddsPrefix (attribute_errors b args (map attribute_view xs)) list' list''
      → AddsPrefix (es ++ attribute_errors b args (map attribute_view ys)) list list''
  parts_prefix es xs ys list list' list'' same h k =
      prefix_second es (attribute_errors b args (map attribute_view ys)) list list' list'' h (subst (λ zs. AddsPrefix (attribute_errors b args (map attribute_view zs)) list' list'') same k)
