-- Calls with the resources that were read for them.
use Rattle.std.specs.Prelude.{◌≡◌, List, [], ◌∷◌, ◌++◌, map, Option, refl}
use Rattle.std.specs.List.{zip}
use Rattle.std.proofs.lemmas.List.{map-append}
use Rattle.std.proofs.lemmas.Simd.{map-map}
use Rattle.std.proofs.Common.{ap, sym, ◌∙◌, Bor}
use Rattle.fluent_ast.specs.Tree.{Text}
use Rattle.fluent_syntax.specs.Chunks.{entries}
use Rattle.fluent_semantics.specs.Value.{Value}
use Rattle.fluent_semantics.specs.Bundle.{Bundle, Call, Function, after_all}
use Rattle.fluent_resource.specs.ResourceView.{entries_of}
use Rattle.fluent_resource.specs.declared.resource.FluentResource.{FluentResource}
use Rattle.fluent_end_to_end_laws.specs.Made.{step}
use Rattle.fluent_end_to_end_laws.specs.Inside.OnTheWay.{source_of, step_over}
use Rattle.fluent_end_to_end_laws.specs.declared.Asked.{Asked}
use Rattle.fluent_end_to_end_laws.specs.declared.Asked.TheVariants.{AddResource, AddResourceOverriding, AddFunction, AddBuiltins, SetUseIsolating, SetTransform, SetFormatter, SetPlaceableLimit}

module _ {M F G X : Type 0} (answer : F → Function Text) (formatted : G → Value Text → M → Option Text) (changed : X → Text → Text) (intls : M) where
  -- a step over the entries of its own source
  own : (a : Asked F G X) → step_over answer formatted changed intls a (entries (source_of a)) ≡ step answer formatted changed intls a
  own (AddResource s) = refl
  own (AddResourceOverriding s) = refl
  own (AddFunction id f) = refl
  own AddBuiltins = refl
  own (SetUseIsolating on) = refl
  own (SetTransform x) = refl
  own (SetFormatter g) = refl
  own (SetPlaceableLimit n) = refl

  pub steps_read : (calls : List (Asked F G X)) (resources : List FluentResource) → map entries_of resources ≡ map (λ a. entries (source_of a)) calls
      → map (λ q. step_over answer formatted changed intls q.0 (entries_of q.1)) (zip calls resources) ≡ map (step answer formatted changed intls) calls
  steps_read [] resources h = refl
  steps_read (a ∷ calls) [] h = absurd (cc h)
  steps_read (a ∷ calls) (r ∷ resources) h =
      let first : entries_of r ≡ entries (source_of a) = cc h in
      let rest : map entries_of resources ≡ map (λ a. entries (source_of a)) calls = cc h in
      ap (λ s. s ∷ map (λ q. step_over answer formatted changed intls q.0 (entries_of q.1)) (zip calls resources)) (ap (step_over answer formatted changed intls a) first ∙ own a)
      ∙ ap (λ ss. step answer formatted changed intls a ∷ ss) (steps_read calls resources rest)

  -- pairs of calls with references to what was read for them
  pub steps_of_pairs : (pairs : List (Asked F G X × Bor FluentResource)) (calls : List (Asked F G X)) (resources : List FluentResource) → map (λ p. (p.0, p.1.now)) pairs ≡ zip calls resources
      → map (λ p. step_over answer formatted changed intls p.0 (entries_of p.1.now)) pairs ≡ map (λ q. step_over answer formatted changed intls q.0 (entries_of q.1)) (zip calls resources)
  steps_of_pairs pairs calls resources h =
      sym (map-map (λ q. step_over answer formatted changed intls q.0 (entries_of q.1)) (λ p. (p.0, p.1.now)) pairs)
      ∙ ap (map (λ q. step_over answer formatted changed intls q.0 (entries_of q.1))) h

-- what two lists are mapped to, with one more at the end of each
pub one_more : {A B S : Type 0} (f : A → S) (h : B → S) (xs ys : List A) (x : A) (zs : List B) (z : B) → ys ≡ xs ++ x ∷ [] → map f xs ≡ map h zs → f x ≡ h z → map f ys ≡ map h (zs ++ z ∷ [])
one_more f h xs ys x zs z grown same one =
    ap (map f) grown ∙ map-append f xs (x ∷ []) ∙ ap (λ ss. ss ++ f x ∷ []) same ∙ ap (λ s. map h zs ++ s ∷ []) one ∙ sym (map-append h zs (z ∷ []))

-- calls that ask for these steps make what the steps make
pub made_after : {M K : Type 0} (ask : M → K → Call Text) (i j : M) (calls : List K) (steps : List (Call Text)) (b e new : Bundle Text) → new ≡ after_all (map (ask i) calls) b → i ≡ j → b ≡ e → map (ask j) calls ≡ steps → new ≡ after_all steps e
made_after ask i j calls steps b e new made same start asks =
    made ∙ ap (after_all (map (ask i) calls)) start ∙ ap (λ k. after_all (map (ask k) calls) e) same ∙ ap (λ cs. after_all cs e) asks
