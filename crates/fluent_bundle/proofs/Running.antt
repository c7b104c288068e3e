-- A list of calls, one more at its end.
use Rattle.std.specs.Prelude.{◌≡◌, List, [], ◌∷◌, ◌++◌, map, Option, refl, Result, Ok, Err, OnOk, OnErr}
use Rattle.std.proofs.Common.{sym, ◌∙◌, ap, subst}
use Rattle.std.specs.List.{All}
use Rattle.std.proofs.lemmas.List.{map-append, map-id}
use Rattle.std.proofs.lemmas.List.Elements.{All-head, All-tail}
use Rattle.fluent_ast.specs.Tree.{Text}
use Rattle.fluent_semantics.specs.Bundle as m
use Rattle.fluent_semantics.specs.Bundle.{Bundle, after, after_all}
use Rattle.fluent_bundle.specs.BundleView.{formatter_in, intls_in, transform_in, KeepsSettings, KeepsLanguages}
use Rattle.fluent_bundle.specs.Calls.{Makes, BegunBy, IsSetting, transform_after_all, formatter_after_all}
use Rattle.fluent_bundle.specs.declared.bundle.FluentBundle.{FluentBundle}
use Rattle.fluent_bundle.specs.declared.calls.Call.{Call}

-- what holds in any case
pub on_err : {T E P : Type 0} (r : Result T E) → P → OnErr r P
on_err (Ok x) p = tt
on_err (Err e) p = p

pub on_ok : {T E P : Type 0} (r : Result T E) → P → OnOk r P
on_ok (Ok x) p = p
on_ok (Err e) p = tt

-- a bundle that is as it was
pub kept_as_is : {M C F G X : Type 0} (b : FluentBundle M C F G X) → KeepsSettings b b
kept_as_is b = record { beside = record { locales = refl; intls = refl }; transform = refl; formatter = refl }

-- ---- one list of calls after another

after_more : {C : Type 0} (cs ds : List (m.Call C)) (b : Bundle C) → after_all (cs ++ ds) b ≡ after_all ds (after_all cs b)
after_more [] ds b = refl
after_more (c ∷ cs) ds b = after_more cs ds (after c b)

transform_more : {F G X : Type 0} (cs ds : List (Call F G X)) (held : Option X) → transform_after_all (cs ++ ds) held ≡ transform_after_all ds (transform_after_all cs held)
transform_more [] ds held = refl
transform_more (c ∷ cs) ds held = transform_more cs ds _

formatter_more : {F G X : Type 0} (cs ds : List (Call F G X)) (held : Option G) → formatter_after_all (cs ++ ds) held ≡ formatter_after_all ds (formatter_after_all cs held)
formatter_more [] ds held = refl
formatter_more (c ∷ cs) ds held = formatter_more cs ds _

beside_on : {M C F G X : Type 0} (a b c : FluentBundle M C F G X) → KeepsLanguages a b → KeepsLanguages b c → KeepsLanguages a c
beside_on a b c h k = record { locales = k.locales ∙ h.locales; intls = k.intls ∙ h.intls }

module _ {M C F G X : Type 0} (of : FluentBundle M C F G X → Bundle Text) (ask : Call F G X → m.Call Text) where
  -- no call leaves a bundle as it is
  pub none_made : (a : FluentBundle M C F G X) → Makes of ask [] a a
  none_made a = record { meaning = refl; beside = record { locales = refl; intls = refl }; transform = refl; formatter = refl }

  pub made_on : (cs ds : List (Call F G X)) (a b c : FluentBundle M C F G X) → Makes of ask cs a b → Makes of ask ds b c → Makes of ask (cs ++ ds) a c
  made_on cs ds a b c h k = record {
    meaning = k.meaning ∙ ap (after_all (map ask ds)) h.meaning ∙ sym (ap (λ es. after_all es (of a)) (map-append ask cs ds) ∙ after_more (map ask cs) (map ask ds) (of a));
    beside = beside_on a b c h.beside k.beside;
    transform = k.transform ∙ ap (transform_after_all ds) h.transform ∙ sym (transform_more cs ds (transform_in a));
    formatter = k.formatter ∙ ap (formatter_after_all ds) h.formatter ∙ sym (formatter_more cs ds (formatter_in a));
  }

  -- each call of a list
  pub all_made : (cs all : List (Call F G X)) (a b : FluentBundle M C F G X) → map (λ y. y) cs ≡ all → Makes of ask cs a b → Makes of ask all a b
  all_made cs all a b h = subst (λ ds. Makes of ask ds a b) (sym (map-id cs) ∙ h)

  -- a bundle as it was
  pub made_still : (cs : List (Call F G X)) (a b c : FluentBundle M C F G X) → Makes of ask cs a b → of c ≡ of b → KeepsSettings b c → Makes of ask cs a c
  made_still cs a b c h same kept = record {
    meaning = same ∙ h.meaning;
    beside = beside_on a b c h.beside kept.beside;
    transform = kept.transform ∙ h.transform;
    formatter = kept.formatter ∙ h.formatter;
  }

module _ {M C F G X : Type 0} (of : FluentBundle M C F G X → Bundle Text) (ask : M → Call F G X → m.Call Text) where
  -- one more call, asked by the plural source of the bundle on the way
  pub one_made : (cs : List (Call F G X)) (d : Call F G X) (a b c : FluentBundle M C F G X) → Makes of (ask (intls_in a)) cs a b → Makes of (ask (intls_in b)) (d ∷ []) b c → Makes of (ask (intls_in a)) (cs ++ d ∷ []) a c
  one_made cs d a b c h k = made_on of (ask (intls_in a)) cs (d ∷ []) a b c h (subst (λ i. Makes of (ask i) (d ∷ []) b c) h.beside.intls k)

  -- where a call is refused, which takes memory, those before it were made
  pub begun_by : (all cs ds : List (Call F G X)) (d : Call F G X) (a b c : FluentBundle M C F G X) → all ≡ cs ++ d ∷ ds → (IsSetting d → ⊥) → Makes of (ask (intls_in a)) cs a b → (of c ≡ of b) × KeepsSettings b c → BegunBy of (ask (intls_in a)) all a c
  begun_by all cs ds d a b c whole takes h same = record { made = cs; alloc_failed = d; undone = ds; whole = whole; takes = takes; makes = made_still of (ask (intls_in a)) cs a b c h same.0 same.1 }

-- what holds of all holds of each
of_each : {K : Type 0} (P : K → Type 0) (cs : List K) (d : K) (ds : List K) → All P (cs ++ d ∷ ds) → P d
of_each P [] d ds h = All-head P d ds h
of_each P (c ∷ cs) d ds h = of_each P cs d ds (All-tail P c (cs ++ d ∷ ds) h)

pub of_this : {K : Type 0} (P : K → Type 0) (all cs : List K) (d : K) (ds : List K) → all ≡ cs ++ d ∷ ds → All P all → P d
of_this P all cs d ds whole h = of_each P cs d ds (subst (All P) whole h)
