-- How deep references are followed makes no difference to what is ahead, once it is more than the budget.
use Rattle.std.proofs.Common.{◌≡◌, ℕ, zero, suc, ◌≤◌, ◌<◌, ◌++◌, List, [], Bool, true, false, length, refl, sym, ap, arith, ◌∷◌}
use Rattle.std.specs.Bool.{⊤}
use Rattle.fluent_ast.specs.Tree.{Text, Pattern}
use Rattle.fluent_semantics.specs.Errors.{ResolverError, resolver_error, too_many_placeables}
use Rattle.fluent_semantics.specs.Bundle.{Bundle}
use Rattle.fluent_semantics.specs.Walk.{Environment, has_one, inner, whole, deep}
use Rattle.fluent_semantics.specs.Meaning.{Budget, left, limit_reached, at_most, first_mark, last_mark, ending}
use Rattle.fluent_semantics.specs.Events.{writes, told, opened, reached_limit, entered}
use Rattle.fluent_semantics.specs.Ahead.{after, begins, Next, Ahead, put, element_ahead, opens_ahead, ahead, comes}
use Rattle.fluent_semantics.proofs.Related.{Relation, elements_related}

module _ {C : Type 0} where
  -- two that follow, from this budget on
  abbrev Agree : {A : Type 0} → Budget → Next C A → Next C A → Type 0
  Agree {A} b j l = (x : A) (c : Budget) → at_most c ≤ at_most b → j x c ≡ l x c

  abbrev Alike : ℕ → {A : Type 0} → Ahead C A → Ahead C A → Type 0
  Alike n m k = (w : Bool) (j l : Next C _) (b : Budget) → at_most b < n → Agree b j l → m w j b ≡ k w l b

  put_alike : (w : Bool) (t : Text) (j l : Next C Text) (b : Budget) → ((u : Text) → j u b ≡ l u b) → put w t j b ≡ put w t l b
  put_alike true t j l b h = ap (after (writes t)) (h [])
  put_alike false t j l b h = h t

  gives_alike : (n : ℕ) {A : Type 0} (x : A) → Alike n ((ahead C).give x) ((ahead C).give x)
  gives_alike n x w j l b u h = h x b (omega arith)

  bind_alike : (n : ℕ) {A B : Type 0} (m k : Ahead C A) (f g : A → Ahead C B) → Alike n m k → ((x : A) → Alike n (f x) (g x)) → Alike n ((ahead C).bind m f) ((ahead C).bind k g)
  bind_alike n m k f g h i w j l b u e = ap begins (h false (λ x. f x w j) (λ x. g x w l) b u (λ x c le. i x w j l c (omega (arith, u, le)) (λ y d le'. e y d (omega (arith, le, le')))))

  element_alike : (n : ℕ) (m k m' k' : Ahead C Text) → Alike n m m' → Alike n k k' → Alike n (element_ahead m k) (element_ahead m' k')
  element_alike n m k m' k' h i w j l (left b) u e =
      ap begins (h w (λ t. put w t (λ y. k w (λ v. j (y ++ v)))) (λ t. put w t (λ y. k' w (λ v. l (y ++ v)))) (left b) u
      (λ t c le. put_alike w t (λ y. k w (λ v. j (y ++ v))) (λ y. k' w (λ v. l (y ++ v))) c
      (λ y. i w (λ v. j (y ++ v)) (λ v. l (y ++ v)) c (omega (arith, u, le)) (λ v d le'. e (y ++ v) d (omega (arith, le, le'))))))
  element_alike n m k m' k' h i w j l limit_reached u e = e [] limit_reached (omega arith)

  opens_alike : (n : ℕ) (marked : Bool) (t : Text) (m k : Ahead C Text) → Alike n m k → Alike (suc n) (opens_ahead marked t m) (opens_ahead marked t k)
  opens_alike n marked t m k h w j l (left zero) u e = ap (after (reached_limit ∷ told (resolver_error too_many_placeables) ∷ [])) (e [] limit_reached (omega arith))
  opens_alike n marked t m k h w j l (left (suc b)) u e =
      let tail : Next C Text → Text → Text → Next C Text = λ q y v. λ x. q (y ++ (v ++ x)) in
      let close : Next C Text → Text → Next C Text = λ q y t'. put w t' (λ v c. put w (ending t c ++ last_mark marked) (tail q y v) c) in
      ap (λ r. after (opened ∷ []) (begins r)) (put_alike w (first_mark marked) (λ y. m w (close j y)) (λ y. k w (close l y)) (left b)
      (λ y. h w (close j y) (close l y) (left b) (omega (arith, u))
      (λ t' c le. put_alike w t' (λ v d. put w (ending t d ++ last_mark marked) (tail j y v) d) (λ v d. put w (ending t d ++ last_mark marked) (tail l y v) d) c
      (λ v. put_alike w (ending t c ++ last_mark marked) (tail j y v) (tail l y v) c (λ x. e (y ++ (v ++ x)) c (omega (arith, le)))))))
  opens_alike n marked t m k h w j l limit_reached u e = e [] limit_reached (omega arith)

  enters_alike : (n i : ℕ) (m k : Ahead C Text) → Alike n m k → Alike n ((ahead C).enters i m) ((ahead C).enters i k)
  enters_alike n i m k h w j l b u e = ap (λ r. after (entered i ∷ []) (begins r)) (h w j l b u e)

  fails_alike : (n : ℕ) {A : Type 0} (e : ResolverError) (x : A) → Alike n ((ahead C).fails e x) ((ahead C).fails e x)
  fails_alike n e x w j l b u h = ap (after (told (resolver_error e) ∷ [])) (h x b (omega arith))

  fewer : (n : ℕ) (m k : Ahead C Text) → Alike (suc n) m k → Alike n m k
  fewer n m k h w j l b u e = h w j l b (omega (arith, u)) e

  abbrev alike : (n : ℕ) → Relation (ahead C) (ahead C)
  alike n = record {
    At = Alike (suc n);
    Part = Alike (suc n);
    In = Alike n;
    Gives = Alike n;
    ends = gives_alike (suc n) [];
    element = λ m k m' k'. element_alike (suc n) m k m' k';
    text = λ t. gives_alike (suc n) t;
    opens = opens_alike n;
    enters = λ i m k h. enters_alike n i m k (fewer n m k h);
    give = λ t. gives_alike n t;
    fails = λ e t i. fails_alike n e t;
    bind = λ m k f g. bind_alike n m k f g;
    give_value = λ x. gives_alike n x;
    bind_value = λ m k f g. bind_alike n m k f g;
    value_of = λ m k v h. bind_alike n m k (λ t. (ahead C).give (v t)) (λ t. (ahead C).give (v t)) h (λ t. gives_alike n (v t));
  }

  module _ (b : Bundle C) where
    whole_alike : (n : ℕ) (f g : Environment C → List Pattern → Pattern → Ahead C Text) → ((env : Environment C) (path : List Pattern) (p : Pattern) → Alike n (f env path p) (g env path p)) → (env : Environment C) (path : List Pattern) (p : Pattern) → Alike (suc n) (whole (ahead C) b f env path p) (whole (ahead C) b g env path p)
    whole_alike n f g h env path p =
        enters_alike (suc n) (length (inner path p)) _ _
        (elements_related (ahead C) (ahead C) (alike n) b f g env (λ q. ⊤) (λ q. ⊤) (λ a id q e. tt) (λ a id q e. tt) (λ q p' u. tt) (λ env' path' q u k e. h env' _ q) (inner path p) (has_one p) p tt)

    deep_alike : (f g : ℕ) → f ≤ g → (env : Environment C) (path : List Pattern) (p : Pattern) → Alike f (deep (ahead C) b f env path p) (deep (ahead C) b g env path p)
    deep_alike zero g h env path p w j l budget u e = absurd (omega (arith, u))
    deep_alike (suc f) zero h env path p w j l budget u e = absurd (omega (arith, h))
    deep_alike (suc f) (suc g) h env path p w j l budget u e = whole_alike f _ _ (deep_alike f g (omega (arith, h))) env path p w j l budget u e

    comes_alike : (n : ℕ) (env : Environment C) (path : List Pattern) (p : Pattern) → Alike n (deep (ahead C) b n env path p) (comes b env path p)
    unfolding comes
    comes_alike n env path p w j l budget u e =
        sym (deep_alike (suc (at_most budget)) n (omega (arith, u)) env path p w l j budget (omega arith) (λ x c le. sym (e x c le)))

    -- what is ahead of a pattern, by what is ahead of those that it refers to
    pub comes_step : (env : Environment C) (path : List Pattern) (p : Pattern) (w : Bool) (k : Next C Text) (budget : Budget) → comes b env path p w k budget ≡ whole (ahead C) b (comes b) env path p w k budget
    unfolding comes
    comes_step env path p w k budget = whole_alike (at_most budget) _ _ (comes_alike (at_most budget)) env path p w k k budget (omega arith) (λ x c le. refl)
