-- Steps of a path: the contents on it, and their classes.
use Rattle.std.specs.Prelude.{◌≡◌, ℕ, zero, suc, ◌+◌, ◌<◌, ◌↔◌, List, [], ◌∷◌, ◌++◌, length, map, Bool, true, false, nat_eq, Option, None, Some, IsSome, is_none, is_some, refl}
use Rattle.std.specs.Bool.{OnTrue}
use Rattle.std.specs.Borrow.{Bor}
use Rattle.std.specs.Option.{option_map, option_to_list}
use Rattle.std.proofs.Common.{sym, ◌∙◌, ap, arith, append-nil, append_assoc, length-append}
use Rattle.std.proofs.lemmas.Bool.{eqb-true, false≢true, true≢false}
use Rattle.std.proofs.lemmas.List.{map-append, nil_from_length}
use Rattle.fluent_ast.specs.Tree.{Pattern}
use Rattle.fluent_ast.specs.View.{pattern_view}
use Rattle.fluent_ast.specs.declared.ast.Pattern as of_pattern
use Rattle.fluent_path.specs.Contents.{above_of, above_on, by_classes, content_above, contents, front, is_idle, on_path}
use Rattle.fluent_path.specs.declared.path.Above.{Above}
use Rattle.fluent_path.specs.declared.path.Above.TheVariants as above
use Rattle.fluent_path.specs.declared.path.Path.{Path}
use Rattle.fluent_path.specs.declared.path.Top.{Top}

pub always : {P : Type 0} (b : Bool) → P → OnTrue b P
always true h = h
always false h = tt

-- one more
pub put_more : (table : List Pattern) (o : Option Pattern) (p q : Pattern) (xs : List Above) (a : Above) → o ≡ Some p → content_above table a ≡ q → contents table o (xs ++ a ∷ []) ≡ contents table o xs ++ q ∷ []
put_more table o p q xs a is named =
    ap (λ o. contents table o (xs ++ a ∷ [])) is
    ∙ ap (λ qs. p ∷ qs) (map-append (content_above table) xs (a ∷ []) ∙ ap (λ q. map (content_above table) xs ++ q ∷ []) named)
    ∙ ap (λ o. contents table o xs ++ q ∷ []) (sym is)

pub front_snoc : {X : Type 0} (xs : List X) (x : X) → front (xs ++ x ∷ []) ≡ xs
front_snoc [] x = refl
front_snoc (y ∷ []) x = refl
front_snoc (y ∷ z ∷ zs) x = ap (λ r. y ∷ r) (front_snoc (z ∷ zs) x)

pub some_cursors : (n : ℕ) (b : Bool) → b ≡ nat_eq n 0 → b ≡ false → 0 < n
some_cursors zero b is h = absurd (true≢false (sym is ∙ h))
some_cursors (suc n) b is h = omega arith

-- the last is taken off
taken_off : (table : List Pattern) (o : Option Pattern) (old new : List Above) (r : Option Above) → old ≡ new ++ option_to_list r → (IsSome r ↔ (0 < length old)) → 0 < length old → contents table o new ≡ front (contents table o old)
taken_off table None old new r is some lt = refl
taken_off table (Some p) old new None is some lt = absurd (false≢true (some.1 lt))
taken_off table (Some p) old new (Some a) is some lt =
    sym (front_snoc (p ∷ map (content_above table) new) (content_above table a))
    ∙ ap front (sym (put_more table (Some p) p (content_above table a) new a refl refl)) ∙ ap (λ xs. front (contents table (Some p) xs)) (sym is)

pub some_above : (o : Option Top) → is_some (option_map above_of o) ≡ is_some o
some_above None = refl
some_above (Some t) = refl

-- of those that were pushed, where none is on top
taken_pushed : (table : List Pattern) (o : Option Pattern) (t : Option Top) (old new : List Above) (r : Option Above) → t ≡ None → old ≡ new ++ option_to_list r → IsSome r → contents table o (new ++ option_to_list (option_map above_of t)) ≡ front (contents table o (old ++ option_to_list (option_map above_of t)))
taken_pushed table o t old new None none is some = absurd (false≢true some)
taken_pushed table o t old new (Some a) none is some =
    ap (λ t. contents table o (new ++ option_to_list (option_map above_of t))) none
    ∙ ap (contents table o) (append-nil new)
    ∙ taken_off table o old new (Some a) is (λ _. longer, λ _. refl) longer
    ∙ ap (λ xs. front (contents table o xs)) (sym (append-nil old))
    ∙ ap (λ t. front (contents table o (old ++ option_to_list (option_map above_of t)))) (sym none)
  where
    longer : 0 < length old
    longer = let n = ap length is in let m : length (new ++ a ∷ []) ≡ length new + 1 = length-append new (a ∷ []) in omega (arith, n, m)

-- the last of those that stand above the ones with classes
pub taken_mixed : (table : List Pattern) (o : Option Pattern) (t : Option Top) (cs : List ℕ) (old new : List Above) (r : Option Above) → t ≡ None → old ≡ new ++ option_to_list r → IsSome r → contents table o ((by_classes cs ++ new) ++ option_to_list (option_map above_of t)) ≡ front (contents table o ((by_classes cs ++ old) ++ option_to_list (option_map above_of t)))
taken_mixed table o t cs old new r none is some =
    taken_pushed table o t (by_classes cs ++ old) (by_classes cs ++ new) r none (ap (λ xs. by_classes cs ++ xs) is ∙ sym (append_assoc (by_classes cs) new (option_to_list r))) some

-- the last of those with classes, where none stand above these
pub taken_class : (table : List Pattern) (o : Option Pattern) (t : Option Top) (old new : List ℕ) (r : Option ℕ) (ms : List Above) → t ≡ None → ms ≡ [] → old ≡ new ++ option_to_list r → IsSome r → contents table o ((by_classes new ++ ms) ++ option_to_list (option_map above_of t)) ≡ front (contents table o ((by_classes old ++ ms) ++ option_to_list (option_map above_of t)))
taken_class table o t old new None ms none empty is some = absurd (false≢true some)
taken_class table o t old new (Some c) ms none empty is some =
    taken_pushed table o t (by_classes old ++ ms) (by_classes new ++ ms) (Some (above.Class c)) none
    (ap (λ ms. by_classes old ++ ms) empty ∙ append-nil (by_classes old) ∙ ap by_classes is ∙ map-append above.Class new (c ∷ [])
    ∙ ap (λ xs. xs ++ above.Class c ∷ []) (sym (append-nil (by_classes new)) ∙ ap (λ ms. by_classes new ++ ms) (sym empty))) refl

-- where it was not, it alone is taken off
pub taken_top : (table : List Pattern) (o : Option Pattern) (t : Option Above) (xs : List Above) → is_some t ≡ true → contents table o (xs ++ []) ≡ front (contents table o (xs ++ option_to_list t))
taken_top table o None xs some = absurd (false≢true some)
taken_top table o (Some a) xs some =
    ap (contents table o) (append-nil xs)
    ∙ taken_off table o (xs ++ a ∷ []) xs (Some a) refl (to_some xs a) (longer xs a)
  where
    longer : (xs : List Above) (a : Above) → 0 < length (xs ++ a ∷ [])
    longer xs a = let n : length (xs ++ a ∷ []) ≡ length xs + 1 = length-append xs (a ∷ []) in omega arith

    to_some : (xs : List Above) (a : Above) → IsSome (Some a) ↔ (0 < length (xs ++ a ∷ []))
    to_some xs a = (λ _. longer xs a, λ _. refl)

-- where none stands there, no content does
pub idle_path : (p : Path) (table : List Pattern) → is_idle p ≡ true → on_path table p ≡ []
unfolding is_idle on_path
idle_path p table h = by p.bottom h
  where
    by : (o : Option (Bor of_pattern.Pattern)) → is_none o ≡ true → contents table (option_map (λ b. pattern_view b.now) o) (above_on p) ≡ []
    by None h = refl
    by (Some b) h = absurd (false≢true h)

pub path_idle : (p : Path) (table : List Pattern) → on_path table p ≡ [] → is_idle p ≡ true
unfolding is_idle on_path
path_idle p table h = by p.bottom h
  where
    by : (o : Option (Bor of_pattern.Pattern)) → contents table (option_map (λ b. pattern_view b.now) o) (above_on p) ≡ [] → is_none o ≡ true
    by None h = refl
    by (Some b) h = absurd cc

-- a path that has the contents of an idle one is idle
pub idle_kept : (p p' : Path) (table table' : List Pattern) → is_idle p ≡ true → on_path table' p' ≡ on_path table p → is_idle p' ≡ true
idle_kept p p' table table' h e = path_idle p' table' (e ∙ idle_path p table h)

-- one more above a first one that is there
pub put_above : (table : List Pattern) (b : Option (Bor of_pattern.Pattern)) (q : Pattern) (xs : List Above) (a : Above) → is_some b ≡ true → content_above table a ≡ q → contents table (option_map (λ b. pattern_view b.now) b) (xs ++ a ∷ []) ≡ contents table (option_map (λ b. pattern_view b.now) b) xs ++ q ∷ []
put_above table None q xs a some named = absurd (false≢true some)
put_above table (Some b) q xs a some named = put_more table (Some (pattern_view b.now)) (pattern_view b.now) q xs a refl named

-- what a test of its length says is empty is so
pub none_there : {X : Type 0} (xs : List X) (n : ℕ) (b : Bool) → n ≡ length xs → b ≡ nat_eq n 0 → b ≡ true → xs ≡ []
none_there xs n b len is h = nil_from_length xs (sym len ∙ eqb-true n 0 (sym is ∙ h))
