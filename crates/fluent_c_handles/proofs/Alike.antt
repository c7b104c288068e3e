-- A stock whose functions, formatter and transform answer as one call says; and one to which NUMBER was added.
use Rattle.std.proofs.Common.{◌≡◌, ℕ, Bool, true, false, List, [], ◌∷◌, ◌++◌, map, take, Result, Ok, Err, String, Global, string_bytes, refl, sym, ap, subst, ◌∙◌, ◌||◌, if◌then◌else◌}
use Rattle.std.specs.Prelude.{OnOk, OnErr, ◌≢◌}
use Rattle.std.specs.List.{list_any}
use Rattle.std.proofs.lemmas.List.{map-append}
use Rattle.std.proofs.lemmas.Result.{on_ok_weaker}
use Rattle.fluent_ast.specs.Tree as t
use Rattle.fluent_ast.specs.Tree.{Text}
use Rattle.fluent_semantics.specs.Arguments.{set}
use Rattle.fluent_semantics.specs.Bundle.{Bundle, Function, a_function, add_builtins}
use Rattle.fluent_semantics.specs.Errors.{Error}
use Rattle.fluent_semantics.specs.Number.{is_text}
use Rattle.fluent_bundle.specs.BundleView.{AnswersCall, with_function}
use Rattle.fluent_bundle.specs.declared.bundle.AddFault.{AddFault}
use Rattle.fluent_bundle.specs.declared.bundle.AddFault.TheVariants as add
use Rattle.fluent_answers.specs.Tables.{Table}
use Rattle.fluent_c_handles.specs.Answers.{bundle_view, declared_view, stock_content}
use Rattle.fluent_c_handles.specs.Family.{Declares, formatter_at, ids_at, transform_at, with_name}
use Rattle.fluent_c_handles.specs.Inside.Put.{PutsSome, changed_by, shown_by, with_functions}
use Rattle.fluent_c_handles.specs.Inside.Resources.{AllFrom, AreAmong}
use Rattle.fluent_c_handles.specs.declared.stock.Stock.{Stock}
use Rattle.fluent_c_handles.proofs.Family.{puts_at, rises, whole}
use Rattle.fluent_c_handles.proofs.Opens.{is_none, no_formatter, no_transform}
use Rattle.fluent_c_handles.proofs.Ordered.{ids_rise}
use Rattle.fluent_c_handles.proofs.Stocks.{among_builtins, among_declared, content, from_builtins, from_declared}

-- ---- bundles that are the same by all answers

pub record Alike (b b' : Bundle Text) : Type 0 where
  pub ids : (all : Table) → ids_at all b'.ids ≡ ids_at all b.ids
  pub isolates : b'.isolates ≡ b.isolates
  pub plurals : b'.plurals ≡ b.plurals
  pub custom : b'.custom ≡ b.custom
  pub limit : b'.limit ≡ b.limit

pub alike_itself : (b : Bundle Text) → Alike b b
alike_itself b = record { ids = λ all. refl; isolates = refl; plurals = refl; custom = refl; limit = refl }

pub alike_then : (a b c : Bundle Text) → Alike a b → Alike b c → Alike a c
alike_then a b c p q = record {
  ids = λ all. q.ids all ∙ p.ids all;
  isolates = q.isolates ∙ p.isolates;
  plurals = q.plurals ∙ p.plurals;
  custom = q.custom ∙ p.custom;
  limit = q.limit ∙ p.limit;
}

pub alike_content : (d : Declares) (b b' : Bundle Text) (told : Text) → Alike b b' → content d b' told ≡ content d b told
alike_content d b b' told s = λ i. record {
  by = λ all. record {
    ids = s.ids all i;
    isolates = s.isolates i;
    transform = transform_at all d.transform;
    formatter = formatter_at all d.formatter;
    plurals = s.plurals i;
    custom = s.custom i;
    limit = s.limit i;
  };
  declared = d;
  told = told;
}

pub put_alike : (t : Table) (names : List Text) (b b' : Bundle Text) → rises b.ids → PutsSome t names b b' → Alike b b'
put_alike t names b b' r some = subst (Alike b) (sym some.is) (record { ids = λ all. puts_at t all (take some.count names) b.ids r; isolates = refl; plurals = refl; custom = refl; limit = refl })

shown_alike_by : (t : Table) (on : Bool) (b : Bundle Text) → Alike b (shown_by t on b)
shown_alike_by t true b = record { ids = λ all. refl; isolates = refl; plurals = refl; custom = refl; limit = refl }
shown_alike_by t false b = alike_itself b

changed_alike_by : (t : Table) (on : Bool) (b : Bundle Text) → Alike b (changed_by t on b)
changed_alike_by t true b = record { ids = λ all. refl; isolates = refl; plurals = refl; custom = refl; limit = refl }
changed_alike_by t false b = alike_itself b

module _ {E : Type 0} (t : Table) (on : Bool) (b b' : Bundle Text) where
  pub shown_alike : (r : Result (Unit {0}) E) → OnOk r (b' ≡ shown_by t on b) → OnErr r (b' ≡ b) → Alike b b'
  shown_alike (Ok u) ok err = subst (Alike b) (sym ok) (shown_alike_by t on b)
  shown_alike (Err e) ok err = subst (Alike b) (sym err) (alike_itself b)

  pub changed_alike : (r : Result (Unit {0}) E) → OnOk r (b' ≡ changed_by t on b) → OnErr r (b' ≡ b) → Alike b b'
  changed_alike (Ok u) ok err = subst (Alike b) (sym ok) (changed_alike_by t on b)
  changed_alike (Err e) ok err = subst (Alike b) (sym err) (alike_itself b)

-- ---- once all is put in, the bundle is what is meant

pub answered : (t : Table) (stock : Stock) (b1 b2 : Bundle Text) → b1 ≡ with_functions t (map string_bytes stock.declared.functions.items) (bundle_view stock.bundle) → b2 ≡ shown_by t stock.declared.formatter b1
    → changed_by t stock.declared.transform b2 ≡ (stock_content stock).by t
answered t stock b1 b2 e1 e2 =
    ap (changed_by t stock.declared.transform) (e2 ∙ ap (shown_by t stock.declared.formatter) e1)
    ∙ whole t (declared_view stock.declared) (bundle_view stock.bundle) (ids_rise stock.bundle) stock.names
    (λ h. no_formatter stock.bundle (is_none _ (stock.shows ∙ h))) (λ h. no_transform stock.bundle (is_none _ (stock.changes ∙ h)))

-- ---- names

pub any_map : (p : Text → Bool) (xs : List (String Global)) → list_any p (map string_bytes xs) ≡ list_any (λ x. p (string_bytes x)) xs
any_map p [] = refl
any_map p (x ∷ xs) = ap (λ b. p (string_bytes x) || b) (any_map p xs)

pub name_again : (name : Text) (xs : List (String Global)) → list_any (λ x. is_text name (string_bytes x)) xs ≡ true → with_name name (map string_bytes xs) ≡ map string_bytes xs
name_again name xs h = ap (λ (b : Bool). if b then map string_bytes xs else map string_bytes xs ++ name ∷ []) (any_map (is_text name) xs ∙ h)

pub name_anew : (name : Text) (xs xs' : List (String Global)) (copy : String Global) → list_any (λ x. is_text name (string_bytes x)) xs ≡ false → xs' ≡ xs ++ copy ∷ [] → string_bytes copy ≡ name
    → map string_bytes xs' ≡ with_name name (map string_bytes xs)
name_anew name xs xs' copy h e is =
    ap (map string_bytes) e ∙ (map-append string_bytes xs (copy ∷ []) ∙ (ap (λ n. map string_bytes xs ++ n ∷ []) is
    ∙ sym (ap (λ (b : Bool). if b then map string_bytes xs else map string_bytes xs ++ name ∷ []) (any_map (is_text name) xs ∙ h))))

-- ---- a function of a name that is known

module _ {E : Type 0} (b b' : Bundle Text) (name : Text) (f : Function Text) where
  pub again_from : (resources : List (List t.Entry)) (r : Result (Unit {0}) E) → OnOk r (b' ≡ with_function name f b) → OnErr r (b' ≡ b) → AllFrom resources b.ids → AllFrom resources b'.ids
  again_from resources (Ok u) ok err from = subst (λ (x : Bundle Text). AllFrom resources x.ids) (sym ok) (from_declared resources b.ids name f from)
  again_from resources (Err e) ok err from = subst (λ (x : Bundle Text). AllFrom resources x.ids) (sym err) from

  pub again_among : (names : List Text) (r : Result (Unit {0}) E) → OnOk r (b' ≡ with_function name f b) → OnErr r (b' ≡ b) → with_name name names ≡ names → AreAmong names b.ids → AreAmong names b'.ids
  again_among names (Ok u) ok err same among = subst (λ (x : Bundle Text). AreAmong names x.ids) (sym ok) (subst (λ ns. AreAmong ns (set name (a_function f) b.ids)) same (among_declared names b.ids among name f))
  again_among names (Err e) ok err same among = subst (λ (x : Bundle Text). AreAmong names x.ids) (sym err) among

-- ---- NUMBER

module _ (b b' : Bundle Text) where
  pub number_from : (resources : List (List t.Entry)) (r : Result (Unit {0}) AddFault) → AnswersCall b add_builtins b' r → AllFrom resources b.ids → AllFrom resources b'.ids
  number_from resources (Ok u) step from = subst (λ (x : Bundle Text). AllFrom resources x.ids) (sym step.0) (from_builtins resources b.ids from)
  number_from resources (Err (add.Overriding errors)) step from = subst (λ (x : Bundle Text). AllFrom resources x.ids) (sym step.0) (from_builtins resources b.ids from)
  number_from resources (Err add.Memory) step from = subst (λ (x : Bundle Text). AllFrom resources x.ids) (sym step) from

  pub number_among : (names : List Text) (r : Result (Unit {0}) AddFault) → AnswersCall b add_builtins b' r → AreAmong names b.ids → AreAmong names b'.ids
  number_among names (Ok u) step among = subst (λ (x : Bundle Text). AreAmong names x.ids) (sym step.0) (among_builtins names b.ids among)
  number_among names (Err (add.Overriding errors)) step among = subst (λ (x : Bundle Text). AreAmong names x.ids) (sym step.0) (among_builtins names b.ids among)
  number_among names (Err add.Memory) step among = subst (λ (x : Bundle Text). AreAmong names x.ids) (sym step) among

pub free_of : (e : Error) (b : Bool) → (if b then e ∷ [] else []) ≡ [] → b ≡ false
free_of e true h = absurd cc
free_of e false h = refl

pub taken_of : (e : Error) (b : Bool) → (if b then e ∷ [] else []) ≢ [] → b ≡ true
taken_of e true h = refl
taken_of e false h = absurd (h refl)
