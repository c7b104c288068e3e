-- Of each question the first answer is kept.
use Rattle.std.proofs.Common.{◌≡◌, ◌∙◌, ℕ, Bool, true, false, cond, List, [], ◌∷◌, ◌++◌, Option, Some, None, map, refl, sym, ap, subst, Global, Vec, Ordering, Less, Equal, Greater, take, length, get_or, ◌<◌, ◌+◌}
use Rattle.std.specs.BTreeMap.{BTreeMap, get_by, insert_entry, is_at}
use Rattle.std.specs.Cmp.Lexicographic.{slice_cmp, nat_list_cmp_total}
use Rattle.std.specs.FinMap.{slice_cmp-IsAntisymmetric, nat_cmp-IsAntisymmetric}
use Rattle.std.specs.List.{find}
use Rattle.std.specs.Map.{lookup}
use Rattle.std.specs.Option.{option_map, is_some}
use Rattle.std.specs.Ordering.{is_eq, match_ordering, nat_cmp, ordering_reverse}
use Rattle.std.specs.Str.{bytes_eq}
use Rattle.std.proofs.lemmas.List.{map_push, take_more}
use Rattle.std.proofs.lemmas.Map.Text.{is_eq-slice_cmp}
use Rattle.std.proofs.lemmas.Slice.Eq.{bytes_eq-Decides}
use Rattle.fluent_answers.specs.Answered.{Given, answer_view, first_answer}
use Rattle.fluent_answers.specs.Inside.Given.{AddsFirst, KeepsFirst, answer_by, given_view, otherwise}
use Rattle.fluent_answers.specs.Records.{Record}
use Rattle.fluent_answers.specs.declared.answer.Answer.{Answer}
use Rattle.fluent_answers.specs.declared.answers.given.Given as code
use Rattle.fluent_answers.specs.declared.kind.Kind.{Kind}

abbrev Key : Type 0
Key = Vec ℕ Global

abbrev order : List ℕ → List ℕ → Ordering
order = slice_cmp nat_cmp

abbrev key_cmp : Key → Key → Ordering
key_cmp x y = order x.items y.items

-- ---- a look-up after an insert

same_items : (x y : List ℕ) → order x y ≡ Equal → x ≡ y
same_items = slice_cmp-IsAntisymmetric nat_cmp-IsAntisymmetric

reversed : (o : Ordering) → o ≡ Greater → o ≡ ordering_reverse o → ⊥
reversed Less g r = cc
reversed Equal g r = cc
reversed Greater g r = cc

not_above_itself : (x : List ℕ) → order x x ≡ Greater → ⊥
not_above_itself x g = reversed (order x x) g (nat_list_cmp_total.antisymm x x)

is_equal : (o : Ordering) → is_eq o ≡ true → o ≡ Equal
is_equal Less e = cc
is_equal Equal e = refl
is_equal Greater e = cc

swapped : (a b : Bool) (x y rest : Option Answer) → (a ≡ true → b ≡ true → ⊥) → cond b x (cond a y rest) ≡ cond a y (cond b x rest)
swapped true true x y rest apart = absurd (apart refl refl)
swapped true false x y rest apart = refl
swapped false true x y rest apart = refl
swapped false false x y rest apart = refl

module _ (q : List ℕ) (k : Key) (v : Answer) where
  abbrev test : Key → Bool
  test = is_at (λ x. order q x.items)

  above : (e : Key × Answer) → order k.items e.0.items ≡ Greater → test k ≡ true → test e.0 ≡ true → ⊥
  above e g a b =
      let one : q ≡ k.items = same_items q k.items (is_equal (order q k.items) a) in
      let two : q ≡ e.0.items = same_items q e.0.items (is_equal (order q e.0.items) b) in
      not_above_itself q (subst (λ x. order x q ≡ Greater) (sym one) (subst (λ y. order k.items y ≡ Greater) (sym two) g))

  lookup_inserted : (es : List (Key × Answer)) → lookup test (insert_entry key_cmp es k v) ≡ cond (test k) (Some v) (lookup test es)
  lookup_inserted [] = refl
  lookup_inserted (e ∷ es) = by (lookup_inserted es) (order k.items e.0.items) refl
    where
      by : lookup test (insert_entry key_cmp es k v) ≡ cond (test k) (Some v) (lookup test es) → (o : Ordering) → order k.items e.0.items ≡ o → lookup test (match_ordering o ((k, v) ∷ e ∷ es) ((e.0, v) ∷ es) (e ∷ insert_entry key_cmp es k v)) ≡ cond (test k) (Some v) (cond (test e.0) (Some e.1) (lookup test es))
      by rest Less h = refl
      by rest Equal h =
          let same : order q e.0.items ≡ order q k.items = ap (order q) (sym (same_items k.items e.0.items h)) in
          ap (λ o. cond (is_eq o) (Some v) (lookup test es)) same ∙ both (test k) (test e.0) (ap is_eq (sym same))
        where
          both : (a b : Bool) → a ≡ b → cond a (Some v) (lookup test es) ≡ cond a (Some v) (cond b (Some e.1) (lookup test es))
          both true b h = refl
          both false true h = cc
          both false false h = refl
      by rest Greater h = ap (cond (test e.0) (Some e.1)) rest ∙ swapped (test k) (test e.0) (Some e.1) (Some v) (lookup test es) (above e h)

-- ---- one record more

abbrev pub part : Kind → List ℕ → Given
part kind t = (kind, t)

first_push : (q : List ℕ) (records : List Record) (r : Record) → first_answer q (records ++ r ∷ []) ≡ otherwise (first_answer q records) (answer_by r q)
first_push q [] r = by (bytes_eq r.name q)
  where
    by : (b : Bool) → option_map {U = Given} (λ r. (r.kind, r.value)) (cond b (Some r) None) ≡ cond b (Some (r.kind, r.value)) None
    by true = refl
    by false = refl
first_push q (x ∷ records) r = by (first_push q records r) (bytes_eq x.name q)
  where
    by : first_answer q (records ++ r ∷ []) ≡ otherwise (first_answer q records) (answer_by r q) → (b : Bool) → option_map {U = Given} (λ r. (r.kind, r.value)) (cond b (Some x) (find (λ r. bytes_eq r.name q) (records ++ r ∷ [])))
        ≡ otherwise (option_map {U = Given} (λ r. (r.kind, r.value)) (cond b (Some x) (find (λ r. bytes_eq r.name q) records))) (answer_by r q)
    by rest true = refl
    by rest false = rest

pub keeps_more : (list : List code.Given) (i : ℕ) (d : code.Given) (rows rows' : BTreeMap Key Answer) → i < length list → KeepsFirst (map given_view (take i list)) rows
    → AddsFirst (given_view (get_or list i d)) rows rows' → KeepsFirst (map given_view (take (i + 1) list)) rows'
keeps_more list i d rows rows' lt keeps adds q =
    let records = map given_view (take i list) in let r = given_view (get_or list i d) in
    adds q ∙ ap (λ a. otherwise a (answer_by r q)) (keeps q) ∙ sym (first_push q records r)
    ∙ ap (first_answer q) (sym (map_push given_view (take i list) (get_or list i d)) ∙ ap (map given_view) (sym (take_more list i d lt)))

module _ (r : Record) (rows : BTreeMap Key Answer) where
  answered : (q : List ℕ) → bytes_eq r.name q ≡ true → r.name ≡ q
  answered q e = (bytes_eq-Decides r.name q).0 e

  -- it is answered now
  pub joins : (rows' : BTreeMap Key Answer) (k : Key) (v : Answer) → k.items ≡ r.name → answer_view v ≡ (r.kind, r.value) → is_some (get_by (λ k. order r.name k.items) rows) ≡ false
      → rows'.entries ≡ insert_entry key_cmp rows.entries k v → AddsFirst r rows rows'
  joins rows' k v named is_v absent is q =
      ap (λ es. option_map answer_view (lookup (is_at (λ x. order q x.items)) es)) is
      ∙ ap (option_map answer_view) (lookup_inserted q k v rows.entries)
      ∙ ap (λ b. option_map answer_view (cond b (Some v) (get_by (λ k. order q k.items) rows))) test_is
      ∙ by (bytes_eq r.name q) (get_by (λ k. order q k.items) rows) refl refl
    where
      flipped : (b : Bool) → bytes_eq q r.name ≡ b → bytes_eq r.name q ≡ b
      flipped true e = (bytes_eq-Decides r.name q).1 (sym ((bytes_eq-Decides q r.name).0 e))
      flipped false e = apart (bytes_eq r.name q) refl
        where
          apart : (b : Bool) → bytes_eq r.name q ≡ b → b ≡ false
          apart false h = refl
          apart true h = absurd (let yes = (bytes_eq-Decides q r.name).1 (sym (answered q h)) in cc)

      test_is : is_eq (order q k.items) ≡ bytes_eq r.name q
      test_is = ap (λ n. is_eq (order q n)) named ∙ is_eq-slice_cmp q r.name ∙ sym (flipped (bytes_eq q r.name) refl)

      by : (b : Bool) (o : Option Answer) → bytes_eq r.name q ≡ b → get_by (λ k. order q k.items) rows ≡ o
          → option_map answer_view (cond b (Some v) o) ≡ otherwise (option_map answer_view o) (cond b (Some (r.kind, r.value)) None)
      by false None same at = refl
      by false (Some a) same at = refl
      by true None same at = ap Some is_v
      by true (Some a) same at = absurd (let some = subst (λ n. get_by (λ k. order n k.items) rows ≡ Some a) (sym (answered q same)) at in cc)
