-- A bundle by what is answered: what calls make of it, and what answers that are put into it leave.
use Rattle.std.proofs.Common.{◌≡◌, ℕ, Bool, true, false, cond, List, [], ◌∷◌, ◌++◌, map, Option, Some, None, is_some, refl, sym, ap, subst, ◌∙◌, T, if◌then◌else◌, ◌||◌, ◌⊎◌, inl, inr, Ordering, Less, Equal, Greater}
use Rattle.std.specs.List.{list_any, filter}
use Rattle.std.specs.Option.{option_map, option_and_then}
use Rattle.std.specs.Ordering.{nat_cmp, eq_by_cmp, is_lt}
use Rattle.std.specs.Prelude.{◌&&◌}
use Rattle.std.specs.Cmp.Lexicographic.{slice_cmp, nat_list_cmp_total, bytes_decides}
use Rattle.std.specs.FinMap.{slice_cmp-IsAntisymmetric, nat_cmp-IsAntisymmetric}
use Rattle.std.specs.FinMap.Entries.{by_order, below_all, find-put, is_sorted, is_sorted-put, same_entries}
use Rattle.fluent_ast.specs.Tree as t
use Rattle.fluent_ast.specs.Tree.{Text, Pattern, message_entry, term_entry, junk_entry}
use Rattle.fluent_semantics.specs.Arguments.{Map, get, set}
use Rattle.fluent_semantics.specs.Bundle as m
use Rattle.fluent_semantics.specs.Bundle.{Bundle, a_message, a_term, a_function, number_builtin, add_free, added, overridden, error_if_taken, not_added}
use Rattle.fluent_semantics.specs.Errors.{overriding, message_kind, term_kind}
use Rattle.fluent_semantics.specs.Number.{is_text}
use Rattle.fluent_semantics.specs.Value.{Value}
use Rattle.fluent_bundle_entries.specs.EntryView.{message_content}
use Rattle.fluent_bundle_entries.specs.MessageView.{Content, first_named}
use Rattle.fluent_bundle.specs.BundleView.{attribute_at, message_at, value_at}
use Rattle.fluent_answers.specs.Answered.{changed_in, formatted_in, function_in}
use Rattle.fluent_answers.specs.Tables.{Table}
use Rattle.fluent_c_handles.specs.Answers.{found_at}
use Rattle.fluent_c_handles.specs.Calls.Adding.{passed_over, placed}
use Rattle.fluent_c_handles.specs.Calls.Finding.{message_ids, names_message}
use Rattle.fluent_c_handles.specs.Family.{Declares, answered_by, entry_at, formatter_at, ids_at, is_asked, transform_at}
use Rattle.fluent_c_handles.specs.Facts.Added.{key_is_text, text_is_key}
use Rattle.fluent_c_handles.specs.Inside.Put.{changed_by, put_all, put_one, shown_by, with_functions}

abbrev R : Text → Text → Ordering
R = slice_cmp nat_cmp

abbrev pub Ids : Type 0
Ids = Map (m.Entry Text)

abbrev pub rises : Ids → Type 0
rises ids = T (is_sorted (slice_cmp nat_cmp) ids)

pub same_text : (s k : Text) → is_text s k ≡ true → s ≡ k
same_text s k h = (bytes_decides s k).0 h

tied : (q k : Text) → eq_by_cmp R q k ≡ true → q ≡ k
tied q k h = sym (same_text k q (key_is_text q k h))

-- ---- look-ups

module _ (all : Table) where
  pub get_at : (q : Text) (ids : Ids) → get q (ids_at all ids) ≡ option_map (entry_at all q) (get q ids)
  get_at q [] = refl
  get_at q (e ∷ es) = by (eq_by_cmp R q e.0) refl (get_at q es)
    where
      by : (b : Bool) → eq_by_cmp R q e.0 ≡ b → get q (ids_at all es) ≡ option_map (entry_at all q) (get q es)
          → cond b (Some (entry_at all e.0 e.1)) (get q (ids_at all es)) ≡ option_map (entry_at all q) (cond b (Some e.1) (get q es))
      by true k rest = ap (λ id. Some (entry_at all id e.1)) (sym (tied q e.0 k))
      by false k rest = rest

  some_same : (q : Text) (o : Option (m.Entry Text)) → is_some (option_map (entry_at all q) o) ≡ is_some o
  some_same q None = refl
  some_same q (Some e) = refl

  asked_same : (q : Text) (o : Option (m.Entry Text)) → is_asked (option_map (entry_at all q) o) ≡ is_asked o
  asked_same q None = refl
  asked_same q (Some (a_message v as')) = refl
  asked_same q (Some (a_term p as')) = refl
  asked_same q (Some (a_function f)) = refl
  asked_same q (Some number_builtin) = refl

  content_same : (q : Text) (o : Option (m.Entry Text)) → message_content (option_map (entry_at all q) o) ≡ message_content o
  content_same q None = refl
  content_same q (Some (a_message v as')) = refl
  content_same q (Some (a_term p as')) = refl
  content_same q (Some (a_function f)) = refl
  content_same q (Some number_builtin) = refl

  -- whether an id is taken, by a function of the caller's, or by which message
  pub taken_at : (q : Text) (ids : Ids) → is_some (get q (ids_at all ids)) ≡ is_some (get q ids)
  taken_at q ids = ap is_some (get_at q ids) ∙ some_same q (get q ids)

  pub asked_at : (q : Text) (ids : Ids) → is_asked (get q (ids_at all ids)) ≡ is_asked (get q ids)
  asked_at q ids = ap is_asked (get_at q ids) ∙ asked_same q (get q ids)

  pub content_at : (q : Text) (ids : Ids) → message_content (get q (ids_at all ids)) ≡ message_content (get q ids)
  content_at q ids = ap message_content (get_at q ids) ∙ content_same q (get q ids)

  -- ---- changes

  pub set_at : (id : Text) (x : m.Entry Text) (ids : Ids) → ids_at all (set id x ids) ≡ set id (entry_at all id x) (ids_at all ids)
  set_at id x [] = refl
  set_at id x (e ∷ es) = by (R id e.0) refl (set_at id x es)
    where
      by : (o : Ordering) → R id e.0 ≡ o → ids_at all (set id x es) ≡ set id (entry_at all id x) (ids_at all es)
          → ids_at all (by_order o ((id, x) ∷ e ∷ es) ((e.0, x) ∷ es) (e ∷ set id x es))
          ≡ by_order o ((id, entry_at all id x) ∷ ids_at all (e ∷ es)) ((e.0, entry_at all id x) ∷ ids_at all es) ((e.0, entry_at all e.0 e.1) ∷ set id (entry_at all id x) (ids_at all es))
      by Less p rest = refl
      by Equal p rest = ap (λ k. (e.0, entry_at all k x) ∷ ids_at all es) (sym (slice_cmp-IsAntisymmetric nat_cmp-IsAntisymmetric id e.0 p))
      by Greater p rest = ap (λ l. (e.0, entry_at all e.0 e.1) ∷ l) rest

  pub free_at : (id : Text) (x : m.Entry Text) (ids : Ids) → ids_at all (add_free id x ids) ≡ add_free id (entry_at all id x) (ids_at all ids)
  free_at id x ids = by (is_some (get id ids)) refl
    where
      by : (b : Bool) → is_some (get id ids) ≡ b → ids_at all (if b then ids else set id x ids) ≡ (if is_some (get id (ids_at all ids)) then ids_at all ids else set id (entry_at all id x) (ids_at all ids))
      by true k = sym (ap (λ b. if b then ids_at all ids else set id (entry_at all id x) (ids_at all ids)) (taken_at id ids ∙ k))
      by false k = set_at id x ids ∙ sym (ap (λ b. if b then ids_at all ids else set id (entry_at all id x) (ids_at all ids)) (taken_at id ids ∙ k))

  pub added_at : (es : List t.Entry) (ids : Ids) → ids_at all (added es ids) ≡ added es (ids_at all ids)
  added_at [] ids = refl
  added_at (message_entry id v as' ∷ es) ids = added_at es (add_free id (a_message v as') ids) ∙ ap (added es) (free_at id (a_message v as') ids)
  added_at (term_entry id p as' ∷ es) ids = added_at es (add_free id (a_term p as') ids) ∙ ap (added es) (free_at id (a_term p as') ids)
  added_at (junk_entry source ∷ es) ids = added_at es ids

  pub overridden_at : (es : List t.Entry) (ids : Ids) → ids_at all (overridden es ids) ≡ overridden es (ids_at all ids)
  overridden_at [] ids = refl
  overridden_at (message_entry id v as' ∷ es) ids = overridden_at es (set id (a_message v as') ids) ∙ ap (overridden es) (set_at id (a_message v as') ids)
  overridden_at (term_entry id p as' ∷ es) ids = overridden_at es (set id (a_term p as') ids) ∙ ap (overridden es) (set_at id (a_term p as') ids)
  overridden_at (junk_entry source ∷ es) ids = overridden_at es ids

  -- ---- what is passed over

  one_left : (e : t.Entry) (ids : Ids) → not_added (e ∷ []) (ids_at all ids) ≡ not_added (e ∷ []) ids
  one_left (message_entry id v as') ids = ap (λ b. (if b then overriding message_kind id ∷ [] else []) ++ []) (taken_at id ids)
  one_left (term_entry id p as') ids = ap (λ b. (if b then overriding term_kind id ∷ [] else []) ++ []) (taken_at id ids)
  one_left (junk_entry source) ids = refl

  pub passed_at : (starts : List ℕ) (es : List t.Entry) (ids : Ids) → passed_over starts es (ids_at all ids) ≡ passed_over starts es ids
  passed_at [] es ids = refl
  passed_at (at ∷ ats) [] ids = refl
  passed_at (at ∷ ats) (e ∷ es) ids =
      ap (λ l. placed at l ++ passed_over ats es (added (e ∷ []) (ids_at all ids))) (one_left e ids)
      ∙ (ap (λ a. placed at (not_added (e ∷ []) ids) ++ passed_over ats es a) (sym (added_at (e ∷ []) ids))
      ∙ ap (λ l. placed at (not_added (e ∷ []) ids) ++ l) (passed_at ats es (added (e ∷ []) ids)))

  -- ---- messages

  module _ (d : Declares) (b : Bundle Text) where
    pub message_same : (id : Text) → message_at id (answered_by all d b) ≡ message_at id b
    message_same id = content_at id b.ids

    pub found_same : (id name : Text) → found_at id name (answered_by all d b) ≡ found_at id name b
    found_same id [] = ap (λ o. option_and_then (λ (c : Content). c.value) o) (message_same id)
    found_same id (c ∷ cs) = ap (λ o. option_and_then (λ (x : Content). option_map (λ a. a.1) (first_named (c ∷ cs) x.attributes)) o) (message_same id)

    keys_same : (ids : Ids) → map (λ e. e.0) (ids_at all ids) ≡ map (λ e. e.0) ids
    keys_same [] = refl
    keys_same (e ∷ es) = ap (λ l. e.0 ∷ l) (keys_same es)

    pub ids_same : message_ids (answered_by all d b) ≡ message_ids b
    ids_same = λ i. filter (λ id. is_some (message_same id i)) (keys_same b.ids i)

-- ---- their order

below_at : (all : Table) (k : Text) (ids : Ids) → below_all R k (ids_at all ids) ≡ below_all R k ids
below_at all k [] = refl
below_at all k (e ∷ es) = ap (λ b. is_lt (R k e.0) && b) (below_at all k es)

rises_at : (all : Table) (ids : Ids) → is_sorted R (ids_at all ids) ≡ is_sorted R ids
rises_at all [] = refl
rises_at all (e ∷ es) = λ i. below_at all e.0 es i && rises_at all es i

alike : (a b : Ids) → rises a → rises b → ((q : Text) → get q a ≡ get q b) → a ≡ b
alike a b ra rb h = same_entries R nat_list_cmp_total (slice_cmp-IsAntisymmetric nat_cmp-IsAntisymmetric) a b ra rb h

-- what is there is set
set_same : (id : Text) (x : m.Entry Text) (ids : Ids) → rises ids → get id ids ≡ Some x → set id x ids ≡ ids
set_same id x ids r got = alike (set id x ids) ids (is_sorted-put R nat_list_cmp_total id x ids r) r (λ q. find-put R nat_list_cmp_total q id x ids ∙ by q (eq_by_cmp R q id) refl)
  where
    by : (q : Text) (b : Bool) → eq_by_cmp R q id ≡ b → cond b (Some x) (get q ids) ≡ get q ids
    by q true k = sym got ∙ ap (λ n. get n ids) (sym (tied q id k))
    by q false k = refl

-- ---- functions are put in

module _ (t : Table) where
  put_rises : (name : Text) (ids : Ids) → rises ids → rises (put_one t name ids)
  put_rises name ids r = by (is_asked (get name ids))
    where
      by : (b : Bool) → rises (if b then set name (a_function (function_in t name)) ids else ids)
      by true = is_sorted-put R nat_list_cmp_total name _ ids r
      by false = r

  function_at : (all : Table) (name : Text) (o : Option (m.Entry Text)) → is_asked o ≡ true → option_map (entry_at all name) o ≡ Some (a_function (function_in all name))
  function_at all name None h = absurd cc
  function_at all name (Some (a_message v as')) h = absurd cc
  function_at all name (Some (a_term p as')) h = absurd cc
  function_at all name (Some (a_function f)) h = refl
  function_at all name (Some number_builtin) h = absurd cc

  -- and are the same by all answers
  put_at : (all : Table) (name : Text) (ids : Ids) → rises ids → ids_at all (put_one t name ids) ≡ ids_at all ids
  put_at all name ids r = by (is_asked (get name ids)) refl
    where
      by : (b : Bool) → is_asked (get name ids) ≡ b → ids_at all (if b then set name (a_function (function_in t name)) ids else ids) ≡ ids_at all ids
      by true k = set_at all name (a_function (function_in t name)) ids
          ∙ set_same name (a_function (function_in all name)) (ids_at all ids) (subst T (sym (rises_at all ids)) r) (get_at all name ids ∙ function_at all name (get name ids) k)
      by false k = refl

  pub puts_at : (all : Table) (names : List Text) (ids : Ids) → rises ids → ids_at all (put_all t names ids) ≡ ids_at all ids
  puts_at all [] ids r = refl
  puts_at all (name ∷ names) ids r = puts_at all names (put_one t name ids) (put_rises name ids r) ∙ put_at all name ids r

  -- each function is one of these names, or answers so
  abbrev Are : List Text → Ids → Type 0
  Are names ids = (q : Text) → is_asked (get q ids) ≡ true → (list_any (is_text q) names ≡ true) ⊎ (get q ids ≡ Some (a_function (function_in t q)))

  settled_here : (q : Text) (o : Option (m.Entry Text)) → (is_asked o ≡ true → (false ≡ true) ⊎ (o ≡ Some (a_function (function_in t q)))) → o ≡ option_map (entry_at t q) o
  settled_here q None h = refl
  settled_here q (Some (a_message v as')) h = refl
  settled_here q (Some (a_term p as')) h = refl
  settled_here q (Some (a_function f)) h = by (h refl)
    where
      by : (false ≡ true) ⊎ (Some (a_function f) ≡ Some (a_function (function_in t q))) → Some (a_function f) ≡ Some (a_function (function_in t q))
      by (inl e) = absurd cc
      by (inr e) = e
  settled_here q (Some number_builtin) h = refl

  -- the first name is done
  go_on : (name : Text) (names : List Text) (ids : Ids) → Are (name ∷ names) ids → Are names (put_one t name ids)
  go_on name names ids are q asked = by (is_asked (get name ids)) refl asked
    where
      -- of another id
      other : (b : Bool) → is_text q name ≡ b → (b ≡ true → ⊥) → ((b || list_any (is_text q) names) ≡ true) ⊎ (get q ids ≡ Some (a_function (function_in t q))) → (list_any (is_text q) names ≡ true) ⊎ (get q ids ≡ Some (a_function (function_in t q)))
      other true k apart h = absurd (apart refl)
      other false k apart h = h

      at : (b : Bool) → eq_by_cmp R q name ≡ b → is_asked (cond b (Some (a_function (function_in t name))) (get q ids)) ≡ true → (list_any (is_text q) names ≡ true) ⊎ (cond b (Some (a_function (function_in t name))) (get q ids) ≡ Some (a_function (function_in t q)))
      at true k h = inr (ap (λ n. Some (a_function (function_in t n))) (sym (tied q name k)))
      at false k h = other (is_text q name) refl (λ e. absurd (let same : eq_by_cmp R q name ≡ true = ap (λ n. eq_by_cmp R q n) (sym (same_text q name e)) ∙ text_is_key q q ((bytes_decides q q).1 refl) in cc)) (are q h)

      by : (b : Bool) → is_asked (get name ids) ≡ b → is_asked (get q (if b then set name (a_function (function_in t name)) ids else ids)) ≡ true
          → (list_any (is_text q) names ≡ true) ⊎ (get q (if b then set name (a_function (function_in t name)) ids else ids) ≡ Some (a_function (function_in t q)))
      by true k h = subst (λ o. (list_any (is_text q) names ≡ true) ⊎ (o ≡ Some (a_function (function_in t q)))) (sym (find-put R nat_list_cmp_total q name (a_function (function_in t name)) ids))
          (at (eq_by_cmp R q name) refl (sym (ap is_asked (find-put R nat_list_cmp_total q name (a_function (function_in t name)) ids)) ∙ h))
      by false k h = other (is_text q name) refl (λ e. absurd (let same : is_asked (get name ids) ≡ true = ap (λ n. is_asked (get n ids)) (sym (same_text q name e)) ∙ h in cc)) (are q h)

  pub settled : (names : List Text) (ids : Ids) → rises ids → Are names ids → put_all t names ids ≡ ids_at t ids
  settled [] ids r are = alike ids (ids_at t ids) r (subst T (sym (rises_at t ids)) r) (λ q. settled_here q (get q ids) (are q) ∙ sym (get_at t q ids))
  settled (name ∷ names) ids r are = settled names (put_one t name ids) (put_rises name ids r) (go_on name names ids are) ∙ put_at t name ids r

  pub snoc : (names : List Text) (name : Text) (ids : Ids) → put_all t (names ++ name ∷ []) ids ≡ put_one t name (put_all t names ids)
  snoc [] name ids = refl
  snoc (n ∷ names) name ids = snoc names name (put_one t n ids)

  -- ---- a bundle with all that was answered is the one that is meant

  pub whole : (d : Declares) (b : Bundle Text) → rises b.ids → ((q : Text) → is_asked (get q b.ids) ≡ true → list_any (is_text q) d.functions ≡ true)
      → (d.formatter ≡ false → b.formatter ≡ (λ v. None)) → (d.transform ≡ false → b.transform ≡ (λ s. s))
      → changed_by t d.transform (shown_by t d.formatter (with_functions t d.functions b)) ≡ answered_by t d b
  whole d b r among shows changes = by d.formatter d.transform shows changes
    where
      is : put_all t d.functions b.ids ≡ ids_at t b.ids
      is = settled d.functions b.ids r (λ q h. inl (among q h))

      by : (f x : Bool) → (f ≡ false → b.formatter ≡ (λ v. None)) → (x ≡ false → b.transform ≡ (λ s. s))
          → changed_by t x (shown_by t f (with_functions t d.functions b)) ≡ record b { ids = ids_at t b.ids; formatter = formatter_at t f; transform = transform_at t x }
      by true true s c = λ i. record b { ids = is i; formatter = formatted_in t; transform = changed_in t }
      by true false s c = λ i. record b { ids = is i; formatter = formatted_in t; transform = c refl i }
      by false true s c = λ i. record b { ids = is i; formatter = s refl i; transform = changed_in t }
      by false false s c = λ i. record b { ids = is i; formatter = s refl i; transform = c refl i }
