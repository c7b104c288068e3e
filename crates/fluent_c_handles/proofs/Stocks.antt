-- What is kept, once its bundle is changed, and what is known of the ids of the bundle then.
use Rattle.std.proofs.Common.{◌≡◌, ℕ, Bool, true, false, cond, List, [], ◌∷◌, ◌++◌, map, Option, Some, None, is_some, codes, refl, sym, ap, subst, ◌∙◌, if◌then◌else◌, ◌||◌, ◌↔◌, IsTrue}
use Rattle.std.specs.List.{list_any}
use Rattle.std.specs.Ordering.{nat_cmp, eq_by_cmp}
use Rattle.std.specs.Cmp.Lexicographic.{slice_cmp, nat_list_cmp_total, bytes_decides}
use Rattle.std.specs.FinMap.Entries.{find-put}
use Rattle.std.proofs.lemmas.List.Folds.{list_any-append}
use Rattle.fluent_ast.specs.Tree as t
use Rattle.fluent_ast.specs.Tree.{Text, message_entry, term_entry, junk_entry}
use Rattle.fluent_syntax.specs.Chunks.{entries, entry_starts, junk_ranges}
use Rattle.fluent_semantics.specs.Arguments.{get, set}
use Rattle.fluent_semantics.specs.Bundle as m
use Rattle.fluent_semantics.specs.Bundle.{Bundle, Function, a_message, a_term, a_function, number_builtin, add_builtins, add_free, add_resource, add_resource_overriding, added, after, overridden}
use Rattle.fluent_semantics.specs.Number.{is_text}
use Rattle.fluent_semantics.specs.Value.{Value}
use Rattle.fluent_bundle_entries.specs.EntryView.{message_content}
use Rattle.fluent_bundle.specs.BundleView.{with_function}
use Rattle.fluent_answers.specs.Answered.{function_in}
use Rattle.fluent_answers.specs.Tables.{Table}
use Rattle.fluent_c_handles.specs.Answers.{Kept, with_source}
use Rattle.fluent_c_handles.specs.Calls.Adding.{added_to, overridden_by, passed_over_lines, told_of, told_overriding_of, unreadable_lines}
use Rattle.fluent_c_handles.specs.Calls.Declaring.{is_taken, with_builtins, with_declared, with_formatter, with_transform}
use Rattle.fluent_c_handles.specs.Calls.Opening.{limited_to, with_limit}
use Rattle.fluent_c_handles.specs.Family.{Declares, answered_by, ids_at, is_asked, with_name}
use Rattle.fluent_c_handles.specs.Facts.Added.{key_is_text, or_left, or_right}
use Rattle.fluent_c_handles.specs.Inside.Resources.{AllFrom, AreAmong, is_message_of}
use Rattle.fluent_c_handles.proofs.Family.{Ids, added_at, asked_at, content_at, free_at, overridden_at, passed_at, same_text, set_at, taken_at}

abbrev pub content : Declares → Bundle Text → Text → Kept
content d b told = record { by = λ all. answered_by all d b; declared = d; told = told }

module _ (d : Declares) (b b' : Bundle Text) where
  pub added_kept : (source told before : Text) (es : List t.Entry) → es ≡ entries source → b' ≡ after (add_resource es) b → told ≡ told_of source b → content d b' told ≡ added_to source (content d b before)
  added_kept source told before es same is tells = λ i. record { by = λ all. by all i; declared = d; told = told_same i }
    where
      by : (all : Table) → answered_by all d b' ≡ with_source source (answered_by all d b)
      by all = ap (answered_by all d) (is ∙ ap (λ x. after (add_resource x) b) same) ∙ ap (λ ids. record (answered_by all d b) { ids = ids }) (added_at all (entries source) b.ids)

      told_same : told ≡ told_of source (answered_by [] d b)
      told_same = tells ∙ sym (ap (λ l. unreadable_lines source (junk_ranges source) ++ passed_over_lines source l) (passed_at [] (entry_starts source) (entries source) b.ids))

  pub overridden_kept : (source told before : Text) (es : List t.Entry) → es ≡ entries source → b' ≡ after (add_resource_overriding es) b → told ≡ told_overriding_of source → content d b' told ≡ overridden_by source (content d b before)
  overridden_kept source told before es same is tells = λ i. record { by = λ all. by all i; declared = d; told = tells i }
    where
      by : (all : Table) → answered_by all d b' ≡ after (add_resource_overriding (entries source)) (answered_by all d b)
      by all = ap (answered_by all d) (is ∙ ap (λ x. after (add_resource_overriding x) b) same) ∙ ap (λ ids. record (answered_by all d b) { ids = ids }) (overridden_at all (entries source) b.ids)

  pub limited_kept : (n : ℕ) (told : Text) → b' ≡ with_limit n b → content d b' told ≡ limited_to n (content d b told)
  limited_kept n told is = ap (λ x. content d x told) is

  pub declared_kept : (name : Text) (f : Function Text) (told : Text) (d' : Declares) → d' ≡ record d { functions = with_name name d.functions } → b' ≡ with_function name f b → content d' b' told ≡ with_declared name (content d b told)
  declared_kept name f told d' names is = λ i. record { by = λ all. by all i; declared = names i; told = told }
    where
      by : (all : Table) → answered_by all d' b' ≡ with_function name (function_in all name) (answered_by all d b)
      by all = (λ i. answered_by all (names i) (is i)) ∙ ap (λ ids. record (answered_by all d b) { ids = ids }) (set_at all name (a_function f) b.ids)

  pub formatter_kept : (on : Bool) (told : Text) (f : Value Text → Option Text) → b' ≡ record b { formatter = f } → content (record d { formatter = on }) b' told ≡ with_formatter on (content d b told)
  formatter_kept on told f is = ap (λ x. content (record d { formatter = on }) x told) is

  pub transform_kept : (on : Bool) (told : Text) (f : Text → Text) → b' ≡ record b { transform = f } → content (record d { transform = on }) b' told ≡ with_transform on (content d b told)
  transform_kept on told f is = ap (λ x. content (record d { transform = on }) x told) is

  pub builtins_kept : (told : Text) → b' ≡ after add_builtins b → content d b' told ≡ with_builtins (content d b told)
  builtins_kept told is = λ i. record { by = λ all. by all i; declared = d; told = told }
    where
      by : (all : Table) → answered_by all d b' ≡ after add_builtins (answered_by all d b)
      by all = ap (answered_by all d) is ∙ ap (λ ids. record (answered_by all d b) { ids = ids }) (free_at all (codes "NUMBER") number_builtin b.ids)

  -- where it is taken nothing is added
  pub builtins_left : (told : Text) → b' ≡ after add_builtins b → is_some (get (codes "NUMBER") b.ids) ≡ true → content d b' told ≡ content d b told
  builtins_left told is taken = ap (λ x. content d x told) (is ∙ ap (λ ids. record b { ids = ids }) (ap (λ (x : Bool). if x then b.ids else set (codes "NUMBER") number_builtin b.ids) taken))

  -- the ids that stand for the same by all answers
  pub same_kept : (told : Text) → ((all : Table) → ids_at all b'.ids ≡ ids_at all b.ids) → b' ≡ record b { ids = b'.ids; formatter = b'.formatter; transform = b'.transform } → content d b' told ≡ content d b told
  same_kept told same beside = λ i. record { by = λ all. by all i; declared = d; told = told }
    where
      by : (all : Table) → answered_by all d b' ≡ answered_by all d b
      by all = ap (answered_by all d) beside ∙ ap (λ ids. record (answered_by all d b) { ids = ids }) (same all)

pub taken_kept : (id : Text) (d : Declares) (b : Bundle Text) (told : Text) → is_taken id (content d b told) ≡ is_some (get id b.ids)
taken_kept id d b told = taken_at [] id b.ids

-- ---- where messages come from

module _ (resources : List (List t.Entry)) (ids : Ids) where
  pub from_declared : (name : Text) (f : Function Text) → AllFrom resources ids → AllFrom resources (set name (a_function f) ids)
  from_declared name f from id h = by (eq_by_cmp (slice_cmp nat_cmp) id name) (sym (ap (λ o. is_some (message_content o)) (find-put (slice_cmp nat_cmp) nat_list_cmp_total id name (a_function f) ids)) ∙ h)
    where
      by : (b : Bool) → is_some (message_content (cond b (Some (a_function f)) (get id ids))) ≡ true → list_any (list_any (is_message_of id)) resources ≡ true
      by true k = absurd (let never : false ≡ true = k in cc)
      by false k = from id k

  pub from_builtins : AllFrom resources ids → AllFrom resources (add_free (codes "NUMBER") number_builtin ids)
  from_builtins from id h = free (is_some (get (codes "NUMBER") ids)) h
    where
      by : (b : Bool) → is_some (message_content (cond {A = Option (m.Entry Text)} b (Some number_builtin) (get id ids))) ≡ true → is_some (message_content (get id ids)) ≡ true
      by true k = absurd (let never : false ≡ true = k in cc)
      by false k = k

      free : (b : Bool) → is_some (message_content (get id (if b then ids else set (codes "NUMBER") number_builtin ids))) ≡ true → list_any (list_any (is_message_of id)) resources ≡ true
      free true k = from id k
      free false k = from id (by (eq_by_cmp (slice_cmp nat_cmp) id (codes "NUMBER")) (sym (ap (λ o. is_some (message_content o)) (find-put (slice_cmp nat_cmp) nat_list_cmp_total id (codes "NUMBER") number_builtin ids)) ∙ k))

  pub from_same : (ids' : Ids) → ids_at [] ids' ≡ ids_at [] ids → AllFrom resources ids → AllFrom resources ids'
  from_same ids' same from id h = from id (ap is_some (sym (content_at [] id ids) ∙ (ap (λ x. message_content (get id x)) (sym same) ∙ content_at [] id ids')) ∙ h)

-- ---- the functions of the caller

asked_set : (q id : Text) (x : m.Entry Text) (ids : Ids) → is_asked (Some x) ≡ false → is_asked (get q (set id x ids)) ≡ true → is_asked (get q ids) ≡ true
asked_set q id x ids none h = by (eq_by_cmp (slice_cmp nat_cmp) q id) (sym (ap is_asked (find-put (slice_cmp nat_cmp) nat_list_cmp_total q id x ids)) ∙ h)
  where
    by : (b : Bool) → is_asked (cond b (Some x) (get q ids)) ≡ true → is_asked (get q ids) ≡ true
    by true k = absurd (let never : false ≡ true = sym none ∙ k in cc)
    by false k = k

asked_free : (q id : Text) (x : m.Entry Text) (ids : Ids) → is_asked (Some x) ≡ false → is_asked (get q (add_free id x ids)) ≡ true → is_asked (get q ids) ≡ true
asked_free q id x ids none h = by (is_some (get id ids)) h
  where
    by : (b : Bool) → is_asked (get q (if b then ids else set id x ids)) ≡ true → is_asked (get q ids) ≡ true
    by true k = k
    by false k = asked_set q id x ids none k

asked_added : (q : Text) (es : List t.Entry) (ids : Ids) → is_asked (get q (added es ids)) ≡ true → is_asked (get q ids) ≡ true
asked_added q [] ids h = h
asked_added q (message_entry id v as' ∷ es) ids h = asked_free q id (a_message v as') ids refl (asked_added q es (add_free id (a_message v as') ids) h)
asked_added q (term_entry id p as' ∷ es) ids h = asked_free q id (a_term p as') ids refl (asked_added q es (add_free id (a_term p as') ids) h)
asked_added q (junk_entry source ∷ es) ids h = asked_added q es ids h

asked_overridden : (q : Text) (es : List t.Entry) (ids : Ids) → is_asked (get q (overridden es ids)) ≡ true → is_asked (get q ids) ≡ true
asked_overridden q [] ids h = h
asked_overridden q (message_entry id v as' ∷ es) ids h = asked_set q id (a_message v as') ids refl (asked_overridden q es (set id (a_message v as') ids) h)
asked_overridden q (term_entry id p as' ∷ es) ids h = asked_set q id (a_term p as') ids refl (asked_overridden q es (set id (a_term p as') ids) h)
asked_overridden q (junk_entry source ∷ es) ids h = asked_overridden q es ids h

-- ---- their names

itself : (s : Text) → is_text s s ≡ true
itself s = (bytes_decides s s).1 refl

has_name : (name : Text) (names : List Text) → list_any (is_text name) (with_name name names) ≡ true
has_name name names = by (list_any (is_text name) names) refl
  where
    by : (b : Bool) → list_any (is_text name) names ≡ b → list_any (is_text name) (if b then names else names ++ name ∷ []) ≡ true
    by true k = k
    by false k = list_any-append (is_text name) names (name ∷ []) ∙ or_right _ _ (or_left _ _ (itself name))

wider : (q name : Text) (names : List Text) → list_any (is_text q) names ≡ true → list_any (is_text q) (with_name name names) ≡ true
wider q name names h = by (list_any (is_text name) names)
  where
    by : (b : Bool) → list_any (is_text q) (if b then names else names ++ name ∷ []) ≡ true
    by true = h
    by false = list_any-append (is_text q) names (name ∷ []) ∙ or_left _ _ h

module _ (names : List Text) (ids : Ids) (among : AreAmong names ids) where
  pub among_added : (es : List t.Entry) → AreAmong names (added es ids)
  among_added es q h = among q (asked_added q es ids h)

  pub among_overridden : (es : List t.Entry) → AreAmong names (overridden es ids)
  among_overridden es q h = among q (asked_overridden q es ids h)

  pub among_builtins : AreAmong names (add_free (codes "NUMBER") number_builtin ids)
  among_builtins q h = among q (asked_free q (codes "NUMBER") number_builtin ids refl h)

  pub among_declared : (name : Text) (f : Function Text) → AreAmong (with_name name names) (set name (a_function f) ids)
  among_declared name f q h = by (eq_by_cmp (slice_cmp nat_cmp) q name) refl (sym (ap is_asked (find-put (slice_cmp nat_cmp) nat_list_cmp_total q name (a_function f) ids)) ∙ h)
    where
      by : (b : Bool) → eq_by_cmp (slice_cmp nat_cmp) q name ≡ b → is_asked (cond b (Some (a_function f)) (get q ids)) ≡ true → list_any (is_text q) (with_name name names) ≡ true
      by true k h' = subst (λ n. list_any (is_text n) (with_name name names) ≡ true) (same_text name q (key_is_text q name k)) (has_name name names)
      by false k h' = wider q name names (among q h')

  pub among_same : (ids' : Ids) → ids_at [] ids' ≡ ids_at [] ids → AreAmong names ids'
  among_same ids' same q h = among q (sym (asked_at [] q ids) ∙ (ap (λ x. is_asked (get q x)) (sym same) ∙ (asked_at [] q ids' ∙ h)))
