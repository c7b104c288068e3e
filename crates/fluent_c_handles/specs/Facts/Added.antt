-- The messages that the entries of a resource give a bundle. No contract cites these facts.
use Rattle.std.proofs.Common.{◌≡◌, List, [], ◌∷◌, Bool, true, false, Some, is_some, cond, if◌then◌else◌, ◌||◌, refl, sym, ap, subst, ◌∙◌, Ordering, Less, Equal, Greater}
use Rattle.std.specs.List.{list_any}
use Rattle.std.specs.Ordering.{nat_cmp, eq_by_cmp, is_eq}
use Rattle.std.specs.Cmp.{tied_itself}
use Rattle.std.specs.Cmp.Lexicographic.{slice_cmp, nat_list_cmp_total, bytes_decides}
use Rattle.std.specs.FinMap.{slice_cmp-IsAntisymmetric, nat_cmp-IsAntisymmetric}
use Rattle.std.specs.FinMap.Entries.{find-put}
use Rattle.fluent_ast.specs.Tree.{Text, Entry, message_entry, term_entry, junk_entry}
use Rattle.fluent_semantics.specs.Arguments.{Map, get, set}
use Rattle.fluent_semantics.specs.Bundle.{a_message, a_term, add_free, added, overridden}
use Rattle.fluent_semantics.specs.Bundle as m
use Rattle.fluent_semantics.specs.Number.{is_text}
use Rattle.fluent_bundle_entries.specs.EntryView.{message_content}
use Rattle.fluent_c_handles.specs.Inside.Resources.{is_message_of}

is_equal : (o : Ordering) → is_eq o ≡ true → o ≡ Equal
is_equal Less h = absurd cc
is_equal Equal h = refl
is_equal Greater h = absurd cc

-- the order of keys ties them where their bytes are equal
pub key_is_text : (q k : Text) → eq_by_cmp (slice_cmp nat_cmp) q k ≡ true → is_text k q ≡ true
key_is_text q k h = (bytes_decides k q).1 (sym (slice_cmp-IsAntisymmetric nat_cmp-IsAntisymmetric q k (is_equal _ h)))

pub text_is_key : (q k : Text) → is_text k q ≡ true → eq_by_cmp (slice_cmp nat_cmp) q k ≡ true
text_is_key q k h = subst (λ x. eq_by_cmp (slice_cmp nat_cmp) q x ≡ true) (sym ((bytes_decides k q).0 h)) (ap is_eq (tied_itself nat_list_cmp_total q))

pub or_left : (a b : Bool) → a ≡ true → (a || b) ≡ true
or_left true b h = refl
or_left false b h = absurd cc

pub or_right : (a b : Bool) → b ≡ true → (a || b) ≡ true
or_right true b h = refl
or_right false b h = h

-- what stands once the first of more is there stood before it, or is that one, or another of them
or_first : (before this more now : Bool) → (now ≡ true → (before || this) ≡ true) → (now || more) ≡ true → (before || (this || more)) ≡ true
or_first true this more now from h = refl
or_first false true more now from h = refl
or_first false false more true from h = absurd (let never : false ≡ true = from refl in cc)
or_first false false more false from h = h

-- the same where the first of them is no message
or_before : (before more now : Bool) → (now ≡ true → before ≡ true) → (now || more) ≡ true → (before || more) ≡ true
or_before before more true from h = or_left _ _ (from refl)
or_before before more false from h = or_right _ _ h

-- whether a message stands at the id
abbrev pub is_there : {C : Type 0} → Text → Map (m.Entry C) → Bool
is_there id ids = is_some (message_content (get id ids))

module _ {C : Type 0} where
  -- of an entry that is set
  set_there : (id name : Text) (e : m.Entry C) (ids : Map (m.Entry C)) → is_there id (set name e ids) ≡ (if eq_by_cmp (slice_cmp nat_cmp) id name then is_some (message_content (Some e)) else is_there id ids)
  set_there id name e ids = ap (λ x. is_some (message_content x)) (find-put (slice_cmp nat_cmp) nat_list_cmp_total id name e ids) ∙ by (eq_by_cmp (slice_cmp nat_cmp) id name)
    where
      by : (b : Bool) → is_some (message_content (cond b (Some e) (get id ids))) ≡ (if b then is_some (message_content (Some e)) else is_there id ids)
      by true = refl
      by false = refl

  -- a message that is there was there, or is the one of the entry
  set_from : (id name : Text) (e : m.Entry C) (ids : Map (m.Entry C)) → is_there id (set name e ids) ≡ true → (is_there id ids || is_text name id) ≡ true
  set_from id name e ids h = by (eq_by_cmp (slice_cmp nat_cmp) id name) refl (sym (set_there id name e ids) ∙ h)
    where
      by : (b : Bool) → eq_by_cmp (slice_cmp nat_cmp) id name ≡ b → (if b then is_some (message_content (Some e)) else is_there id ids) ≡ true → (is_there id ids || is_text name id) ≡ true
      by true k j = or_right _ _ (key_is_text id name k)
      by false k j = or_left _ _ j

  free_from : (id name : Text) (e : m.Entry C) (ids : Map (m.Entry C)) → is_there id (add_free name e ids) ≡ true → (is_there id ids || is_text name id) ≡ true
  free_from id name e ids h = by (is_some (get name ids)) h
    where
      by : (b : Bool) → is_there id (if b then ids else set name e ids) ≡ true → (is_there id ids || is_text name id) ≡ true
      by true j = or_left _ _ j
      by false j = set_from id name e ids j

  -- a term is no message
  term_set : (id name : Text) (p : _) (as' : _) (ids : Map (m.Entry C)) → is_there id (set name (a_term p as') ids) ≡ true → is_there id ids ≡ true
  term_set id name p as' ids h = by (eq_by_cmp (slice_cmp nat_cmp) id name) (sym (set_there id name (a_term p as') ids) ∙ h)
    where
      by : (b : Bool) → (if b then false else is_there id ids) ≡ true → is_there id ids ≡ true
      by true j = absurd cc
      by false j = j

  term_free : (id name : Text) (p : _) (as' : _) (ids : Map (m.Entry C)) → is_there id (add_free name (a_term p as') ids) ≡ true → is_there id ids ≡ true
  term_free id name p as' ids h = by (is_some (get name ids)) h
    where
      by : (b : Bool) → is_there id (if b then ids else set name (a_term p as') ids) ≡ true → is_there id ids ≡ true
      by true j = j
      by false j = term_set id name p as' ids j

  -- A message that is there once entries are added was there, or is among them.
  pub added_there : (id : Text) (es : List Entry) (ids : Map (m.Entry C)) → is_there id (added es ids) ≡ true → (is_there id ids || list_any (is_message_of id) es) ≡ true
  added_there id [] ids h = or_left _ _ h
  added_there id (message_entry name v as' ∷ es) ids h = or_first (is_there id ids) _ _ _ (free_from id name (a_message v as') ids) (added_there id es _ h)
  added_there id (term_entry name p as' ∷ es) ids h = or_before (is_there id ids) _ _ (term_free id name p as' ids) (added_there id es _ h)
  added_there id (junk_entry source ∷ es) ids h = added_there id es ids h

  -- A message that is there once entries override what is there was there, or is among them.
  pub overridden_there : (id : Text) (es : List Entry) (ids : Map (m.Entry C)) → is_there id (overridden es ids) ≡ true → (is_there id ids || list_any (is_message_of id) es) ≡ true
  overridden_there id [] ids h = or_left _ _ h
  overridden_there id (message_entry name v as' ∷ es) ids h = or_first (is_there id ids) _ _ _ (set_from id name (a_message v as') ids) (overridden_there id es _ h)
  overridden_there id (term_entry name p as' ∷ es) ids h = or_before (is_there id ids) _ _ (term_set id name p as' ids) (overridden_there id es _ h)
  overridden_there id (junk_entry source ∷ es) ids h = overridden_there id es ids h
