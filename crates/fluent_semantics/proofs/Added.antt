-- What adding does to a bundle.
use Rattle.std.proofs.Common.{◌≡◌, ◌+◌, ◌≤◌, List, [], ◌∷◌, ◌++◌, Option, Some, None, if◌then◌else◌, refl, sym, ap, ◌∙◌, arith, append_assoc, codes}
use Rattle.fluent_ast.specs.Tree as t
use Rattle.fluent_ast.specs.Tree.{Text, message_entry, term_entry, junk_entry}
use Rattle.fluent_semantics.specs.Errors.{message_kind, term_kind}
use Rattle.fluent_semantics.specs.Arguments.{Map, get}
use Rattle.fluent_semantics.specs.Bundle.{Bundle, Entry, a_message, a_term, a_function, number_builtin, is_message, is_term, is_function, Call, add_resource, add_resource_overriding, add_function, add_builtins, set_use_isolating, set_transform, set_formatter, set_placeable_limit, added, overridden, error_if_taken, not_added, after, answered}
use Rattle.fluent_semantics.specs.Users.{IsAdding, last_entry}
use Rattle.fluent_semantics.proofs.Maps.{get_set, unless_there}

module _ {C : Type 0} where
  one_thing : (e : Option (Entry C)) → (if is_message e then 1 else 0) + (if is_term e then 1 else 0) + (if is_function e then 1 else 0) ≤ 1
  one_thing None = omega arith
  one_thing (Some (a_message v as')) = omega arith
  one_thing (Some (a_term p as')) = omega arith
  one_thing (Some (a_function f)) = omega arith
  one_thing (Some number_builtin) = omega arith

  pub means_one_thing : (b : Bundle C) (id : Text) → (if is_message (get id b.ids) then 1 else 0) + (if is_term (get id b.ids) then 1 else 0) + (if is_function (get id b.ids) then 1 else 0) ≤ 1
  means_one_thing b id = one_thing (get id b.ids)

  added_keeps : (es : List t.Entry) (ids : Map (Entry C)) (id : Text) (e : Entry C) → get id ids ≡ Some e → get id (added es ids) ≡ Some e
  added_keeps [] ids id e h = h
  added_keeps (message_entry n v as' ∷ es) ids id e h = added_keeps es _ id e (unless_there id n (a_message v as') e ids h)
  added_keeps (term_entry n p as' ∷ es) ids id e h = added_keeps es _ id e (unless_there id n (a_term p as') e ids h)
  added_keeps (junk_entry source ∷ es) ids id e h = added_keeps es ids id e h

  pub adding_keeps : (b : Bundle C) (c : Call C) (id : Text) (e : Entry C) → IsAdding c → get id b.ids ≡ Some e → get id (after c b).ids ≡ Some e
  adding_keeps b (add_resource es) id e i h = added_keeps es b.ids id e h
  adding_keeps b (add_resource_overriding es) id e i h = absurd i
  adding_keeps b (add_function n f) id e i h = unless_there id n (a_function f) e b.ids h
  adding_keeps b add_builtins id e i h = unless_there id (codes "NUMBER") number_builtin e b.ids h
  adding_keeps b (set_use_isolating on) id e i h = absurd i
  adding_keeps b (set_transform f) id e i h = absurd i
  adding_keeps b (set_formatter f) id e i h = absurd i
  adding_keeps b (set_placeable_limit n) id e i h = absurd i

  overridden_last : (id : Text) (es : List t.Entry) (ids : Map (Entry C)) → get id (overridden es ids) ≡ last_entry id es (get id ids)
  overridden_last id [] ids = refl
  overridden_last id (message_entry n v as' ∷ es) ids = overridden_last id es _ ∙ ap (last_entry id es) (get_set id n (a_message v as') ids)
  overridden_last id (term_entry n p as' ∷ es) ids = overridden_last id es _ ∙ ap (last_entry id es) (get_set id n (a_term p as') ids)
  overridden_last id (junk_entry source ∷ es) ids = overridden_last id es ids

  pub last_wins : (b : Bundle C) (id : Text) (es : List t.Entry) → get id (after (add_resource_overriding es) b).ids ≡ last_entry id es (get id b.ids)
  last_wins b id es = overridden_last id es b.ids

  added_cut : (es fs : List t.Entry) (ids : Map (Entry C)) → added (es ++ fs) ids ≡ added fs (added es ids)
  added_cut [] fs ids = refl
  added_cut (message_entry n v as' ∷ es) fs ids = added_cut es fs _
  added_cut (term_entry n p as' ∷ es) fs ids = added_cut es fs _
  added_cut (junk_entry source ∷ es) fs ids = added_cut es fs ids

  overridden_cut : (es fs : List t.Entry) (ids : Map (Entry C)) → overridden (es ++ fs) ids ≡ overridden fs (overridden es ids)
  overridden_cut [] fs ids = refl
  overridden_cut (message_entry n v as' ∷ es) fs ids = overridden_cut es fs _
  overridden_cut (term_entry n p as' ∷ es) fs ids = overridden_cut es fs _
  overridden_cut (junk_entry source ∷ es) fs ids = overridden_cut es fs ids

  not_added_cut : (es fs : List t.Entry) (ids : Map (Entry C)) → not_added (es ++ fs) ids ≡ not_added es ids ++ not_added fs (added es ids)
  not_added_cut [] fs ids = refl
  not_added_cut (message_entry n v as' ∷ es) fs ids = ap (λ l. error_if_taken message_kind n ids ++ l) (not_added_cut es fs _) ∙ sym (append_assoc (error_if_taken message_kind n ids) _ _)
  not_added_cut (term_entry n p as' ∷ es) fs ids = ap (λ l. error_if_taken term_kind n ids ++ l) (not_added_cut es fs _) ∙ sym (append_assoc (error_if_taken term_kind n ids) _ _)
  not_added_cut (junk_entry source ∷ es) fs ids = not_added_cut es fs ids

  pub cut_adding : (b : Bundle C) (es fs : List t.Entry) → after (add_resource (es ++ fs)) b ≡ after (add_resource fs) (after (add_resource es) b)
  cut_adding b es fs = ap (λ m. record b { ids = m }) (added_cut es fs b.ids)

  pub cut_errors : (b : Bundle C) (es fs : List t.Entry) → answered (add_resource (es ++ fs)) b ≡ answered (add_resource es) b ++ answered (add_resource fs) (after (add_resource es) b)
  cut_errors b es fs = not_added_cut es fs b.ids

  pub cut_overriding : (b : Bundle C) (es fs : List t.Entry) → after (add_resource_overriding (es ++ fs)) b ≡ after (add_resource_overriding fs) (after (add_resource_overriding es) b)
  cut_overriding b es fs = ap (λ m. record b { ids = m }) (overridden_cut es fs b.ids)
