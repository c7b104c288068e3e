-- What stands under an id has that id, whatever is put into the slots.
use Rattle.std.specs.Prelude.{◌≡◌, List, Bool, true, false, cond, Option, Some, None, IsTrue, IfSome, refl}
use Rattle.std.specs.Option.{option_map}
use Rattle.std.specs.Str.{bytes_eq}
use Rattle.std.proofs.Common.{Bor, sym, subst}
use Rattle.std.proofs.lemmas.Slice.Eq.{bytes_eq-Decides}
use Rattle.fluent_ast.specs.Tree.{Text}
use Rattle.fluent_references.specs.Slots.{named}
use Rattle.fluent_bundle_entries.specs.declared.entry.Entry.{Entry}
use Rattle.fluent_bundle_entries.specs.declared.entry.Entry.TheVariants as entry
use Rattle.fluent_bundle_entries.specs.declared.slot.Slot.{Slot}
use Rattle.fluent_bundle_entries.specs.Named.{is_named, is_found_named, AreNamed, own_id}

module _ {F : Type 0} where
  -- slots of which each id names the same
  pub same_own : (ss ts : List (Text × Option (Slot F))) → ((q : Text) → named q ts ≡ named q ss) → AreNamed ss → AreNamed ts
  same_own ss ts h own = λ id. subst (λ o. IsTrue (is_found_named id o)) (sym (h id)) (own id)

  either : (b : Bool) (id : Text) (x : Slot F) (o : Option (Slot F)) → (b ≡ true → IsTrue (is_named id x.entry)) → IsTrue (is_found_named id o) → IsTrue (is_found_named id (cond b (Some x) o))
  either true id x o new old = new refl
  either false id x o new old = old

  -- what is put under its own id
  pub put_own : (ss ts : List (Text × Option (Slot F))) (k : Text) (x : Slot F) → ((q : Text) → named q ts ≡ cond (bytes_eq k q) (Some x) (named q ss))
      → IsTrue (is_named k x.entry) → AreNamed ss → AreNamed ts
  put_own ss ts k x h own all = λ id.
      subst (λ o. IsTrue (is_found_named id o)) (sym (h id))
      (either (bytes_eq k id) id x (named id ss) (λ e. subst (λ t. IsTrue (is_named t x.entry)) ((bytes_eq-Decides k id).0 e) own) (all id))

  -- what is found is under its own id
  pub found_own : (r : Option (Bor (Slot F))) (ss : List (Text × Option (Slot F))) (id : Text) → option_map (λ e. e.now) r ≡ named id ss → AreNamed ss → IfSome r (λ e. IsTrue (is_named id e.now.entry))
  found_own None ss id is own = tt
  found_own (Some e) ss id is own = subst (λ o. IsTrue (is_found_named id o)) (sym is) (own id)

  -- an entry is named by its own id
  pub by_own_id : (e : Entry F) → IsTrue (is_named (own_id e) e)
  by_own_id (entry.Message x) = (bytes_eq-Decides x.now.id.name.now x.now.id.name.now).1 refl
  by_own_id (entry.Term x) = (bytes_eq-Decides x.now.id.name.now x.now.id.name.now).1 refl
  by_own_id (entry.Function f) = refl
  by_own_id entry.Number = refl
