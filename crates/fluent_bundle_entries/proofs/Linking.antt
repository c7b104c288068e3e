-- What is kept in slots is that of their entries, whatever is put into them.
use Rattle.std.specs.Prelude.{◌≡◌, ℕ, List, Bool, true, false, cond, Option, Some, None, IfSome, refl}
use Rattle.std.specs.Option.{option_map, unwrap_or}
use Rattle.std.specs.Str.{bytes_eq}
use Rattle.std.proofs.Common.{Bor, ap, sym, subst, ◌∙◌}
use Rattle.fluent_ast.specs.Tree.{Text, Pattern}
use Rattle.fluent_references.specs.Classes.{Grows}
use Rattle.fluent_references.specs.Links.{KeepsNumbers}
use Rattle.fluent_references.specs.Slots.{named, number}
use Rattle.fluent_bundle_entries.specs.declared.slot.Slot.{Slot}
use Rattle.fluent_bundle_entries.specs.KeptLaws.{grows_by, kept_by, still_linked}
use Rattle.fluent_bundle_entries.specs.KeptLinks.{AreLinked, IsLinked}

some_is : {A : Type 0} (x y : A) → Some x ≡ Some y → x ≡ y
some_is x y h = ap (λ o. unwrap_or o x) h

module _ {F : Type 0} where
  -- slots of which each id names the same
  pub same_linked : (ss ts : List (Text × Option (Slot F))) (t t' : List Pattern) → KeepsNumbers (number ss) (number ts) → Grows t t' → ((q : Text) → named q ts ≡ named q ss) → AreLinked ss t → AreLinked ts t'
  same_linked ss ts t t' kept grows same h = λ id s at. still_linked (number ss) (number ts) t t' kept grows s (h id s (sym (same id) ∙ at))

  either : (b : Bool) (n : Text → Option ℕ) (t : List Pattern) (x s : Slot F) (o : Option (Slot F)) → IsLinked n t x → (o ≡ Some s → IsLinked n t s) → cond b (Some x) o ≡ Some s → IsLinked n t s
  either true n t x s o new old at = subst (IsLinked n t) (some_is x s at) new
  either false n t x s o new old at = old at

  -- what is put into a slot
  pub put_linked : (ss ts : List (Text × Option (Slot F))) (t : List Pattern) (k : Text) (x : Slot F) → ((id : Text) → number ts id ≡ number ss id) → ((q : Text) → named q ts ≡ cond (bytes_eq k q) (Some x) (named q ss))
      → IsLinked (number ss) t x → AreLinked ss t → AreLinked ts t
  put_linked ss ts t k x same puts new h = λ id s at.
      still_linked (number ss) (number ts) t t (kept_by (number ss) (number ts) same) (grows_by t t refl) s
      (either (bytes_eq k id) (number ss) t x s (named id ss) new (h id s) (sym (puts id) ∙ at))

  -- what is found
  pub found_linked : (r : Option (Bor (Slot F))) (ss : List (Text × Option (Slot F))) (t : List Pattern) (id : Text) → option_map (λ s. s.now) r ≡ named id ss → AreLinked ss t → IfSome r (λ s. IsLinked (number ss) t s.now)
  found_linked None ss t id is h = tt
  found_linked (Some s) ss t id is h = h id s.now (sym is)
