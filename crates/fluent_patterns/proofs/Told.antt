-- Lists of what places ask for tell it.
use mathlib.Core.Bool.{true≢false}
use Rattle.std.proofs.Common.{◌≡◌, ◌↔◌, ◌∙◌, ◌||◌, IsTrue, Bool, true, false, List, [], ◌∷◌, inl, inr, refl, sym, subst, rules}
use Rattle.std.proofs.lemmas.Slice.Eq.{bytes_eq-Decides}
use Rattle.std.specs.List.{AllByRecursion}
use Rattle.fluent_ast.specs.Tree.{Text}
use Rattle.fluent_semantics.specs.Number.{is_text}
use Rattle.fluent_places.specs.Asked.{texts, AsksForAt, IsAskedIn}
use Rattle.fluent_places.specs.Places.{Place, Names}
use Rattle.fluent_places.specs.Needs.{IsAmong}
use Rattle.fluent_places.specs.declared.asked.Asked.{Asked}
use Rattle.fluent_patterns.specs.Names.{is_one_of}
use Rattle.fluent_patterns.specs.Terms.{asks_by, is_asked, TellsAskedAt}

told_head : (v w : Text) (ws : List Text) (b : Bool) → is_text v w ≡ b → (IsTrue (is_one_of ws v) ↔ IsAmong v ws) → IsTrue (b || is_one_of ws v) ↔ IsAmong v (w ∷ ws)
told_head v w ws true e rest = (λ h. inl ((bytes_eq-Decides v w).0 e), λ h. search rules)
told_head v w ws false e rest = (
  λ h. inr (rest.0 h),
  λ h. elim h [ inl same ↦ absurd (true≢false (sym ((bytes_eq-Decides v w).1 same) ∙ e)) | inr later ↦ rest.1 later ],
)

pub told : (v : Text) (ws : List Text) → IsTrue (is_one_of ws v) ↔ IsAmong v ws
told v [] = (λ h. absurd (search rules), λ h. absurd h)
told v (w ∷ ws) = told_head v w ws (is_text v w) refl (told v ws)

told_at : (named : Names Text) (asked : Asked) (x : Place) → IsAskedIn named asked x → TellsAskedAt named (asks_by asked) x
told_at named asked x h v = subst (λ o. IsTrue (is_asked o v) ↔ AsksForAt named x v) (sym h.1)
    (λ yes. (h.2 v).0 ((told v (texts h.0)).0 yes), λ asks. (told v (texts h.0)).1 ((h.2 v).1 asks))

pub all_told : (named : Names Text) (asked : Asked) (xs : List Place) → AllByRecursion (IsAskedIn named asked) xs → AllByRecursion (TellsAskedAt named (asks_by asked)) xs
all_told named asked [] all = tt
all_told named asked (x ∷ xs) all = (told_at named asked x all.0, all_told named asked xs all.1)
