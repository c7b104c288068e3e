-- References to patterns of one text, which are entered and left at once.
use Rattle.std.proofs.Common.{◌≡◌, refl, sym, ap, subst, ◌∙◌, ℕ, length, List, [], ◌∷◌, ◌++◌, false, Option, None, Some, IfSome}
use Rattle.std.specs.Borrow.{Bor}
use Rattle.fluent_ast.specs.Tree.{Text, Pattern, Inline, string, number, function, message, term, variable, nested, Attribute, no_call, call}
use Rattle.fluent_semantics.specs.Ahead.{ComesByItself, Rest, begins}
use Rattle.fluent_semantics.specs.Arguments.{get}
use Rattle.fluent_semantics.specs.Bundle.{Bundle, Target, found, unknown, message_target, term_target}
use Rattle.fluent_semantics.specs.Events.{entered}
use Rattle.fluent_semantics.specs.Meaning.{Budget, left, limit_reached}
use Rattle.fluent_semantics.specs.Value.{text_value}
use Rattle.fluent_semantics.specs.Walk.{Environment, local, is_on}
use Rattle.fluent_resolver_state.specs.FoundView.{IsFreeText, found_view}
use Rattle.fluent_resolver_state.specs.Happened.{Happened}
use Rattle.fluent_resolver_state.specs.StateCalls.{text_left}
use Rattle.fluent_resolver_state.specs.Status.{Status}
use Rattle.fluent_resolver_state.specs.declared.found.Found.{Found}
use Rattle.fluent_resolver_state.specs.declared.found.Found.TheVariants as leads
use Rattle.fluent_values.specs.Sinks.{Sink}
use Rattle.fluent_resolver.specs.Frames.{Along, kept_text}
use Rattle.fluent_resolver.specs.Inside.Parts as parts
use Rattle.fluent_resolver.specs.Inside.Parts.{Following, LeadsToText, View, target_of, text_alone}
use Rattle.fluent_resolver.proofs.Entering.{enters_term, follow_found, goes_visited}
use Rattle.fluent_resolver.proofs.Going.{passes, starts, turns}
use Rattle.fluent_resolver.proofs.Terms.{term_alone}
use Rattle.fluent_resolver.proofs.Unbraced.{written_message, written_term}
use Rattle.fluent_resolver.proofs.Visiting.{none_visited, text_visited}

-- it reads no variable, and the environment is given back
visited_anywhere : (y : Text) (env : Environment Text) (b : Bundle Text) (k : Following) (v : View) → parts.visited (text_alone y) b (λ given u. k None (record u { environment = v.environment })) (record v { environment = env }) ≡ parts.visited (text_alone y) b k v
visited_anywhere y env b k v = by v.budget refl
  where
    by : (n : Budget) → v.budget ≡ n → parts.visited (text_alone y) b (λ given u. k None (record u { environment = v.environment })) (record v { environment = env }) ≡ parts.visited (text_alone y) b k v
    by limit_reached is =
        none_visited y b (λ given u. k None (record u { environment = v.environment })) (record v { environment = env }) is
        ∙ sym (none_visited y b k v is)
    by (left n) is =
        let some : (v.budget ≡ limit_reached → ⊥) = λ h. cc in
        text_visited y b (λ given u. k None (record u { environment = v.environment })) (record v { environment = env }) some
        ∙ sym (text_visited y b k v some)

message_leads : ComesByItself Text → (m : Text) (a : Attribute) (y : Text) (b : Bundle Text) (k : Following) (v : View) → message_target (get m b.ids) a ≡ found (text_alone y) → is_on v.path (text_alone y) ≡ false
    → parts.written (message m a) b k v ≡ parts.visited (text_alone y) b k v
message_leads law m a y b k v leads off =
    written_message m a b k v
    ∙ follow_found (message m a) m (message_target (get m b.ids) a) (text_alone y) b k v leads
    ∙ goes_visited law (message m a) (text_alone y) b k v off

term_leads : ComesByItself Text → (t : Text) (a : Attribute) (y : Text) (b : Bundle Text) (k : Following) (v : View) → term_target (get t b.ids) a ≡ found (text_alone y) → is_on v.path (text_alone y) ≡ false
    → parts.written (term t a no_call) b k v ≡ begins (parts.visited (text_alone y) b k v)
term_leads law t a y b k v leads off =
    let x = term t a no_call in
    let after : Following = λ given u. k None (record u { environment = v.environment }) in
    let there : View = record v { environment = local [] } in
    written_term t a no_call b k v
    ∙ term_alone x t (term_target (get t b.ids) a) b k v
    ∙ ap begins (enters_term x t (term_target (get t b.ids) a) [] b k v
    ∙ follow_found x t (term_target (get t b.ids) a) (text_alone y) b after there leads
    ∙ goes_visited law x (text_alone y) b after there off
    ∙ visited_anywhere y (local []) b k v)

module _ {B : Type 0} {before : Rest Text} {n n' : ℕ} {w w' : Sink} {s a : Status B} (law : ComesByItself Text) (y : Text) (b : Bundle Text) (k : Following) (v : View) where
  -- it is that pattern, entered and left
  pub leads_to_text : (x : Inline) → target_of b x ≡ found (text_alone y) → is_on v.path (text_alone y) ≡ false → Along before n (parts.written x b k v) n' w w' s a → Along before n (parts.visited (text_alone y) b k v) n' w w' s a
  leads_to_text (message m at) leads off way = turns (message_leads law m at y b k v leads off) way
  leads_to_text (term t at no_call) leads off way = starts (turns (term_leads law t at y b k v leads off) way)
  leads_to_text (term t at (call args)) leads off way = cc
  leads_to_text (string t) leads off way = cc
  leads_to_text (number t) leads off way = cc
  leads_to_text (function f args) leads off way = cc
  leads_to_text (variable x) leads off way = cc
  leads_to_text (nested e) leads off way = cc

-- a text that is kept, as a value
module _ (k : Following) (v : View) where
  abbrev then_value : Following
  then_value given u = k (Some (text_value (kept_text u.kept))) (record u { kept = v.kept })

  abbrev kept_there : View
  kept_there = record v { kept = Some [] }

pub gives_text : {B : Type 0} {before : Rest Text} {n n' : ℕ} {w w' : Sink} {s a a' : Status B} (law : ComesByItself Text) (x : Inline) (y : Text) (b : Bundle Text) (k : Following) (v : View) → target_of b x ≡ found (text_alone y) → is_on v.path (text_alone y) ≡ false
    → Happened (entered (length (v.path ++ text_alone y ∷ [])) ∷ []) w' w' a a'
    → Along before n (parts.kept x b k v) n' w w' s a
    → Along before n (k (Some (text_value (text_left v.budget (b.transform y)))) v) n' w w' s a'
gives_text {B} {before} {n} {n'} {w} {w'} {s} {a} {a'} law x y b k v leads off j way =
    by v.budget refl (leads_to_text law y b (then_value k v) (kept_there k v) x leads off (starts {now = parts.written x b (then_value k v) (kept_there k v)} way))
  where
    by : (d : Budget) → v.budget ≡ d → Along before n (parts.visited (text_alone y) b (then_value k v) (kept_there k v)) n' w w' s a → Along before n (k (Some (text_value (text_left v.budget (b.transform y)))) v) n' w w' s a'
    by limit_reached is here =
        turns (ap (λ d. k (Some (text_value (text_left d (b.transform y)))) v) (sym is))
        (starts (passes j (turns (none_visited y b (then_value k v) (kept_there k v) is) here)))
    by (left m) is here =
        let some : (v.budget ≡ limit_reached → ⊥) = λ h. cc in
        turns (ap (λ d. k (Some (text_value (text_left d (b.transform y)))) v) (sym is))
        (starts (starts (passes j (turns (text_visited y b (then_value k v) (kept_there k v) some) here))))

-- ---- where a reference leads

pub if_some : {A : Type 0} {o : Option (Bor A)} {x : Bor A} (P : A → Type 0) → o ≡ Some x → IfSome o (λ y. P y.now) → P x.now
if_some P is h = subst (λ o. IfSome o (λ y. P y.now)) is h

pub leads_if_free : {B : Type 0} (s : Status B) (x : Inline) (f : Found) (o : Option (Bor Text)) → target_of s.bundle x ≡ found_view f → IfSome o (λ y. IsFreeText s.path f y.now) → IfSome o (λ y. LeadsToText s x y.now)
leads_if_free s x (leads.Pattern t) (Some y) is h = (is ∙ ap found h.0, subst (λ p. is_on s.path p ≡ false) h.0 h.1)
leads_if_free s x leads.Unknown (Some y) is h = absurd h
leads_if_free s x leads.WithoutValue (Some y) is h = absurd h
leads_if_free s x (leads.Pattern t) None is h = tt
leads_if_free s x leads.Unknown None is h = tt
leads_if_free s x leads.WithoutValue None is h = tt
