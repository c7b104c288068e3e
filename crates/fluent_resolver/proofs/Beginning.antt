-- A pattern that begins.
use Rattle.std.proofs.Common.{◌≡◌, refl, sym, ap, ◌∙◌, ℕ, length, List, [], ◌∷◌, Bool, true, false, is_none, Option, None}
use Rattle.fluent_ast.specs.Tree.{Text, Pattern}
use Rattle.fluent_semantics.specs.Ahead.{Rest, Values, after, ahead, begins, comes}
use Rattle.fluent_semantics.specs.Bundle.{Bundle}
use Rattle.fluent_semantics.specs.Events.{entered}
use Rattle.fluent_semantics.specs.Meaning.{Budget}
use Rattle.fluent_semantics.specs.Walk.{Environment, elements, has_one, inner}
use Rattle.fluent_resolver_state.specs.Facts.Happening.{with_none}
use Rattle.fluent_resolver_state.specs.Happened.{Happened}
use Rattle.fluent_path.specs.Contents.{front}
use Rattle.fluent_resolver_state.specs.Status.{Status}
use Rattle.fluent_resolver_state.specs.Steps.{StartsPattern}
use Rattle.fluent_values.specs.Facts.Took.{appends_none}
use Rattle.fluent_values.specs.Sinks.{Sink}
use Rattle.fluent_resolver.specs.Frames.{Along, path_left}
use Rattle.fluent_resolver.specs.Inside.Parts as parts
use Rattle.fluent_resolver.specs.Inside.Parts.{View, Following, goes_on}
use Rattle.fluent_resolver.proofs.Going.{begun, passes, turns}

pub happened_entered : {B : Type 0} {put : Bool} {p : Pattern} {a b : Status B} (w : Sink) → StartsPattern put p a b → Happened (entered (length b.path) ∷ []) w w a b
happened_entered {a = a} w h = record {
  text = appends_none w.held;
  errors = h.elsewhere.errors ∙ sym (with_none a.errors);
  budget = h.elsewhere.budget;
  tally = h.tally;
  beside = refl;
  borrowed = refl;
  stays = h.elsewhere.stays;
}

-- the path after it is the one before it
left_again : {B : Type 0} (put : Bool) {p : Pattern} {a b : Status B} → StartsPattern put p a b → path_left put b.path ≡ a.path
left_again true {p} h = ap front h.path ∙ ap (λ path. front (inner path p)) h.put ∙ sym h.put
left_again false h = h.kept

-- its elements, by where they stand and by what is at hand after them
abbrev elements_in : (Bundle Text → Following) → Option Text → Values Text → Pattern → Bundle Text → Environment Text → Budget → List Pattern → List Pattern → Rest Text
elements_in k kept values p b env budget path outer =
    elements (ahead Text) b (comes b) env path (has_one p) p (is_none kept) (goes_on kept (λ kept d. k b None (record { kept = kept; budget = d; environment = env; path = outer; values = values }))) budget

-- Once it is counted its elements are ahead, and then the path is as it was.
pub begins_pattern : {B : Type 0} {put : Bool} {p : Pattern} {a b : Status B} (n : ℕ) (w : Sink) (k : Bundle Text → Following) (kept : Option Text) (values : Values Text) (one : Bool) → one ≡ has_one p → StartsPattern put p a b
    → Along (parts.whole p a.bundle (k a.bundle) (record { kept = kept; budget = a.budget; environment = a.environment; path = a.path; values = values })) n
    (begins (parts.elements one p b.bundle (λ given v. k b.bundle None (record v { path = path_left put v.path })) (record { kept = kept; budget = b.budget; environment = b.environment; path = b.path; values = values }))) n w w a b
begins_pattern {put = put} {p} {a} {b} n w k kept values one is h =
    let e = h.elsewhere in
    let same : elements_in k kept values p a.bundle a.environment a.budget (inner a.path p) a.path ≡ elements_in k kept values p b.bundle b.environment b.budget b.path (path_left put b.path) =
    ap (λ x. elements_in k kept values p x a.environment a.budget (inner a.path p) a.path) (sym e.stays.bundle)
    ∙ ap (λ x. elements_in k kept values p b.bundle x a.budget (inner a.path p) a.path) (sym e.environment)
    ∙ ap (λ x. elements_in k kept values p b.bundle b.environment x (inner a.path p) a.path) (sym e.budget)
    ∙ ap (λ x. elements_in k kept values p b.bundle b.environment b.budget x a.path) (sym h.path)
    ∙ ap (λ x. elements_in k kept values p b.bundle b.environment b.budget b.path x) (sym (left_again put h)) in
    let counted : after (entered (length (inner a.path p)) ∷ []) (begins (elements_in k kept values p a.bundle a.environment a.budget (inner a.path p) a.path)) ≡ after (entered (length b.path) ∷ []) (begins (elements_in k kept values p b.bundle b.environment b.budget b.path (path_left put b.path))) =
    ap (λ r. after (entered (length (inner a.path p)) ∷ []) (begins r)) same ∙ ap (λ path. after (entered (length path) ∷ []) (begins (elements_in k kept values p b.bundle b.environment b.budget b.path (path_left put b.path)))) (sym h.path) in
    turns (ap (λ y. begins (parts.elements y p b.bundle (λ given v. k b.bundle None (record v { path = path_left put v.path })) (record { kept = kept; budget = b.budget; environment = b.environment; path = b.path; values = values }))) (sym is))
    (passes (happened_entered w h) (turns counted (begun _ n w a)))
