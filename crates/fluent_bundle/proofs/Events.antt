-- What the events of a pattern come to, and those of patterns of texts.
use Rattle.std.proofs.Common.{◌≡◌, refl, sym, ap, ◌∙◌, ℕ, List, [], ◌∷◌, ◌++◌, append-nil, append_assoc, Bool, true, Some}
use Rattle.fluent_ast.specs.Tree.{Text, Pattern, nothing, more, text, placeable}
use Rattle.fluent_semantics.specs.Ahead.{Ahead, EventsAreTheRun, Next, ahead, comes, finished}
use Rattle.fluent_semantics.specs.Arguments.{Map}
use Rattle.fluent_semantics.specs.Bundle.{Bundle}
use Rattle.fluent_semantics.specs.Events.{entered, writes, text_in, errors_in}
use Rattle.fluent_semantics.specs.Meaning.{left}
use Rattle.fluent_semantics.specs.Laws.{CallsByThemselves}
use Rattle.fluent_semantics.specs.Result.{written_pattern}
use Rattle.fluent_semantics.specs.Value.{Value}
use Rattle.fluent_semantics.specs.Walk.{Environment, application, elements, has_one, inner}
use Rattle.fluent_bundle_entries.specs.Texts.{sole_text, is_text, texts_of}
use Rattle.fluent_bundle.specs.Facts.Events.{errors_of, errors_on, text_of, text_on, writes_on}
use Rattle.fluent_bundle.specs.Formatted.{EventsAreRun, written_events}

-- they come to what the pattern gives
pub are_run : EventsAreTheRun Text → CallsByThemselves Text → (b : Bundle Text) (args : Map (Value Text)) (p : Pattern) → EventsAreRun b args p
are_run events calls b args p =
    let is = events.pattern b (application args) [] p (left b.limit) in
    let same = sym (calls.pattern b args p) in
    let text : text_in (written_events b args p) ≡ (written_pattern b args p).value = is.text ∙ ap (λ r. r.value) same in
    let errors : errors_in (written_events b args p) ≡ (written_pattern b args p).errors = is.errors ∙ ap (λ r. r.errors) same in
    record {
      run = record { text = text; errors = errors; left = is.budget ∙ ap (λ r. r.budget) same };
      prefix = λ done rest whole. record {
        text = sym (text_on done rest) ∙ ap text_in whole ∙ text;
        errors = sym (errors_on done rest) ∙ ap errors_in whole ∙ errors;
      };
    }

-- ---- patterns of texts, which nothing changes

texts_ahead : (b : Bundle Text) (below : Environment Text → List Pattern → Pattern → Ahead Text Text) (env : Environment Text) (path : List Pattern) (one : Bool) (p : Pattern) (k : Next Text Text) (n : ℕ) → ((u : Text) → b.transform u ≡ u) → is_text p ≡ true
    → (elements (ahead Text) b below env path one p true k (left n)).events ≡ writes (texts_of p) ++ (k [] (left n)).events
unfolding elements
texts_ahead b below env path one nothing k n plain is = refl
texts_ahead b below env path one (more (text t) rest) k n plain is =
    let last = (k [] (left n)).events in
    ap (λ es. writes (b.transform t) ++ es) (texts_ahead b below env path one rest k n plain is)
    ∙ ap (λ u. writes u ++ (writes (texts_of rest) ++ last)) (plain t)
    ∙ sym (append_assoc (writes t) (writes (texts_of rest)) last)
    ∙ ap (λ es. es ++ last) (sym (writes_on t (texts_of rest)))
texts_ahead b below env path one (more (placeable x) rest) k n plain is = cc

pub texts_events : (b : Bundle Text) (env : Map (Value Text)) (p : Pattern) → ((u : Text) → b.transform u ≡ u) → is_text p ≡ true → written_events b env p ≡ entered 1 ∷ writes (texts_of p)
texts_events b env p plain is =
    ap (λ es. entered 1 ∷ es) (texts_ahead b (comes b) (application env) (inner [] p) (has_one p) p finished b.limit plain is ∙ append-nil (writes (texts_of p)))

sole_is_text : (p : Pattern) (t : Text) → sole_text p ≡ Some t → (is_text p ≡ true) × (texts_of p ≡ t)
sole_is_text nothing t is = cc
sole_is_text (more (text u) nothing) t is = (refl, append-nil u ∙ cc is)
sole_is_text (more (text u) (more e p)) t is = cc
sole_is_text (more (placeable x) p) t is = cc

pub sole_events : (b : Bundle Text) (env : Map (Value Text)) (p : Pattern) (t : Text) → ((u : Text) → b.transform u ≡ u) → sole_text p ≡ Some t → written_events b env p ≡ entered 1 ∷ writes t
sole_events b env p t plain is =
    let alone = sole_is_text p t is in
    texts_events b env p plain alone.0 ∙ ap (λ u. entered 1 ∷ writes u) alone.1

-- what they come to
pub texts_value : (b : Bundle Text) (env : Map (Value Text)) (p : Pattern) → EventsAreRun b env p → ((u : Text) → b.transform u ≡ u) → is_text p ≡ true → texts_of p ≡ (written_pattern b env p).value
texts_value b env p law plain is = sym (text_of (texts_of p)) ∙ ap text_in (sym (texts_events b env p plain is)) ∙ law.run.text

pub texts_errors : (b : Bundle Text) (env : Map (Value Text)) (p : Pattern) → EventsAreRun b env p → ((u : Text) → b.transform u ≡ u) → is_text p ≡ true → [] ≡ (written_pattern b env p).errors
texts_errors b env p law plain is = sym (errors_of (texts_of p)) ∙ ap errors_in (sym (texts_events b env p plain is)) ∙ law.run.errors
