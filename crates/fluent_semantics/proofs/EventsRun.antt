-- The events of a run are its text, its errors and its counts.
use Rattle.std.proofs.Common.{◌≡◌, ℕ, zero, suc, ◌+◌, max, List, [], ◌∷◌, ◌++◌, Bool, true, false, refl, sym, ap, ◌∙◌, append_assoc, append-nil, add_assoc, arith, zero-add}
use Rattle.std.specs.Bool.{⊤}
use Rattle.fluent_ast.specs.Tree.{Text, Pattern, Inline, Expression, Arguments}
use Rattle.fluent_ast.specs.Fallback.{fallback_of}
use Rattle.fluent_semantics.specs.Errors.{ResolverError, resolver_error, too_many_placeables}
use Rattle.fluent_semantics.specs.Value.{Value}
use Rattle.fluent_semantics.specs.Arguments.{Map}
use Rattle.fluent_semantics.specs.Bundle.{Bundle}
use Rattle.fluent_semantics.specs.Walk.{Environment, has_one, inner, is_on, whole, go, expression, called, deep}
use Rattle.fluent_semantics.specs.Meaning.{Budget, left, limit_reached, at_most, Ran, first_mark, last_mark, ending}
use Rattle.fluent_semantics.specs.Work.{Worked, counting, together, work_element, work_opens, with_work, worked, work}
use Rattle.fluent_semantics.specs.Events.{Event, wrote, told, opened, reached_limit, entered, writes, text_in, errors_in, spent, less_one, opened_in, longest_in, entered_in}
use Rattle.fluent_semantics.specs.Ahead.{Rest, after, begins, Next, Ahead, put, element_ahead, opens_ahead, closed_ahead, closed_work, ahead, comes, finished, handed, events_of, IsRun, IsValued, EventsAreTheRun}
use Rattle.fluent_semantics.proofs.Related.{Relation, elements_related, expression_related, called_related}

-- ---- what a list of events comes to, after another

pub text_on : (a b : List Event) → text_in (a ++ b) ≡ text_in a ++ text_in b
text_on [] b = refl
text_on (wrote c ∷ a) b = ap (λ y. c ∷ y) (text_on a b)
text_on (told e ∷ a) b = text_on a b
text_on (opened ∷ a) b = text_on a b
text_on (reached_limit ∷ a) b = text_on a b
text_on (entered n ∷ a) b = text_on a b

pub errors_on : (a b : List Event) → errors_in (a ++ b) ≡ errors_in a ++ errors_in b
errors_on [] b = refl
errors_on (wrote c ∷ a) b = errors_on a b
errors_on (told e ∷ a) b = ap (λ y. e ∷ y) (errors_on a b)
errors_on (opened ∷ a) b = errors_on a b
errors_on (reached_limit ∷ a) b = errors_on a b
errors_on (entered n ∷ a) b = errors_on a b

pub spent_on : (a b : List Event) (n : Budget) → spent (a ++ b) n ≡ spent b (spent a n)
spent_on [] b n = refl
spent_on (wrote c ∷ a) b n = spent_on a b n
spent_on (told e ∷ a) b n = spent_on a b n
spent_on (opened ∷ a) b n = spent_on a b (less_one n)
spent_on (reached_limit ∷ a) b n = spent_on a b limit_reached
spent_on (entered i ∷ a) b n = spent_on a b n

pub opened_on : (a b : List Event) → opened_in (a ++ b) ≡ opened_in a + opened_in b
opened_on [] b = sym (zero-add (opened_in b))
opened_on (wrote c ∷ a) b = opened_on a b
opened_on (told e ∷ a) b = opened_on a b
opened_on (opened ∷ a) b = omega (arith, opened_on a b)
opened_on (reached_limit ∷ a) b = opened_on a b
opened_on (entered n ∷ a) b = opened_on a b

pub longest_on : (a b : List Event) → longest_in (a ++ b) ≡ max (longest_in a) (longest_in b)
longest_on [] b = omega arith
longest_on (wrote c ∷ a) b = longest_on a b
longest_on (told e ∷ a) b = longest_on a b
longest_on (opened ∷ a) b = longest_on a b
longest_on (reached_limit ∷ a) b = longest_on a b
longest_on (entered n ∷ a) b = omega (arith, longest_on a b)

pub entered_on : (a b : List Event) → entered_in (a ++ b) ≡ entered_in a + entered_in b
entered_on [] b = sym (zero-add (entered_in b))
entered_on (wrote c ∷ a) b = entered_on a b
entered_on (told e ∷ a) b = entered_on a b
entered_on (opened ∷ a) b = entered_on a b
entered_on (reached_limit ∷ a) b = entered_on a b
entered_on (entered n ∷ a) b = omega (arith, entered_on a b)

-- all but the text of a run
pub record IsTrace {A : Type 0} (w : Worked A) (b : Budget) (es : List Event) : Type 0 where
  pub errors : errors_in es ≡ w.ran.errors
  pub budget : spent es b ≡ w.ran.budget
  pub opened : opened_in es ≡ w.opened
  pub longest : longest_in es ≡ w.longest
  pub entered : entered_in es ≡ w.entered

-- those of one part and then of another
in_turn : {A B D : Type 0} (m : Worked A) (k : Worked B) (r : Ran D) (b : Budget) (es fs : List Event) → r.errors ≡ m.ran.errors ++ k.ran.errors → r.budget ≡ k.ran.budget → IsTrace m b es → IsTrace k m.ran.budget fs → IsTrace (together m k r) b (es ++ fs)
in_turn m k r b es fs he hb h j = record {
  errors = errors_on es fs ∙ ap (λ x. x ++ errors_in fs) h.errors ∙ ap (λ x. m.ran.errors ++ x) j.errors ∙ sym he;
  budget = spent_on es fs b ∙ ap (spent fs) h.budget ∙ j.budget ∙ sym hb;
  opened = omega (arith, opened_on es fs, h.opened, j.opened);
  longest = omega (arith, longest_on es fs, h.longest, j.longest);
  entered = omega (arith, entered_on es fs, h.entered, j.entered);
}

written_errors : (t : Text) → errors_in (writes t) ≡ []
written_errors [] = refl
written_errors (c ∷ t) = written_errors t

pub written_text : (t : Text) → text_in (writes t) ≡ t
written_text [] = refl
written_text (c ∷ t) = ap (λ x. c ∷ x) (written_text t)

written_budget : (t : Text) (b : Budget) → spent (writes t) b ≡ b
written_budget [] b = refl
written_budget (c ∷ t) b = written_budget t b

written_opened : (t : Text) → opened_in (writes t) ≡ 0
written_opened [] = refl
written_opened (c ∷ t) = written_opened t

written_longest : (t : Text) → longest_in (writes t) ≡ 0
written_longest [] = refl
written_longest (c ∷ t) = written_longest t

written_entered : (t : Text) → entered_in (writes t) ≡ 0
written_entered [] = refl
written_entered (c ∷ t) = written_entered t

-- bytes that are written behind change nothing else
with_text : {A : Type 0} (w : Worked A) (b : Budget) (es : List Event) (t : Text) → IsTrace w b es → IsTrace w b (es ++ writes t)
with_text w b es t h = record {
  errors = errors_on es (writes t) ∙ ap (λ x. errors_in es ++ x) (written_errors t) ∙ append-nil (errors_in es) ∙ h.errors;
  budget = spent_on es (writes t) b ∙ written_budget t (spent es b) ∙ h.budget;
  opened = omega (arith, opened_on es (writes t), written_opened t, h.opened);
  longest = omega (arith, longest_on es (writes t), written_longest t, h.longest);
  entered = omega (arith, entered_on es (writes t), written_entered t, h.entered);
}

nothing_traced : {A : Type 0} (x : A) (b : Budget) → IsTrace (with_work.give x b) b []
nothing_traced x b = record { errors = refl; budget = refl; opened = refl; longest = refl; entered = refl }

nothing_more_traced : IsTrace {A = Text} (counting 0 0 0 (record { value = []; errors = []; budget = limit_reached })) limit_reached []
nothing_more_traced = record { errors = refl; budget = refl; opened = refl; longest = refl; entered = refl }

four : (a b c d : Text) → (a ++ (b ++ c)) ++ d ≡ (a ++ b) ++ (c ++ d)
four a b c d = append_assoc a (b ++ c) d ∙ ap (λ y. a ++ y) (append_assoc b c d) ∙ sym (append_assoc a b (c ++ d))

abbrev limit_told : List Event
limit_told = reached_limit ∷ told (resolver_error too_many_placeables) ∷ []

limit_traced : (marked : Bool) (t : Text) (m : Budget → Worked Text) → IsTrace (work_opens marked t m (left zero)) (left zero) limit_told
limit_traced marked t m = record { errors = refl; budget = refl; opened = refl; longest = refl; entered = refl }

-- one was opened, and its expression was resolved
opened_traced : (marked : Bool) (t : Text) (m : Budget → Worked Text) (i : ℕ) (es : List Event) → IsTrace (m (left i)) (left i) es → IsTrace (work_opens marked t m (left (suc i))) (left (suc i)) (opened ∷ es)
opened_traced marked t m i es h = record { errors = h.errors; budget = h.budget; opened = ap (λ n. n + 1) h.opened; longest = h.longest; entered = h.entered }

entering_traced : (i : ℕ) (m : Budget → Worked Text) (b : Budget) (es : List Event) → IsTrace (m b) b es → IsTrace (with_work.enters i m b) b (entered i ∷ es)
entering_traced i m b es h = record { errors = h.errors; budget = h.budget; opened = h.opened; longest = ap (max i) h.longest; entered = ap (λ n. n + 1) h.entered }

module _ {C : Type 0} where
  -- ---- events of parts

  -- these events and so many parts, then what follows
  abbrev then : List Event → ℕ → Rest C → Rest C
  then es n r = record { events = es ++ r.events; parts = n + r.parts; values = r.values }

  then_on : (es fs : List Event) (n i : ℕ) (r : Rest C) → then es n (then fs i r) ≡ then (es ++ fs) (n + i) r
  then_on es fs n i r = ap (λ x. record { events = x; parts = n + (i + r.parts); values = r.values }) (sym (append_assoc es fs r.events)) ∙ ap (λ x. record { events = (es ++ fs) ++ r.events; parts = x; values = r.values }) (sym (add_assoc n i r.parts))

  then_none : (r : Rest C) → r ≡ then [] 0 r
  then_none r = ap (λ x. record { events = r.events; parts = x; values = r.values }) (sym (zero-add r.parts))

  begins_then : (es : List Event) (n : ℕ) (r : Rest C) → begins (then es n r) ≡ then es (suc n) r
  begins_then es n r = ap (λ x. record { events = es ++ r.events; parts = x; values = r.values }) (omega arith)

  after_then : (fs es : List Event) (n : ℕ) (r : Rest C) → after fs (then es n r) ≡ then (fs ++ es) n r
  after_then fs es n r = ap (λ x. record { events = x; parts = n + r.parts; values = r.values }) (sym (append_assoc fs es r.events))

  -- a part whose text is kept, or that has another value
  record Silent {A : Type 0} (w : Worked A) (b : Budget) (goes_on : Next C A → Rest C) : Type 0 where
    events : List Event
    parts : ℕ
    text : text_in events ≡ []
    trace : IsTrace w b events
    goes : (k : Next C A) → goes_on k ≡ then events parts (k w.ran.value w.ran.budget)

  -- a part that writes, and leaves some of its text to be written
  record Writing (w : Worked Text) (b : Budget) (goes_on : Next C Text → Rest C) : Type 0 where
    events : List Event
    parts : ℕ
    left_over : Text
    text : text_in events ++ left_over ≡ w.ran.value
    trace : IsTrace w b events
    goes : (k : Next C Text) → goes_on k ≡ then events parts (k left_over w.ran.budget)

  abbrev Gives : {A : Type 0} → (Budget → Worked A) → Ahead C A → Type 0
  Gives {A} m n = (b : Budget) → Silent (m b) b (λ k. n false k b)

  record Does (m : Budget → Worked Text) (n : Ahead C Text) : Type 0 where
    silent : Gives m n
    writing : (b : Budget) → Writing (m b) b (λ k. n true k b)

  gives_value : {A : Type 0} (x : A) → Gives (with_work.give x) ((ahead C).give x)
  gives_value x b = record { events = []; parts = 0; text = refl; trace = nothing_traced x b; goes = λ k. then_none (k x b) }

  gives_text : (t : Text) → Does (with_work.give t) ((ahead C).give t)
  gives_text t = record { silent = gives_value t; writing = λ b. record { events = []; parts = 0; left_over = t; text = refl; trace = nothing_traced t b; goes = λ k. then_none (k t b) } }

  fails_with : (e : ResolverError) (t : Text) → Does (with_work.fails e t) ((ahead C).fails e t)
  fails_with e t = record {
    silent = λ b. record { events = told (resolver_error e) ∷ []; parts = 0; text = refl; trace = traced b; goes = λ k. ap (after (told (resolver_error e) ∷ [])) (then_none (k t b)) };
    writing = λ b. record { events = told (resolver_error e) ∷ []; parts = 0; left_over = t; text = refl; trace = traced b; goes = λ k. ap (after (told (resolver_error e) ∷ [])) (then_none (k t b)) };
  }
    where
      traced : (b : Budget) → IsTrace (with_work.fails e t b) b (told (resolver_error e) ∷ [])
      traced b = record { errors = refl; budget = refl; opened = refl; longest = refl; entered = refl }

  gives_on : {A B : Type 0} (m : Budget → Worked A) (n : Ahead C A) (f : A → Budget → Worked B) (g : A → Ahead C B) → Gives m n → ((x : A) → Gives (f x) (g x)) → Gives (with_work.bind m f) ((ahead C).bind n g)
  gives_on m n f g h j b =
      let d = h b in let w = m b in let e = j w.ran.value w.ran.budget in let v = f w.ran.value w.ran.budget in
      record {
        events = d.events ++ e.events;
        parts = suc (d.parts + e.parts);
        text = text_on d.events e.events ∙ ap (λ t. t ++ text_in e.events) d.text ∙ e.text;
        trace = in_turn w v _ b d.events e.events refl refl d.trace e.trace;
        goes = λ k. ap begins (d.goes (λ x. g x false k) ∙ ap (then d.events d.parts) (e.goes k) ∙ then_on d.events e.events d.parts e.parts (k v.ran.value v.ran.budget)) ∙ begins_then (d.events ++ e.events) (d.parts + e.parts) (k v.ran.value v.ran.budget);
      }

  does_on : {A : Type 0} (m : Budget → Worked A) (n : Ahead C A) (f : A → Budget → Worked Text) (g : A → Ahead C Text) → Gives m n → ((x : A) → Does (f x) (g x)) → Does (with_work.bind m f) ((ahead C).bind n g)
  does_on m n f g h j = record {
    silent = gives_on m n f g h (λ x. (j x).silent);
    writing = λ b.
        let d = h b in let w = m b in let e = (j w.ran.value).writing w.ran.budget in let v = f w.ran.value w.ran.budget in
        record {
          events = d.events ++ e.events;
          parts = suc (d.parts + e.parts);
          left_over = e.left_over;
          text = ap (λ t. t ++ e.left_over) (text_on d.events e.events ∙ ap (λ t. t ++ text_in e.events) d.text) ∙ e.text;
          trace = in_turn w v _ b d.events e.events refl refl d.trace e.trace;
          goes = λ k. ap begins (d.goes (λ x. g x true k) ∙ ap (then d.events d.parts) (e.goes k) ∙ then_on d.events e.events d.parts e.parts (k e.left_over v.ran.budget)) ∙ begins_then (d.events ++ e.events) (d.parts + e.parts) (k e.left_over v.ran.budget);
        };
  }

  element_silent : (m k : Budget → Worked Text) (n l : Ahead C Text) → Does m n → Does k l → Gives (work_element m k) (element_ahead n l)
  element_silent m k n l h j (left i) =
      let w = m (left i) in let v = k w.ran.budget in let d = h.silent (left i) in let e = j.silent w.ran.budget in
      record {
        events = d.events ++ e.events;
        parts = suc (d.parts + e.parts);
        text = text_on d.events e.events ∙ ap (λ t. t ++ text_in e.events) d.text ∙ e.text;
        trace = in_turn w v _ (left i) d.events e.events refl refl d.trace e.trace;
        goes = λ c. ap begins (d.goes (λ t. put false t (λ u. l false (λ v. c (u ++ v)))) ∙ ap (then d.events d.parts) (e.goes (λ v. c (w.ran.value ++ v))) ∙ then_on d.events e.events d.parts e.parts (c (w.ran.value ++ v.ran.value) v.ran.budget)) ∙ begins_then (d.events ++ e.events) (d.parts + e.parts) (c (w.ran.value ++ v.ran.value) v.ran.budget);
      }
  element_silent m k n l h j limit_reached = record { events = []; parts = 0; text = refl; trace = nothing_more_traced; goes = λ c. then_none (c [] limit_reached) }

  -- bytes, then what follows
  after_written : (es : List Event) (t : Text) (n : ℕ) (r : Rest C) → then es n (after (writes t) r) ≡ then (es ++ writes t) n r
  after_written es t n r = ap (λ x. record { events = x; parts = n + r.parts; values = r.values }) (sym (append_assoc es (writes t) r.events))

  element_writing : (m k : Budget → Worked Text) (n l : Ahead C Text) → Does m n → Does k l → (b : Budget) → Writing (work_element m k b) b (λ c. element_ahead n l true c b)
  element_writing m k n l h j (left i) =
      let w = m (left i) in let v = k w.ran.budget in let d = h.writing (left i) in let e = j.writing w.ran.budget in let put_out = d.events ++ writes d.left_over in
      record {
        events = put_out ++ e.events;
        parts = suc (d.parts + e.parts);
        left_over = e.left_over;
        text = ap (λ t. t ++ e.left_over) (text_on put_out e.events ∙ ap (λ t. t ++ text_in e.events) (text_on d.events (writes d.left_over) ∙ ap (λ t. text_in d.events ++ t) (written_text d.left_over) ∙ d.text)) ∙ append_assoc w.ran.value (text_in e.events) e.left_over ∙ ap (λ t. w.ran.value ++ t) e.text;
        trace = in_turn w v _ (left i) put_out e.events refl refl (with_text w (left i) d.events d.left_over d.trace) e.trace;
        goes = λ c. ap begins (d.goes (λ t. put true t (λ u. l true (λ v. c (u ++ v)))) ∙ ap (λ x. then d.events d.parts (after (writes d.left_over) x)) (e.goes c) ∙ after_written d.events d.left_over d.parts (then e.events e.parts (c e.left_over v.ran.budget)) ∙ then_on put_out e.events d.parts e.parts (c e.left_over v.ran.budget)) ∙ begins_then (put_out ++ e.events) (d.parts + e.parts) (c e.left_over v.ran.budget);
      }
  element_writing m k n l h j limit_reached = record { events = []; parts = 0; left_over = []; text = refl; trace = nothing_more_traced; goes = λ c. then_none (c [] limit_reached) }

  opens_silent : (marked : Bool) (t : Text) (m : Budget → Worked Text) (n : Ahead C Text) → Does m n → Gives (work_opens marked t m) (opens_ahead marked t n)
  opens_silent marked t m n h (left zero) = record { events = limit_told; parts = 0; text = refl; trace = limit_traced marked t m; goes = λ k. ap (after limit_told) (then_none (k [] limit_reached)) }
  opens_silent marked t m n h (left (suc i)) =
      let d = h.silent (left i) in let w = m (left i) in let first = first_mark marked in
      record {
        events = opened ∷ d.events;
        parts = suc d.parts;
        text = d.text;
        trace = opened_traced marked t m i d.events d.trace;
        goes = λ k. ap (λ r. after (opened ∷ []) (begins r)) (d.goes (λ v c. k (first ++ (v ++ (ending t c ++ last_mark marked))) c)) ∙ ap (after (opened ∷ [])) (begins_then d.events d.parts (k (first ++ (w.ran.value ++ (ending t w.ran.budget ++ last_mark marked))) w.ran.budget));
      }
  opens_silent marked t m n h limit_reached = record { events = []; parts = 0; text = refl; trace = nothing_more_traced; goes = λ c. then_none (c [] limit_reached) }

  opens_writing : (marked : Bool) (t : Text) (m : Budget → Worked Text) (n : Ahead C Text) → Does m n → (b : Budget) → Writing (work_opens marked t m b) b (λ c. opens_ahead marked t n true c b)
  opens_writing marked t m n h (left zero) = record { events = limit_told; parts = 0; left_over = []; text = refl; trace = limit_traced marked t m; goes = λ k. ap (after limit_told) (then_none (k [] limit_reached)) }
  opens_writing marked t m n h (left (suc i)) =
      let d = h.writing (left i) in let w = m (left i) in let first = first_mark marked in let end = ending t w.ran.budget ++ last_mark marked in
      let inside = d.events ++ writes d.left_over in let closed = inside ++ writes end in
      let traced = with_text w (left i) inside end (with_text w (left i) d.events d.left_over d.trace) in
      let opening = opened_traced marked t m i closed traced in
      record {
        events = opened ∷ (writes first ++ closed);
        parts = suc d.parts;
        left_over = [];
        text = append-nil (text_in (writes first ++ closed)) ∙ text_on (writes first) closed ∙ ap (λ y. y ++ text_in closed) (written_text first)
            ∙ ap (λ y. first ++ y) (text_on inside (writes end) ∙ ap (λ y. text_in inside ++ y) (written_text end) ∙ ap (λ y. y ++ end) (text_on d.events (writes d.left_over) ∙ ap (λ y. text_in d.events ++ y) (written_text d.left_over) ∙ d.text));
        trace = record {
          errors = errors_on (writes first) closed ∙ ap (λ x. x ++ errors_in closed) (written_errors first) ∙ opening.errors;
          budget = spent_on (writes first) closed (left i) ∙ ap (spent closed) (written_budget first (left i)) ∙ opening.budget;
          opened = omega (arith, opened_on (writes first) closed, written_opened first, opening.opened);
          longest = omega (arith, longest_on (writes first) closed, written_longest first, opening.longest);
          entered = omega (arith, entered_on (writes first) closed, written_entered first, opening.entered);
        };
        goes = λ k.
            let rest = k [] w.ran.budget in
            ap (λ r. after (opened ∷ []) (begins (after (writes first) r))) (d.goes (λ t'. put true t' (λ v c. put true (ending t c ++ last_mark marked) (λ x. k ([] ++ (v ++ x))) c)) ∙ after_written d.events d.left_over d.parts (after (writes end) rest) ∙ after_written inside end d.parts rest)
            ∙ ap (λ r. after (opened ∷ []) (begins r)) (after_then (writes first) closed d.parts rest) ∙ ap (after (opened ∷ [])) (begins_then (writes first ++ closed) d.parts rest);
      }
  opens_writing marked t m n h limit_reached = record { events = []; parts = 0; left_over = []; text = refl; trace = nothing_more_traced; goes = λ c. then_none (c [] limit_reached) }

  enters_as : (i : ℕ) (m : Budget → Worked Text) (n : Ahead C Text) → Does m n → Does (with_work.enters i m) ((ahead C).enters i n)
  enters_as i m n h = record {
    silent = λ b. let d = h.silent b in record { events = entered i ∷ d.events; parts = suc d.parts; text = d.text; trace = entering_traced i m b d.events d.trace; goes = λ k. ap (λ r. after (entered i ∷ []) (begins r)) (d.goes k) ∙ ap (after (entered i ∷ [])) (begins_then d.events d.parts (k (m b).ran.value (m b).ran.budget)) };
    writing = λ b. let d = h.writing b in record { events = entered i ∷ d.events; parts = suc d.parts; left_over = d.left_over; text = d.text; trace = entering_traced i m b d.events d.trace; goes = λ k. ap (λ r. after (entered i ∷ []) (begins r)) (d.goes k) ∙ ap (after (entered i ∷ [])) (begins_then d.events d.parts (k d.left_over (m b).ran.budget)) };
  }

  abbrev as_events : Relation with_work (ahead C)
  as_events = record {
    At = Does;
    Part = Does;
    In = Does;
    Gives = Gives;
    ends = gives_text [];
    element = λ m k n l h j. record { silent = element_silent m k n l h j; writing = element_writing m k n l h j };
    text = gives_text;
    opens = λ marked t m n h. record { silent = opens_silent marked t m n h; writing = opens_writing marked t m n h };
    enters = enters_as;
    give = gives_text;
    fails = λ e t i. fails_with e t;
    bind = λ m n f g. does_on m n f g;
    give_value = gives_value;
    bind_value = λ m n f g. gives_on m n f g;
    value_of = λ m n v h. gives_on m n (λ t. with_work.give (v t)) (λ t. (ahead C).give (v t)) h.silent (λ t. gives_value (v t));
  }

  module _ (b : Bundle C) where
    deep_does : (n : ℕ) (env : Environment C) (path : List Pattern) (p : Pattern) → Does (deep with_work b n env path p) (deep (ahead C) b n env path p)
    deep_does zero env path p = gives_text []
    deep_does (suc n) env path p =
        enters_as _ _ _ (elements_related with_work (ahead C) as_events b (deep with_work b n) (deep (ahead C) b n) env (λ q. ⊤) (λ q. ⊤) (λ a id q e. tt) (λ a id q e. tt) (λ q p' u. tt) (λ env' path' q u k e. deep_does n env' _ q) (inner path p) (has_one p) p tt)

    -- what a pattern's events are, from each budget
    work_does : (env : Environment C) (path : List Pattern) (p : Pattern) → Does (work b env path p) (comes b env path p)
    unfolding worked comes
    work_does env path p = record {
      silent = λ budget. (deep_does (suc (at_most budget)) env path p).silent budget;
      writing = λ budget. (deep_does (suc (at_most budget)) env path p).writing budget;
    }

    whole_does : (env : Environment C) (path : List Pattern) (p : Pattern) → Does (whole with_work b (work b) env path p) (whole (ahead C) b (comes b) env path p)
    whole_does env path p = enters_as _ _ _ (elements_related with_work (ahead C) as_events b (work b) (comes b) env (λ q. ⊤) (λ q. ⊤) (λ a id q e. tt) (λ a id q e. tt) (λ q p' u. tt) (λ env' path' q u k e. work_does env' _ q) (inner path p) (has_one p) p tt)

    go_does : (on : Bool) (env env' : Environment C) (path : List Pattern) (x : Inline) (p : Pattern) → Does (go with_work b (work b) env on env' path x p) (go (ahead C) b (comes b) env on env' path x p)
    go_does true env env' path x p = fails_with _ _
    go_does false env env' path x p = work_does env' (path ++ p ∷ []) p

  -- an expression with its fallback behind it, where the limit is reached after it
  closed_writing : (t : Text) (m : Budget → Worked Text) (n : Ahead C Text) → Does m n → (b : Budget) → Writing (closed_work t m b) b (λ k. closed_ahead t n true k b)
  closed_writing t m n h b =
      let d = h.writing b in let w = m b in let end = ending t w.ran.budget in
      let inside = d.events ++ writes d.left_over in
      let traced = with_text w b inside end (with_text w b d.events d.left_over d.trace) in
      record {
        events = inside ++ writes end;
        parts = d.parts;
        left_over = [];
        text = append-nil (text_in (inside ++ writes end)) ∙ text_on inside (writes end) ∙ ap (λ y. text_in inside ++ y) (written_text end ∙ sym (append-nil end)) ∙ ap (λ y. y ++ (end ++ [])) (text_on d.events (writes d.left_over) ∙ ap (λ y. text_in d.events ++ y) (written_text d.left_over) ∙ d.text);
        trace = record { errors = traced.errors; budget = traced.budget; opened = traced.opened; longest = traced.longest; entered = traced.entered };
        goes = λ k. d.goes (λ t'. put true t' (λ u c. put true (ending t c) (λ v. k (u ++ v)) c)) ∙ after_written d.events d.left_over d.parts (after (writes end) (k [] w.ran.budget)) ∙ after_written inside end d.parts (k [] w.ran.budget);
      }

  -- what a part does that writes is its run
  is_run : (w : Worked Text) (b : Budget) (n : Ahead C Text) → Writing w b (λ k. n true k b) → IsRun w b (events_of n b)
  is_run w b n d =
      let all = with_text w b d.events d.left_over d.trace in
      let e : events_of n b ≡ d.events ++ writes d.left_over = ap (λ r. r.events) (d.goes finished) in
      record {
        text = ap text_in e ∙ text_on d.events (writes d.left_over) ∙ ap (λ t. text_in d.events ++ t) (written_text d.left_over) ∙ d.text;
        errors = ap errors_in e ∙ all.errors;
        budget = ap (λ x. spent x b) e ∙ all.budget;
        opened = ap opened_in e ∙ all.opened;
        longest = ap longest_in e ∙ all.longest;
        entered = ap entered_in e ∙ all.entered;
      }

  is_valued : (w : Worked (List (Value C) × Map (Value C))) (b : Budget) (n : Ahead C (List (Value C) × Map (Value C))) → Silent w b (λ k. n false k b) → IsValued w b (n false handed b)
  is_valued w b n d =
      let e : (n false handed b).events ≡ d.events = ap (λ r. r.events) (d.goes handed) ∙ append-nil d.events in
      record {
        values = ap (λ r. r.values) (d.goes handed);
        text = ap text_in e ∙ d.text;
        errors = ap errors_in e ∙ d.trace.errors;
        budget = ap (λ x. spent x b) e ∙ d.trace.budget;
        opened = ap opened_in e ∙ d.trace.opened;
        longest = ap longest_in e ∙ d.trace.longest;
        entered = ap entered_in e ∙ d.trace.entered;
      }

  module _ (s : Bundle C) (env : Environment C) (path : List Pattern) where
    expression_does : (e : Expression) → Does (expression with_work s (work s) env path e) (expression (ahead C) s (comes s) env path e)
    expression_does e = expression_related with_work (ahead C) as_events s (work s) (comes s) env (λ q. ⊤) (λ q. ⊤) (λ a id q e. tt) (λ a id q e. tt) (λ q p' u. tt) (λ env' path' q u k e. work_does s env' _ q) path e tt

    called_gives : (a : Arguments) → Gives (called with_work s (work s) env path a) (called (ahead C) s (comes s) env path a)
    called_gives a = called_related with_work (ahead C) as_events s (work s) (comes s) env (λ q. ⊤) (λ q. ⊤) (λ a id q e. tt) (λ a id q e. tt) (λ q p' u. tt) (λ env' path' q u k e. work_does s env' _ q) path a tt

pub events_are_the_run : {C : Type 0} → EventsAreTheRun C
events_are_the_run {C} = record {
  pattern = λ b env path p budget. is_run _ budget (whole (ahead C) b (comes b) env path p) ((whole_does b env path p).writing budget);
  reference = λ b env path p x budget. is_run _ budget (go (ahead C) b (comes b) env (is_on path p) env path x p) ((go_does b (is_on path p) env env path x p).writing budget);
  placeable = λ b env path e budget. is_run _ budget (closed_ahead (fallback_of e) (expression (ahead C) b (comes b) env path e)) (closed_writing (fallback_of e) _ _ (expression_does b env path e) budget);
  arguments = λ b env path a budget. is_valued _ budget (called (ahead C) b (comes b) env path a) (called_gives b env path a budget);
}
