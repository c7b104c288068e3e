-- What the first of several bundles answers.
use Rattle.std.proofs.Common.{◌≡◌, sym, ap, subst, refl, ℕ, List, Option, Some, None}
use Rattle.std.specs.Str.{IsUtf8}
use Rattle.fluent_ast.specs.Tree.{Text}
use Rattle.fluent_semantics.specs.Errors.{Error}
use Rattle.fluent_answers.specs.Tables.{Table}
use Rattle.fluent_c_handles.specs.Calls.Formatting.{AnswersFirst, FirstGives, FormatsBy, first_to_answer}
use Rattle.fluent_c_handles.specs.Answers.{Kept, TextsGiven, WhenOpen, all_kept}
use Rattle.fluent_c_handles.specs.declared.answer.Answer.{Answer}
use Rattle.fluent_c_handles.specs.declared.answer.Answer.TheVariants as answer
use Rattle.fluent_c_handles.specs.declared.slot.Slot.{Slot}
use Rattle.fluent_c_handles.specs.declared.sources.SourceFault.TheVariants as source
use Rattle.fluent_c_handles.specs.declared.texts.Lengths.{Lengths}

module _ (all : Table) (given : List ℕ) (tell : List Error → Text) (id name : Text) (args : List ℕ) where
  by_answer : (old new : Option Kept) (a : Answer) → WhenOpen (FormatsBy all given tell id name args) old new a → new ≡ old
  by_answer None (Some y) a t = absurd t
  by_answer None None a t = refl
  by_answer (Some x) None a t = absurd t
  by_answer (Some x) (Some y) answer.Done t = absurd t
  by_answer (Some x) (Some y) answer.Closed t = absurd t
  by_answer (Some x) (Some y) answer.Open t = absurd t
  by_answer (Some x) (Some y) answer.Root t = absurd t
  by_answer (Some x) (Some y) answer.Taken t = absurd t
  by_answer (Some x) (Some y) (answer.Asks q) t = ap Some t.0
  by_answer (Some x) (Some y) answer.OutOfRange t = absurd t
  by_answer (Some x) (Some y) (answer.Texts text lines) t = ap Some t.0
  by_answer (Some x) (Some y) (answer.Fault (source.Format f)) t = ap Some t.0
  by_answer (Some x) (Some y) (answer.Fault source.Memory) t = absurd t
  by_answer (Some x) (Some y) (answer.Fault source.NotText) t = absurd t
  by_answer (Some x) (Some y) (answer.Fault (source.Open f)) t = absurd t

  module _ (old new : Option Kept) (out out' err err' : List ℕ) (lengths : Lengths) (status : ℕ) (formats : TextsGiven (WhenOpen (FormatsBy all given tell id name args)) old new out out' err err' lengths status) where
    pub stays : new ≡ old
    stays = by_answer old new formats.answer formats.done

    pub answers_as : TextsGiven (WhenOpen (FormatsBy all given tell id name args)) old old out out' err err' lengths status
    answers_as = record {
      answer = formats.answer;
      done = subst (λ kept. WhenOpen (FormatsBy all given tell id name args) old kept formats.answer) stays formats.done;
      given = formats.given;
    }

module _ (all : Table) (given : List ℕ) (tell : List Error → Text) (id name : Text) (args : List ℕ) (i n : Text) (is_id : i ≡ id) (is_name : n ≡ name) (valid : IsUtf8 id × IsUtf8 name) (slots : List Slot) where
  first_of : (found : Option (Option Kept)) → first_to_answer i n (all_kept slots) ≡ found → first_to_answer id name (all_kept slots) ≡ found
  first_of found is =
      subst (λ j. first_to_answer j name (all_kept slots) ≡ found) is_id
      (subst (λ m. first_to_answer i m (all_kept slots) ≡ found) is_name is)

  -- the one that was found
  pub formats_by : (kept : Option Kept) → first_to_answer i n (all_kept slots) ≡ Some kept → (out out' err err' : List ℕ) (lengths : Lengths) (status : ℕ)
      → TextsGiven (WhenOpen (FormatsBy all given tell id name args)) kept kept out out' err err' lengths status → FirstGives all given tell id name args slots out out' err err' lengths status
  formats_by kept is out out' err err' lengths status as' = record {
    texts = λ v. subst (λ found. AnswersFirst found (WhenOpen (FormatsBy all given tell id name args)) out out' err err' lengths status) (sym (first_of (Some kept) is)) as';
    no_texts = λ never. absurd (never valid);
  }

  -- or none
  pub formats_none : first_to_answer i n (all_kept slots) ≡ None → (out err : List ℕ) (lengths : Lengths) (status : ℕ) → status ≡ 8 → (lengths.text ≡ 0) × (lengths.errors ≡ 0)
      → FirstGives all given tell id name args slots out out err err lengths status
  formats_none is out err lengths status eight zero = record {
    texts = λ v. subst (λ found. AnswersFirst found (WhenOpen (FormatsBy all given tell id name args)) out out err err lengths status) (sym (first_of None is))
        (eight, record { out_left = refl; err_left = refl; zero = zero });
    no_texts = λ never. absurd (never valid);
  }
