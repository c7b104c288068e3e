-- What a bundle that was asked for a message has, by the status.
use Rattle.std.proofs.Common.{subst, sym, ◌≡◌, refl, ap, ℕ, true, false, Option, Some, None}
use Rattle.std.specs.Str.{IsUtf8}
use Rattle.fluent_ast.specs.Tree.{Text}
use Rattle.fluent_c_handles.specs.Calls.Finding.{HasPattern}
use Rattle.fluent_c_handles.specs.Answers.{Done, Kept, WhenOpen, answer_status}
use Rattle.fluent_c_handles.specs.Calls.Formatting.{answers}
use Rattle.fluent_c_handles.specs.declared.answer.Answer.{Answer}
use Rattle.fluent_c_handles.specs.declared.answer.Answer.TheVariants as answer
use Rattle.fluent_c_handles.specs.declared.sources.SourceFault.TheVariants as source
use Rattle.fluent_c_handles.specs.declared.texts.FormatFault.TheVariants as format

pub record Found (id name : Text) (old new : Option Kept) (status : ℕ) : Type 0 where
  pub same : new ≡ old
  pub passed : status ≡ 8 → answers id name old ≡ false
  pub stopped : IsUtf8 id → IsUtf8 name → ¬ (status ≡ 8) → answers id name old ≡ true

by_answer : (id name : Text) (old new : Option Kept) (a : Answer) → WhenOpen (HasPattern id name) old new a → Found id name old new (answer_status a)
by_answer id name None (Some y) a t = absurd t
by_answer id name None None answer.Closed t = record { same = refl; passed = λ h. cc; stopped = λ i n h. refl }
by_answer id name None None answer.Done t = absurd t
by_answer id name None None (answer.Texts text lines) t = absurd t
by_answer id name None None answer.Open t = absurd t
by_answer id name None None answer.Root t = absurd t
by_answer id name None None answer.Taken t = absurd t
by_answer id name None None (answer.Asks q) t = absurd t
by_answer id name None None answer.OutOfRange t = absurd t
by_answer id name None None (answer.Fault f) t = absurd t
by_answer id name (Some x) None a t = absurd t
by_answer id name (Some x) (Some y) answer.Done t = record { same = ap Some t.0; passed = λ h. cc; stopped = λ i n h. t.1.2 }
by_answer id name (Some x) (Some y) answer.Closed t = absurd t
by_answer id name (Some x) (Some y) (answer.Texts text lines) t = absurd t
by_answer id name (Some x) (Some y) answer.Open t = absurd t
by_answer id name (Some x) (Some y) answer.Root t = absurd t
by_answer id name (Some x) (Some y) answer.Taken t = absurd t
by_answer id name (Some x) (Some y) (answer.Asks q) t = absurd t
by_answer id name (Some x) (Some y) answer.OutOfRange t = absurd t
by_answer id name (Some x) (Some y) (answer.Fault (source.Format format.NotText)) t =
    record { same = ap Some t.0; passed = λ h. cc; stopped = λ i n h. absurd (t.1 (i, n)) }
by_answer id name (Some x) (Some y) (answer.Fault (source.Format format.NoMessage)) t =
    record { same = ap Some t.0; passed = λ h. t.1.2; stopped = λ i n h. absurd (h refl) }
by_answer id name (Some x) (Some y) (answer.Fault (source.Format (format.Arguments f))) t = absurd t.1
by_answer id name (Some x) (Some y) (answer.Fault (source.Format (format.Answers f))) t = absurd t.1
by_answer id name (Some x) (Some y) (answer.Fault (source.Format format.Memory)) t = absurd t.1
by_answer id name (Some x) (Some y) (answer.Fault source.Memory) t = absurd t
by_answer id name (Some x) (Some y) (answer.Fault source.NotText) t = absurd t
by_answer id name (Some x) (Some y) (answer.Fault (source.Open f)) t = absurd t

pub by_status : (i n id name : Text) → id ≡ i → name ≡ n → (old new : Option Kept) (status : ℕ) → Done (WhenOpen (HasPattern id name)) old new status → Found i n old new status
by_status i n id name is_id is_name old new status done =
    subst (λ s. Found i n old new s) (sym done.is)
    (subst (λ j. Found j n old new (answer_status done.answer)) is_id
    (subst (λ m. Found id m old new (answer_status done.answer)) is_name
    (by_answer id name old new done.answer done.done)))
