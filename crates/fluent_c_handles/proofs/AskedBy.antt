-- A text by what was answered, a question, or neither.
use Rattle.std.proofs.Common.{◌≡◌, ◌∙◌, ℕ, Bool, true, false, List, [], ◌∷◌, Option, Some, None, is_some, String, Global, string_bytes, refl, sym, ap, subst, arith}
use Rattle.std.specs.Prelude.{◌≢◌}
use Rattle.std.proofs.lemmas.Grind.{common_steps}
use Rattle.std.specs.Str.{IsUtf8}
use Rattle.fluent_ast.specs.Tree.{Text, Pattern}
use Rattle.fluent_semantics.specs.Arguments.{Map}
use Rattle.fluent_semantics.specs.Bundle.{Bundle, unless_formatted}
use Rattle.fluent_semantics.specs.Result.{written_pattern}
use Rattle.fluent_semantics.specs.Value.{Value, text_value}
use Rattle.fluent_values.specs.declared.args.FluentArgs.{FluentArgs}
use Rattle.fluent_answers.specs.ArgumentView.{args_view}
use Rattle.fluent_answers.specs.Asked.{IsReadFrom}
use Rattle.fluent_answers.specs.Tables.{Table}
use Rattle.fluent_answers.specs.Values.{argument_values}
use Rattle.fluent_answers.specs.declared.answers.Answers.{Answers}
use Rattle.fluent_answers.specs.declared.own.OwnValue.{OwnValue}
use Rattle.fluent_c_handles.specs.Answers.{Kept, bundle_view, declared_view, found_at, stock_content}
use Rattle.fluent_c_handles.specs.Calls.Formatting.{FormatsBy, NotFormattedBy, NotFormattedIn, TextsIn, WritesIn, told_in}
use Rattle.fluent_c_handles.specs.Family.{Declares, answered_by, formatter_at, is_something, nothing_declared}
use Rattle.fluent_c_handles.specs.Inside.Asking.{AnswersBy}
use Rattle.fluent_c_handles.specs.Inside.Resources.{AreAmong}
use Rattle.fluent_c_handles.specs.Inside.Shown.{HasValues}
use Rattle.fluent_c_handles.specs.Inside.Unasked.{Unasked}
use Rattle.fluent_c_handles.specs.Inside.Written.{AreTexts}
use Rattle.fluent_c_handles.specs.declared.answer.Answer.{Answer}
use Rattle.fluent_c_handles.specs.declared.answer.Answer.TheVariants as answer
use Rattle.fluent_c_handles.specs.declared.sources.SourceFault.TheVariants as source
use Rattle.fluent_c_handles.specs.declared.stock.Stock.{Stock}
use Rattle.fluent_c_handles.specs.declared.texts.Form.{Form}
use Rattle.fluent_c_handles.specs.declared.texts.FormatFault.{FormatFault}
use Rattle.fluent_c_handles.specs.declared.texts.FormatFault.TheVariants as fault
use Rattle.fluent_c_handles.proofs.Opens.{is_none, unchanged}

-- ---- what a call answers

module _ (all : Table) (given : List ℕ) (form : Form) (id name args : List ℕ) (m new : Kept) (same : new ≡ m) (texts : IsUtf8 id × IsUtf8 name) where
  module _ (values : FluentArgs OwnValue) (has : HasValues args (args_view values)) where
    texts_by : (text lines : String Global) (found : Option Pattern) → found_at id name (m.by all) ≡ found → AreTexts form (m.by all) values found text lines
        → WritesIn (told_in form) (m.by all) id name args (string_bytes text) (string_bytes lines)
    texts_by text lines None is t = absurd t
    texts_by text lines (Some pattern) is t = record {
      texts = texts;
      pattern = pattern;
      all = has.all;
      found = is;
      read = has.read;
      text = t.0 ∙ ap (λ (v : Map (Value Text)). (written_pattern (m.by all) v pattern).value) has.are;
      errors = t.1 ∙ ap (λ (v : Map (Value Text)). told_in form (written_pattern (m.by all) v pattern).errors) has.are;
    }

    pub formats_by : found_at id name (m.by all) ≢ None → (answers : Answers) → IsReadFrom given answers → (a : Answer) → AnswersBy form (m.by all) m.declared answers id name values a
        → FormatsBy all given (told_in form) id name args m new a
    formats_by there answers read (answer.Texts text lines) h = (same, texts_by text lines (found_at id name (m.by all)) refl h)
    formats_by there answers read (answer.Asks question) h = (
      same,
      record {
        there = record { texts = texts; found = there };
        arguments = record { all = has.all; read = has.read };
        records = read.records;
        read = read.are;
        unanswered = sym (read.first question.items) ∙ h.0;
        asks = h.1;
      },
    )
    formats_by there answers read (answer.Fault (source.Format fault.NoMessage)) h = (same, (texts, h))
    formats_by there answers read (answer.Fault (source.Format fault.Memory)) h = (same, (record { texts = texts; found = there }, record { all = has.all; read = has.read }))
    formats_by there answers read (answer.Fault (source.Format fault.NotText)) h = absurd h
    formats_by there answers read (answer.Fault (source.Format (fault.Arguments f))) h = absurd h
    formats_by there answers read (answer.Fault (source.Format (fault.Answers f))) h = absurd h
    formats_by there answers read (answer.Fault source.Memory) h = absurd h
    formats_by there answers read (answer.Fault source.NotText) h = absurd h
    formats_by there answers read (answer.Fault (source.Open f)) h = absurd h
    formats_by there answers read answer.Done h = absurd h
    formats_by there answers read answer.Root h = absurd h
    formats_by there answers read answer.Closed h = absurd h
    formats_by there answers read answer.Open h = absurd h
    formats_by there answers read answer.OutOfRange h = absurd h
    formats_by there answers read answer.Taken h = absurd h

-- the same by an id and a name that are those, and of a message that was looked up
pub asked_as : (all : Table) (given : List ℕ) (form : Form) (id name args : List ℕ) (m new : Kept) → new ≡ m → IsUtf8 id × IsUtf8 name
    → (values : FluentArgs OwnValue) → HasValues args (args_view values) → (answers : Answers) → IsReadFrom given answers → (a : Answer)
    → (i n : Text) → i ≡ id → n ≡ name → is_some (found_at i n (m.by all)) ≡ true → AnswersBy form (m.by all) m.declared answers i n values a
    → FormatsBy all given (told_in form) id name args m new a
asked_as all given form id name args m new same texts values has answers read a i n is_id is_name there h =
    formats_by all given form id name args m new same texts values has some answers read a
    (subst (λ k. AnswersBy form (m.by all) m.declared answers id k values a) is_name (subst (λ j. AnswersBy form (m.by all) m.declared answers j n values a) is_id h))
  where
    some : found_at id name (m.by all) ≢ None
    some none =
        let is : is_some (found_at id name (m.by all)) ≡ true = subst (λ k. is_some (found_at id k (m.by all)) ≡ true) is_name (subst (λ j. is_some (found_at j n (m.by all)) ≡ true) is_id there) in
        let never : is_some (found_at id name (m.by all)) ≡ false = ap is_some none in
        absurd cc

-- ---- where nothing is asked

none_declared : (fs : List Text) (f x : Bool) → is_something (record { functions = fs; formatter = f; transform = x }) ≡ false → ◌≡◌ {A = Declares} (record { functions = fs; formatter = f; transform = x }) nothing_declared
none_declared [] false false h = refl
none_declared [] false true h = absurd cc
none_declared [] true x h = absurd cc
none_declared (n ∷ ns) f x h = grind (arith, common_steps)

pub unasked_by : (all : Table) (stock : Stock) → is_something (declared_view stock.declared) ≡ false → (stock_content stock).by all ≡ bundle_view stock.bundle
unasked_by all stock h =
    let d = declared_view stock.declared in
    let none : d ≡ nothing_declared = none_declared d.functions d.formatter d.transform h in
    ap (λ (x : Declares). answered_by all x (bundle_view stock.bundle)) none
    ∙ unchanged all stock.bundle (subst (λ (x : Declares). AreAmong x.functions (bundle_view stock.bundle).ids) none stock.names)
    (is_none _ (stock.shows ∙ ap (λ (x : Declares). x.formatter) none)) (is_none _ (stock.changes ∙ ap (λ (x : Declares). x.transform) none))

pub plain_by : (all : Table) (stock : Stock) → is_something (declared_view stock.declared) ≡ false → ((stock_content stock).by all).formatter ≡ (λ v. None)
plain_by all stock h =
    let d = declared_view stock.declared in
    ap (λ (x : Declares). formatter_at all x.formatter) (none_declared d.functions d.formatter d.transform h)

not_by : (b : Bundle Text) (d : Declares) (given id name args : List ℕ) (f : FormatFault) → NotFormattedIn b id name args f → NotFormattedBy b d given id name args f
not_by b d given id name args fault.NotText h = h
not_by b d given id name args fault.NoMessage h = h
not_by b d given id name args (fault.Arguments f) h = h
not_by b d given id name args (fault.Answers f) h = absurd h
not_by b d given id name args fault.Memory h = h

-- without a formatter a text is what is written
module _ (all : Table) (given : List ℕ) (form : Form) (id name args : List ℕ) (m : Kept) (plain : (m.by all).formatter ≡ (λ v. None)) where
  as_written : (text lines : List ℕ) → TextsIn (told_in form) (m.by all) id name args text lines → WritesIn (told_in form) (m.by all) id name args text lines
  as_written text lines h = record {
    texts = h.texts;
    pattern = h.pattern;
    all = h.all;
    found = h.found;
    read = h.read;
    text = h.text ∙ ap (λ f. unless_formatted (f (text_value (written_pattern (m.by all) (argument_values h.all) h.pattern).value)) (written_pattern (m.by all) (argument_values h.all) h.pattern).value) plain;
    errors = h.errors;
  }

  by_unasked : (a : Answer) → Unasked form (m.by all) id name args a → FormatsBy all given (told_in form) id name args m m a
  by_unasked (answer.Texts text lines) h = (refl, as_written (string_bytes text) (string_bytes lines) h)
  by_unasked (answer.Asks question) h = absurd h
  by_unasked (answer.Fault (source.Format f)) h = (refl, not_by (m.by all) m.declared given id name args f h)
  by_unasked (answer.Fault source.Memory) h = absurd h
  by_unasked (answer.Fault source.NotText) h = absurd h
  by_unasked (answer.Fault (source.Open f)) h = absurd h
  by_unasked answer.Done h = absurd h
  by_unasked answer.Root h = absurd h
  by_unasked answer.Closed h = absurd h
  by_unasked answer.Open h = absurd h
  by_unasked answer.OutOfRange h = absurd h
  by_unasked answer.Taken h = absurd h

pub formats_unasked : (all : Table) (given : List ℕ) (form : Form) (id name args : List ℕ) (stock : Stock) → is_something (declared_view stock.declared) ≡ false → (a : Answer)
    → Unasked form (bundle_view stock.bundle) id name args a → FormatsBy all given (told_in form) id name args (stock_content stock) (stock_content stock) a
formats_unasked all given form id name args stock none a h =
    by_unasked all given form id name args (stock_content stock) (plain_by all stock none) a (subst (λ (b : Bundle Text). Unasked form b id name args a) (sym (unasked_by all stock none)) h)
