-- What is formatted goes into buffers.
use Rattle.std.proofs.Common.{arith, ◌≡◌, ◌==◌, ℕ, true, false, is_some, List, [], ◌∷◌, length, Option, Some, None, Result, Ok, Err, IfOk, IfErr, String, string_bytes, refl, sym, ap, subst, ◌∙◌, Global}
use Rattle.std.proofs.lemmas.Grind.{common_steps}
use Rattle.std.specs.Borrow.{Bor}
use Rattle.std.specs.Str.{IsUtf8}
use Rattle.std.specs.Ptr.{null_ptr}
use Rattle.fluent_ast.specs.Tree.{Text, Pattern}
use Rattle.fluent_semantics.specs.Arguments.{Map}
use Rattle.fluent_semantics.specs.Bundle.{Bundle}
use Rattle.fluent_semantics.specs.Result.{formatted, written_pattern}
use Rattle.fluent_semantics.specs.Value.{Value}
use Rattle.fluent_values.specs.declared.args.FluentArgs.{FluentArgs}
use Rattle.fluent_resolver_state.specs.Status.{arguments_view}
use Rattle.fluent_answers.specs.OwnContent.{own_content}
use Rattle.fluent_answers.specs.Records.{Are, Record}
use Rattle.fluent_answers.specs.Values.{argument_values}
use Rattle.fluent_answers.specs.declared.own.OwnValue.{OwnValue}
use Rattle.fluent_c_handles.specs.Answers.{BundleCall, Given, WhenOpen, found_at, held_content}
use Rattle.fluent_c_handles.specs.Calls.Formatting.{FormatsIn, NotFormattedIn, TextsIn, told_in}
use Rattle.fluent_c_handles.specs.Inside.Into.{IsFitStatus, UnaskedGiven}
use Rattle.fluent_c_handles.specs.Inside.Shown.{GivesIn, GivesShown, HasNoValues, IsHeldText, NotShown}
use Rattle.fluent_c_handles.specs.declared.answer.Answer.TheVariants as answer
use Rattle.fluent_c_handles.specs.declared.asking.Wanted.{Wanted}
use Rattle.fluent_c_handles.specs.declared.stock.Stock.{Stock}
use Rattle.fluent_c_handles.specs.declared.texts.Form.{Form}
use Rattle.fluent_c_handles.specs.declared.texts.Form.TheVariants as form
use Rattle.fluent_c_handles.specs.declared.texts.FormatFault.{FormatFault}
use Rattle.fluent_c_handles.specs.declared.texts.FormatFault.TheVariants as fault
use Rattle.fluent_c_handles.specs.declared.texts.Lengths.{Lengths}
use Rattle.fluent_c_handles.proofs.Opens.{is_none}

pub no_length : (xs : List ℕ) → (length xs == 0) ≡ true → xs ≡ []
no_length [] h = refl
no_length (x ∷ xs) h = grind (arith, common_steps)

pub no_bytes : (bytes : List ℕ) → bytes ≡ [] → Are [] bytes
no_bytes bytes none = record { whole = none; texts = λ k d h. absurd (omega arith) }

-- a string of a text that it can hold
pub held_string : Global → (t : Text) → IsHeldText t → (s : String Global) × (string_bytes s ≡ t)
held_string alloc t h = (
  record {
    bytes = record { ptr = null_ptr; len = length t; cap = length t; alloc = alloc; items = t; ok = (refl, omega arith); small = h.1 };
    ok = ∣ h.0 ∣₁;
  },
  refl,
)

-- of a message with arguments that were read, by an id and a name that are those
module _ (bundle : Bundle Text) (id name : Text) (bytes : List ℕ) (texts : IsUtf8 id × IsUtf8 name) (i n : Text) (is_id : i ≡ id) (is_name : n ≡ name) where
  abbrev same : Option Pattern → Type 0
  same p = found_at id name bundle ≡ p

  is_found : (p : Option Pattern) → found_at i n bundle ≡ p → found_at id name bundle ≡ p
  is_found p is = subst (λ m. found_at id m bundle ≡ p) is_name (subst (λ j. found_at j n bundle ≡ p) is_id is)

  module _ (all : List Record) (read : Are all bytes) where
    module _ (form : Form) (values : Option (Bor (FluentArgs OwnValue))) (are : arguments_view own_content values ≡ argument_values all) (out out' err err' : List ℕ) where
      gives : (lengths : Lengths) → GivesShown form bundle i n values out out' err err' lengths → GivesIn form bundle id name bytes out out' err err' lengths
      gives lengths s = record {
        shown = s.shown;
        told = s.told;
        texts = record {
          texts = texts;
          pattern = s.pattern;
          all = all;
          found = is_found (Some s.pattern) s.found;
          read = read;
          text = s.text ∙ ap (λ (m : Map (Value Text)). formatted bundle (written_pattern bundle m s.pattern).value) are;
          errors = s.errors ∙ ap (λ (m : Map (Value Text)). told_in form (written_pattern bundle m s.pattern).errors) are;
        };
        given = s.given;
      }

      pub gives_in : (r : Result Lengths FormatFault) → IfOk r (GivesShown form bundle i n values out out' err err') → IfOk r (GivesIn form bundle id name bytes out out' err err')
      gives_in (Ok lengths) s = gives lengths s
      gives_in (Err f) s = s

    not_by : (f : FormatFault) → NotShown bundle i n f → NotFormattedIn bundle id name bytes f
    not_by fault.NoMessage h = (texts, is_found None h)
    not_by fault.Memory h = (
      record { texts = texts; found = λ none. h (subst (λ m. found_at i m bundle ≡ None) (sym is_name) (subst (λ j. found_at j name bundle ≡ None) (sym is_id) none)) },
      record { all = all; read = read },
    )
    not_by fault.NotText h = absurd h
    not_by (fault.Arguments f) h = absurd h
    not_by (fault.Answers f) h = absurd h

    pub not_shown_by : (r : Result Lengths FormatFault) → IfErr r (NotShown bundle i n) → IfErr r (NotFormattedIn bundle id name bytes)
    not_shown_by (Ok lengths) h = h
    not_shown_by (Err f) h = not_by f h

  -- where they can't be read
  there_by : (f : FormatFault) (found : Option Pattern) → found_at i n bundle ≡ found → is_some found ≡ true → HasNoValues bytes f → NotFormattedIn bundle id name bytes f
  there_by f None is there has = absurd cc
  there_by (fault.Arguments f) (Some p) is there has = (record { texts = texts; found = λ none. absurd cc }, has)
  there_by fault.Memory (Some p) is there has = (record { texts = texts; found = λ none. absurd cc }, has)
  there_by fault.NotText (Some p) is there has = absurd has
  there_by fault.NoMessage (Some p) is there has = absurd has
  there_by (fault.Answers f) (Some p) is there has = absurd has

  pub not_read_by : (f : FormatFault) → is_some (found_at i n bundle) ≡ true → HasNoValues bytes f → NotFormattedIn bundle id name bytes f
  not_read_by f there has = there_by f (found_at i n bundle) refl there has

  -- where the message is not there
  pub not_there_by : is_some (found_at i n bundle) ≡ false → NotFormattedIn bundle id name bytes fault.NoMessage
  not_there_by none = (texts, is_found None (is_none (found_at i n bundle) none))

-- errors by lines
module _ (bundle : Bundle Text) (id name bytes out out' err err' : List ℕ) where
  by_lines : (lengths : Lengths) → GivesIn form.Lines bundle id name bytes out out' err err' lengths → FormatsIn bundle id name bytes out out' err err' lengths
  by_lines lengths g = record {
    pattern = g.texts.pattern;
    all = g.texts.all;
    found = g.texts.found;
    read = g.texts.read;
    text = subst (λ t. Given t out out' lengths.text) g.texts.text g.given.text;
    errors = subst (λ t. Given t err err' lengths.errors) g.texts.errors g.given.lines;
  }

  pub formats_by_lines : (r : Result Lengths FormatFault) → IfOk r (GivesIn form.Lines bundle id name bytes out out' err err') → IfOk r (FormatsIn bundle id name bytes out out' err err')
  formats_by_lines (Ok lengths) g = by_lines lengths g
  formats_by_lines (Err f) g = g

-- an answer of two texts was given
pub texts_given : Global → (w : Wanted) (bundle : Bundle Text) (out out' err err' : List ℕ) (lengths : Lengths) (status : ℕ)
    → GivesIn w.form bundle w.id.now w.name.now w.args.now out out' err err' lengths → IsFitStatus lengths (length out) (length err) status
    → UnaskedGiven w bundle out out' err err' lengths status
texts_given alloc w bundle out out' err err' lengths status g fit =
    let s = held_string alloc g.shown g.given.held.0 in
    let l = held_string alloc g.told g.given.held.1 in
    record {
      answer = answer.Texts s.0 l.0;
      done = subst (λ t. TextsIn (told_in w.form) bundle w.id.now w.name.now w.args.now t (string_bytes l.0)) (sym s.1)
          (subst (λ t. TextsIn (told_in w.form) bundle w.id.now w.name.now w.args.now g.shown t) (sym l.1) g.texts);
      given = record {
        text_given = subst (λ t. Given t out out' lengths.text) (sym s.1) g.given.text;
        lines_given = subst (λ t. Given t err err' lengths.errors) (sym l.1) g.given.lines;
        below = fit.below;
        fits = fit.fits;
        short = fit.short;
      };
    }

-- nothing is done where no bundle is open
pub closed : (call : BundleCall) (held : Option Stock) → is_some held ≡ false → WhenOpen call (held_content held) (held_content held) answer.Closed
closed call None h = record {}
closed call (Some stock) h = absurd cc
