-- A text of a bundle, with the lines of its errors.
use Rattle.std.specs.Prelude.{◌≡◌, ◌≢◌, ◌<◌, ◌^◌, ℕ, List, Option, Some, None, length}
use Rattle.std.specs.Borrow.{Bor}
use Rattle.std.specs.Str.{IsUtf8}
use Rattle.fluent_ast.specs.Tree.{Text, Pattern}
use Rattle.fluent_semantics.specs.Arguments.{Map}
use Rattle.fluent_semantics.specs.Bundle.{Bundle}
use Rattle.fluent_semantics.specs.Result.{formatted, written_pattern}
use Rattle.fluent_semantics.specs.Value.{Value}
use Rattle.fluent_values.specs.declared.args.FluentArgs.{FluentArgs}
use Rattle.fluent_resolver_state.specs.Status.{arguments_view}
use Rattle.fluent_answers.specs.OwnContent.{own_content}
use Rattle.fluent_answers.specs.Records.{NotRead}
use Rattle.fluent_answers.specs.Values.{HaveValues}
use Rattle.fluent_answers.specs.declared.own.OwnValue.{OwnValue}
use Rattle.fluent_c_handles.specs.Calls.Formatting.{AreArguments, TextsIn, told_in}
use Rattle.fluent_c_handles.specs.Answers.{Given, found_at}
use Rattle.fluent_c_handles.specs.declared.texts.Form.{Form}
use Rattle.fluent_c_handles.specs.declared.texts.FormatFault.{FormatFault}
use Rattle.fluent_c_handles.specs.declared.texts.FormatFault.TheVariants as fault
use Rattle.fluent_c_handles.specs.declared.texts.Lengths.{Lengths}

-- a text that a string can hold
abbrev pub IsHeldText : Text → Type 0
IsHeldText text = IsUtf8 text × (length text < 2 ^ 63)

-- Two such texts were put into buffers.
pub record GivesHeld (shown told : Text) (out out' err err' : List ℕ) (lengths : Lengths) : Type 0 where
  pub held : IsHeldText shown × IsHeldText told
  pub text : Given shown out out' lengths.text
  pub lines : Given told err err' lengths.errors

-- What a pattern that was found means was put there.
pub record GivesShown (form : Form) (bundle : Bundle Text) (id name : Text) (args : Option (Bor (FluentArgs OwnValue))) (out out' err err' : List ℕ) (lengths : Lengths) : Type 0 where
  pub pattern : Pattern
  pub found : found_at id name bundle ≡ Some pattern
  pub shown : Text
  pub told : Text
  pub text : shown ≡ formatted bundle (written_pattern bundle (arguments_view own_content args) pattern).value
  pub errors : told ≡ told_in form (written_pattern bundle (arguments_view own_content args) pattern).errors
  pub given : GivesHeld shown told out out' err err' lengths

-- The same of a message whose arguments are read.
pub record GivesIn (form : Form) (bundle : Bundle Text) (id name args out out' err err' : List ℕ) (lengths : Lengths) : Type 0 where
  pub shown : Text
  pub told : Text
  pub texts : TextsIn (told_in form) bundle id name args shown told
  pub given : GivesHeld shown told out out' err err' lengths

-- why nothing is shown
abbrev pub NotShown : Bundle Text → Text → Text → FormatFault → Type 0
NotShown bundle id attribute fault.NoMessage = found_at id attribute bundle ≡ None
NotShown bundle id attribute fault.Memory = found_at id attribute bundle ≢ None
NotShown bundle id attribute f = ⊥

-- ---- the values of arguments

-- they are those of the records that the bytes are
abbrev pub HasValues : List ℕ → Map (Value Text) → Type 0
HasValues = HaveValues

-- why there are none
abbrev pub HasNoValues : List ℕ → FormatFault → Type 0
HasNoValues args (fault.Arguments f) = NotRead args f
HasNoValues args fault.Memory = AreArguments args
HasNoValues args f = ⊥
