-- What values are shown as and which they match, by the types of the code, and what a call writes.
use Rattle.std.specs.Prelude.{◌≡◌, ◌≢◌, Bool, Option, Result, Err, IsOk, IsTrue, String, string_bytes}
use Rattle.std.specs.Option.{option_map}
use Rattle.std.specs.Cow.{cow_str_bytes}
use Rattle.std.specs.declared.borrow.CowStr.{CowStr}
use Rattle.std.proofs.Common.{Global}
use Rattle.fluent_ast.specs.Tree.{Text}
use Rattle.fluent_text.specs.declared.counting.Counting.{Counting}
use Rattle.fluent_text.specs.declared.counting.WriteFault.{WriteFault}
use Rattle.fluent_text.specs.declared.counting.WriteFault.TheVariants as fault
use Rattle.fluent_semantics.specs.Bundle.{Bundle, shown}
use Rattle.fluent_semantics.specs.Value.{Value, matches, same, value_text}
use Rattle.fluent_values.specs.Sinks.{GoesThrough, SinkTook, sink, writer, without_error}
use Rattle.fluent_values.specs.View.{value_view}
use Rattle.fluent_values.specs.ValuesWithoutMemory.{HasOwnText, IsEmpty}
use Rattle.fluent_values.specs.declared.output.Halt.{Halt}
use Rattle.fluent_values.specs.declared.output.Halt.TheVariants as halt
use Rattle.fluent_values.specs.declared.output.Output.{Output}
use Rattle.fluent_values.specs.declared.types.value.FluentValue.{FluentValue}

-- what a bundle shows a value as
abbrev pub shows : {C : Type 0} → (C → Text) → Bundle Text → FluentValue C → Text
shows content bundle v = shown bundle (value_view content v)

-- a value's own text, by what its type shows and which of its values are alike
abbrev pub own : {C : Type 0} → (C → Text) → (Text → Text) → (Text → Text → Bool) → FluentValue C → Text
own content shown alike v = value_text (record { text = shown; same = alike }) (value_view content v)

-- two values are of one kind and have equal content
abbrev pub are_same : {C : Type 0} → (C → Text) → (Text → Text) → (Text → Text → Bool) → FluentValue C → FluentValue C → Bool
are_same content shown alike v v' =
    same (record { text = shown; same = alike }) (value_view content v) (value_view content v')

-- in a bundle a value matches another, as the key of a variant a selector
abbrev pub is_match : {C : Type 0} → (C → Text) → Bundle Text → FluentValue C → FluentValue C → Bool
is_match content bundle v v' = matches bundle.plurals (value_view content v) (value_view content v')

-- a text, as an answer of the code
abbrev pub IsText : Text → CowStr Global → Type 0
IsText text c = cow_str_bytes c ≡ text

-- what a bundle shows a value as, as an answer of the code
abbrev pub IsShown : {C : Type 0} → (C → Text) → Bundle Text → FluentValue C → CowStr Global → Type 0
IsShown content bundle v c = IsText (shows content bundle v) c

-- a formatter's answer for a value
abbrev pub IsFormatted : {C : Type 0} → (C → Text) → (Value Text → Option Text) → FluentValue C → Option (String Global) → Type 0
IsFormatted content formatted v answer = option_map string_bytes answer ≡ formatted (value_view content v)

-- a text goes to an output
abbrev pub Puts : {T W : Type 0} → (W → Option Text) → Result T Halt → Text → Output W → Output W → Type 0
Puts contents result text out out' = SinkTook result text (sink contents out) (sink contents out')

-- Where each value is shown as its own text, this one takes no memory where texts go to the writer.
abbrev pub PutsFree : {T C W : Type 0} → Bool → FluentValue C → Output W → Result T Halt → Type 0
PutsFree shows_own v out result = IsTrue shows_own → HasOwnText v → GoesThrough out → result ≢ Err halt.Memory

-- the same of a writer
abbrev pub WritesFree : {T C : Type 0} → Bool → FluentValue C → Result T WriteFault → Type 0
WritesFree shows_own v result = IsTrue shows_own → HasOwnText v → result ≢ Err fault.Memory

-- the same of an answer, where the text is empty
abbrev pub GivesFree : {T E C : Type 0} → Bool → FluentValue C → Result T E → Type 0
GivesFree shows_own v result = IsTrue shows_own → IsEmpty v → IsOk result

-- a text goes to a writer
abbrev pub Writes : {T W : Type 0} → (W → Option Text) → Result T WriteFault → Text → Counting W → Counting W → Type 0
Writes contents result text w w' = SinkTook (without_error result) text (writer contents w) (writer contents w')
