-- A text where there is nothing to ask.
use Rattle.std.specs.Prelude.{ℕ, List, string_bytes}
use Rattle.fluent_ast.specs.Tree.{Text}
use Rattle.fluent_semantics.specs.Bundle.{Bundle}
use Rattle.fluent_c_handles.specs.Calls.Formatting.{NotFormattedIn, TextsIn, told_in}
use Rattle.fluent_c_handles.specs.declared.answer.Answer.{Answer}
use Rattle.fluent_c_handles.specs.declared.answer.Answer.TheVariants as answer
use Rattle.fluent_c_handles.specs.declared.sources.SourceFault.TheVariants as source_fault
use Rattle.fluent_c_handles.specs.declared.texts.Form.{Form}

-- its texts, or why there are none
abbrev pub Unasked : Form → Bundle Text → Text → Text → List ℕ → Answer → Type 0
Unasked form bundle id name args (answer.Texts text lines) = TextsIn (told_in form) bundle id name args (string_bytes text) (string_bytes lines)
Unasked form bundle id name args (answer.Fault (source_fault.Format f)) = NotFormattedIn bundle id name args f
Unasked form bundle id name args a = ⊥
