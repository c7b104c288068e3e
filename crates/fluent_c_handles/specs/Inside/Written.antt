-- A text that is written, and what is told of its errors.
use Rattle.std.specs.Prelude.{◌≡◌, Option, Some, None, String, string_bytes}
use Rattle.std.proofs.Common.{Global}
use Rattle.fluent_ast.specs.Tree.{Text, Pattern}
use Rattle.fluent_semantics.specs.Bundle.{Bundle}
use Rattle.fluent_semantics.specs.Result.{written_pattern}
use Rattle.fluent_values.specs.declared.args.FluentArgs.{FluentArgs}
use Rattle.fluent_answers.specs.ArgumentView.{args_view}
use Rattle.fluent_answers.specs.declared.own.OwnValue.{OwnValue}
use Rattle.fluent_c_handles.specs.Answers.{found_at}
use Rattle.fluent_c_handles.specs.Calls.Formatting.{told_in}
use Rattle.fluent_c_handles.specs.declared.texts.Form.{Form}
use Rattle.fluent_c_handles.specs.declared.texts.FormatFault.{FormatFault}
use Rattle.fluent_c_handles.specs.declared.texts.FormatFault.TheVariants as fault

-- those of a pattern that was found
abbrev pub AreTexts : Form → Bundle Text → FluentArgs OwnValue → Option Pattern → String Global → String Global → Type 0
AreTexts form bundle args None text lines = ⊥
AreTexts form bundle args (Some pattern) text lines =
    let means = written_pattern bundle (args_view args) pattern in
    (string_bytes text ≡ means.value) × (string_bytes lines ≡ told_in form means.errors)

abbrev pub Writes : Form → Bundle Text → Text → Text → FluentArgs OwnValue → String Global × String Global → Type 0
Writes form bundle id name args t = AreTexts form bundle args (found_at id name bundle) t.0 t.1

-- why there are none
abbrev pub NotWritten : Bundle Text → Text → Text → FormatFault → Type 0
NotWritten bundle id name fault.NoMessage = found_at id name bundle ≡ None
NotWritten bundle id name fault.Memory = Unit {0}
NotWritten bundle id name f = ⊥
