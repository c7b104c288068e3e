-- The caller declares what it answers itself.
use Rattle.std.specs.Prelude.{◌≡◌, Bool, true, false, Option, Some, None, is_some, codes}
use Rattle.std.specs.Str.{IsUtf8}
use Rattle.fluent_ast.specs.Tree.{Text}
use Rattle.fluent_semantics.specs.Arguments.{get}
use Rattle.fluent_semantics.specs.Bundle.{Bundle, add_builtins, after}
use Rattle.fluent_bundle.specs.BundleView.{with_function}
use Rattle.fluent_answers.specs.Answered.{function_in}
use Rattle.fluent_c_handles.specs.Answers.{BundleCall, Kept, unanswered}
use Rattle.fluent_c_handles.specs.Family.{formatter_at, transform_at, with_name}
use Rattle.fluent_c_handles.specs.declared.answer.Answer.TheVariants as answer
use Rattle.fluent_c_handles.specs.declared.sources.SourceFault.TheVariants as source_fault
use Rattle.fluent_c_handles.specs.declared.texts.FormatFault.TheVariants as format

-- whether a message, a term or a function has the id, whatever is answered
abbrev pub is_taken : Text → Kept → Bool
is_taken id m = is_some (get id (unanswered m).ids)

-- ---- functions

-- the id stands for the function of that name
abbrev pub with_declared : Text → Kept → Kept
with_declared name m = record m {
  by = λ all. with_function name (function_in all name) (m.by all);
  declared = record m.declared { functions = with_name name m.declared.functions };
}

-- it does, whatever it stood for where `over` is set, and else where it was free; or it is taken, no text, or there was no memory
abbrev pub DeclaresFunction : Text → Bool → BundleCall
DeclaresFunction name over m new answer.Done = IsUtf8 name × (over ≡ false → is_taken name m ≡ false) × (new ≡ with_declared name m)
DeclaresFunction name over m new answer.Taken = (new ≡ m) × IsUtf8 name × (over ≡ false) × (is_taken name m ≡ true)
DeclaresFunction name over m new (answer.Fault (source_fault.Format format.NotText)) = (new ≡ m) × ¬ (IsUtf8 name)
DeclaresFunction name over m new (answer.Fault source_fault.Memory) = (new ≡ m) × IsUtf8 name
DeclaresFunction name over m new a = ⊥

-- the function NUMBER is added where its id is free
abbrev pub with_builtins : Kept → Kept
with_builtins m = record m { by = λ all. after add_builtins (m.by all) }

abbrev pub AddsBuiltins : BundleCall
AddsBuiltins m new answer.Done = (is_taken (codes "NUMBER") m ≡ false) × (new ≡ with_builtins m)
AddsBuiltins m new answer.Taken = (new ≡ m) × (is_taken (codes "NUMBER") m ≡ true)
AddsBuiltins m new (answer.Fault source_fault.Memory) = new ≡ m
AddsBuiltins m new a = ⊥

-- ---- formatter and transform

abbrev pub with_formatter : Bool → Kept → Kept
with_formatter on m = record m {
  by = λ all. record (m.by all) { formatter = formatter_at all on };
  declared = record m.declared { formatter = on };
}

abbrev pub DeclaresFormatter : Bool → BundleCall
DeclaresFormatter on m new answer.Done = new ≡ with_formatter on m
DeclaresFormatter on m new a = ⊥

abbrev pub with_transform : Bool → Kept → Kept
with_transform on m = record m {
  by = λ all. record (m.by all) { transform = transform_at all on };
  declared = record m.declared { transform = on };
}

abbrev pub DeclaresTransform : Bool → BundleCall
DeclaresTransform on m new answer.Done = new ≡ with_transform on m
DeclaresTransform on m new a = ⊥
