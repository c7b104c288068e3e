use Rattle.std.proofs.Common.{◌≡◌, ◌∙◌, ap, sym, string_bytes}
use Rattle.std.specs.List.{list_any}
use Rattle.fluent_semantics.specs.Number.{is_text}
use Rattle.fluent_c_handles.specs.Answers.{declared_view}
use Rattle.fluent_c_handles.specs.Family.{is_declared}
use Rattle.fluent_c_handles.proofs.Alike.{any_map}
use Rattle.fluent_c_handles.proofs.declared.Declared.has_asker.Goals as goal

pub returns-in-Function : goal.returns-in-Function
returns-in-Function c =
    c.has.ensures ∙ ap (λ name. list_any (λ one. is_text name (string_bytes one)) c.args.self.now.functions.items) c.as_str.ensures.value
    ∙ sym (any_map (is_text (string_bytes c.in-Function.name)) c.args.self.now.functions.items)
    ∙ sym (ap (λ a. is_declared a (declared_view c.args.self.now)) c.in-Function.is)
