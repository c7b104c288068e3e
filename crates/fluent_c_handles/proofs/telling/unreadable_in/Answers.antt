use Rattle.std.proofs.Common.{◌++◌, get_or, ap, ◌∙◌}
use Rattle.fluent_ast.specs.ParserError.{unreadable_text}
use Rattle.fluent_ast.specs.declared.errors.ParserError.{ParserError}
use Rattle.fluent_syntax.specs.Parsed.{error_range}
use Rattle.fluent_c_handles.specs.Calls.Adding.{told_line}
use Rattle.fluent_c_handles.specs.Inside.Lines.{lines_in}
use Rattle.fluent_c_handles.proofs.Writing.{line_more}
use Rattle.fluent_c_handles.proofs.telling.unreadable_in.Goals as goal

pub loop-error-preserved : goal.loop-error-preserved
loop-error-preserved c =
    let source = c.args.source.now in
    let i = c.loop-error.error-index in
    let none : ParserError = record { start = 0; end = 0 } in
    let so = lines_in c.loop-error.lines in
    let at = (get_or c.args.unreadable.now i none).start in
    record {
      text = line_more error_range (λ r. told_line source r.0 (unreadable_text r.0 r.1)) c.args.unreadable.now i none so (lines_in c.add.new.self) _ c.loop-error-test.true
          (c.in_ok-add.ensures.text ∙ (ap (λ s. so ++ told_line s at c.as_str.result.now) c.loop-error.invariant.source ∙ ap (λ t. so ++ told_line source at t) (c.as_str.ensures.value ∙ c.in_ok-text.ensures.ok)))
          c.loop-error.invariant.text;
      source = c.in_ok-add.ensures.source ∙ c.loop-error.invariant.source;
    }
