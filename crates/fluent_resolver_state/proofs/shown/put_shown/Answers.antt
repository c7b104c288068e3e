use Rattle.std.proofs.Common.{ap, sym}
use Rattle.fluent_ast.specs.View.{inline_view}
use Rattle.fluent_resolver_state.specs.Happened.{shown_answer}
use Rattle.fluent_values.specs.View.{value_view}
use Rattle.fluent_values.specs.Facts.Took.{took_same}
use Rattle.fluent_resolver_state.specs.Facts.Naming.{no_error}
use Rattle.fluent_resolver_state.proofs.shown.put_shown.Goals as goal

pub returns-in-Error : goal.returns-in-Error
returns-in-Error g c =
    let b = g.B.Context.meant c.args.bundle.now in
    took_same (sym (ap (λ v. shown_answer b (inline_view c.args.inline.now) (value_view g.C.FluentType.content v)) c.in-Error.is)) c.put_fallback.ensures.took

pub returns-in_default : goal.returns-in_default
returns-in_default g c =
    took_same (no_error g.C.FluentType.content (g.B.Context.meant c.args.bundle.now) (inline_view c.args.inline.now) c.args.answer.now c.in_default.not-Error) c.put_value.ensures.took
