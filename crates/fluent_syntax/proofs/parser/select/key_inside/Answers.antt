use Rattle.std.proofs.Common.{sym, ap, ◌∙◌}
use Rattle.fluent_text.specs.Reading.{found}
use Rattle.fluent_ast.specs.View.{key_view}
use Rattle.fluent_syntax.proofs.Arguments.{key_name, key_number, no_key}
use Rattle.fluent_syntax.proofs.parser.select.key_inside.Goals as goal

pub returns-in-Some : goal.returns-in-Some
returns-in-Some c = sym (key_name c.args.s.now c.in-Some.rest.now c.in-Some.id.name.now (sym c.in-Some.ensures))

pub returns-in_err-value : goal.returns-in_err-value
returns-in_err-value c = ap (found key_view) c.from_residual.ensures ∙ sym (no_key c.args.s.now (sym c.in_default.ensures) (sym c.in_err-value.ensures))

pub returns : goal.returns
returns c = sym (key_number c.args.s.now c.in_ok-value.rest.now c.in_ok-value.value.now (sym c.in_ok-value.ensures))
