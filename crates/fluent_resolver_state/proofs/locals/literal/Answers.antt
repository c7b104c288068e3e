use Rattle.std.proofs.Common.{◌∙◌, [], ap, sym}
use Rattle.fluent_semantics.specs.Arguments.{get, set_all}
use Rattle.fluent_resolver_state.specs.Locals.{literal_values, literals_in}
use Rattle.fluent_resolver_state.proofs.locals.literal.Goals as goal

pub returns-in-Some : goal.returns-in-Some
returns-in-Some c = c.last_named.ensures ∙ ap (λ xs. get c.args.name.now (set_all (literal_values xs) [])) c.deref.ensures.value ∙ ap (λ a. get c.args.name.now (set_all (literals_in a) [])) (sym c.in-Some.is)

pub returns-in-None : goal.returns-in-None
returns-in-None c = ap (λ a. get c.args.name.now (set_all (literals_in a) [])) (sym c.in-None.is)
