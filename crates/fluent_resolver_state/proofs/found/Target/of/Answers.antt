use Rattle.std.proofs.Common.{sym, subst, ◌∙◌}
use Rattle.fluent_ast.specs.References.{references}
use Rattle.fluent_references.specs.Links.{IsBefore}
use Rattle.fluent_ast.specs.View.{pattern_view}
use Rattle.fluent_resolver_state.proofs.found.Target.of.Goals as goal

pub returns-in-Some-clause-stored : goal.returns-in-Some-clause-stored
returns-in-Some-clause-stored c = λ number table kept.
    let p = pattern_view c.args.pattern.now in
    let is = kept.0 c.in-Some.linked c.in-Some.is in
    record {
      classed = (λ n at. is.0.0 n (sym c.class.ensures ∙ at), λ none. is.0.1 (sym c.class.ensures ∙ none));
      placed = c.cursor.ensures.before number table p is;
    }

pub returns-in-None-clause-stored : goal.returns-in-None-clause-stored
returns-in-None-clause-stored c = λ number table kept. record {
  classed = (λ n at. absurd cc, λ none. kept.1 c.in-None.is);
  placed = subst (IsBefore number (references (pattern_view c.args.pattern.now))) (sym c.by_name.ensures) tt;
}
