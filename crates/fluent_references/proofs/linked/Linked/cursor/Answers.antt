use Rattle.std.proofs.Common.{sym, subst, ◌∙◌}
use Rattle.fluent_ast.specs.References.{references}
use Rattle.fluent_references.specs.Links.{IsBefore}
use Rattle.fluent_references.specs.Linked.{links_of}
use Rattle.fluent_references.specs.Inside.LinkNumbers.{are_links}
use Rattle.fluent_references.proofs.linked.Linked.cursor.Goals as goal

pub returns-clause-before : goal.returns-clause-before
returns-clause-before c = λ number table p is_of.
    subst (λ s. IsBefore number (references p) s) (sym (c.from_links.ensures ∙ c.deref.ensures.value)) (are_links number (references p) (links_of c.args.self.now) is_of.1)
