use Rattle.std.proofs.Common.{ℕ, ◌-◌, List, [], ap, ◌∙◌, arith}
use Rattle.fluent_ast.specs.Tree.{Text}
use Rattle.fluent_semantics.specs.Errors.{Error}
use Rattle.fluent_semantics.specs.Walk.{application}
use Rattle.fluent_semantics.specs.Meaning.{left, Ran, meaning}
use Rattle.fluent_clean.proofs.NoErrors.{clean_has_none}
use Rattle.fluent_clean.proofs.Counted.{meaning_opens}
use Rattle.fluent_clean.proofs.laws.clean_means_no_errors.Goals as goal

abbrev passing : Text → ℕ → List Error → Ran Text
passing t n es = record { value = t; errors = es; budget = left n }

pub returns-clause-errors : goal.returns-clause-errors
returns-clause-errors g c b args p h given = clean_has_none b (application args) p h given

pub returns-clause-opened : goal.returns-clause-opened
returns-clause-opened g c = meaning_opens

pub returns-clause-written : goal.returns-clause-written
returns-clause-written g c b args p h given within =
    let o = meaning b (application args) [] p in
    c.meanings_agree.ensures.within b (application args) [] p b.limit (omega (arith, meaning_opens b (application args) [] p))
    ∙ ap (passing o.value (b.limit - o.opened)) (clean_has_none b (application args) p h given)
