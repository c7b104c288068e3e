use Rattle.std.proofs.Common.{map, inl, inr}
use Rattle.std.proofs.lemmas.Result.{err_from_is_err_and}
use Rattle.fluent_answers.specs.ArgumentView.{argument_view}
use Rattle.fluent_c_check.proofs.handed.lists_in.Goals as goal

pub returns-in_err-functions-clause-err : goal.returns-in_err-functions-clause-err
returns-in_err-functions-clause-err c =
    let p = err_from_is_err_and c.from_residual-in_err-functions.result c.from_residual-in_err-functions.ensures.1 in
    rw (p.1, p.2) (inr (
      map argument_view c.in_ok-sources.sources.items,
      c.in_ok-sources.ensures.ok,
      inr (
        map argument_view c.in_ok-beside.beside.items,
        c.in_ok-beside.ensures.ok,
        inr (
          map argument_view c.in_ok-references.references.items,
          c.in_ok-references.ensures.ok,
          inl c.in_err-functions.ensures.err,
        ),
      ),
    ))
