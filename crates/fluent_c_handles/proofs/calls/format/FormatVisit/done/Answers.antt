use Rattle.std.proofs.Common.{◌≡◌, rules, false, is_some, refl}
use Rattle.fluent_c_handles.specs.declared.answer.Answer.TheVariants as answer
use Rattle.fluent_c_handles.proofs.Giving.{closed}
use Rattle.fluent_c_handles.proofs.calls.format.FormatVisit.done.Goals as goal

pub returns-then-not-is_open-clause-does : goal.returns-then-not-is_open-clause-does
returns-then-not-is_open-clause-does c =
    let none : is_some c.args.stock.held ≡ false = search (rules, c.if-not-is_open.true) in
    record {
      out = refl;
      err = refl;
      given = record {
        answer = answer.Closed;
        done = closed _ c.args.stock.held none;
        given = (refl, record { out_left = refl; err_left = refl; zero = (refl, refl) });
      };
    }
