-- Runs with status 0.
use Rattle.std.proofs.Common.{◌≡◌, ◌∙◌, ◌==◌, ◌||◌, Bool, true, false, IsTrue, List, [], length, ap, refl, sym}
use Rattle.std.specs.Prelude.{not}
use Rattle.std.specs.Borrow.{Bor}
use Rattle.fluent_ast.specs.Tree.{Text}
use Rattle.fluent_cli_report.specs.Unread.{Unread}
use Rattle.fluent_cli_words.specs.declared.request.Request.{Request}
use Rattle.fluent_cli.specs.Checked.{is_empty, status_over}
use Rattle.fluent_cli.specs.Runs.{Gives, GivesAfter, GivesBy, GivesOver, is_lost, status_by_whole}
use Rattle.fluent_cli.specs.declared.answer.Answer.{Answer}
use Rattle.fluent_cli.specs.declared.answer.Status.{Status}
use Rattle.fluent_cli.specs.declared.answer.Status.TheVariants.{Fine, Wrong, Fault}
use Rattle.fluent_cli.specs.declared.reading.Inputs.{Inputs}
use Rattle.fluent_cli.proofs.Whole.{empty}

-- all files could be read, and the request gives an answer with status 0
pub record GivesFine (request : Request) (inputs : Inputs) (unread : List Unread) : Type 0 where
  pub none : unread ≡ []
  pub given : Answer
  pub gives : Gives request inputs unread given
  pub fine : given.status ≡ Fine

fine_whole : (whole : Bool) (status : Status) → status_by_whole whole status ≡ Fine → (whole ≡ true) × (status ≡ Fine)
fine_whole true status fine = (refl, fine)
fine_whole false status fine = let both : Fault ≡ Fine = fine in absurd cc

fine_after : (request : Request) (inputs : Inputs) (unread : List Unread) (answer : Answer)
    → GivesAfter request inputs unread answer → answer.status ≡ Fine → GivesFine request inputs unread
fine_after request inputs unread answer after fine =
    let whole = fine_whole (length unread == 0) after.given.status (sym after.leaves.status ∙ fine) in
    record { none = empty unread whole.0; given = after.given; gives = after.gives; fine = whole.1 }

fine_by : (lost : Bool) (request : Request) (inputs : Inputs) (unread : List Unread) (answer : Answer)
    → GivesBy lost request inputs unread answer → answer.status ≡ Fine → GivesFine request inputs unread
fine_by true request inputs unread answer says fine = let both : Fault ≡ Fine = sym says.status ∙ fine in absurd cc
fine_by false request inputs unread answer gives fine = fine_after request inputs unread answer gives fine

pub fine_gives : (request : Request) (inputs : Inputs) (unread : List Unread) (answer : Answer)
    → GivesOver request inputs unread answer → answer.status ≡ Fine → GivesFine request inputs unread
fine_gives request inputs unread answer gives fine = fine_by (is_lost request inputs unread) request inputs unread answer gives fine

pub well_by : (well : Bool) (status : Status) → status_over well status ≡ Fine → well ≡ true
well_by true status fine = refl
well_by false status fine = let both : Wrong ≡ Fine = fine in absurd cc

pub clean_by : (clean : Bool) (allowed : List (Bor Text)) → allowed ≡ [] → (clean || not (is_empty allowed)) ≡ true → IsTrue clean
clean_by true allowed none well = refl
clean_by false allowed none well = let both : false ≡ true = ap (λ names. not (is_empty names)) (sym none) ∙ well in absurd cc
