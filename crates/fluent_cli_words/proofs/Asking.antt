-- What is asked for, by what `clap` gives.
use Rattle.std.proofs.Common.{◌≡◌, ◌∙◌, List, [], ◌∷◌, true, Option, Some, None, Result, IfOk, option_map, ap, ap₂, codes, refl, subst, sym}
use Rattle.std.specs.Prelude.{Box}
use Rattle.std.specs.Box.{box_value}
use Rattle.std.proofs.lemmas.Result.{IfOk-weaker}
use Rattle.clap.specs.Faults.{fault_of, is_simple_and_free}
use Rattle.clap.specs.Kinds.{HasKind, Kinds}
use Rattle.clap.specs.Simple.{App, HasMatchesOf, app_of, is_simple, subcommand_of, subcommand_rows, subcommand_rows_of}
use Rattle.clap.specs.Matches.{found_of, subcommand_name_of}
use Rattle.clap.specs.Walk.{Row, Text, rows_of}
use Rattle.clap.specs.declared.builder.command.Command.{Command}
use Rattle.clap.specs.declared.error.Error.{Error}
use Rattle.clap.specs.declared.parser.matches.ArgMatches.{ArgMatches}
use Rattle.clap.specs.declared.parser.matches.SubCommand.{SubCommand}
use Rattle.clap.specs.declared.parser.matches.ArgMatches.TheViews.{out-SubCommand}
use Rattle.clap.proofs.OnLiterals.{clap_on_literals}
use Rattle.fluent_cli_words.specs.Commands.{program}
use Rattle.fluent_cli_words.specs.Words.{AsksBy, AsksIn, Refuses, TellsOneOf}
use Rattle.fluent_cli_words.specs.declared.request.Asked.{Asked}

pub program_is_simple : is_simple program ≡ true
unfolding clap_on_literals
program_is_simple = refl

pub program_is_free : is_simple_and_free program ≡ true
unfolding clap_on_literals
program_is_free = refl

-- what is said of one of the kinds is what is asked for, where there is such a kind
pub asks_kinds : (kinds : Kinds) (found : Option (Text × List Row)) (asked : Asked) → TellsOneOf kinds asked → AsksBy kinds found asked
asks_kinds [] found asked says = absurd says.1
asks_kinds (kind ∷ kinds) found asked says = says

-- the subcommand that was met, by its name and its rows
module _ {Z : Type 0} where
  pub subcommand_found : (sub : Option (Box SubCommand Z)) (name : Text) (rows : List Row)
      → option_map (λ b. (out-SubCommand (box_value b)).name.now) sub ≡ Some name
      → option_map (λ p. p.1) (subcommand_rows sub) ≡ Some rows
      → subcommand_rows sub ≡ Some (name, rows)
  subcommand_found None name rows n r = absurd cc
  subcommand_found (Some b) name rows n r =
      let same_name : (out-SubCommand (box_value b)).name.now ≡ name = cc in
      let same_rows : rows_of (found_of (out-SubCommand (box_value b)).matches) ≡ rows = cc in
      ap₂ (λ x y. Some (x, y)) same_name same_rows

  pub no_subcommand : (sub : Option (Box SubCommand Z)) → option_map (λ b. (out-SubCommand (box_value b)).name.now) sub ≡ None
      → subcommand_rows sub ≡ None
  no_subcommand None n = refl
  no_subcommand (Some b) n = absurd cc

-- what is asked for where the words are taken
found_asks : (kinds : Kinds) (found : Option (Text × List Row)) (name : Text) (rows : List Row) (asked : Asked) → kinds ≡ []
    → found ≡ Some (name, rows) → AsksIn name rows asked → AsksBy kinds found asked
found_asks kinds found name rows asked none is asks = rw (none, is) asks

none_asks : (kinds : Kinds) (found : Option (Text × List Row)) (asked : Asked) → kinds ≡ [] → found ≡ None
    → Refuses (codes "no subcommand") asked → AsksBy kinds found asked
none_asks kinds found asked none is asks = rw (none, is) asks

module _ {E : Type 0} (app : App) (command : Command) (words : List Text) (result : Result Asked E) where
  no_fault : app_of command ≡ app → is_simple_and_free app ≡ true
      → (is_simple_and_free (app_of command) ≡ true → fault_of (app_of command) words ≡ []) → fault_of app words ≡ []
  no_fault reads free none = ap (λ a. fault_of a words) (sym reads) ∙ none (ap is_simple_and_free reads ∙ free)

  rows_met : (m : ArgMatches) → app_of command ≡ app → is_simple app ≡ true → HasMatchesOf (app_of command) words m
      → subcommand_of app words ≡ subcommand_rows_of m
  rows_met m reads simple has =
      ap (λ a. subcommand_of a words) (sym reads) ∙ sym (has (ap is_simple reads ∙ simple)).1

  pub asks_some : (m : ArgMatches) (name : Text) (rows : List Row) → app_of command ≡ app → is_simple app ≡ true
      → is_simple_and_free app ≡ true → (is_simple_and_free (app_of command) ≡ true → fault_of (app_of command) words ≡ [])
      → HasMatchesOf (app_of command) words m → Some name ≡ subcommand_name_of m
      → Some rows ≡ option_map (λ p. p.1) (subcommand_rows_of m) → IfOk result (AsksIn name rows)
      → IfOk result (AsksBy (fault_of app words) (subcommand_of app words))
  asks_some m name rows reads simple free none has named with asks =
      let same : subcommand_rows_of m ≡ Some (name, rows) = subcommand_found _ name rows (sym named) (sym with) in
      IfOk-weaker result _ _
      (λ asked found. found_asks _ _ name rows asked (no_fault reads free none) (rows_met m reads simple has ∙ same) found) asks

  pub asks_none : (m : ArgMatches) → app_of command ≡ app → is_simple app ≡ true
      → is_simple_and_free app ≡ true → (is_simple_and_free (app_of command) ≡ true → fault_of (app_of command) words ≡ [])
      → HasMatchesOf (app_of command) words m → None ≡ subcommand_name_of m → IfOk result (Refuses (codes "no subcommand"))
      → IfOk result (AsksBy (fault_of app words) (subcommand_of app words))
  asks_none m reads simple free none has named asks =
      let same : subcommand_rows_of m ≡ None = no_subcommand _ (sym named) in
      IfOk-weaker result _ _
      (λ asked says. none_asks _ _ asked (no_fault reads free none) (rows_met m reads simple has ∙ same) says) asks

  pub asks_fault : (error : Error) → app_of command ≡ app → is_simple_and_free app ≡ true
      → (is_simple_and_free (app_of command) ≡ true → HasKind (fault_of (app_of command) words) error)
      → IfOk result (λ asked. (kinds : Kinds) → HasKind kinds error → TellsOneOf kinds asked)
      → IfOk result (AsksBy (fault_of app words) (subcommand_of app words))
  asks_fault error reads free fails says =
      let has : HasKind (fault_of app words) error =
      subst (λ a. HasKind (fault_of a words) error) reads (fails (ap is_simple_and_free reads ∙ free)) in
      IfOk-weaker result _ _ (λ asked said. asks_kinds _ _ asked (said _ has)) says
