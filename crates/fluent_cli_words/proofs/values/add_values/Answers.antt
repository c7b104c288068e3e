use Rattle.std.proofs.Common.{◌≡◌, ◌∙◌, ◌++◌, [], ap, sym, unwrap_or}
use Rattle.std.proofs.lemmas.List.{append-nil}
use Rattle.clap.specs.Matches.{found_of}
use Rattle.clap.specs.Walk.{rows_of}
use Rattle.clap.proofs.WalkLemmas.{raw_values-rows}
use Rattle.fluent_cli_words.specs.Given.{texts, values_of}
use Rattle.fluent_cli_words.proofs.Given.{added}
use Rattle.fluent_cli_words.proofs.values.add_values.Goals as goal

pub returns-in_ok-extend_from_slice-in-Some : goal.returns-in_ok-extend_from_slice-in-Some
returns-in_ok-extend_from_slice-in-Some c =
    added _ _ _ _ c.in_ok-extend_from_slice-in-Some.ensures.items
    (ap (λ values. unwrap_or values []) (c.in-Some.ensures ∙ raw_values-rows (found_of c.args.matches.now) c.args.id.now))

pub returns-in-None : goal.returns-in-None
returns-in-None c =
    let none : [] ≡ values_of c.args.id.now (rows_of (found_of c.args.matches.now)) =
    ap (λ values. unwrap_or values []) (c.in-None.ensures ∙ raw_values-rows (found_of c.args.matches.now) c.args.id.now) in
    sym (append-nil _) ∙ ap (λ values. texts c.args.list.now.items ++ values) none
