use Rattle.std.proofs.Common.{lit<, sym, ◌∙◌, ap}
use Rattle.std.specs.Option.{option_map}
use Rattle.std.proofs.lemmas.Str.Pattern.{split_once_first}
use Rattle.fluent_plural_rules.specs.Languages.{content}
use Rattle.fluent_plural_rules.proofs.TabLemmas.{rules_of_one_tab, rules_of_two_tabs}
use Rattle.fluent_plural_rules.proofs.languages.rules_in.Goals as goal

pub returns-in_err-cardinal : goal.returns-in_err-cardinal
returns-in_err-cardinal c =
    let texts = c.in_ok-texts.texts.now in
    let first = rw c.in_ok-texts.was at (split_once_first 9 c.args.line.now c.split_once.result c.split_once.ensures.cases (lit< tt)) in
    let second = rw c.in_err-cardinal.was at (split_once_first 9 texts c.split_once-2.result c.split_once-2.ensures.cases (lit< tt)) in
    ap (option_map content) c.from_residual-in_err-cardinal.ensures ∙ sym (rules_of_one_tab c.args.line.now texts first.2 second)

pub returns : goal.returns
returns c =
    let texts = c.in_ok-texts.texts.now in
    let first = rw c.in_ok-texts.was at (split_once_first 9 c.args.line.now c.split_once.result c.split_once.ensures.cases (lit< tt)) in
    let second = rw c.in_ok-cardinal.was at (split_once_first 9 texts c.split_once-2.result c.split_once-2.ensures.cases (lit< tt)) in
    sym (rules_of_two_tabs c.args.line.now texts c.in_ok-cardinal.cardinal.now c.in_ok-cardinal.ordinal.now first.2 second.0 second.1 second.2)
