use Rattle.std.proofs.Common.{◌≡◌, None, length, refl, sym, lit<}
use Rattle.std.specs.List.{position_or_len}
use Rattle.std.proofs.lemmas.Str.Pattern.{split_once_first}
use Rattle.fluent_cli_words.specs.Given.{is_dot}
use Rattle.fluent_cli_words.proofs.Splits.{all_before, none_in}
use Rattle.fluent_cli_words.proofs.requests.id_and_attribute.Goals as goal

pub returns-in-None : goal.returns-in-None
returns-in-None c =
    let word = c.args.word.now in
    let none : position_or_len is_dot word ≡ length word = split_once_first 46 word None c.in-None.ensures.cases (lit< tt) in
    (sym (all_before is_dot word none), rw (none_in is_dot word none) refl)
