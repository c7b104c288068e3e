use Rattle.std.proofs.Common.{string_bytes}
use Rattle.std.specs.Option.{option_map}
use Rattle.std.proofs.lemmas.Result.{on_ok_weaker}
use Rattle.fluent_intl.specs.Options.{options_of}
use Rattle.fluent_answers.proofs.NumberProofs.{words_are}
use Rattle.fluent_answers.proofs.questions.number_text.put_words.Goals as goal

pub returns : goal.returns
returns c = on_ok_weaker c.put_option-3.result
    (λ is. words_are (string_bytes c.args.out.now) (string_bytes c.put_option.new.out) (string_bytes c.put_option-2.new.out) (string_bytes c.put_option-3.new.out)
    (option_map (λ w. w.now) c.style_word.result) (option_map (λ w. w.now) c.display_word.result) (option_map (λ w. w.now) c.grouping_word.result) (options_of c.args.options.now)
    c.in_ok-put_option.ensures c.in_ok-put_option-2.ensures is c.style_word.ensures c.display_word.ensures c.grouping_word.ensures)
    c.put_option-3.ensures
