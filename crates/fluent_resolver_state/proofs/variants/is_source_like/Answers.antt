use Rattle.std.proofs.Common.{ap, sym, ◌∙◌, Some, None}
use Rattle.std.specs.Option.{option_map}
use Rattle.fluent_intl.specs.Number.{number_of}
use Rattle.fluent_semantics.specs.Value.{try_number}
use Rattle.fluent_resolver_state.specs.Choice.{is_like}
use Rattle.fluent_values.specs.Facts.Reading.{number_read, text_kept}
use Rattle.fluent_resolver_state.proofs.variants.is_source_like.Goals as goal

pub returns-in-Some : goal.returns-in-Some
returns-in-Some c =
    c.eq.ensures.test
    ∙ ap (is_like c.args.word.now (Some (number_of c.in-Some.number.now))) (number_read c.numbers_read_as_defined.ensures c.args.source.now _ c.in-Ok.ensures)
    ∙ ap (λ n. is_like c.args.word.now (option_map (λ m. number_of m.now) n) (try_number c.args.source.now)) (sym c.in-Some.is)

pub returns-in-Ok : goal.returns-in-Ok
returns-in-Ok c =
    ap (is_like c.args.word.now None) (number_read c.numbers_read_as_defined.ensures c.args.source.now _ c.in-Ok.ensures)
    ∙ ap (λ n. is_like c.args.word.now (option_map (λ m. number_of m.now) n) (try_number c.args.source.now)) (sym c.in-None.is)

pub returns : goal.returns
returns c =
    c.eq-in-Err.ensures
    ∙ ap (is_like c.args.word.now (option_map (λ m. number_of m.now) c.args.number)) (text_kept c.numbers_read_as_defined.ensures c.args.source.now c.in-Err.ensures)
