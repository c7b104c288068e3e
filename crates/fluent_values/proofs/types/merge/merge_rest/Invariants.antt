use Rattle.std.proofs.Common.{◌≡◌}
use Rattle.fluent_intl.specs.Options.{options_of}
use Rattle.fluent_values.specs.Args.{shown_left}
use Rattle.fluent_values.specs.View.{named}
use Rattle.fluent_values.specs.Inside.Merging.{with_rest}
use Rattle.fluent_values.proofs.types.merge.merge_rest.Given as goal

-- what is left to merge gives what all gives
abbrev pub invariant-loop-name : goal.invariant-loop-name
invariant-loop-name g l =
    with_rest (shown_left g.C.FluentType.content l.name-iterator) (options_of l.options)
    ≡ with_rest (named g.C.FluentType.content l.fn.args) (options_of l.fn.options)
