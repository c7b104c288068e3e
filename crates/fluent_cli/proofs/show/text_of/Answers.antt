use Rattle.std.proofs.Common.{◌≡◌, [], rules}
use Rattle.fluent_values.specs.View.{named}
use Rattle.fluent_cli.specs.Shown.{arguments_of}
use Rattle.fluent_cli.proofs.show.text_of.Goals as goal

pub returns-in-Some : goal.returns-in-Some
returns-in-Some c =
    let args : named (λ c. []) c.in_ok-args.args ≡ arguments_of c.args.request.now.arguments.items = search rules in
    rw c.in-Some.is (rw (← args) (record { text = c.format_attribute_owned.ensures.whole.text; errors = c.format_attribute_owned.ensures.whole.adds }))

pub returns : goal.returns
returns c =
    let args : named (λ c. []) c.in_ok-args.args ≡ arguments_of c.args.request.now.arguments.items = search rules in
    rw c.in-None.is (rw (← args) (record { text = c.format_value_owned.ensures.whole.text; errors = c.format_value_owned.ensures.whole.adds }))
