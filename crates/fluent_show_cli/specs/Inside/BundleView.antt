-- The bundle of the code and its arguments, by content.
use Rattle.std.specs.Prelude.{[], true, None}
use Rattle.fluent_ast.specs.Tree.{Text}
use Rattle.fluent_semantics.specs.Value.{Value, error_value}
use Rattle.fluent_semantics.specs.Arguments.{Map}
use Rattle.fluent_semantics.specs.Bundle.{Bundle}
use Rattle.fluent_values.specs.View.{named}
use Rattle.fluent_bundle.specs.BundleView.{meant}
use Rattle.fluent_values.specs.declared.args.FluentArgs.{FluentArgs}
use Rattle.fluent_bundle.specs.declared.bundle.FluentBundle.{FluentBundle}
use Rattle.fluent_values.specs.declared.formatter.NoFormatter.{NoFormatter}
use Rattle.fluent_values.specs.declared.function.NoFunction.{NoFunction}
use Rattle.fluent_values.specs.declared.transform.NoTransform.{NoTransform}
use Rattle.fluent_values.specs.declared.types.custom.NoCustom.{NoCustom}
use Rattle.fluent_show_words.specs.PluralsView.{plurals_view}
use Rattle.fluent_show_words.specs.declared.plurals.Plurals.{Plurals}

-- no values and functions of the application, no formatter, no transform
abbrev pub bundle_view : FluentBundle Plurals NoCustom NoFunction NoFormatter NoTransform
    → Bundle Text
bundle_view =
    meant plurals_view (λ t. []) (λ s t. true) (λ f vs as'. error_value) (λ g v m. None) (λ x t. t)

abbrev pub args_view : FluentArgs NoCustom → Map (Value Text)
args_view = named (λ c. [])
