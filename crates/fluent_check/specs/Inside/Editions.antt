-- Translations and their references, as they are made.
use Rattle.std.specs.Prelude.{◌≡◌}
use Rattle.fluent_bundle.specs.declared.bundle.FluentBundle.{FluentBundle}
use Rattle.fluent_places.specs.Asked.{AreAskedIn}
use Rattle.fluent_places.specs.Places.{names_of}
use Rattle.fluent_plural_rules.specs.declared.rule_texts.RuleTexts.{RuleTexts}
use Rattle.fluent_values.specs.declared.formatter.NoFormatter.{NoFormatter}
use Rattle.fluent_values.specs.declared.function.NoFunction.{NoFunction}
use Rattle.fluent_values.specs.declared.transform.NoTransform.{NoTransform}
use Rattle.fluent_values.specs.declared.types.custom.NoCustom.{NoCustom}
use Rattle.fluent_check.specs.Bundles.{bundle_view}
use Rattle.fluent_check.specs.Places.{keys_of}
use Rattle.fluent_check.specs.declared.places.Places.{Places}
use Rattle.fluent_check.specs.declared.referred.Edition.{Edition}

-- it has this bundle and these places, and what each of them asks for
pub record IsEdition (bundle : FluentBundle RuleTexts NoCustom NoFunction NoFormatter NoTransform) (places : Places) (e : Edition) : Type 0 where
  pub of_bundle : e.bundle.now ≡ bundle
  pub of_places : e.places.now ≡ places
  pub asked : AreAskedIn (names_of (bundle_view bundle)) (keys_of places) e.asked
