-- The rules that are found for a tag.
use Rattle.std.specs.Prelude.{◌≡◌, None, Ok}
use Rattle.fluent_ast.specs.Tree.{Text}
use Rattle.fluent_plural_rules.specs.RuleTexts.{IsParse}
use Rattle.fluent_plural_rules.specs.RuleTree.{Rules}
use Rattle.fluent_bundle.specs.BundleView.{formatter_in, transform_in}
use Rattle.fluent_c_handles.specs.Answers.{Code, IsTag, rules_for_tag}
use Rattle.fluent_c_handles.specs.declared.opening.OpenFault.{OpenFault}
use Rattle.fluent_c_handles.specs.declared.opening.OpenFault.TheVariants as fault

-- the tag is one, and these are the rules for it
pub record HasRules (tag : Text) (rules : Rules) : Type 0 where
  pub text : IsTag tag
  pub read : IsParse (rules_for_tag tag).cardinal (rules_for_tag tag).ordinal (Ok rules)

-- the tag is none, which is said
abbrev pub IsNoTag : Text → OpenFault → Type 0
IsNoTag tag fault.NotText = ¬ (IsTag tag)
IsNoTag tag f = ⊥

-- it has no formatter and no transform
pub record IsUnset (bundle : Code) : Type 0 where
  pub formatter : formatter_in bundle ≡ None
  pub transform : transform_in bundle ≡ None
