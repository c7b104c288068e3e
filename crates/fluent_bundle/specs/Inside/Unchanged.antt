-- The text of a pattern that is one text, which nothing changes.
use Rattle.std.specs.Prelude.{◌&&◌, not, if◌then◌else◌, is_some, Option, None}
use Rattle.fluent_ast.specs.Tree.{Text, Pattern}
use Rattle.fluent_bundle_entries.specs.Texts.{sole_text}
use Rattle.fluent_bundle.specs.BundleView.{formatter_in, transform_in}
use Rattle.fluent_bundle.specs.declared.bundle.FluentBundle.{FluentBundle}

-- no transform and no formatter does
abbrev pub unchanged_text : {M C F G X : Type 0} → FluentBundle M C F G X → Pattern → Option Text
unchanged_text b p = if not (is_some (transform_in b)) && not (is_some (formatter_in b)) then sole_text p else None

-- no transform does, whatever the formatter
abbrev pub untransformed_text : {M C F G X : Type 0} → FluentBundle M C F G X → Pattern → Option Text
untransformed_text b p = if not (is_some (transform_in b)) then sole_text p else None
