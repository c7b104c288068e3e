-- What a catalog holds.
use Rattle.std.specs.Prelude.{◌≡◌, ℕ, List, map, Option}
use Rattle.std.specs.List.{slice_get}
use Rattle.std.specs.Option.{option_and_then, option_map}
use Rattle.std.specs.Borrow.{Bor}
use Rattle.fluent_ast.specs.Tree.{Text}
use Rattle.fluent_bundle.specs.declared.bundle.FluentBundle.{FluentBundle}
use Rattle.fluent_catalog.specs.declared.catalog.Catalog.{Catalog}

-- the tags of its languages, the first that is asked first
abbrev pub tags_in : {M C F G X : Type 0} → Catalog M C F G X → List Text
tags_in catalog = map (λ tag. tag.now) catalog.tags.items

-- a tag that was found, if one was
abbrev pub tag_seen : Option (Bor Text) → Option Text
tag_seen found = option_map (λ tag. tag.now) found

-- the tag at an index, if one is given and a language stands there
abbrev pub tag_in : {M C F G X : Type 0} → Catalog M C F G X → Option ℕ → Option Text
tag_in catalog index = option_and_then (slice_get (tags_in catalog)) index

-- the bundles of its languages, in the same order
abbrev pub bundles_in : {M C F G X : Type 0} → Catalog M C F G X → List (FluentBundle M C F G X)
bundles_in catalog = catalog.bundles.items

-- it holds the same
abbrev pub IsUnchanged : {M C F G X : Type 0} → Catalog M C F G X → Catalog M C F G X → Type 0
IsUnchanged old new = (tags_in new ≡ tags_in old) × (bundles_in new ≡ bundles_in old)
