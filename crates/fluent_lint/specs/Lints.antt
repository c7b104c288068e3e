-- What linting says of a bundle and resources.
use Rattle.std.specs.Prelude.{List, [], ◌∷◌, ◌++◌}
use Rattle.std.specs.declared.vec.Vec.{Vec}
use Rattle.std.proofs.Common.{Global}
use Rattle.fluent_ast.specs.Tree.{Text}
use Rattle.fluent_semantics.specs.Bundle.{Bundle}
use Rattle.fluent_resource.specs.ResourceView.{entries_of}
use Rattle.fluent_resource.specs.declared.resource.FluentResource.{FluentResource}
use Rattle.fluent_places.specs.Places.{Place, names_of, places_in}
use Rattle.fluent_clean.specs.Clean.{IsFine, NeverFails}
use Rattle.fluent_clean.specs.Findings.{AreFindingsOf}
use Rattle.fluent_clean.specs.declared.finding.Finding.{Finding}

-- the places of resources, in order
abbrev pub places_in_resources : List FluentResource → List Place
places_in_resources [] = []
places_in_resources (r ∷ rs) = places_in (entries_of r) ++ places_in_resources rs

-- These are the findings of the places of resources, by the bundle's limit; and what is fine never shows an error.
pub record Lints (b : Bundle Text) (rs : List FluentResource) (fs : Vec Finding Global) : Type 0 where
  pub finds : AreFindingsOf (names_of b) b.limit (places_in_resources rs) fs.items
  pub written : (x : Place) → IsFine (names_of b) b.limit x → NeverFails b x
