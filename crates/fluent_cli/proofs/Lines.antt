-- Lines of a listing.
use Rattle.std.proofs.Common.{◌≡◌, ◌∙◌, ◌++◌, List, [], ◌∷◌, Option, Some, None, ap, flat_map, refl}
use Rattle.std.specs.Borrow.{Bor}
use Rattle.fluent_ast.specs.Tree.{Text}
use Rattle.fluent_places.specs.Asked.{AreAskedIn, IsAskedIn, texts}
use Rattle.fluent_places.specs.Places.{Place, Names}
use Rattle.fluent_places.specs.declared.asked.Asked.{Asked}
use Rattle.fluent_sources.specs.Wording.{place_text}
use Rattle.fluent_cli.specs.Inside.Listing.{line_by, variables_text}
use Rattle.fluent_cli.specs.Listed.{AreLines, IsLine}

module _ (named : Names Text) (asked : Asked) where
  line_is : (x : Place) → IsAskedIn named asked x → IsLine named x (line_by asked x)
  line_is x is = record {
    variables = texts is.0;
    asked = is.2;
    distinct = is.3;
    is = ap (λ list. place_text x ++ (variables_text list ++ 10 ∷ [])) is.1;
  }

  pub lines_are : (xs : List Place) → AreAskedIn named xs asked → AreLines named xs (flat_map (line_by asked) xs)
  lines_are [] all = refl
  lines_are (x ∷ xs) all = (line_by asked x, flat_map (line_by asked) xs, line_is x all.0, lines_are xs all.1, refl)
