-- Where no link is left.
use Rattle.std.proofs.Common.{◌≡◌, sym, List, [], ◌∷◌, true}
use Rattle.std.proofs.lemmas.Bool.{false≢true}
use Rattle.std.specs.Prelude.{is_none}
use Rattle.fluent_ast.specs.References.{Reference}
use Rattle.fluent_references.specs.CursorLaws.{after_last}
use Rattle.fluent_references.specs.Cursors.{first_of}
use Rattle.fluent_references.specs.Links.{Links, past}

-- nothing is passed over
pub nothing_left : (p : Links) (rs : List Reference) → is_none (first_of p) ≡ true → p ≡ past rs p
nothing_left [] rs h = sym (after_last rs)
nothing_left (l ∷ ls) rs h = absurd (false≢true h)
