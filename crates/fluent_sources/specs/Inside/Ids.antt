-- What is noted of ids and of names of attributes while values and attributes are gone over.
use Rattle.std.specs.Prelude.{◌≡◌, List, ◌∷◌, ◌++◌, map}
use Rattle.std.specs.Borrow.{Bor}
use Rattle.std.specs.declared.vec.Vec.{Vec}
use Rattle.std.proofs.Common.{Global}
use Rattle.indexmap.specs.IndexMap.{IndexMap}
use Rattle.indexmap.specs.IndexSet.{IndexSet}
use Rattle.fluent_ast.specs.Tree.{Text}
use Rattle.fluent_places.specs.Asked.{texts}
use Rattle.fluent_patterns.specs.Found.{found_in, spot_view}
use Rattle.fluent_patterns.specs.declared.finding.Finding.{Finding}
use Rattle.fluent_patterns.specs.declared.finding.Spot as code
use Rattle.fluent_sources.specs.Repeated.{repeated_attributes}
use Rattle.fluent_sources.specs.Standing.{Standing}
use Rattle.fluent_sources.specs.Taken.{Firsts, taken}

-- where the first entry of each id stands, by a table
abbrev pub firsts_in : {S : Type 0} → IndexMap (Bor Text) code.Spot S → Firsts
firsts_in table = map (λ e. (e.0.now, spot_view e.1)) table.entries

-- one more is gone over, whatever comes after it
abbrev pub Takes : {S : Type 0} → Standing → IndexMap (Bor Text) code.Spot S → IndexMap (Bor Text) code.Spot S → Vec Finding Global → Vec Finding Global → Type 0
Takes s firsts firsts' found found' = (ss : List Standing) → found_in found' ++ taken (firsts_in firsts') ss ≡ found_in found ++ taken (firsts_in firsts) (s ∷ ss)

abbrev pub Repeats : {S : Type 0} → Standing → IndexSet (Bor Text) S → IndexSet (Bor Text) S → Vec Finding Global → Vec Finding Global → Type 0
Repeats s names names' found found' = (ss : List Standing) →
    found_in found' ++ repeated_attributes (texts names'.keys) ss ≡ found_in found ++ repeated_attributes (texts names.keys) (s ∷ ss)
