-- Names that are gathered in sets, and what is told of each once.
use Rattle.std.specs.Prelude.{◌≡◌, ◌||◌, List, [], ◌∷◌, ◌++◌, filter, Option, Some, None, Vec}
use Rattle.std.specs.List.{filter_map}
use Rattle.std.specs.Borrow.{Bor}
use Rattle.std.specs.declared.alloc.Global.{Global}
use Rattle.indexmap.specs.IndexSet.{IndexSet}
use Rattle.fluent_ast.specs.Tree.{Text}
use Rattle.fluent_places.specs.Asked.{texts}
use Rattle.fluent_places.specs.Needs.{Need}
use Rattle.fluent_places.specs.NeedsView.{needs_view}
use Rattle.fluent_places.specs.declared.listing.Need as code_need
use Rattle.fluent_patterns.specs.Found.{flaws_in}
use Rattle.fluent_patterns.specs.declared.finding.Flaw as code_flaw
use Rattle.fluent_differences.specs.Among.{is_in}
use Rattle.fluent_differences.specs.Compared.{is_reference, term_of, function_of, Told, firsts}
use Rattle.fluent_differences.specs.declared.compared.Own.{Own}

-- a need is added, if it is a reference
abbrev pub AddsReference : Need → Vec code_need.Need Global → Vec code_need.Need Global → Type 0
AddsReference n old new = needs_view new ≡ needs_view old ++ filter is_reference (n ∷ [])

-- a set has these names more
abbrev pub HasMore : {S : Type 0} → List Text → IndexSet (Bor Text) S → IndexSet (Bor Text) S → Type 0
HasMore vs old new = (v : Text) → is_in v (texts new.keys) ≡ (is_in v (texts old.keys) || is_in v vs)

-- a name, if there is one
abbrev pub names_if : Option (Bor Text) → List Text
names_if None = []
names_if (Some v) = v.now ∷ []

-- a set has these names and no other
abbrev pub HasNames : {S : Type 0} → List Text → IndexSet (Bor Text) S → Type 0
HasNames vs set = (v : Text) → is_in v (texts set.keys) ≡ is_in v vs

-- the terms and the functions to which these refer
pub record IsOwn (ns : List Need) (own : Own) : Type 0 where
  pub terms : HasNames (filter_map term_of ns) own.terms
  pub functions : HasNames (filter_map function_of ns) own.functions

-- one more is told, or was: whatever is told after it
abbrev pub TellsOnce : {S : Type 0} → Option Told → IndexSet (Bor Text) S → IndexSet (Bor Text) S → Vec code_flaw.Flaw Global → Vec code_flaw.Flaw Global → Type 0
TellsOnce one names names' flaws flaws' = (xs : List (Option Told)) →
    flaws_in flaws' ++ firsts (texts names'.keys) xs ≡ flaws_in flaws ++ firsts (texts names.keys) (one ∷ xs)
