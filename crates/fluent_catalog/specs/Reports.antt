-- What adding the sources of languages leads to, and what is reported of them.
use Rattle.std.specs.Prelude.{◌≡◌, ℕ, List, [], ◌∷◌, ◌++◌, map}
use Rattle.std.specs.declared.vec.Vec.{Vec}
use Rattle.std.proofs.Common.{Global}
use Rattle.fluent_text.specs.Changes.{Change, new, old}
use Rattle.fluent_ast.specs.Tree.{Text, Entry}
use Rattle.fluent_syntax.specs.Chunks.{junk_ranges}
use Rattle.fluent_syntax.specs.Parsed.{error_range}
use Rattle.fluent_semantics.specs.Bundle.{Bundle, add_resource, after, answered}
use Rattle.fluent_semantics.specs.Errors.{Error}
use Rattle.fluent_bundle_entries.specs.ErrorView.{error_view}
use Rattle.fluent_catalog.specs.declared.reports.Report.{Report}
use Rattle.fluent_catalog.specs.declared.reports.Report.TheVariants as of

-- of a language: the byte ranges that can't be read, or what was left
pub data Told : Type 0 where
  unreadable : Text → List (ℕ × ℕ) → Told
  left : Text → List Error → Told

abbrev pub report_view : Report → Told
report_view (of.Unreadable tag errors) = unreadable tag.now (map error_range errors.items)
report_view (of.Left tag errors) = left tag.now (map error_view errors.items)

-- what a list of reports tells, in order
abbrev pub told_in : Vec Report Global → List Told
told_in reports = map report_view reports.items

-- one report where there is anything
abbrev pub unreadable_in : Text → List (ℕ × ℕ) → List Told
unreadable_in tag [] = []
unreadable_in tag (range ∷ more) = unreadable tag (range ∷ more) ∷ []

abbrev pub left_in : Text → List Error → List Told
left_in tag [] = []
left_in tag (error ∷ more) = left tag (error ∷ more) ∷ []

-- ---- what a call adds to a list of reports

abbrev pub Tells : List Told → Change (Vec Report Global) → Type 0
Tells more reports = told_in (new reports) ≡ told_in (old reports) ++ more

-- what can't be read in a source, by its tag
abbrev pub TellsUnreadable : Text → Text → Change (Vec Report Global) → Type 0
TellsUnreadable tag source = Tells (unreadable_in tag (junk_ranges source))

-- what is left where entries are added to a bundle, by the tag of its language
abbrev pub TellsLeft : Text → Bundle Text → List Entry → Change (Vec Report Global) → Type 0
TellsLeft tag bundle entries = Tells (left_in tag (answered (add_resource entries) bundle))

-- none is added
abbrev pub TellsNothing : Change (Vec Report Global) → Type 0
TellsNothing reports = (new reports).items ≡ (old reports).items

-- ---- and what it does with a bundle, by what bundles mean

module _ {B : Type 0} (of : B → Bundle Text) where
  -- entries are added
  abbrev pub AddsSource : List Entry → Change B → Type 0
  AddsSource entries bundle = of (new bundle) ≡ after (add_resource entries) (of (old bundle))

  -- it means the same
  abbrev pub MeansTheSame : Change B → Type 0
  MeansTheSame bundle = of (new bundle) ≡ of (old bundle)
