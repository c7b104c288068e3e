-- What is told of the parts of a source.
use Rattle.std.specs.Prelude.{◌<◌, ℕ, List, map, length, get_or, string_bytes, String, All, ◌≡◌}
use Rattle.std.proofs.Common.{Global}
use Rattle.fluent_ast.specs.Tree.{Text}
use Rattle.fluent_ast.specs.declared.errors.ParserError.{ParserError}
use Rattle.fluent_syntax.specs.Parsed.{error_range}
use Rattle.fluent_semantics.specs.Bundle.{Bundle, Function}
use Rattle.fluent_bundle_entries.specs.EntryView.{ids}
use Rattle.fluent_bundle_entries.specs.ErrorView.{error_view}
use Rattle.fluent_bundle_entries.specs.declared.ids.Ids.{Ids}
use Rattle.fluent_syntax.specs.Chunks.{entries, entry_starts}
use Rattle.fluent_c_handles.specs.Calls.Adding.{PassedOver, passed_over, passed_over_lines, told_by, told_of, unreadable_lines}
use Rattle.fluent_c_handles.specs.Inside.Lines.{AddsText, lines_in}
use Rattle.fluent_c_handles.specs.declared.left.Left.{Left}
use Rattle.fluent_c_handles.specs.declared.lines.Lines.{Lines}

-- what is passed over, each with where its entry begins
abbrev pub left_at : List ℕ → List Left → List PassedOver
left_at starts all = map (λ l. (get_or starts l.entry 0, error_view l.error)) all

-- it is known where each of their entries begins
abbrev pub HaveStarts : List ℕ → List Left → Type 0
HaveStarts starts all = All (λ l. l.entry < length starts) all

-- the lines are of a source, with one for each part that can't be read
pub record AreUnreadable (source : Text) (errors : List ParserError) (lines : Lines) : Type 0 where
  pub text : lines_in lines ≡ unreadable_lines source (map error_range errors)
  pub source_is : lines.source.now ≡ source

-- a line is added for each entry that is passed over
abbrev pub AddsLeft : List PassedOver → Lines → Lines → Type 0
AddsLeft all old = AddsText (passed_over_lines old.source.now all) old

-- the same of a source, by what ids name
abbrev pub AddsLeftBy : {F : Type 0} → Ids F → Lines → Lines → Type 0
AddsLeftBy {F} known old new = (answer : F → Function Text) →
    AddsLeft (passed_over (entry_starts old.source.now) (entries old.source.now) (ids answer known)) old new

-- this is what is told of a source
abbrev pub Tells : {F : Type 0} → Text → Ids F → String Global → Type 0
Tells {F} source known text = (answer : F → Function Text) → string_bytes text ≡ told_by source (ids answer known)

-- the same of a source that is added to this bundle
abbrev pub IsReport : {C : Type 0} → Text → Bundle C → String Global → Type 0
IsReport source bundle text = string_bytes text ≡ told_of source bundle
