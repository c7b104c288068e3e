-- A source is added, and what was passed over in it is told: a line for each part that can't be read, and one for each
-- entry whose id was there.
use Rattle.std.specs.Prelude.{◌≡◌, ℕ, ◌+◌, ◌==◌, List, [], ◌∷◌, ◌++◌, map, take, count_by, flat_map, codes}
use Rattle.std.specs.Fmt.{decimal}
use Rattle.std.specs.Str.{IsUtf8}
use Rattle.fluent_ast.specs.Tree.{Text, Entry}
use Rattle.fluent_ast.specs.ParserError.{unreadable_text}
use Rattle.fluent_syntax.specs.Chunks.{entries, entry_starts, junk_ranges}
use Rattle.fluent_semantics.specs.Arguments.{Map}
use Rattle.fluent_semantics.specs.Bundle as bundles
use Rattle.fluent_semantics.specs.Bundle.{Bundle, add_resource_overriding, added, after, not_added}
use Rattle.fluent_semantics.specs.Errors.{Error, error_text}
use Rattle.fluent_c_handles.specs.Answers.{BundleCall, IsOneText, Kept, unanswered, with_source}
use Rattle.fluent_c_handles.specs.declared.answer.Answer.TheVariants as answer
use Rattle.fluent_c_handles.specs.declared.sources.SourceFault.{SourceFault}
use Rattle.fluent_c_handles.specs.declared.sources.SourceFault.TheVariants as source_fault

-- the number of the line in which the byte at an offset stands, from 1 on
abbrev pub line_at : Text → ℕ → ℕ
line_at source at = 1 + count_by (λ c. c == 10) (take at source)

-- a line that tells something of what begins there, with the number of its line in the source
abbrev pub told_line : Text → ℕ → Text → Text
told_line source at text = decimal (line_at source at) ++ (codes ": " ++ (text ++ 10 ∷ []))

-- ---- what can't be read

-- a line for each of these byte ranges, such as `3: unreadable entry at bytes 7..13`
abbrev pub unreadable_lines : Text → List (ℕ × ℕ) → Text
unreadable_lines source ranges = flat_map (λ r. told_line source r.0 (unreadable_text r.0 r.1)) ranges

-- ---- entries whose ids were there

-- an error, and where the entry begins that it is of
abbrev pub PassedOver : Type 0
PassedOver = ℕ × Error

-- errors of one place
abbrev pub placed : ℕ → List Error → List PassedOver
placed at errors = map (λ error. (at, error)) errors

-- The errors of adding entries, in order, each with where its entry begins: the first list has where each entry does.
abbrev pub passed_over : {C : Type 0} → List ℕ → List Entry → Map (bundles.Entry C) → List PassedOver
passed_over [] es ids = []
passed_over (at ∷ ats) [] ids = []
passed_over (at ∷ ats) (e ∷ es) ids = placed at (not_added (e ∷ []) ids) ++ passed_over ats es (added (e ∷ []) ids)

-- a line for each of them, such as `4: Attempt to override an existing term: "a".`
abbrev pub passed_over_lines : Text → List PassedOver → Text
passed_over_lines source all = flat_map (λ l. told_line source l.0 (error_text l.1)) all

-- ---- what is told

-- of a source, by what ids name before it is added
abbrev pub told_by : {C : Type 0} → Text → Map (bundles.Entry C) → Text
told_by source ids =
    unreadable_lines source (junk_ranges source)
    ++ passed_over_lines source (passed_over (entry_starts source) (entries source) ids)

-- of a source that is added to this bundle
abbrev pub told_of : {C : Type 0} → Text → Bundle C → Text
told_of source bundle = told_by source bundle.ids

-- of a source whose entries override what is there: only what can't be read, since no entry is passed over
abbrev pub told_overriding_of : Text → Text
told_overriding_of source = unreadable_lines source (junk_ranges source)

-- ---- the calls

-- a source was added, of which is told what was passed over
abbrev pub added_to : Text → Kept → Kept
added_to source m = record m { by = λ all. with_source source (m.by all); told = told_of source (unanswered m) }

-- the entries of a source took the place of what had their ids, and what can't be read in it is told
abbrev pub overridden_by : Text → Kept → Kept
overridden_by source m =
    record m { by = λ all. after (add_resource_overriding (entries source)) (m.by all); told = told_overriding_of source }

-- why a source was not added
abbrev pub NotAdded : Text → SourceFault → Type 0
NotAdded text source_fault.NotText = ¬ (IsUtf8 text)
NotAdded text source_fault.Memory = IsUtf8 text
NotAdded text f = ⊥

-- a source that is UTF-8 is added, or the bundle stays
abbrev pub AddsSource : Text → BundleCall
AddsSource text m new answer.Done = IsUtf8 text × (new ≡ added_to text m)
AddsSource text m new (answer.Fault f) = (new ≡ m) × NotAdded text f
AddsSource text m new a = ⊥

-- the same, and its entries take the place of what has their ids
abbrev pub AddsOverriding : Text → BundleCall
AddsOverriding text m new answer.Done = IsUtf8 text × (new ≡ overridden_by text m)
AddsOverriding text m new (answer.Fault f) = (new ≡ m) × NotAdded text f
AddsOverriding text m new a = ⊥

-- what was told of the source that was added last; or there was no memory
abbrev pub TellsReport : BundleCall
TellsReport m new (answer.Texts text lines) = (new ≡ m) × IsOneText m.told text lines
TellsReport m new (answer.Fault source_fault.Memory) = new ≡ m
TellsReport m new a = ⊥
