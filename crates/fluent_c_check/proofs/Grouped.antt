-- Sources that are looked at together.
use Rattle.std.proofs.Common.{◌≡◌, ◌∙◌, ℕ, List, ◌++◌, length, ap}
use Rattle.fluent_sources.specs.Files.{Read}
use Rattle.fluent_sources.specs.Groups.{Group, read_group}
use Rattle.fluent_sources.specs.ReadFiles.{ReadFile, files_of, files_read}
use Rattle.fluent_sources.specs.Reading.{AreRead}
use Rattle.fluent_sources.specs.declared.source.Sources.{Sources}
use Rattle.fluent_c_check.specs.Checks.{Lists, group_of, reads_of}

abbrev AreOfTexts : Type 0
AreOfTexts = (reads : List Read) (sources : Sources) (number : ℕ) → AreRead reads sources → files_read number sources ≡ files_of number reads

abbrev of_files : List ReadFile → List ReadFile → List ReadFile → Group
of_files beside own references = record { beside = beside; own = own; references = references }

pub grouped : AreOfTexts → (lists : Lists) (beside sources references : Sources)
    → AreRead (reads_of lists.beside) beside → AreRead (reads_of lists.sources) sources → AreRead (reads_of lists.references) references
    → read_group beside sources references ≡ group_of lists
grouped law lists beside sources references beside_read sources_read references_read =
    let first = files_of 0 (reads_of lists.beside) in
    let own = files_of (length first) (reads_of lists.sources) in
    ap (λ f. of_files f (files_read (length f) sources) (files_read (length (f ++ files_read (length f) sources)) references)) (law (reads_of lists.beside) beside 0 beside_read)
    ∙ (ap (λ o. of_files first o (files_read (length (first ++ o)) references)) (law (reads_of lists.sources) sources (length first) sources_read)
    ∙ ap (λ r. of_files first own r) (law (reads_of lists.references) references (length (first ++ own)) references_read))
