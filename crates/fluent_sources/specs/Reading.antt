-- What the code reads, by the contents of files.
use Rattle.std.specs.Prelude.{◌≡◌, ℕ, List, [], ◌∷◌, ◌++◌, map}
use Rattle.fluent_ast.specs.Tree.{Text, Entry}
use Rattle.fluent_resource.specs.ResourceView.{entries_of, source_in}
use Rattle.fluent_resource.specs.declared.resource.FluentResource.{FluentResource}
use Rattle.fluent_syntax.specs.Chunks.{entries, junk_ranges}
use Rattle.fluent_syntax.specs.Parsed.{error_range}
use Rattle.fluent_sources.specs.Files.{Read}
use Rattle.fluent_sources.specs.declared.source.Source.{Source}
use Rattle.fluent_sources.specs.declared.source.Sources.{Sources}

abbrev pub read_view : Source → Read
read_view source = record { name = source.name.now; text = source.text.now; had_mark = source.had_mark }

abbrev pub texts_read : Sources → List Read
texts_read sources = map read_view sources.texts.items

-- the entries of each resource
abbrev pub entries_of_all : List FluentResource → List (List Entry)
entries_of_all resources = map entries_of resources

abbrev pub entries_read : Sources → List (List Entry)
entries_read sources = entries_of_all sources.resources.items

-- the byte ranges of what can't be read in each
abbrev pub junk_read : Sources → List (List (ℕ × ℕ))
junk_read sources = map (λ errors. map error_range errors.items) sources.unreadable.items

-- the texts that were read
abbrev pub sources_read : Sources → List Text
sources_read sources = map source_in sources.resources.items

-- These were read, each with its entries and what can't be read in it.
pub record AreRead (reads : List Read) (sources : Sources) : Type 0 where
  pub texts : texts_read sources ≡ reads
  pub sources_are : sources_read sources ≡ map (λ read. read.text) reads
  pub entries : entries_read sources ≡ map (λ read. entries read.text) reads
  pub junk : junk_read sources ≡ map (λ read. junk_ranges read.text) reads

-- the same were read
abbrev pub AreSame : Sources → Sources → Type 0
AreSame old new = (new.texts.items ≡ old.texts.items) × (new.resources.items ≡ old.resources.items) × (new.unreadable.items ≡ old.unreadable.items)

-- one more was read
abbrev pub ReadsMore : Read → Sources → Sources → Type 0
ReadsMore read old new = (reads : List Read) → AreRead reads old → AreRead (reads ++ read ∷ []) new
