-- Files that were read: the number of each, its text, its entries, what can't be read in it, and where its values and attributes stand.
use Rattle.std.specs.Prelude.{◌≡◌, ℕ, suc, List, [], ◌∷◌, ◌++◌, map, drop, length, slice_index_or, Option, Some, None}
use Rattle.std.specs.Borrow.{Bor}
use Rattle.std.specs.declared.vec.Vec.{Vec}
use Rattle.std.proofs.Common.{Global}
use Rattle.fluent_ast.specs.Tree.{Text, Entry}
use Rattle.fluent_syntax.specs.Chunks.{entries, junk_ranges}
use Rattle.fluent_syntax.specs.Parsed.{error_range}
use Rattle.fluent_ast.specs.declared.errors.ParserError.{ParserError}
use Rattle.fluent_resource.specs.ResourceView.{entries_of, source_in}
use Rattle.fluent_resource.specs.declared.resource.FluentResource.{FluentResource}
use Rattle.fluent_sources.specs.Files as spec
use Rattle.fluent_sources.specs.Reading.{junk_read}
use Rattle.fluent_sources.specs.Sites.{Site, sites}
use Rattle.fluent_sources.specs.SiteView.{site_views}
use Rattle.fluent_sources.specs.declared.files.Read.{Read}
use Rattle.fluent_sources.specs.declared.source.Sources.{Sources}

-- The junk is the byte ranges of what can't be read.
pub record ReadFile : Type 0 where
  pub number : ℕ
  pub text : Text
  pub entries : List Entry
  pub junk : List (ℕ × ℕ)
  pub sites : List Site

abbrev pub ranges_of : Option (Bor (Vec ParserError Global)) → List (ℕ × ℕ)
ranges_of None = []
ranges_of (Some errors) = map error_range errors.now.items

abbrev pub file_view : Read → ReadFile
file_view r = record {
  number = r.number;
  text = source_in r.resource.now;
  entries = entries_of r.resource.now;
  junk = ranges_of r.unreadable;
  sites = site_views r.sites.items;
}

abbrev pub files_in : Vec Read Global → List ReadFile
files_in list = map file_view list.items

-- the entries of each
abbrev pub entries_in : List ReadFile → List (List Entry)
entries_in files = map (λ file. file.entries) files

-- a file with what was read in it
abbrev pub file_with : ℕ → Text → List Entry → List (ℕ × ℕ) → ReadFile
file_with number text es junk =
    record { number = number; text = text; entries = es; junk = junk; sites = sites text es }

-- the same, as the grammar reads a text
abbrev pub file_of : ℕ → Text → ReadFile
file_of number text = file_with number text (entries text) (junk_ranges text)

-- files by what is read, of which the first has this number
abbrev pub files_of : ℕ → List spec.Read → List ReadFile
files_of number [] = []
files_of number (read ∷ reads) = file_of number read.text ∷ files_of (suc number) reads

-- files by their resources, of which the first has this number; `ranges` are what can't be read in each
abbrev pub files_with : ℕ → List FluentResource → List (List (ℕ × ℕ)) → List ReadFile
files_with number [] ranges = []
files_with number (r ∷ rs) ranges =
    file_with number (source_in r) (entries_of r) (slice_index_or ranges 0 []) ∷ files_with (suc number) rs (drop 1 ranges)

-- the files of sources, of which the first has this number
abbrev pub files_read : ℕ → Sources → List ReadFile
files_read number sources = files_with number sources.resources.items (junk_read sources)

-- those of more sources were added
abbrev pub AddsFiles : Sources → Vec Read Global → Vec Read Global → Type 0
AddsFiles sources old new = files_in new ≡ files_in old ++ files_read (length old.items) sources
