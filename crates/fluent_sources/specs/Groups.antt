-- Files that are looked at together.
use Rattle.std.specs.Prelude.{ℕ, suc, Bool, true, false, List, [], ◌∷◌, ◌++◌, length, map, slice_get, Option, Some, None, if◌then◌else◌}
use Rattle.fluent_ast.specs.Tree.{Entry}
use Rattle.fluent_sources.specs.ReadFiles.{ReadFile, file_view, entries_in, files_read}
use Rattle.fluent_sources.specs.declared.groups.Grouping.{Grouping}
use Rattle.fluent_sources.specs.declared.groups.Grouping.TheVariants.{Together, Each, Pairs}
use Rattle.fluent_sources.specs.declared.groups.Group as code
use Rattle.fluent_sources.specs.declared.source.Sources.{Sources}

-- A group's own files, those that are loaded beside them, and those that they were translated from.
pub record Group : Type 0 where
  pub beside : List ReadFile
  pub own : List ReadFile
  pub references : List ReadFile

abbrev pub group_view : code.Group → Group
group_view g = record {
  beside = map file_view g.beside.now;
  own = map file_view g.own.now;
  references = map file_view g.references.now;
}

-- the files that its bundle has, in order
abbrev pub loaded : Group → List ReadFile
loaded g = g.beside ++ g.own

-- the entries of each
abbrev pub entries_loaded : Group → List (List Entry)
entries_loaded g = entries_in (loaded g)

-- all its files
abbrev pub all_in : Group → List ReadFile
all_in g = loaded g ++ g.references

-- the files of sources, numbered from 0
abbrev pub read_group : Sources → Sources → Sources → Group
read_group beside sources references =
    let first = files_read 0 beside in
    let own = files_read (length first) sources in
    record { beside = first; own = own; references = files_read (length (first ++ own)) references }

-- ---- the groups that files make

-- files that stand alone
abbrev pub alone : List ReadFile → Group
alone files = record { beside = []; own = files; references = [] }

abbrev pub is_paired : Grouping → Bool
is_paired Together = false
is_paired Each = false
is_paired Pairs = true

abbrev pub if_any : Option ReadFile → List ReadFile
if_any None = []
if_any (Some file) = file ∷ []

-- the reference with this index, where files go in pairs
abbrev pub reference_at : Grouping → List ReadFile → ℕ → List ReadFile
reference_at grouping references index = if is_paired grouping then if_any (slice_get references index) else []

-- the group of one file
abbrev pub of_file : Grouping → Group → ℕ → ReadFile → Group
of_file grouping g index file =
    record { beside = g.beside; own = file ∷ []; references = reference_at grouping g.references index }

abbrev pub groups_from : Grouping → Group → ℕ → List ReadFile → List Group
groups_from grouping g index [] = []
groups_from grouping g index (file ∷ files) = of_file grouping g index file ∷ groups_from grouping g (suc index) files

-- all files as one, or each of its own files for itself
abbrev pub groups_of : Grouping → Group → List Group
groups_of Together g = g ∷ []
groups_of Each g = groups_from Each g 0 g.own
groups_of Pairs g = groups_from Pairs g 0 g.own
