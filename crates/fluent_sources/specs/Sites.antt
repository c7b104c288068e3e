-- Where the value and the attributes of entries stand, and the references, selects and variants of each.
use Rattle.std.specs.Prelude.{ℕ, Bool, true, false, not, List, [], ◌∷◌, ◌++◌, length, map, filter, take, drop, slice_index_or}
use Rattle.std.specs.List.{prefix_len}
use Rattle.fluent_ast.specs.Tree.{Text, Entry}
use Rattle.fluent_syntax.specs.Chunks.{entry_starts}
use Rattle.fluent_places.specs.Places.{Place, places_of}
use Rattle.fluent_patterns.specs.declared.marks.What.{What}
use Rattle.fluent_patterns.specs.declared.marks.What.TheVariants.{Attribute, Reference, Select, Variant}
use Rattle.fluent_patterns.specs.declared.marks.Mark.{Mark}
use Rattle.fluent_patterns.specs.Marks.{marks}

abbrev pub is_attribute : What → Bool
is_attribute Attribute = true
is_attribute Reference = false
is_attribute Select = false
is_attribute Variant = false

abbrev pub is_reference : What → Bool
is_reference Attribute = false
is_reference Reference = true
is_reference Select = false
is_reference Variant = false

abbrev pub is_select : What → Bool
is_select Attribute = false
is_select Reference = false
is_select Select = true
is_select Variant = false

abbrev pub is_variant : What → Bool
is_variant Attribute = false
is_variant Reference = false
is_variant Select = false
is_variant Variant = true

-- the offsets of the marks of a kind
abbrev pub offsets_of : (What → Bool) → List Mark → List ℕ
offsets_of is_kind ms = map (λ m. m.at) (filter (λ m. is_kind m.what) ms)

-- those of the parts of a value or an attribute
pub record Offsets : Type 0 where
  pub references : List ℕ
  pub selects : List ℕ
  pub variants : List ℕ

abbrev pub sorted : List Mark → Offsets
sorted ms = record { references = offsets_of is_reference ms; selects = offsets_of is_select ms; variants = offsets_of is_variant ms }

-- a value or an attribute, and where it stands: a value where its entry begins
pub record Site : Type 0 where
  pub place : Place
  pub at : ℕ
  pub offsets : Offsets

-- ---- the sites of an entry

-- how many marks stand before the next attribute
abbrev pub own_len : List Mark → ℕ
own_len ms = prefix_len (λ m. not (is_attribute m.what)) ms

-- the offset of the attribute that marks begin with; where they are none, another
abbrev pub offset_or : ℕ → List Mark → ℕ
offset_or start [] = start
offset_or start (m ∷ ms) = m.at

-- The sites of places, of which the first stands at an offset, and the others where the marks have attributes. What has no mark stands where the entry begins.
abbrev pub sites_at : ℕ → ℕ → List Place → List Mark → List Site
sites_at start at [] ms = []
sites_at start at (p ∷ ps) ms =
    let others = drop (own_len ms) ms in
    record { place = p; at = at; offsets = sorted (take (own_len ms) ms) } ∷ sites_at start (offset_or start others) ps (drop 1 others)

-- the sites of an entry that stands from one offset of a source up to another
abbrev pub sites_of : Text → ℕ → ℕ → Entry → List Site
sites_of source from to e = sites_at from from (places_of e) (marks from to source)

-- ---- the sites of a source

-- the first of some offsets, or the end of the source
abbrev pub start_of : Text → List ℕ → ℕ
start_of source starts = slice_index_or starts 0 (length source)

-- those of entries that begin at these offsets, each of which ends where the next one begins
abbrev pub sites_from : Text → List ℕ → List Entry → List Site
sites_from source starts [] = []
sites_from source starts (e ∷ es) =
    sites_of source (start_of source starts) (start_of source (drop 1 starts)) e ++ sites_from source (drop 1 starts) es

-- those of the entries of a source, in order
abbrev pub sites : Text → List Entry → List Site
sites source es = sites_from source (entry_starts source) es
