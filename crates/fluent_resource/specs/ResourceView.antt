-- The content of resources of the code, and what reading a source answers.
use Rattle.std.specs.Prelude.{◌≡◌, ◌≢◌, List, [], map, Result, Ok, Err}
use Rattle.std.specs.declared.alloc.Global.{Global}
use Rattle.std.specs.declared.vec.Vec.{Vec}
use Rattle.fluent_ast.specs.Tree as t
use Rattle.fluent_ast.specs.Tree.{Text}
use Rattle.fluent_ast.specs.View.{resource_view}
use Rattle.fluent_ast.specs.declared.errors.ParserError.{ParserError}
use Rattle.fluent_syntax.specs.Chunks.{entries, junk_ranges}
use Rattle.fluent_syntax.specs.Parsed.{error_range}
use Rattle.fluent_resource.specs.declared.resource.FluentResource.{FluentResource}
use Rattle.fluent_resource.specs.declared.resource.TryNewFault.{TryNewFault}
use Rattle.fluent_resource.specs.declared.resource.TryNewFault.TheVariants as alloc_failed

-- the source of a resource
unfoldable pub source_in : FluentResource → Text
source_in r = r.source.now

-- the entries of a resource, Junk among them
unfoldable pub entries_of : FluentResource → List t.Entry
entries_of r = resource_view r.body

-- a resource of the source, with its entries
abbrev pub IsRead : Text → FluentResource → Type 0
IsRead source r = (source_in r ≡ source) × (entries_of r ≡ entries source)

-- the same, with an error for each part that can't be read
abbrev pub IsReadWith : Text → FluentResource → Vec ParserError Global → Type 0
IsReadWith source r errors = IsRead source r × (map error_range errors.items ≡ junk_ranges source)

-- What reading a source answers: without Junk a resource, with Junk the byte ranges of it beside the resource.
abbrev pub Tried : Text → Result FluentResource TryNewFault → Type 0
Tried source (Ok r) = IsRead source r × (junk_ranges source ≡ [])
Tried source (Err (alloc_failed.Parser r errors)) = IsRead source r × (map error_range errors.items ≡ junk_ranges source) × (junk_ranges source ≢ [])
Tried source (Err alloc_failed.Memory) = source ≢ []
