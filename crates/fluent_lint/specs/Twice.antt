-- What is told of sources, without a bundle: ids that are defined again, and parts that can't be read.
use Rattle.std.specs.Prelude.{◌≡◌, ℕ, suc, List, [], ◌∷◌, ◌++◌, map, Option, Some, None, bytes_eq}
use Rattle.std.specs.Map.{lookup}
use Rattle.std.specs.declared.vec.Vec.{Vec}
use Rattle.std.proofs.Common.{Global}
use Rattle.fluent_ast.specs.Tree.{Text, Entry, message_entry, term_entry, junk_entry}
use Rattle.fluent_ast.specs.declared.errors.ParserError.{ParserError}
use Rattle.fluent_syntax.specs.Chunks.{junk_ranges}
use Rattle.fluent_syntax.specs.Parsed.{error_range}
use Rattle.fluent_resource.specs.ResourceView.{entries_of}
use Rattle.fluent_resource.specs.declared.resource.FluentResource.{FluentResource}
use Rattle.fluent_lint.specs.declared.sources.Definition.{Definition}
use Rattle.fluent_lint.specs.declared.sources.Twice.{Twice}

-- ---- what is defined

-- an id, and where it is defined
abbrev pub Defined : Type 0
Defined = Text × Definition

abbrev pub id_of : Entry → Option Text
id_of (message_entry id v as') = Some id
id_of (term_entry id p as') = Some id
id_of (junk_entry source) = None

-- what an entry that stands there defines
abbrev pub defined_if : Option Text → Definition → List Defined
defined_if None here = []
defined_if (Some id) here = (id, here) ∷ []

-- what entries of a resource define, of which the first is its entry k
abbrev pub defined_from : ℕ → ℕ → List Entry → List Defined
defined_from r k [] = []
defined_from r k (e ∷ es) = defined_if (id_of e) (record { resource = r; entry = k }) ++ defined_from r (suc k) es

-- what resources define, in order, of which the first has the number r
abbrev pub defined_in : ℕ → List FluentResource → List Defined
defined_in r [] = []
defined_in r (x ∷ xs) = defined_from r 0 (entries_of x) ++ defined_in (suc r) xs

-- ---- what is defined again

-- an id, its first definition, and another one after it
abbrev pub Again : Type 0
Again = Text × (Definition × Definition)

-- the first of these definitions of an id
abbrev pub first_defined : Text → List Defined → Option Definition
first_defined id ds = lookup (bytes_eq id) ds

abbrev pub again_if : Option Definition → Defined → List Again
again_if None d = []
again_if (Some first) d = (d.0, (first, d.1)) ∷ []

-- Of some definitions, each whose id was defined before it, with the first one of that id; before them stand others.
abbrev pub again_after : List Defined → List Defined → List Again
again_after before [] = []
again_after before (d ∷ ds) = again_if (first_defined d.0 before) d ++ again_after (before ++ d ∷ []) ds

abbrev pub again_view : Twice → Again
again_view t = (t.id.now, (t.first, t.again))

-- these are all that is defined again, in order
abbrev pub AreTwice : List FluentResource → Vec Twice Global → Type 0
AreTwice rs list = map again_view list.items ≡ again_after [] (defined_in 0 rs)

-- ---- what can't be read

-- The errors are one for each Junk of a source, in order: `junk_ranges` (fluent_syntax/specs/Chunks) has its byte range, and `error_range` is that of an error, from its `start` to its `end`.
abbrev pub AreUnreadable : Text → Vec ParserError Global → Type 0
AreUnreadable source errors = map error_range errors.items ≡ junk_ranges source
