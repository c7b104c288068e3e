-- The list that the code makes of what a pattern refers to.
use Rattle.std.specs.Prelude.{◌≡◌, List, ◌++◌, map, Vec}
use Rattle.std.specs.declared.alloc.Global.{Global}
use Rattle.fluent_ast.specs.References.{Reference, a_message, a_term, a_function}
use Rattle.fluent_syntax.specs.declared.listing.Reference as code
use Rattle.fluent_syntax.specs.declared.listing.Reference.TheVariants as variants

abbrev pub reference_view : code.Reference → Reference
reference_view (variants.Message id) = a_message id.now
reference_view (variants.Term id) = a_term id.now
reference_view (variants.Function id) = a_function id.now

abbrev pub references_view : Vec code.Reference Global → List Reference
references_view list = map reference_view list.items

-- the new list is the old one with these after it
abbrev pub AddsReferences : Vec code.Reference Global → Vec code.Reference Global → List Reference → Type 0
AddsReferences old new these = references_view new ≡ references_view old ++ these
