-- What is told of a source, of errors and of a message, by rows.
use Rattle.std.specs.Prelude.{◌≡◌, [], ◌∷◌, ◌++◌, None, codes}
use Rattle.fluent_ast.specs.Tree.{Text, attribute, nothing}
use Rattle.fluent_semantics.specs.Bundle.{Bundle, add_builtins}
use Rattle.fluent_semantics.specs.Errors.{cyclic, lost, resolver_error, to_message, to_variable}
use Rattle.fluent_semantics.specs.Examples.{NoCustom, bundle}
use Rattle.fluent_c_handles.specs.Calls.Adding.{line_at, told_of, told_overriding_of}
use Rattle.fluent_c_handles.specs.Calls.Finding.{attribute_names, id_lines}
use Rattle.fluent_c_handles.specs.Calls.Formatting.{error_record, error_records}

-- its first line is empty
abbrev source : Text
source = codes "\na = 1\nb = {\n-a = 2\n# of this id there is a function\nNUMBER = 3\n"

-- the built-in function alone
abbrev start : Bundle NoCustom
start = bundle (add_builtins ∷ [])

pub record Rows : Type 0 where
  pub first_line : line_at source 0 ≡ 1
  pub second_line : line_at source 1 ≡ 2
  -- a line feed is of the line that it ends
  pub line_feed : line_at source 6 ≡ 2
  pub told : told_of source start
      ≡ codes "3: unreadable entry at bytes 7..13\n4: Attempt to override an existing term: \"a\".\n6: Attempt to override an existing message: \"NUMBER\".\n"
  pub no_line : told_of (codes "# c\n\na = 1\n") start ≡ []
  -- of the same source, where its entries override what is there
  pub overriding : told_overriding_of source ≡ codes "3: unreadable entry at bytes 7..13\n"
  pub nothing_overriding : told_overriding_of (codes "a = 1\na = 2\n") ≡ []

pub record RecordRows : Type 0 where
  pub name : error_record (resolver_error (lost (to_message (codes "m") (attribute (codes "x"))))) ≡ codes "am" ++ 0 ∷ codes "x" ++ 0 ∷ []
  pub more : error_records (resolver_error (lost (to_variable (codes "v"))) ∷ resolver_error cyclic ∷ [])
      ≡ codes "vv" ++ 0 ∷ 0 ∷ codes "c" ++ 0 ∷ 0 ∷ []
  -- in the order of the source, and twice
  pub names : id_lines (attribute_names (record { value = None; attributes = (codes "b", nothing) ∷ (codes "a", nothing) ∷ (codes "b", nothing) ∷ [] }))
      ≡ codes "b\na\nb\n"
