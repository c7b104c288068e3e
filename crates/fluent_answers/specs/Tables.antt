-- All answers of a caller: questions with the kind and the text of what is answered.
use Rattle.std.specs.Prelude.{ℕ, List}
use Rattle.std.specs.Coded.{Coded, coded_ℕ, coded_list, coded×}
use Rattle.fluent_answers.specs.contracts.kind.Kind.{the_row}
use Rattle.fluent_answers.specs.declared.kind.Kind.{Kind}
use base.Fml.{Fml, ftrue}

abbrev pub Table : Type 0
Table = List (List ℕ × (Kind × List ℕ))

abbrev pub table_coded : Coded Table
table_coded = coded_list (coded× (coded_list coded_ℕ) (coded× the_row.coded (coded_list coded_ℕ)))

-- what has no bytes owns nothing
abbrev pub nothing : Fml
nothing = ftrue
