-- A bundle that was opened, in a box.
use Rattle.std.specs.Prelude.{◌≡◌, Option, Some, None, Result, Ok, Err}
use Rattle.fluent_c_handles.specs.Answers.{Kept, stock_content}
use Rattle.fluent_c_handles.specs.declared.answer.Answer.{Answer}
use Rattle.fluent_c_handles.specs.declared.answer.Answer.TheVariants as answer
use Rattle.fluent_c_handles.specs.declared.opening.OpenFault.{OpenFault}
use Rattle.fluent_c_handles.specs.declared.sources.SourceFault.TheVariants as source
use Rattle.fluent_c_handles.specs.declared.stock.Stock.{Stock}

-- what was opened is held, or why not
abbrev pub Boxed : Answer → Result Stock OpenFault → Option Kept → Answer → Type 0
Boxed kind (Ok stock) (Some m) a = (a ≡ kind) × (m ≡ stock_content stock)
Boxed kind (Ok stock) None (answer.Fault source.Memory) = Unit {0}
Boxed kind (Ok stock) None a = ⊥
Boxed kind (Err f) None (answer.Fault (source.Open g)) = g ≡ f
Boxed kind (Err f) new a = ⊥
