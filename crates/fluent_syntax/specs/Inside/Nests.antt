-- A function value that reads a rule to a depth.
use Rattle.std.specs.Prelude.{ℕ, List, Result}
use Rattle.std.specs.Borrow.{Bor}
use Rattle.std.specs.declared.alloc.Global.{Global}
use Rattle.fluent_syntax.specs.declared.parser.stop.Stop.{Stop}
use Rattle.fluent_text.specs.Parser.{Parser}
use Rattle.fluent_ast.specs.declared.ast.CallArguments.{CallArguments}
use Rattle.fluent_ast.specs.declared.ast.Expression.{Expression}
use Rattle.fluent_ast.specs.View.{arguments_view, expression_view}
use Rattle.fluent_syntax.specs.Expressions.{level}
use Rattle.fluent_syntax.specs.Inside.Reading.{Gives}

-- what a function value requires of a text and a depth, and what it ensures of them and its answer
abbrev pub Pre : Type 0 → Type 1
Pre F = F → Global → Bor (List ℕ) → ℕ → Type 0

abbrev pub Post : Type 0 → Type 0 → Type 1
Post F A = F → Global → Bor (List ℕ) → ℕ → Result (A × Bor (List ℕ)) Stop → Type 0

pub record GivesRule {A B : Type 0} (view : A → B) (rule : Parser B) (depth : ℕ) (pre : Global → Bor (List ℕ) → ℕ → Type 0)
    (post : Global → Bor (List ℕ) → ℕ → Result (A × Bor (List ℕ)) Stop → Type 0) : Type 0 where
  pub callable : (alloc : Global) (s : Bor (List ℕ)) → pre alloc s depth
  pub reads : (alloc : Global) (s : Bor (List ℕ)) (r : Result (A × Bor (List ℕ)) Stop) → post alloc s depth r
      → Gives view r (rule s.now)

-- it reads placeables to this depth
abbrev pub GivesBraces : {F : Type 0} → Pre F → Post F Expression → ℕ → F → Type 0
GivesBraces pre post depth braces = GivesRule expression_view (level depth).braces depth (pre braces) (post braces)

-- it reads the arguments of calls to this depth
abbrev pub GivesBrackets : {F : Type 0} → Pre F → Post F CallArguments → ℕ → F → Type 0
GivesBrackets pre post depth brackets = GivesRule arguments_view (level depth).brackets depth (pre brackets) (post brackets)
