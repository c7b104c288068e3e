use denote.Shadow.{shadow}
use denote.Text.{Utf8}
use Rattle.std.proofs.Common.{◌≡◌, ◌==◌, ◌++◌, ℕ, List, true}
use Rattle.fluent_text.specs.Parser.{first}
use Rattle.fluent_ast.specs.View.{element_view}
use Rattle.fluent_syntax.specs.Layout.{unless_empty}
use Rattle.fluent_syntax.specs.Inside.Progress.{InLine}
use Rattle.fluent_syntax.specs.Inside.Reading.{all}
use Rattle.fluent_syntax.proofs.parser.first_line.from_brace.Given as goal

abbrev pub invariant-elements : goal.invariant-elements
invariant-elements g l = record {
  utf8 : shadow (Utf8 l.rest);
  text : shadow (Utf8 l.value);
  reached : (whole : List ℕ) → InLine l.depth whole (unless_empty l.fn.before) l.fn.s → (first l.fn.s == 123) ≡ true
      → InLine l.depth whole (all element_view l.found ++ unless_empty l.value) l.rest × ((first l.rest == 123) ≡ true);
}
