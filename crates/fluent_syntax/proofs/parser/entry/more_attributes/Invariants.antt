use Rattle.std.proofs.Common.{◌-◌, ◌≡◌, length}
use denote.Shadow.{shadow}
use denote.Text.{Utf8}
use Rattle.fluent_ast.specs.View.{attribute_view}
use Rattle.fluent_text.specs.Parser.{many_from, push}
use Rattle.fluent_syntax.specs.Entries.{attribute}
use Rattle.fluent_syntax.specs.Inside.Reading.{all}
use Rattle.fluent_syntax.proofs.parser.entry.more_attributes.Given as goal

abbrev pub invariant-attributes : goal.invariant-attributes
invariant-attributes l =
    shadow (Utf8 l.rest) × (many_from push attribute (length l.fn.s) (all attribute_view l.fn.found) l.fn.s ≡ many_from push attribute (l._turn-end - l._turn) (all attribute_view l.found) l.rest)
