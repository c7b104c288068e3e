use Rattle.std.proofs.Common.{◌-◌, ◌≡◌, false, length}
use denote.Shadow.{shadow}
use denote.Text.{Utf8}
use Rattle.fluent_ast.specs.View.{variant_view}
use Rattle.fluent_text.specs.Parser.{many_from, push}
use Rattle.fluent_syntax.specs.Expressions.{variant, level}
use Rattle.fluent_syntax.specs.Inside.Reading.{all}
use Rattle.fluent_syntax.proofs.parser.inner.Inner.variants.Given as goal

abbrev pub invariant-variants : goal.invariant-variants
invariant-variants g l =
    shadow (Utf8 l.rest) × (many_from push (variant (level l.self.depth) false) (length l.fn.s) (all variant_view l.fn.found) l.fn.s ≡ many_from push (variant (level l.self.depth) false) (l._turn-end - l._turn) (all variant_view l.found) l.rest)
