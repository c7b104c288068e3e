use Rattle.std.proofs.Common.{drop, map, Result}
use Rattle.fluent_ast.specs.Tree.{pattern_of}
use Rattle.fluent_ast.specs.View.{element_view, pattern_view}
use Rattle.fluent_bundle_entries.specs.Texts.{texts_of}
use Rattle.fluent_values.specs.Sinks.{Sink, SinkTook, writer}
use Rattle.fluent_values.specs.declared.output.Halt.{Halt}
use Rattle.fluent_resolver_state.proofs.texts.write_texts.Given as goal

-- where what is left is taken, all is
abbrev pub invariant-loop-element : goal.invariant-loop-element
invariant-loop-element g l =
    record {
      taking : (r : Result (Unit {0}) Halt) (after : Sink) → SinkTook r (texts_of (pattern_of (map element_view (drop l.element-index l.element-items)))) (writer g.W.Write.contents l.w) after → SinkTook r (texts_of (pattern_view l.pattern)) (writer g.W.Write.contents l.initial.w) after;
    }
