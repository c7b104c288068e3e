use Rattle.std.proofs.Common.{◌-◌, ◌+◌, ◌∙◌, length, arith, rules}
use Rattle.fluent_ast.specs.View.{attribute_view}
use Rattle.fluent_text.specs.Parser.{push}
use Rattle.fluent_syntax.specs.Entries.{attribute}
use Rattle.fluent_syntax.specs.Inside.Reading.{all}
use Rattle.fluent_text.specs.Facts.Turns.{pushed, empty}
use Rattle.fluent_syntax.proofs.parser.entry.more_attributes.Goals as goal

pub attributes-preserved : goal.attributes-preserved
attributes-preserved c =
    let n = length c.args.s.now in (
      search rules,
      pushed attribute_view attribute (n - c.attributes._turn) (n - (c.attributes._turn + 1)) c.attributes.found.items c.attributes.rest.now c.in-Ok.next c.in-Ok.after.now c.push.new.list.items _ (omega arith) c.in-Ok.ensures (omega arith) c.in_ok-push-in-Ok.ensures.items c.attributes.invariant.1,
    )

pub returns-then-after-rest : goal.returns-then-after-rest
returns-then-after-rest c =
    c.attributes.invariant.1 ∙ empty push attribute (length c.args.s.now - c.attributes._turn) (all attribute_view c.attributes.found) c.attributes.rest.now (attribute_view c.in-Ok.next) c.in-Ok.after.now (omega arith) c.in-Ok.ensures (omega arith)
