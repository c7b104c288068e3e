use Rattle.std.proofs.Common.{◌≡◌, ℕ, List, Result, Ok, Err, sym, ap, ◌∙◌}
use Rattle.std.specs.Borrow.{Bor}
use Rattle.fluent_text.specs.Parser.{Read}
use Rattle.fluent_ast.specs.View.{name_view}
use Rattle.fluent_syntax.specs.Expressions.{level, Argument, add}
use Rattle.fluent_syntax.specs.declared.parser.argument.Gathered.{Gathered}
use Rattle.fluent_syntax.specs.declared.parser.stop.Stop.{Stop}
use Rattle.fluent_syntax.specs.declared.parser.stop.Stop.TheVariants.{Absent, Memory}
use Rattle.fluent_syntax.specs.Inside.Gathering.{gathered_view, reference_argument, Gathers}
use Rattle.fluent_syntax.proofs.Arguments.{plain_at, named_at, unnamed_at}
use Rattle.fluent_syntax.proofs.parser.inner.Inner.push_named_or_reference.Goals as goal

-- what was read after arguments of the same content
gathers-after : (r : Result (Bor (List ℕ)) Stop) (old mid new : Gathered) (q : Read Argument) → gathered_view mid ≡ gathered_view old
    → Gathers r mid new q → Gathers r old new q
gathers-after (Ok rest) old mid new q e h = (h.0, h.1, h.2 ∙ ap (λ g. add g h.0) e)
gathers-after (Err Absent) old mid new q e h = (h.0, h.1 ∙ e)
gathers-after (Err Memory) old mid new q e h = tt

pub returns-in_default : goal.returns-in_default
returns-in_default g c = λ s e.
    rw (plain_at (level c.args.self.now.depth) s c.args.rest.now c.after_blank.result.now (name_view c.args.id) (sym e) c.after_blank.ensures (sym c.in_default.ensures.gives)) c.push_reference.ensures

pub returns-in-Ok : goal.returns-in-Ok
returns-in-Ok g c = λ s e.
    let p = c.in-Ok.ensures in (
      p.0,
      named_at (level c.args.self.now.depth) s c.args.rest.now c.after_blank.result.now c.in-Some.colon.now c.after_blank-2.result.now c.in-Ok.end.now (name_view c.args.id) p.0 (sym e) c.after_blank.ensures (sym c.in-Some.ensures.gives) c.after_blank-2.ensures p.1,
      p.2,
    )

pub returns-in-Err-Absent : goal.returns-in-Err-Absent
returns-in-Err-Absent g c = λ s e.
    let p = rw c.in-Err-Absent.field-0-is at c.in-Err-Absent.ensures in
    let l = level c.args.self.now.depth in
    rw (unnamed_at l s c.args.rest.now c.after_blank.result.now c.in-Some.colon.now c.after_blank-2.result.now (name_view c.args.id) (sym e) c.after_blank.ensures (sym c.in-Some.ensures.gives) c.after_blank-2.ensures p.0)
    (gathers-after c.push_reference-in-Err-Absent.result c.args.found.now c.push_named.new.found c.push_reference-in-Err-Absent.new.found (reference_argument l (name_view c.args.id) c.args.rest.now) p.1 c.push_reference-in-Err-Absent.ensures)
