use Rattle.std.specs.Option.{option_map}
use Rattle.fluent_ast.specs.View.{pattern_view}
use Rattle.fluent_path.specs.Facts.{none_there, some_cursors, taken_class, taken_mixed}
use Rattle.fluent_path.specs.Contents.{above_on, below_top, on_path}
use Rattle.fluent_path.proofs.path.Path.leave_below.Goals as goal

pub returns-then-not-is_empty-clause-left : goal.returns-then-not-is_empty-clause-left
unfolding on_path above_on below_top
returns-then-not-is_empty-clause-left c = λ table.
    let path = c.args.self.now in
    taken_mixed table (option_map (λ b. pattern_view b.now) path.bottom) path.top path.classes.items path.mixed.items c.pop.new.self.items c.pop.result c.requires c.pop.ensures.items
    (c.pop.ensures.variant.1 (some_cursors _ _ c.is_empty.ensures c.if-not-is_empty.true))

pub returns-then-not-is_empty-2-clause-left : goal.returns-then-not-is_empty-2-clause-left
unfolding on_path above_on below_top
returns-then-not-is_empty-2-clause-left c = λ table.
    let path = c.args.self.now in
    let none = none_there path.mixed.items path.mixed.len c.is_empty.result path.mixed.ok.0 c.is_empty.ensures c.if-not-is_empty.false in
    taken_class table (option_map (λ b. pattern_view b.now) path.bottom) path.top path.classes.items c.pop-then-not-is_empty-2.new.self.items c.pop-then-not-is_empty-2.result path.mixed.items c.requires none c.pop-then-not-is_empty-2.ensures.items
    (c.pop-then-not-is_empty-2.ensures.variant.1 (some_cursors _ _ c.is_empty-else-not-is_empty.ensures c.if-not-is_empty-2.true))
