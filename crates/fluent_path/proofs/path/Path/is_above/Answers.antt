use Rattle.std.specs.Prelude.{◌||◌}
use Rattle.std.specs.Option.{option_map, option_to_list}
use Rattle.std.proofs.Common.{ap, not, ◌∙◌, sym}
use Rattle.std.proofs.Math.Bool.{or-false}
use Rattle.std.specs.List.{list_any}
use Rattle.fluent_ast.specs.View.{pattern_view}
use Rattle.fluent_path.specs.Contents.{above_of, above_on, below_top, by_classes, is_same}
use Rattle.fluent_path.specs.Facts.{none_there}
use Rattle.fluent_path.proofs.Classed.{among}
use Rattle.fluent_path.proofs.path.Path.is_above.Goals as goal

pub returns-then-is_below : goal.returns-then-is_below
unfolding above_on below_top
returns-then-is_below c =
    let path = c.args.self.now in
    let p = is_same (pattern_view c.args.pattern.now) c.args.class in
    let top = option_to_list (option_map above_of path.top) in
    sym (among p (by_classes path.classes.items) path.mixed.items top
    ∙ ap (λ a. (a || list_any p path.mixed.items) || list_any p top) (sym c.is_below.ensures ∙ c.if-is_below.true))

pub returns-then-not-is_empty : goal.returns-then-not-is_empty
unfolding above_on below_top
returns-then-not-is_empty c =
    let path = c.args.self.now in
    let p = is_same (pattern_view c.args.pattern.now) c.args.class in
    let top = option_to_list (option_map above_of path.top) in
    let r = c.is_among_mixed.result in
    sym (among p (by_classes path.classes.items) path.mixed.items top
    ∙ ap (λ a. (a || list_any p path.mixed.items) || list_any p top) (sym c.is_below.ensures ∙ c.if-is_below.false)
    ∙ ap (λ b. b || list_any p top) (sym c.is_among_mixed.ensures) ∙ ap (λ b. r || b) (sym c.is_top.ensures ∙ c.if-is_top.false) ∙ or-false r)

pub returns-else-not-is_empty : goal.returns-else-not-is_empty
unfolding above_on below_top
returns-else-not-is_empty c =
    let path = c.args.self.now in
    let p = is_same (pattern_view c.args.pattern.now) c.args.class in
    let top = option_to_list (option_map above_of path.top) in
    let none = none_there path.mixed.items path.mixed.len c.is_empty.result path.mixed.ok.0 c.is_empty.ensures c.if-not-is_empty.false in
    ap not c.if-not-is_empty.false
    ∙ sym (among p (by_classes path.classes.items) path.mixed.items top
    ∙ ap (λ a. (a || list_any p path.mixed.items) || list_any p top) (sym c.is_below.ensures ∙ c.if-is_below.false)
    ∙ ap (λ ms. list_any p ms || list_any p top) none ∙ sym c.is_top.ensures ∙ c.if-is_top.false)
