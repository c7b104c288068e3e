use Rattle.std.proofs.Common.{ap, ◌∙◌, sym}
use Rattle.std.specs.List.{list_any}
use Rattle.fluent_ast.specs.View.{pattern_view}
use Rattle.fluent_path.specs.Contents.{by_classes, is_same}
use Rattle.fluent_path.proofs.Classed.{by_their_classes, none_by_class}
use Rattle.fluent_path.proofs.path.Path.is_below.Goals as goal

pub returns-in-Some : goal.returns-in-Some
returns-in-Some c =
    let q = pattern_view c.args.pattern.now in
    let cs = c.args.self.now.classes.items in
    c.has_class.ensures ∙ by_their_classes q c.in-Some.class cs ∙ ap (λ o. list_any (is_same q o) (by_classes cs)) (sym c.in-Some.is)

pub returns-in-None : goal.returns-in-None
returns-in-None c =
    let q = pattern_view c.args.pattern.now in
    let cs = c.args.self.now.classes.items in
    none_by_class q cs ∙ ap (λ o. list_any (is_same q o) (by_classes cs)) (sym c.in-None.is)
