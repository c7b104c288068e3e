use Rattle.std.proofs.Common.{ap, not, ◌∙◌, [], ◌∷◌, ◌++◌}
use Rattle.std.specs.Option.{option_map}
use Rattle.fluent_ast.specs.View.{pattern_view}
use Rattle.fluent_path.specs.Contents.{above_on, below_top, by_class, contents, on_path}
use Rattle.fluent_path.specs.Facts.{put_above}
use Rattle.fluent_path.proofs.Classed.{class_content, one_more}
use Rattle.fluent_path.proofs.path.Path.enter.Goals as goal

pub returns-clause-put : goal.returns-clause-put
unfolding on_path above_on below_top
returns-clause-put c = λ table own.
    let path = c.args.self.now in
    ap (λ b. contents table (option_map (λ b. pattern_view b.now) b) (below_top c.push_top.new.self ++ by_class c.args.pattern c.args.class ∷ [])) c.push_top.ensures.bottom
    ∙ ap (λ xs. contents table (option_map (λ b. pattern_view b.now) path.bottom) (xs ++ by_class c.args.pattern c.args.class ∷ [])) c.in_ok-push_top.ensures.pushed
    ∙ put_above table path.bottom (pattern_view c.args.pattern.now) (above_on path) (by_class c.args.pattern c.args.class) (c.is_none.ensures ∙ ap not c.if-is_none.false) (class_content table c.args.pattern c.args.class own)

pub returns-clause-classes : goal.returns-clause-classes
unfolding above_on below_top
returns-clause-classes c = λ table own all.
    one_more table _ (above_on c.args.self.now) c.args.pattern c.args.class own c.in_ok-push_top.ensures.pushed all
