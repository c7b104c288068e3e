use Rattle.std.proofs.Common.{◌≡◌, ◌∙◌, rules, sym, subst, true}
use Rattle.fluent_c_handles.specs.Answers.{stock_content}
use Rattle.fluent_c_handles.specs.Inside.Asking.{AnswersBy}
use Rattle.fluent_c_handles.proofs.AskedBy.{asked_as}
use Rattle.fluent_c_handles.proofs.asking.asked.Goals as goal

pub returns-in-Ok-read : goal.returns-in-Ok-read
returns-in-Ok-read c =
    let m = stock_content c.args.stock.now in
    let w = c.args.wanted.now in
    let t = c.args.meant.now.table in
    let id = c.in-Ok-Ok.id.now in
    let name = c.in-Ok-Ok.name.now in
    let there : c.has_pattern.result ≡ true = search (rules, c.if-not-has_pattern.false) in
    asked_as t c.args.answers.now w.form w.id.now w.name.now w.args.now m (stock_content c.by_answers.new.stock) c.by_answers.ensures.kept
    (c.in-Ok-Ok.ensures.cases.1, c.in-Ok-Ok.ensures'.cases.1) c.in-Ok.args c.in-Ok.ensures.ok c.in-Ok-read.answers c.in-Ok-read.ensures.ok c.by_answers.result
    id name c.in-Ok-Ok.ensures.cases.0 c.in-Ok-Ok.ensures'.cases.0 (sym (c.has_pattern.ensures t) ∙ there)
    (subst (λ u. AnswersBy w.form (m.by u) m.declared c.in-Ok-read.answers id name c.in-Ok.args c.by_answers.result) c.in-Ok-read.ensures.table c.by_answers.ensures.by)
