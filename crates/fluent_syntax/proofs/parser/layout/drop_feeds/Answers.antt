use Rattle.std.proofs.Common.{◌≡◌, ◌-◌, true, false, map, take, length, get_or, sym, ap, ◌∙◌, arith, rules}
use Rattle.std.proofs.Math.ListN as ListN
use Rattle.std.specs.List.{suffix_len}
use Rattle.std.proofs.lemmas.List.{length-map, take-map}
use Rattle.std.proofs.lemmas.List.Sums.{suffix_len-take_no}
use Rattle.fluent_ast.specs.View.{element_view}
use Rattle.fluent_syntax.specs.Layout.{is_feed}
use Rattle.fluent_syntax.proofs.Ends.{turn, stopped, none_left}
use Rattle.fluent_syntax.proofs.parser.layout.drop_feeds.Goals.{then-feeds-test+else-is_feed, else-feeds-test}
use Rattle.fluent_syntax.proofs.parser.layout.drop_feeds.Goals as goal

pub feeds-preserved : goal.feeds-preserved
feeds-preserved c =
    let items = c.args.out.now.items in
    let d = c.index.result.now in
    let len : length (map element_view items) ≡ length items = length-map items element_view in
    let pass : is_feed (get_or (map element_view items) (c.feeds.end - 1) (element_view d)) ≡ true =
    let at : get_or items (c.feeds.end - 1) d ≡ d = search (rules, c.index.ensures) in
    let seen : is_feed (element_view d) ≡ true = search (rules, c.is_feed.ensures, c.if-is_feed.true) in
    ap is_feed (ListN.get_or-map element_view items (c.feeds.end - 1) d ∙ ap element_view at) ∙ seen in
    (omega arith, rw (← len) (turn is_feed (map element_view items) c.feeds.end (element_view d) (omega arith) (omega arith) pass (rw len c.feeds.invariant.1)))

pub returns : goal.returns
returns c =
    let items = c.args.out.now.items in
    let len : length (map element_view items) ≡ length items = length-map items element_view in
    let stop : suffix_len is_feed (take c.feeds.end (map element_view items)) ≡ 0 =
    elim c.feeds-test.branch [
      | then-feeds-test+else-is_feed w ↦
          let d = w.index.result.now in
          let at : get_or items (c.feeds.end - 1) d ≡ d = search (rules, w.index.ensures) in
          let seen : is_feed (element_view d) ≡ false = search (rules, w.is_feed.ensures, w.if-is_feed.false) in
          suffix_len-take_no is_feed (map element_view items) c.feeds.end (element_view d) (omega arith) (omega arith)
          (ap is_feed (ListN.get_or-map element_view items (c.feeds.end - 1) d ∙ ap element_view at) ∙ seen)
      | else-feeds-test w ↦ none_left is_feed (map element_view items) c.feeds.end w.feeds-test.false
    ] in
    ap (map element_view) c.truncate.ensures.items ∙ (sym (take-map element_view c.feeds.end items) ∙ stopped is_feed (map element_view items) c.feeds.end (omega arith) stop (rw len c.feeds.invariant.1))
