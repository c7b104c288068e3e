use Rattle.std.proofs.Common.{◌≡◌, ◌<◌, ◌≤◌, ◌∷◌, None, Err, length, sym, subst, arith, rules}
use Rattle.std.proofs.lemmas.Bool.Decides.{nat_tests}
use Rattle.fluent_syntax.specs.Expressions.{level}
use Rattle.fluent_syntax.specs.Pieces.{pattern_element}
use Rattle.fluent_syntax.specs.Inside.PieceView.{piece_view}
use Rattle.fluent_syntax.specs.Inside.Progress.{PushesPieces, Reached}
use Rattle.fluent_syntax.specs.Inside.Reading.{Gives, all}
use Rattle.fluent_syntax.proofs.Progress.{step, stop, element_shorter, nothing_left}
use Rattle.fluent_syntax.proofs.parser.pieces.more_pieces.Goals as goal

pub pieces-preserved : goal.pieces-preserved
pieces-preserved g c =
    let n = c.args.depth in
    let s = c.pieces.rest.now in
    let t = c.in-Ok.after.now in
    let a = c.in-Ok.ensures in
    let some : 0 < length s = grind (arith, nat_tests, c.pieces-test.ensures) in
    let less = element_shorter n s t (a.0 ∷ a.1) some a.2 in
    record {
      utf8 = search rules;
      reached = λ whole h. subst (λ ps. Reached n whole ps t) (sym a.3) (step n whole (all piece_view c.pieces.found) s t a.0 a.1 (c.pieces.invariant.reached whole h) a.2 less);
    }

pub pieces-smaller : goal.pieces-smaller
pieces-smaller g c =
    let a = c.in-Ok.ensures in
    element_shorter c.args.depth c.pieces.rest.now c.in-Ok.after.now (a.0 ∷ a.1) (grind (arith, nat_tests, c.pieces-test.ensures)) a.2

pub returns-in-Err-Absent : goal.returns-in-Err-Absent
returns-in-Err-Absent g c = λ whole h.
    let n = c.args.depth in
    let s = c.pieces.rest.now in
    let old = all piece_view c.pieces.found in
    let new = all piece_view c.push_element.new.found in
    let element = pattern_element (level n).braces s in
    let at : (element ≡ None) × (new ≡ old) = subst (λ e. PushesPieces (Err e) c.pieces.found c.push_element.new.found element) c.in-Err-Absent.field-0-is c.in-Err-Absent.ensures in
    let reached : Reached n whole new s = subst (λ ps. Reached n whole ps s) (sym at.1) (c.pieces.invariant.reached whole h) in
    subst (λ r. Gives (all piece_view) c.all_found.result r) (sym (stop n whole new s reached at.0)) c.all_found.ensures

pub returns : goal.returns
returns g c = λ whole h.
    let n = c.args.depth in
    let s = c.pieces.rest.now in
    let found = all piece_view c.pieces.found in
    let none : length s ≤ 0 = grind (arith, nat_tests, c.pieces-test.ensures) in
    subst (λ r. Gives (all piece_view) c.all_found-2.result r) (sym (stop n whole found s (c.pieces.invariant.reached whole h) (nothing_left n s none))) c.all_found-2.ensures
