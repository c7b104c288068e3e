use Rattle.std.proofs.Common.{◌≡◌, [], ◌∷◌, List, length, refl, ap, sym, subst, append-nil, ◌∙◌, arith}
use Rattle.std.proofs.lemmas.Bool.Decides.{nat_tests}
use Rattle.std.proofs.lemmas.Result.{on_ok_weaker}
use Rattle.fluent_c_handles.specs.Inside.Lines.{lines_in}
use Rattle.fluent_c_handles.specs.Inside.Telling.{AddsLeft, HaveStarts, left_at}
use Rattle.fluent_syntax.specs.Chunks.{entry_starts}
use Rattle.fluent_c_handles.proofs.Placing.{have, left_are, none_left}
use Rattle.fluent_c_handles.proofs.telling.add_left_of.Goals as goal

none_of : {A : Type 0} (xs : List A) → length xs ≡ 0 → xs ≡ []
none_of [] e = refl
none_of (x ∷ xs) e = absurd (omega (arith, e))

pub returns-then-is_empty : goal.returns-then-is_empty
returns-then-is_empty g c = λ answer.
    let lines = c.args.lines.now in
    let left = c.in_ok-left.left.items in
    let zero : length left ≡ 0 = grind (arith, nat_tests, c.if-is_empty.ensures) in
    subst (λ l. AddsLeft l lines lines) (none_left c.args.ids.now lines.source.now _ left c.requires c.in_ok-left.ensures (none_of left zero) answer) (record { text = sym (append-nil (lines_in lines)); source = refl })

pub add_left-requires : goal.add_left-requires
add_left-requires g c =
    let left = c.in_ok-left.left.items in
    let starts = c.in_ok-starts.starts.items in
    let are = c.in_ok-starts.ensures ∙ ap entry_starts c.source.ensures in
    subst (λ l. HaveStarts c.as_slice.result.now l) (sym c.as_slice-2.ensures.value) (subst (λ s. HaveStarts s left) (sym c.as_slice.ensures.value) (have c.args.ids.now c.args.lines.now.source.now _ left c.requires c.in_ok-left.ensures starts are))

pub returns : goal.returns
returns g c = on_ok_weaker c.add_left.result (λ adds answer.
    let lines = c.args.lines.now in
    let left = c.in_ok-left.left.items in
    let starts = c.in_ok-starts.starts.items in
    let are = c.in_ok-starts.ensures ∙ ap entry_starts c.source.ensures in
    let same = ap (λ s. left_at s c.as_slice-2.result.now) c.as_slice.ensures.value ∙ ap (left_at starts) c.as_slice-2.ensures.value in
    subst (λ l. AddsLeft l lines c.add_left.new.lines) (same ∙ left_are c.args.ids.now lines.source.now _ left c.requires c.in_ok-left.ensures starts are answer) adds) c.add_left.ensures
