use Rattle.std.proofs.Common.{◌≡◌, refl, ap, sym, ◌∙◌, nat_eq, Bool, true, false}
use Rattle.std.specs.Cmp.Lexicographic.{pointwise, other_text, same_text}
use Rattle.fluent_ast.specs.Tree.{Pattern, Text, is_yes, pattern_same}
use Rattle.fluent_ast.specs.View.{pattern_view}
use Rattle.fluent_path.specs.Inside.Alike.{only_message}
use Rattle.fluent_path.proofs.alike.is_equal.Goals as goal

same_id : (t u : Text) → only_message t ≡ only_message u → t ≡ u
same_id t u h = cc

-- of two references to messages the ids tell
by_ids : (p q : Pattern) (t u : Text) (same : Dec (p ≡ q)) (b : Bool) → p ≡ only_message t → q ≡ only_message u → b ≡ pointwise nat_eq t u → b ≡ is_yes same
by_ids p q t u (yes e) true own other is = refl
by_ids p q t u (yes e) false own other is = absurd (other_text t u is (same_id t u (sym own ∙ e ∙ other)))
by_ids p q t u (no n) true own other is = absurd (n (own ∙ ap only_message (same_text t u is) ∙ sym other))
by_ids p q t u (no n) false own other is = refl

pub returns-in-Some-Some : goal.returns-in-Some-Some
returns-in-Some-Some c =
    let p = pattern_view c.args.one.now in
    let q = pattern_view c.args.other.now in
    by_ids p q c.in-Some-Some.own.now c.in-Some-Some.id.now (pattern_same p q) c.eq.result c.in-Some-Some.ensures c.in-Some-Some.ensures' c.eq.ensures
