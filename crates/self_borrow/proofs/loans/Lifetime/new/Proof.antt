-- `new` names the lifetime.
use Rattle.self_borrow.specs.Facts.Steps.{[], ◌∷◌, refl, proved, leaves, flft, ftrue, ◌⊛◌, ◌$◌, ◌∵◌, !, qed, by, keep, split, use0, enter, no_more, and_then, returns, alloc_all, pass_all, free_all, look_at, get, sets, agg, walk_of, tables, ‵, vstruct, vcons, vnil, Val, makes_shadow}
use Rattle.self_borrow.specs.contracts.loans.Lifetime.new as f
use Rattle.self_borrow.specs.contracts.loans.Lifetime as M
use Rattle.self_borrow.specs.declared.loans.Lifetime.{Lifetime}
use Rattle.self_borrow.proofs.loans.Lifetime.new.Statement.{statement}
use Rattle.self_borrow.proofs.loans.Lifetime.new.Code as code
use denote.Signature.{named_lft}

pub new_spec : {M : Type 1} → statement M
new_spec 𝓤 𝓛 𝓜 𝓡 wired =
    let c = f.clauses 𝓛 𝓜.mem 𝓡.returns in let W = walk_of 𝓛 f.ended tt c in
    proved 𝓛 f.ended tt c 𝓜 𝓡 tt
    f.Key.name code.function (code.unfolded 𝓤 𝓛.H 𝓜 𝓡 wired)
    (λ κs. tt) (λ κs. tt) (λ κs qs bounds a _ are.
    let y : W.Ghost = ((κs, qs, bounds, tt, tt), tt) in let v : Val = vstruct (vcons (vstruct vnil) vnil) in
    let m : Lifetime = record { a = record {}; life = κs.0 } in let R = M.the_row (named_lft 1 0 tt κs) in
    qed 𝓛 (((‵ (flft κs.0 qs.0) ⊛ ‵ ftrue) ⊛ ‵ ftrue) ∷ ‵ ftrue ∷ []) ∵
    split ! $ enter ! _ _ _ _ _ $ alloc_all ! (λ l. pass_all ! refl tt $
    sets ! (agg ! (no_more !)) refl (tt, tt) $
    sets ! (agg ! (and_then ! (get ! refl) (no_more !))) refl (tt, (tt, tt)) $
    returns ! (look_at ! 0 refl) $ free_all ! refl $
    use0 𝓛 (‵ (R.own_val m (v ∷ []))) (makes_shadow 𝓛 (R.own_val m (v ∷ [])) ((λ vss. (tt, ((λ us. (tt, tt)), tt))), tt) (((vstruct vnil ∷ [], tt), (refl, ((tt, (refl, tt)), tt))), refl)) $
    keep ! (1 ∷ 2 ∷ 0 ∷ 3 ∷ []) $ by ! (leaves 𝓛 f.ended tt c y v m tt tt)))
