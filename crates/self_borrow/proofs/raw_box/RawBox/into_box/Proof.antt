-- `into_box` makes the box again.
use Rattle.self_borrow.specs.Facts.Steps.{◌≡◌, ◌∙◌, List, [], ◌∷◌, ◌++◌, ap, refl, proved_at, leaves, Lft, Fml, flft, ftrue, fsep, ent, subst, sym, id⊢, emp, Val, T, has_ty, WT, Item, ⋆, ◌⊛◌, some, later, at_ret, ◌$◌, ◌∵◌, !, qed, by, keep, move, drop, fjoin, fjoin3, fsplit, split, split3, join, nothing, pick, await, use0, use1, heard, rewrite, feq_i, enter, of_opd, stop, fld, no_more, and_then, first, blocks, exec, env, returns, alloc_all, pass_all, free_all, look_at, get, get_in, sub, whole, sets, lands_last, calls_at_last, framed, only, Lasts, lasts, triple_of, Stays, stay_dropped, walk_of, tables, ‵, raw, fact, fact_i, Ptr, ptr_val, inst_fn, param, bounded, a_type, dcons, dnil, plain, no, Some, ◌⊑◌, RattleType}
use prog.Wp.{WpFn}
use mir.Syntax.{Ty}
use Rattle.std.specs.Box.Ownership.{box_owns}
use Rattle.std.proofs.alloc.Calls.{Al, Goes-blank}
use Rattle.std.proofs.BoxSteps.Form as box
use Rattle.std.proofs.BoxSteps.Steps.{box_out, box_in}
use Rattle.std.proofs.VecSteps.Shapes.{after}
use Rattle.std.specs.contracts.boxed.Box.from_raw as callee
use Rattle.std.proofs.boxed.Box.from_raw.Met as callee_met
use Rattle.self_borrow.specs.Owned.{IsHeld, maybe_owns}
use Rattle.self_borrow.specs.Facts.Words.{P, word, word_out, word_typed, ptr_typed, held_value}
use Rattle.self_borrow.specs.contracts.raw_box.RawBox as L
use Rattle.self_borrow.specs.contracts.raw_box.RawBox.into_box as f
use Rattle.self_borrow.proofs.raw_box.RawBox.into_box.Statement.{statement}
use Rattle.self_borrow.proofs.raw_box.RawBox.into_box.Code as code

pub into_box_spec : {M : Type 1} → statement M
into_box_spec 𝓤 𝓛 𝓜 𝓡 wired X Z LX LZ g d dd met md =
    let Y : Al = record { row = Z; laws = LZ; g = g; d = d; drops = dd } in let E : box.Bx = record { row = X; laws = LX; al = Y } in
    let En = f.ended X Z g d dd in let c = f.clauses X Z g d dd 𝓛 𝓜.mem 𝓡.returns in
    let R : RattleType = param 0 X in let Lo : RattleType = L.the_row R (P Y) g in let B : RattleType = box.B E in
    let hs : Stays En.signature.params En.kept = (stay_dropped (plain (λ _. Lo)) no, tt) in
    let inst = bounded (a_type ∷ a_type ∷ []) (X, (Z, tt)) (dcons d (dcons dd dnil)) in let fn = inst_fn inst code.function in
    let 𝓣 = tables 𝓤 𝓛.H 𝓜 𝓡 𝓡.env in
    let Ce = callee.ended X Z g d dd in let G = triple_of 𝓛 Ce.signature (callee.spec X Z g d dd 𝓛 𝓜.mem 𝓡.returns) in
    let known = callee_met.met 𝓤 𝓛 𝓜 𝓡 (code.calls-std_alloc::boxed::Box::from_raw 𝓡.env wired) X Z LX LZ g d dd met md in
    proved_at 𝓛 En hs c 𝓜 𝓡 (Goes-blank 𝓛 2 (plain (λ _. Lo)) no (λ κs x v. tt), tt) (f.Key.name inst) fn
    (code.unfolded 𝓤 𝓛.H 𝓜 𝓡 wired (X, (Z, tt)) d dd) (λ z are.
    let κs = z.0.0 in let qs = z.0.1 in let w = z.0.3.0 in let a = w.alloc in let p : Ptr = w.ptr in let Post = (walk_of 𝓛 En hs c).post z in
    let frees : Ty → Ptr → Fml = g.dealloc_token a in
    let toks : Item 𝓤 = ‵ (flft κs.0 qs.0) ⊛ ‵ (flft κs.1.0 qs.1.0) ⊛ ‵ ftrue in
    let inX : Item 𝓤 = raw (fact 𝓤 (κs.0 ⊑ X.lives)) in let inZ : Item 𝓤 = raw (fact 𝓤 (κs.1.0 ⊑ Z.lives)) in
    qed 𝓛 ((toks ⊛ ‵ (fsep (Lo.own_val w z.0.4.0) ftrue)) ∷ inX ∷ inZ ∷ raw (fact 𝓤 (IsHeld w.held)) ∷ []) ∵
    move ! (3 ∷ []) $ heard ! (IsHeld w.held) (λ is.
    let x : X.Denot = (held_value w.held is).0 in let ex : w.held ≡ Some x = (held_value w.held is).1 in
    split ! $ move ! (1 ∷ []) $ fsplit ! $ fsplit ! $ move ! (1 ∷ []) $ rewrite ! 0 (λ h. ‵ (maybe_owns frees R p h)) ex refl $ move ! (1 ∷ []) $
    word_out Y ! p a z.0.4.0 (λ hv ew fits.
    let wv : Val = word p hv in
    let y : G.Ghost = ((κs, qs, tt, (a, (p, tt)), (hv ∷ [], (ptr_val p ∷ [], tt))), x) in
    let Γ : List (Item 𝓤) = ‵ ((P Y).own_val a (hv ∷ [])) ∷ ‵ (box_owns frees R p x) ∷ ‵ ftrue ∷ toks ∷ inX ∷ inZ ∷ [] in
    by ! (subst (λ (us : List Val). ent 𝓤 (⋆ 𝓛 Γ) (WpFn 𝓤 𝓛.H 𝓣.C 𝓣.Λ fn (us ++ []) Post)) (sym ew) (qed 𝓛 Γ ∵
    enter ! _ _ _ _ _ $ alloc_all ! (λ l. pass_all ! refl (word_typed Y [] p hv fits, tt) $ let Ev = env fn.locals l in
    sets ! (of_opd ! (get_in ! (fld ! refl (stop !)) (sub ! 0 refl (whole !)))) refl (ptr_typed p) $ sets ! (of_opd ! (get_in ! (fld ! refl (stop !)) (sub ! 1 refl (whole !)))) refl fits $
    first ! $ blocks ! $ sets ! (of_opd ! (get ! refl)) refl fits $
    feq_i ! (List Val) (ptr_val p ∷ []) (ptr_val p ∷ []) refl $ move ! (1 ∷ 0 ∷ 3 ∷ []) $ fjoin3 ! $ move ! (2 ∷ 0 ∷ []) $ join ! $
    move ! (3 ∷ 1 ∷ []) $ join ! $ move ! (2 ∷ 0 ∷ []) $ join ! $ move ! (1 ∷ 0 ∷ []) $ join ! $ use1 𝓛 (raw (G.pre y)) (id⊢ 𝓤 _) $
    calls_at_last ! (framed 𝓤 𝓛.H 𝓜 𝓣) G known y (and_then ! (get ! refl) (and_then ! (get ! refl) (no_more !))) (λ u.
    use1 𝓛 (later (some (λ (r : B.Denot). (toks ⊛ ‵ (B.own_val r (u ∷ []))) ⊛ some (λ (ws : Lasts Ce κs (a, (p, tt))).
    ‵ (lasts Ce κs (a, (p, tt)) ws) ⊛ (raw (fact 𝓤 (r.value ≡ x)) ⊛ raw (fact 𝓤 (r.alloc ≡ a))))))) (id⊢ 𝓤 _) $
    await ! tt $ pick ! (λ r. split ! $ move ! (1 ∷ []) $ pick ! (λ ws. split3 ! $ drop ! $ heard ! (r.value ≡ x) (λ same. drop ! $ split ! $ move ! (1 ∷ []) $
    box_out E ! r (u ∷ []) (λ b o hw eb eu fw. box_in E ! r b o r.value eb refl $
    let typed : T (has_ty (box.box_ty E) u) × WT u = subst (λ (s : Val). T (has_ty (box.box_ty E) s) × WT s) (sym (ap only eu)) (box.box_typed E hw b o fw) in
    rewrite ! 0 (λ (us : List Val). ‵ (B.own_val r us)) (sym eu) refl $
    lands_last ! refl typed $ exec ! 𝓣.C 𝓣.Λ Ev (after 3 fn.body) (at_ret Ev Post) $ sets ! (of_opd ! (get ! refl)) refl typed $
    returns ! (look_at ! 0 refl) $ free_all ! refl $
    use0 𝓛 (raw (fact 𝓤 (w.held ≡ Some r.value))) (fact_i 𝓤 (w.held ≡ Some r.value) (emp 𝓤) (ex ∙ ap Some (sym same))) $
    nothing ! $ nothing ! $ fjoin ! $ move ! (3 ∷ 0 ∷ 2 ∷ 1 ∷ []) $ keep ! (0 ∷ 1 ∷ 2 ∷ 3 ∷ []) $
    by ! (leaves 𝓛 En hs c z u r ((tt, (tt, tt)), tt) (tt, tt)))))))))))))
