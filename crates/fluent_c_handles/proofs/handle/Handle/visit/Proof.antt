-- `visit` hands the lifetimes of the bundle to what is done, and takes them back.
use Rattle.self_borrow.specs.Facts.Steps.{◌≡◌, ◌∙◌, ℕ, List, [], ◌∷◌, ◌++◌, ap, refl, proved_at, leaves, Lft, flft, ftrue, fsep, ent, subst, sym, id⊢, emp, Val, Item, ⋆, ◌⊛◌, some, later, ◌$◌, ◌∵◌, !, qed, by, keep, move, drop, fjoin, fpick, feq_l, fsplit, split, split3, join, nothing, pick, await, use0, use1, use2, use3, heard, rewrite, enter, of_opd, stop, fld, no_more, and_then, returns, alloc_all, pass_all, free_all, look_at, get, get_in, sub, whole, sets, lands_as, agg, as_fields, calls_at, framed, only, Lasts, lasts, triple_of, Stays, stay_dropped, Goes-dropped, walk_of, tables, ‵, raw, fact, fact_i, Ptr, Tuple, full_share, bool, plain, yes, ◌⊑◌, RattleType, layout, named, vstruct, of_list, inst_fn, param, bounded, a_type, dcons, dnil, Is, shows, peeks}
use prog.Wp.{WpFn}
use base.Share
use mir.Val.{vbool}
use contract.BorrowLft.{meet_⊑_right}
use denote.Plain.{bool_vals, bool_Tells}
use denote.Ref.{mut_vals, mut_Tells}
use denote.Signature.{Slot, mut_ref_to, type_at}
use denote.Triple.Walked.{gave_ref, Goes-gave_ref}
use types.Run.{addr}
use types.ByLocal.{through}
use Rattle.std.specs.Prelude.{is_some}
use Rattle.std.proofs.alloc.Calls.{Goes-blank, handle_tells}
use Rattle.self_borrow.specs.Owned.{maybe_owns}
use Rattle.self_borrow.specs.contracts.raw_box.RawBox as RB
use Rattle.fluent_c_handles.specs.Handles.{stock_row, handle_owns}
use Rattle.fluent_c_handles.specs.Answers.{held_content}
use Rattle.fluent_c_handles.proofs.Global.{Y, Hn, frees}
use Rattle.fluent_c_handles.proofs.Handles.{opens, shuts}
use Rattle.self_borrow.specs.Facts.Words.{P, word, word_in, word_out, word_typed, ptr_typed, pair, pair_in}
use Rattle.fluent_c_handles.specs.contracts.turns.make_visit as callee
use Rattle.fluent_c_handles.proofs.turns.make_visit.Met as callee_met
use Rattle.fluent_c_handles.specs.contracts.handle.Handle.visit as f
use Rattle.fluent_c_handles.proofs.handle.Handle.visit.Statement.{statement}
use Rattle.fluent_c_handles.proofs.handle.Handle.visit.Code as code

-- the visitor, behind a `&mut`
abbrev Asked : RattleType → Slot 2
Asked X = mut_ref_to (0 ∷ []) tt (plain (λ _. param 0 X))

abbrev Rb : ℕ → ℕ → RattleType
Rb a b = RB.the_row (stock_row a b) Y.row Y.g

pub visit_spec : {M : Type 1} → statement M
visit_spec 𝓤 𝓛 𝓜 𝓡 wired X LX g d met =
    let En = f.ended X g d in let c = f.clauses X g d 𝓛 𝓜.mem 𝓡.returns in
    let inst = bounded (a_type ∷ []) (X, tt) (dcons d dnil) in let fn = inst_fn inst code.function in
    let hs : Stays En.signature.params En.kept = (stay_dropped (plain (λ _. Hn)) yes, (stay_dropped (plain (λ _. Y.row)) yes, (stay_dropped (plain (λ _. bool)) yes, (gave_ref (0 ∷ []) tt (plain (λ _. param 0 X)), tt)))) in
    let 𝓣 = tables 𝓤 𝓛.H 𝓜 𝓡 𝓡.env in
    let Ce = callee.ended X g d in let G = triple_of 𝓛 Ce.signature (callee.spec X g d 𝓛 𝓜.mem 𝓡.returns) in
    let known = callee_met.met 𝓤 𝓛 𝓜 𝓡 (code.calls-fluent_c_handles::turns::make_visit 𝓡.env wired) X LX g d met in
    proved_at 𝓛 En hs c 𝓜 𝓡 (Goes-blank 𝓛 2 (plain (λ _. Hn)) yes (λ κs x v. tt), (Goes-blank 𝓛 2 (plain (λ _. Y.row)) yes (λ κs x v. tt), (Goes-dropped 𝓛 2 (plain (λ _. bool)) yes (λ κs x v. refl), (Goes-gave_ref 𝓛 2 0 tt (plain (λ _. param 0 X)), tt)))) (f.Key.name inst) fn
    (code.unfolded 𝓤 𝓛.H 𝓜 𝓡 wired (X, tt) d) (λ z are.
    let κs = z.0.0 in let qs = z.0.1 in let h = z.0.3.0 in let al = z.0.3.1.0 in let op = z.0.3.1.1.0 in let q = z.0.3.1.1.1.0 in
    let p : Ptr = h.ptr in let Post = (walk_of 𝓛 En hs c).post z in let Qr : RattleType = type_at (Asked X) κs in
    let toks : Item 𝓤 = ‵ (flft κs.0 qs.0) ⊛ ‵ (flft κs.1.0 qs.1.0) ⊛ ‵ ftrue in
    let InX : Type 0 = κs.1.0 ⊑ X.lives in let asks : Item 𝓤 = raw (fact 𝓤 (op ≡ is_some h.held)) in
    let e2 : z.0.4.1.1.0 ≡ bool_vals op = bool_Tells op z.0.4.1.1.0 are.1.1.0 in
    let e3 : z.0.4.1.1.1.0 ≡ mut_vals q = mut_Tells (named 0) κs.0 (param 0 X) q z.0.4.1.1.1.0 are.1.1.1.0 in
    qed 𝓛 ((toks ⊛ ‵ (fsep (Hn.own_val h z.0.4.0) (fsep (Y.row.own_val al z.0.4.1.0) (fsep (bool.own_val op z.0.4.1.1.0) (fsep (Qr.own_val q z.0.4.1.1.1.0) ftrue))))) ∷ raw (fact 𝓤 InX) ∷ asks ∷ []) ∵
    move ! (1 ∷ []) $ heard ! InX (λ in_x. split ! $ move ! (1 ∷ []) $ fsplit ! $ fsplit ! $ word_out Y ! p h.alloc z.0.4.0 (λ hv e0 fits. move ! (2 ∷ []) $ fsplit ! $ handle_tells Y ! al z.0.4.1.0 (λ gv e1 fits1.
    rewrite ! 1 (λ (us : List Val × List Val). ‵ (fsep (bool.own_val op us.0) (fsep (Qr.own_val q us.1) ftrue))) (λ i. (e2 i, e3 i)) refl $
    let Γ : List (Item 𝓤) = ‵ (Y.row.own_val al (gv ∷ [])) ∷ ‵ (fsep (bool.own_val op (bool_vals op)) (fsep (Qr.own_val q (mut_vals q)) ftrue)) ∷ ‵ ((P Y).own_val h.alloc (hv ∷ [])) ∷ ‵ (handle_owns h.alloc p h.held) ∷ toks ∷ asks ∷ [] in
    let us : List Val = word p hv ∷ gv ∷ (bool_vals op ++ (mut_vals q ++ [])) in
    let ea : z.0.4.0 ++ (z.0.4.1.0 ++ (z.0.4.1.1.0 ++ (z.0.4.1.1.1.0 ++ []))) ≡ us = λ i. e0 i ++ (e1 i ++ (e2 i ++ (e3 i ++ []))) in
    by ! (subst (λ (vs : List Val). ent 𝓤 (⋆ 𝓛 Γ) (WpFn 𝓤 𝓛.H 𝓣.C 𝓣.Λ fn vs Post)) (sym ea) (qed 𝓛 Γ ∵
    enter ! _ _ _ _ _ $ alloc_all ! (λ l. pass_all ! refl (word_typed Y [] p hv fits, (fits1, ((tt, tt), ((tt, tt), tt)))) $
    sets ! (of_opd ! (get_in ! (fld ! refl (stop !)) (sub ! 0 refl (whole !)))) refl (ptr_typed p) $ sets ! (of_opd ! (get_in ! (fld ! refl (stop !)) (sub ! 1 refl (whole !)))) refl fits $
    sets ! (of_opd ! (get ! refl)) refl (ptr_typed p) $ sets ! (agg ! (and_then ! (get ! refl) (and_then ! (get ! refl) (no_more !)))) refl (word_typed Y [] p hv fits) $ sets ! (addr ! (through ! refl (stop !))) refl (tt, tt) $
    move ! (3 ∷ []) $ use1 𝓛 (later (some (λ (n : ℕ × ℕ). ‵ (flft (n.0 ∷ []) full_share) ⊛ ‵ (flft (n.1 ∷ []) full_share) ⊛ ‵ (maybe_owns (frees h.alloc) (stock_row n.0 n.1) p h.held)))) (opens 𝓛 h.alloc p h.held) $
    await ! tt $ pick ! (λ n. split3 ! $
    let L = Share.left full_share in let R = Share.right full_share in let α : Lft = n.0 ∷ [] in let β : Lft = n.1 ∷ [] in let ρ : Lft = n.0 ∷ n.1 ∷ [] in
    let rb : (Rb n.0 n.1).Denot = record { ptr = p; alloc = h.alloc; held = h.held } in
    let within = meet_⊑_right α β in
    let y : G.Ghost = (((ρ, (β, (κs.0, (κs.1.0, tt)))), (L, (R, (qs.0, (qs.1.0, tt)))), (within, (within, (z.0.2.0, tt))), (al, (rb, (op, (q, tt)))), (gv ∷ [], (word p hv ∷ [], (bool_vals op, (mut_vals q, tt))))), tt) in
    use1 𝓛 (‵ (flft α L) ⊛ ‵ (flft α R)) (𝓛.lfts.lft_split α full_share) $ split ! $ move ! (2 ∷ []) $ use1 𝓛 (‵ (flft β L) ⊛ ‵ (flft β R)) (𝓛.lfts.lft_split β full_share) $ split ! $
    move ! (2 ∷ 0 ∷ []) $ use2 𝓛 (‵ (flft ρ L)) (𝓛.lfts.lft_meet α β L) $
    -- [ρ's token; β's; α's half; the bundle; the allocator; the flag and the ask; the handle; tokens; what is asked]
    move ! (6 ∷ []) $ word_in Y ! p h.alloc hv $ move ! (0 ∷ 4 ∷ []) $ fjoin ! $ move ! (0 ∷ 5 ∷ []) $ fjoin ! $ move ! (4 ∷ 0 ∷ []) $ fjoin ! $
    move ! (2 ∷ 4 ∷ []) $ join ! $ move ! (2 ∷ 0 ∷ []) $ join ! $ join ! $
    move ! (2 ∷ 0 ∷ []) $ use0 𝓛 (raw (fact 𝓤 InX)) (fact_i 𝓤 InX (emp 𝓤) in_x) $ join ! $ move ! (1 ∷ 0 ∷ []) $ join ! $ use1 𝓛 (raw (G.pre y)) (id⊢ 𝓤 _) $
    calls_at ! (framed 𝓤 𝓛.H 𝓜 𝓣) G known y (and_then ! (get ! refl) (and_then ! (get ! refl) (and_then ! (get ! refl) (and_then ! (get ! refl) (no_more !))))) (λ u.
    let Given : RattleType = Tuple (Rb n.0 n.1 ∷ bool ∷ []) in
    let Gives : Given.Denot → X.Denot → Type 0 = λ r w. g.does q.now w (held_content h.held) (held_content r.0.held) × (r.1 ≡ is_some r.0.held) in
    use1 𝓛 (later (some (λ (r : Given.Denot). ((‵ (flft ρ L) ⊛ ‵ (flft β R) ⊛ toks) ⊛ ‵ (Given.own_val r (u ∷ []))) ⊛ some (λ (ws : Lasts Ce y.0.0 y.0.3).
    ‵ (lasts Ce y.0.0 y.0.3 ws) ⊛ raw (fact 𝓤 (Gives r ws.1.1.1.0)))))) (id⊢ 𝓤 _) $
    await ! tt $ pick ! (λ r. split ! $ move ! (1 ∷ []) $ pick ! (λ ws. let w : X.Denot = ws.1.1.1.0 in split ! $
    fsplit ! $ drop ! $ fsplit ! $ drop ! $ fsplit ! $ drop ! $ fsplit ! $ move ! (1 ∷ []) $ drop ! $
    -- [what is left behind the `&mut`; what is given; the tokens and the result; α's half], of which the first goes to the end
    move ! (1 ∷ 2 ∷ 3 ∷ []) $ heard ! (Gives r w) (λ gives. split ! $ move ! (1 ∷ []) $
    fpick ! (λ vss. fsplit ! $ feq_l ! (λ eu. fsplit ! $ fsplit ! $ word_out Y ! r.0.ptr r.0.alloc vss.0 (λ hw ew fw. move ! (2 ∷ []) $ fsplit ! $
    peeks ! bool (Is bool) (shows 𝓛 bool) r.1 vss.1.0 (λ is. let eb : vss.1.0 ≡ bool_vals r.1 = bool_Tells r.1 vss.1.0 is in rewrite ! 0 (λ (us : List Val). ‵ (bool.own_val r.1 us)) eb refl $
    let p' : Ptr = r.0.ptr in let h' : Hn.Denot = record { ptr = p'; alloc = r.0.alloc; held = r.0.held } in let wt = word_typed Y [] p' hw fw in
    lands_as ! (ap only (eu ∙ (λ i. vstruct (of_list (ew i ++ (eb i ++ []))) ∷ []))) refl (as_fields (layout (Rb n.0 n.1) ∷ layout bool ∷ []) (word p' hw ∷ vbool r.1 ∷ []) (wt, ((tt, tt), tt))) $
    sets ! (of_opd ! (get_in ! (fld ! refl (stop !)) (sub ! 0 refl (whole !)))) refl wt $ sets ! (of_opd ! (get_in ! (fld ! refl (stop !)) (sub ! 1 refl (whole !)))) refl (tt, tt) $
    sets ! (of_opd ! (get_in ! (fld ! refl (stop !)) (sub ! 0 refl (whole !)))) refl (ptr_typed p') $ sets ! (of_opd ! (get_in ! (fld ! refl (stop !)) (sub ! 1 refl (whole !)))) refl fw $
    sets ! (of_opd ! (get ! refl)) refl (ptr_typed p') $ sets ! (agg ! (and_then ! (get ! refl) (and_then ! (get ! refl) (no_more !)))) refl wt $
    sets ! (agg ! (and_then ! (get ! refl) (and_then ! (get ! refl) (no_more !)))) refl (as_fields (layout Hn ∷ layout bool ∷ []) (word p' hw ∷ vbool r.1 ∷ []) (wt, ((tt, tt), tt))) $
    -- [the flag; true; the handle; the bundle; the tokens; α's half; what is left]
    move ! (1 ∷ []) $ drop ! $ move ! (3 ∷ []) $ split ! $ use1 𝓛 (‵ (flft α L) ⊛ ‵ (flft β L)) (𝓛.lfts.lft_unmeet α β L) $ split ! $ move ! (2 ∷ []) $ split ! $
    move ! (3 ∷ 0 ∷ []) $ use2 𝓛 (‵ (flft β full_share)) (𝓛.lfts.lft_join β full_share) $ move ! (2 ∷ 6 ∷ []) $ use2 𝓛 (‵ (flft α full_share)) (𝓛.lfts.lft_join α full_share) $
    move ! (0 ∷ 1 ∷ 5 ∷ []) $ use3 𝓛 (‵ (handle_owns r.0.alloc p' r.0.held)) (shuts 𝓛 r.0.alloc p' n.0 n.1 r.0.held) $
    returns ! (look_at ! 0 refl) $ free_all ! refl $
    -- [the bundle with its lifetimes; the tokens; the flag; the handle; what is left]
    move ! (3 ∷ []) $ word_in Y ! p' r.0.alloc hw $ fjoin ! $ move ! (0 ∷ 2 ∷ []) $ pair_in ! Hn bool h' r.1 (word p' hw) (vbool r.1) $
    use0 𝓛 (raw (fact 𝓤 (Gives r w))) (fact_i 𝓤 (Gives r w) (emp 𝓤) gives) $
    nothing ! $ move ! (4 ∷ []) $ fjoin ! $ nothing ! $ fjoin ! $ nothing ! $ fjoin ! $ nothing ! $ fjoin ! $ keep ! (3 ∷ 0 ∷ 2 ∷ 1 ∷ []) $
    by ! (leaves 𝓛 En hs c z (pair (word p' hw) (vbool r.1)) (h', r.1) (tt, (tt, (tt, (w, tt)))) (tt, (tt, (tt, (tt, tt)))))))))))))))))))))
