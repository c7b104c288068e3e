-- `close` ends the lifetime of the resources once the bundle is dropped, and that of the sources once the resources are freed.
use Rattle.self_borrow.specs.Facts.Steps.{◌∙◌, ℕ, List, [], ◌∷◌, ◌++◌, ap, refl, proved_at, leaves, Lft, flft, fdead, ftrue, fsep, ent, subst, sym, id⊢, emp, Val, vunit, Item, ⋆, ◌⊛◌, some, later, ◌$◌, ◌∵◌, !, qed, by, keep, move, drop, fjoin, fpick, feq_l, feq_i, fsplit, split, split3, join, nothing, pick, await, use0, use1, use2, heard, rewrite, enter, of_opd, unit_lit, stop, fld, no_more, and_then, returns, alloc_all, pass_all, free_all, look_at, get, get_in, sub, whole, sets, lands_as, agg, as_fields, calls_at, framed, only, Lasts, lasts, triple_of, Stays, stay_dropped, walk_of, tables, ‵, raw, fact, fact_i, Ptr, Tuple, full_share, unit, plain, yes, RattleType, layout, lft_end, vstruct, of_list}
use prog.Wp.{WpFn}
use base.Share
use contract.BorrowLft.{meet_⊑_left, meet_⊑_right}
use Rattle.std.proofs.alloc.Calls.{Al, Goes-blank, handle_tells}
use Rattle.self_borrow.specs.Owned.{IsHeld, maybe_owns}
use Rattle.self_borrow.specs.Loans.{AreFor}
use Rattle.self_borrow.specs.declared.loans.Ended.{Ended}
use Rattle.self_borrow.specs.contracts.loans.Lifetime as N
use Rattle.self_borrow.specs.contracts.raw_box.RawBox as RB
use Rattle.fluent_c_handles.specs.Handles.{numbered, stock_row, handle_owns}
use Rattle.fluent_c_handles.proofs.Global.{Y, Hn, Ls, frees}
use Rattle.fluent_c_handles.proofs.Handles.{opens}
use Rattle.self_borrow.specs.Facts.Words.{P, word, word_in, word_out, word_typed, ptr_typed, lifetime, lifetime_out, ended, ended_in}
use Rattle.fluent_c_handles.specs.contracts.closing.Rest as S
use Rattle.fluent_c_handles.proofs.closing.Rest.TheLaws.{the_row_laws as rest_laws}
use Rattle.fluent_c_handles.specs.contracts.closing.Last as Z
use Rattle.fluent_c_handles.specs.contracts.closing.drop_bundle as bundle
use Rattle.fluent_c_handles.proofs.closing.drop_bundle.Met as bundle_met
use Rattle.fluent_c_handles.specs.contracts.closing.free_resources as resources
use Rattle.fluent_c_handles.proofs.closing.free_resources.Met as resources_met
use Rattle.fluent_c_handles.specs.contracts.closing.free_sources as sources
use Rattle.fluent_c_handles.proofs.closing.free_sources.Met as sources_met
use Rattle.fluent_c_handles.specs.contracts.handle.Handle.close as f
use Rattle.fluent_c_handles.proofs.handle.Handle.close.Statement.{statement}
use Rattle.fluent_c_handles.proofs.handle.Handle.close.Code as code

abbrev Rb : ℕ → ℕ → RattleType
Rb a b = RB.the_row (stock_row a b) Y.row Y.g

abbrev Rs : Lft → RattleType
Rs β = S.the_row (numbered 1 β)

abbrev Yr : Lft → Al
Yr β = record { row = Rs β; laws = rest_laws (numbered 1 β); g = record { dealloc_token = λ a τ p. ftrue }; d = Y.d; drops = Y.d }

abbrev Lf : ℕ → Lft → RattleType
Lf k κ = N.the_row (numbered k κ)

pub close_spec : {M : Type 1} → statement M
close_spec 𝓤 𝓛 𝓜 𝓡 wired =
    let En = f.ended in let c = f.clauses 𝓛 𝓜.mem 𝓡.returns in let fn = code.function in
    let hs : Stays En.signature.params En.kept = (stay_dropped (plain (λ _. Hn)) yes, tt) in
    let 𝓣 = tables 𝓤 𝓛.H 𝓜 𝓡 𝓡.env in
    let C1 = bundle.ended in let G1 = triple_of 𝓛 C1.signature (bundle.spec 𝓛 𝓜.mem 𝓡.returns) in
    let C2 = resources.ended in let G2 = triple_of 𝓛 C2.signature (resources.spec 𝓛 𝓜.mem 𝓡.returns) in
    let C3 = sources.ended in let G3 = triple_of 𝓛 C3.signature (sources.spec 𝓛 𝓜.mem 𝓡.returns) in
    let known1 = bundle_met.met 𝓤 𝓛 𝓜 𝓡 (code.calls-fluent_c_handles::closing::drop_bundle 𝓡.env wired) in
    let known2 = resources_met.met 𝓤 𝓛 𝓜 𝓡 (code.calls-fluent_c_handles::closing::free_resources 𝓡.env wired) in
    let known3 = sources_met.met 𝓤 𝓛 𝓜 𝓡 (code.calls-fluent_c_handles::closing::free_sources 𝓡.env wired) in
    proved_at 𝓛 En hs c 𝓜 𝓡 (Goes-blank 𝓛 0 (plain (λ _. Hn)) yes (λ κs x v. tt), tt) f.Key.name fn
    (code.unfolded 𝓤 𝓛.H 𝓜 𝓡 wired) (λ z are.
    let h = z.0.3.0 in let p : Ptr = h.ptr in let Post = (walk_of 𝓛 En hs c).post z in let asks : Item 𝓤 = raw (fact 𝓤 (IsHeld h.held)) in
    qed 𝓛 ((‵ ftrue ⊛ ‵ (fsep (Hn.own_val h z.0.4.0) ftrue)) ∷ asks ∷ []) ∵
    split ! $ move ! (1 ∷ []) $ fsplit ! $ fsplit ! $ word_out Y ! p h.alloc z.0.4.0 (λ hv e0 fits.
    let Γ : List (Item 𝓤) = ‵ ((P Y).own_val h.alloc (hv ∷ [])) ∷ ‵ (handle_owns h.alloc p h.held) ∷ asks ∷ [] in
    keep ! (0 ∷ 1 ∷ 4 ∷ []) $
    by ! (subst (λ (vs : List Val). ent 𝓤 (⋆ 𝓛 Γ) (WpFn 𝓤 𝓛.H 𝓣.C 𝓣.Λ fn (vs ++ []) Post)) (sym e0) (qed 𝓛 Γ ∵
    enter ! _ _ _ _ _ $ alloc_all ! (λ l. pass_all ! refl (word_typed Y [] p hv fits, tt) $
    sets ! (of_opd ! (get_in ! (fld ! refl (stop !)) (sub ! 0 refl (whole !)))) refl (ptr_typed p) $ sets ! (of_opd ! (get_in ! (fld ! refl (stop !)) (sub ! 1 refl (whole !)))) refl fits $
    sets ! (of_opd ! (get ! refl)) refl (ptr_typed p) $ sets ! (agg ! (and_then ! (get ! refl) (and_then ! (get ! refl) (no_more !)))) refl (word_typed Y [] p hv fits) $
    move ! (1 ∷ []) $ use1 𝓛 (later (some (λ (n : ℕ × ℕ). ‵ (flft (n.0 ∷ []) full_share) ⊛ ‵ (flft (n.1 ∷ []) full_share) ⊛ ‵ (maybe_owns (frees h.alloc) (stock_row n.0 n.1) p h.held)))) (opens 𝓛 h.alloc p h.held) $
    await ! tt $ pick ! (λ n. split3 ! $
    let L = Share.left full_share in let R = Share.right full_share in let α : Lft = n.0 ∷ [] in let β : Lft = n.1 ∷ [] in let ρ : Lft = n.0 ∷ n.1 ∷ [] in
    let rb : (Rb n.0 n.1).Denot = record { ptr = p; alloc = h.alloc; held = h.held } in let within = meet_⊑_right α β in
    let y1 : G1.Ghost = (((ρ, (β, tt)), (L, (R, tt)), (within, (within, tt)), (rb, tt), (word p hv ∷ [], tt)), tt) in
    use1 𝓛 (‵ (flft α L) ⊛ ‵ (flft α R)) (𝓛.lfts.lft_split α full_share) $ split ! $ move ! (2 ∷ []) $ use1 𝓛 (‵ (flft β L) ⊛ ‵ (flft β R)) (𝓛.lfts.lft_split β full_share) $ split ! $
    move ! (2 ∷ 0 ∷ []) $ use2 𝓛 (‵ (flft ρ L)) (𝓛.lfts.lft_meet α β L) $
    -- [ρ's token; β's; α's half; the bundle; the handle; what is asked]
    move ! (4 ∷ []) $ word_in Y ! p h.alloc hv $ move ! (0 ∷ 4 ∷ []) $ fjoin ! $ nothing ! $ move ! (1 ∷ 0 ∷ []) $ fjoin ! $
    nothing ! $ move ! (3 ∷ 0 ∷ []) $ join ! $ move ! (2 ∷ 0 ∷ []) $ join ! $ join ! $ move ! (0 ∷ 2 ∷ []) $ join ! $ use1 𝓛 (raw (G1.pre y1)) (id⊢ 𝓤 _) $
    calls_at ! (framed 𝓤 𝓛.H 𝓜 𝓣) G1 known1 y1 (and_then ! (get ! refl) (no_more !)) (λ u.
    use1 𝓛 (later (some (λ (r : (Lf 0 ρ).Denot × (Rs β).Denot). ((‵ (flft ρ L) ⊛ ‵ (flft β R) ⊛ ‵ ftrue) ⊛ ‵ ((Tuple (Lf 0 ρ ∷ Rs β ∷ [])).own_val r (u ∷ []))) ⊛ some (λ (ws : Lasts C1 y1.0.0 y1.0.3).
    ‵ (lasts C1 y1.0.0 y1.0.3 ws) ⊛ raw (fact 𝓤 (AreFor r.0.life r.1.resources.items)))))) (id⊢ 𝓤 _) $
    await ! tt $ pick ! (λ r. split ! $ move ! (1 ∷ []) $ pick ! (λ ws. split ! $ drop ! $ heard ! (AreFor r.0.life r.1.resources.items) (λ due. split ! $ move ! (1 ∷ []) $
    fpick ! (λ vss. fsplit ! $ feq_l ! (λ eu. fsplit ! $ lifetime_out (numbered 0 ρ) ! r.0 vss.0 (λ el life. fsplit ! $ handle_tells (Yr β) ! r.1 vss.1.0 (λ rv er fr.
    lands_as ! (ap only (eu ∙ (λ i. vstruct (of_list (el i ++ (er i ++ []))) ∷ []))) refl (as_fields (layout (Lf 0 ρ) ∷ layout (Rs β) ∷ []) (lifetime ∷ rv ∷ []) ((tt, (tt, tt)), (fr, tt))) $
    sets ! (of_opd ! (get_in ! (fld ! refl (stop !)) (sub ! 1 refl (whole !)))) refl fr $ sets ! (agg ! (no_more !)) refl (tt, tt) $ sets ! (of_opd ! (get ! refl)) refl fr $
    -- [what is left; true; the tokens; α's half]
    move ! (2 ∷ []) $ split ! $ use1 𝓛 (‵ (flft α L) ⊛ ‵ (flft β L)) (𝓛.lfts.lft_unmeet α β L) $ split ! $ move ! (2 ∷ []) $ split ! $
    -- [β's half; true; α's half; β's half; what is left; true; α's half]
    move ! (3 ∷ 0 ∷ []) $ use2 𝓛 (‵ (flft β full_share)) (𝓛.lfts.lft_join β full_share) $ move ! (2 ∷ 5 ∷ []) $ use2 𝓛 (‵ (flft α full_share)) (𝓛.lfts.lft_join α full_share) $
    lft_end ! tt $ use1 𝓛 (‵ (fdead ρ)) (𝓛.lfts.dead-incl ρ α (meet_⊑_left α β)) $ rewrite ! 0 (λ (κ : Lft). ‵ (fdead κ)) (sym life) refl $
    let x1 : Ended = record { life = r.0.life } in ended_in ! x1 $
    -- [that ρ has ended; β's token; true; what is left; true]
    let y2 : G2.Ghost = (((β, tt), (full_share, tt), tt, (x1, (r.1, tt)), (ended ∷ [], (rv ∷ [], tt))), tt) in
    move ! (3 ∷ 2 ∷ []) $ fjoin ! $ move ! (1 ∷ 0 ∷ []) $ fjoin ! $ move ! (1 ∷ 2 ∷ []) $ join ! $ join ! $ use0 𝓛 (raw (fact 𝓤 (AreFor x1.life r.1.resources.items))) (fact_i 𝓤 (AreFor x1.life r.1.resources.items) (emp 𝓤) due) $
    move ! (1 ∷ 0 ∷ []) $ join ! $ use1 𝓛 (raw (G2.pre y2)) (id⊢ 𝓤 _) $
    calls_at ! (framed 𝓤 𝓛.H 𝓜 𝓣) G2 known2 y2 (and_then ! (get ! refl) (and_then ! (get ! refl) (no_more !))) (λ u2.
    use1 𝓛 (later (some (λ (s : (Lf 0 β).Denot × Z.the_row.Denot). ((‵ (flft β full_share) ⊛ ‵ ftrue) ⊛ ‵ ((Tuple (Lf 0 β ∷ Z.the_row ∷ [])).own_val s (u2 ∷ []))) ⊛ some (λ (ws : Lasts C2 y2.0.0 y2.0.3).
    ‵ (lasts C2 y2.0.0 y2.0.3 ws) ⊛ raw (fact 𝓤 (AreFor s.0.life s.1.sources.items)))))) (id⊢ 𝓤 _) $
    await ! tt $ pick ! (λ s. split ! $ move ! (1 ∷ []) $ pick ! (λ ws. split ! $ drop ! $ heard ! (AreFor s.0.life s.1.sources.items) (λ due2. split ! $ move ! (1 ∷ []) $
    fpick ! (λ vss. fsplit ! $ feq_l ! (λ eu. fsplit ! $ lifetime_out (numbered 0 β) ! s.0 vss.0 (λ el life2. fsplit ! $ handle_tells Ls ! s.1 vss.1.0 (λ sv es fs.
    lands_as ! (ap only (eu ∙ (λ i. vstruct (of_list (el i ++ (es i ++ []))) ∷ []))) refl (as_fields (layout (Lf 0 β) ∷ layout Z.the_row ∷ []) (lifetime ∷ sv ∷ []) ((tt, (tt, tt)), (fs, tt))) $
    sets ! (of_opd ! (get_in ! (fld ! refl (stop !)) (sub ! 1 refl (whole !)))) refl fs $ sets ! (agg ! (no_more !)) refl (tt, tt) $ sets ! (of_opd ! (get ! refl)) refl fs $
    -- [the sources; true; the tokens]
    move ! (2 ∷ []) $ split ! $ lft_end ! tt $ rewrite ! 0 (λ (κ : Lft). ‵ (fdead κ)) (sym life2) refl $
    let x2 : Ended = record { life = s.0.life } in ended_in ! x2 $
    -- [that β has ended; true; the sources; true]
    let y3 : G3.Ghost = ((tt, tt, tt, (x2, (s.1, tt)), (ended ∷ [], (sv ∷ [], tt))), tt) in
    move ! (2 ∷ 1 ∷ []) $ fjoin ! $ move ! (1 ∷ 0 ∷ []) $ fjoin ! $ nothing ! $ join ! $ use0 𝓛 (raw (fact 𝓤 (AreFor x2.life s.1.sources.items))) (fact_i 𝓤 (AreFor x2.life s.1.sources.items) (emp 𝓤) due2) $
    move ! (1 ∷ 0 ∷ []) $ join ! $ use1 𝓛 (raw (G3.pre y3)) (id⊢ 𝓤 _) $
    calls_at ! (framed 𝓤 𝓛.H 𝓜 𝓣) G3 known3 y3 (and_then ! (get ! refl) (and_then ! (get ! refl) (no_more !))) (λ u3.
    use1 𝓛 (later (some (λ (o : Unit {0}). (‵ ftrue ⊛ ‵ (unit.own_val o (u3 ∷ []))) ⊛ some (λ (ws : Lasts C3 y3.0.0 y3.0.3). ‵ (lasts C3 y3.0.0 y3.0.3 ws) ⊛ ‵ ftrue)))) (id⊢ 𝓤 _) $
    await ! tt $ pick ! (λ o. split ! $ split ! $ move ! (1 ∷ []) $ feq_l ! (λ e3.
    lands_as ! (ap only e3) refl (tt, tt) $ sets ! (of_opd ! (unit_lit !)) refl (tt, tt) $
    returns ! (look_at ! 0 refl) $ free_all ! refl $ keep ! [] $
    nothing ! $ feq_i ! (List Val) (vunit ∷ []) (vunit ∷ []) refl $ nothing ! $ nothing ! $ fjoin ! $ nothing ! $
    by ! (leaves 𝓛 En hs c z vunit tt (tt, tt) (tt, tt)))))))))))))))))))))))))))
