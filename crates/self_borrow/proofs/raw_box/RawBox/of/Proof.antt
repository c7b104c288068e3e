-- `of` takes the box apart.
use Rattle.self_borrow.specs.Facts.Steps.{◌≡◌, ◌∙◌, List, [], ◌∷◌, ◌++◌, ap, refl, proved_at, leaves, Lft, Fml, flft, ftrue, fsep, ent, subst, sym, id⊢, emp, Val, Item, ⋆, ◌⊛◌, some, later, ◌$◌, ◌∵◌, !, qed, by, keep, move, drop, fjoin, fsplit, split, split3, join, nothing, pick, await, use0, use1, heard, rewrite, enter, of_opd, stop, fld, no_more, and_then, returns, alloc_all, pass_all, free_all, look_at, get, get_in, sub, whole, sets, lands_as, agg, calls_at, framed, only, Lasts, lasts, triple_of, Stays, stay_dropped, walk_of, tables, ‵, raw, fact, fact_i, Ptr, RawPtr, Tuple, inst_fn, param, bounded, a_type, dcons, dnil, plain, no, Some, ◌⊑◌, RattleType}
use prog.Wp.{WpFn}
use mir.Syntax.{Ty}
use Rattle.std.specs.Box.Ownership.{box_owns}
use Rattle.std.proofs.alloc.Calls.{Al, Goes-blank}
use Rattle.std.proofs.BoxSteps.Form as box
use Rattle.std.proofs.BoxSteps.Steps.{box_out, box_in}
use Rattle.std.specs.contracts.boxed.Box.into_raw_with_allocator as callee
use Rattle.std.proofs.boxed.Box.into_raw_with_allocator.Met as callee_met
use Rattle.self_borrow.specs.Facts.Words.{P, word, word_in, word_out, word_typed, ptr_typed}
use Rattle.self_borrow.specs.contracts.raw_box.RawBox as L
use Rattle.self_borrow.specs.contracts.raw_box.RawBox.of as f
use Rattle.self_borrow.proofs.raw_box.RawBox.of.Statement.{statement}
use Rattle.self_borrow.proofs.raw_box.RawBox.of.Code as code

pub of_spec : {M : Type 1} → statement M
of_spec 𝓤 𝓛 𝓜 𝓡 wired X Z LX LZ g d dd dx met md glue =
    let Y : Al = record { row = Z; laws = LZ; g = g; d = d; drops = dd } in let E : box.Bx = record { row = X; laws = LX; al = Y } in
    let En = f.ended X Z g d dd dx in let c = f.clauses X Z g d dd dx 𝓛 𝓜.mem 𝓡.returns in
    let R : RattleType = param 0 X in let Lo : RattleType = L.the_row R (P Y) g in let B : RattleType = box.B E in
    let hs : Stays En.signature.params En.kept = (stay_dropped (plain (λ _. B)) no, tt) in
    let inst = bounded (a_type ∷ a_type ∷ []) (X, (Z, tt)) (dcons d (dcons dd (dcons dx dnil))) in let fn = inst_fn inst code.function in
    let 𝓣 = tables 𝓤 𝓛.H 𝓜 𝓡 𝓡.env in
    let Ce = callee.ended X Z g d dd dx in let G = triple_of 𝓛 Ce.signature (callee.spec X Z g d dd dx 𝓛 𝓜.mem 𝓡.returns) in
    let known = callee_met.met 𝓤 𝓛 𝓜 𝓡 (code.calls-std_alloc::boxed::Box::into_raw_with_allocator 𝓡.env wired) X Z LX LZ g d dd dx met md glue in
    proved_at 𝓛 En hs c 𝓜 𝓡 (Goes-blank 𝓛 2 (plain (λ _. B)) no (λ κs x v. tt), tt) (f.Key.name inst) fn
    (code.unfolded 𝓤 𝓛.H 𝓜 𝓡 wired (X, (Z, tt)) d dd dx) (λ z are.
    let κs = z.0.0 in let qs = z.0.1 in let v = z.0.3.0 in let a = v.alloc in let x = v.value in let Post = (walk_of 𝓛 En hs c).post z in
    let toks : Item 𝓤 = ‵ (flft κs.0 qs.0) ⊛ ‵ (flft κs.1.0 qs.1.0) ⊛ ‵ ftrue in
    let asks : Item 𝓤 = raw (fact 𝓤 (κs.0 ⊑ X.lives)) ⊛ raw (fact 𝓤 (κs.1.0 ⊑ Z.lives)) ⊛ ‵ ftrue in
    qed 𝓛 ((toks ⊛ ‵ (fsep (B.own_val v z.0.4.0) ftrue)) ∷ asks ∷ []) ∵
    split ! $ move ! (1 ∷ []) $ fsplit ! $ box_out E ! v z.0.4.0 (λ b o hv eb ev fits. box_in E ! v b o x eb refl $
    let w : Val = box.word E hv b o in let y : G.Ghost = ((κs, qs, tt, (v, tt), (w ∷ [], tt)), tt) in
    let Γ : List (Item 𝓤) = ‵ (B.own_val v (w ∷ [])) ∷ ‵ ftrue ∷ toks ∷ asks ∷ [] in
    by ! (subst (λ (us : List Val). ent 𝓤 (⋆ 𝓛 Γ) (WpFn 𝓤 𝓛.H 𝓣.C 𝓣.Λ fn (us ++ []) Post)) (sym ev) (qed 𝓛 Γ ∵
    enter ! _ _ _ _ _ $ alloc_all ! (λ l. pass_all ! refl (box.box_typed E hv b o fits, tt) $
    sets ! (of_opd ! (get ! refl)) refl (box.box_typed E hv b o fits) $
    fjoin ! $ move ! (1 ∷ 0 ∷ []) $ join ! $ join ! $ use1 𝓛 (raw (G.pre y)) (id⊢ 𝓤 _) $
    calls_at ! (framed 𝓤 𝓛.H 𝓜 𝓣) G known y (and_then ! (get ! refl) (no_more !)) (λ u.
    use1 𝓛 (later (some (λ (r : Ptr × Z.Denot). (toks ⊛ ‵ ((Tuple (RawPtr ∷ P Y ∷ [])).own_val r (u ∷ []))) ⊛ some (λ (ws : Lasts Ce κs (v, tt)).
    ‵ (lasts Ce κs (v, tt) ws) ⊛ (raw (fact 𝓤 (r.1 ≡ a)) ⊛ ‵ (box_owns (g.dealloc_token a) R r.0 x)))))) (id⊢ 𝓤 _) $
    await ! tt $ pick ! (λ r. split ! $ move ! (1 ∷ []) $ pick ! (λ ws. split3 ! $ drop ! $ heard ! (r.1 ≡ a) (λ ea. move ! (1 ∷ []) $ split ! $ move ! (1 ∷ []) $
    word_out Y ! r.0 r.1 (u ∷ []) (λ hw eu fw.
    let lo : Lo.Denot = record { ptr = r.0; alloc = r.1; held = Some x } in let typed = word_typed Y [] r.0 hw fw in
    lands_as ! (ap only eu) refl typed $
    sets ! (of_opd ! (get_in ! (fld ! refl (stop !)) (sub ! 0 refl (whole !)))) refl (ptr_typed r.0) $ sets ! (of_opd ! (get_in ! (fld ! refl (stop !)) (sub ! 1 refl (whole !)))) refl fw $
    sets ! (of_opd ! (get ! refl)) refl fw $ sets ! (agg ! (and_then ! (get ! refl) (and_then ! (get ! refl) (no_more !)))) refl typed $
    returns ! (look_at ! 0 refl) $ free_all ! refl $
    -- [the handle; the tokens; what the box owned]
    move ! (2 ∷ []) $ rewrite ! 0 (λ (s : Z.Denot). ‵ (box_owns (g.dealloc_token s) R r.0 x)) (sym ea) refl $ move ! (1 ∷ []) $ word_in Y ! r.0 r.1 hw $ fjoin ! $
    use0 𝓛 (raw (fact 𝓤 (lo.held ≡ Some x))) (fact_i 𝓤 (lo.held ≡ Some x) (emp 𝓤) refl) $ nothing ! $ nothing ! $ fjoin ! $ move ! (3 ∷ 0 ∷ 2 ∷ 1 ∷ []) $ keep ! (0 ∷ 1 ∷ 2 ∷ 3 ∷ []) $
    by ! (leaves 𝓛 En hs c z (word r.0 hw) lo ((tt, (tt, tt)), tt) (tt, tt))))))))))))
