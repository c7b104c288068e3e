-- `regain` takes what was lent, since the lifetime is ended.
use Rattle.self_borrow.specs.Facts.Steps.{◌≡◌, ◌∙◌, List, [], ◌∷◌, ◌++◌, ap, refl, proved_at, leaves, Lft, Fml, flft, fdead, ftrue, fsep, ent, subst, sym, emp, Val, Item, ⋆, ◌⊛◌, ◌$◌, ◌∵◌, !, qed, by, keep, move, drop, fjoin, fsplit, fsplit3, split, nothing, use0, use1, heard, rewrite, enter, of_opd, stop, fld, no_more, and_then, returns, alloc_all, pass_all, free_all, look_at, get, get_in, sub, whole, sets, agg, as_fields, Stays, stay_dropped, Goes-dropped, walk_of, tables, ‵, raw, fact, fact_i, Ptr, lies_at, full_share, inst_fn, param, bounded, a_type, dcons, dnil, plain, yes, no, Some, ◌⊑◌, lent_back, RattleType, layout}
use prog.Wp.{WpFn}
use mir.Syntax.{Ty}
use Rattle.self_borrow.specs.Owned.{loan_owns}
use Rattle.std.proofs.alloc.Calls.{Al, Goes-blank}
use Rattle.self_borrow.specs.Facts.Words.{P, word, word_in, word_out, word_typed, ptr_typed, ended, ended_in, ended_out, pair, pair_in}
use Rattle.self_borrow.specs.contracts.raw_box.RawBox as L
use Rattle.self_borrow.specs.contracts.loans.Ended as O
use Rattle.self_borrow.specs.contracts.loans.Loan as N
use Rattle.self_borrow.specs.contracts.loans.regain as f
use Rattle.self_borrow.proofs.loans.regain.Statement.{statement}
use Rattle.self_borrow.proofs.loans.regain.Code as code

pub regain_spec : {M : Type 1} → statement M
regain_spec 𝓤 𝓛 𝓜 𝓡 wired X Z LX LZ g d dd met md =
    let Y : Al = record { row = Z; laws = LZ; g = g; d = d; drops = dd } in
    let En = f.ended X Z g d dd in let c = f.clauses X Z g d dd 𝓛 𝓜.mem 𝓡.returns in
    let R : RattleType = param 0 X in let Lo : RattleType = L.the_row R (P Y) g in let Ln : RattleType = N.the_row R (P Y) g in
    let hs : Stays En.signature.params En.kept = (stay_dropped (plain (λ _. O.the_row)) yes, (stay_dropped (plain (λ _. Ln)) no, tt)) in
    let inst = bounded (a_type ∷ a_type ∷ []) (X, (Z, tt)) (dcons d (dcons dd dnil)) in let fn = inst_fn inst code.function in
    let 𝓣 = tables 𝓤 𝓛.H 𝓜 𝓡 𝓡.env in
    proved_at 𝓛 En hs c 𝓜 𝓡 (Goes-dropped 𝓛 2 (plain (λ _. O.the_row)) yes (λ κs x f. refl), (Goes-blank 𝓛 2 (plain (λ _. Ln)) no (λ κs x v. tt), tt)) (f.Key.name inst) fn
    (code.unfolded 𝓤 𝓛.H 𝓜 𝓡 wired (X, (Z, tt)) d dd) (λ z are.
    let κs = z.0.0 in let qs = z.0.1 in let m = z.0.3.0 in let w = z.0.3.1.0 in let a = w.alloc in let p : Ptr = w.ptr in let x = w.value in let Post = (walk_of 𝓛 En hs c).post z in
    let frees : Ty → Ptr → Fml = g.dealloc_token a in
    let toks : Item 𝓤 = ‵ (flft κs.0 qs.0) ⊛ ‵ (flft κs.1.0 qs.1.0) ⊛ ‵ ftrue in
    qed 𝓛 ((toks ⊛ ‵ (fsep (O.the_row.own_val m z.0.4.0) (fsep (Ln.own_val w z.0.4.1.0) ftrue))) ∷ raw (fact 𝓤 (κs.0 ⊑ X.lives)) ∷ raw (fact 𝓤 (κs.1.0 ⊑ Z.lives)) ∷ raw (fact 𝓤 (w.life ≡ m.life)) ∷ []) ∵
    move ! (3 ∷ []) $ heard ! (w.life ≡ m.life) (λ asked. split ! $ move ! (1 ∷ []) $ fsplit3 ! $ ended_out ! m z.0.4.0 (λ em. move ! (1 ∷ []) $ fsplit ! $
    word_out Y ! p a z.0.4.1.0 (λ hv ew fits.
    let lo : Lo.Denot = record { ptr = p; alloc = a; held = Some x } in let Of : Type 0 = (m.life ≡ m.life) × (lo.held ≡ Some x) in
    let wv : Val = word p hv in let us : List Val = ended ∷ wv ∷ [] in
    let ea : z.0.4.0 ++ (z.0.4.1.0 ++ []) ≡ us = λ i. em i ++ (ew i ++ []) in
    let Γ : List (Item 𝓤) = ‵ ((P Y).own_val a (hv ∷ [])) ∷ ‵ (loan_owns frees R w.life p x) ∷ ‵ (fdead m.life) ∷ toks ∷ [] in
    keep ! (0 ∷ 1 ∷ 2 ∷ 4 ∷ []) $
    by ! (subst (λ (vs : List Val). ent 𝓤 (⋆ 𝓛 Γ) (WpFn 𝓤 𝓛.H 𝓣.C 𝓣.Λ fn vs Post)) (sym ea) (qed 𝓛 Γ ∵
    enter ! _ _ _ _ _ $ alloc_all ! (λ l. pass_all ! refl ((tt, tt), (word_typed Y [] p hv fits, tt)) $
    sets ! (of_opd ! (get_in ! (fld ! refl (stop !)) (sub ! 0 refl (whole !)))) refl (ptr_typed p) $ sets ! (of_opd ! (get_in ! (fld ! refl (stop !)) (sub ! 1 refl (whole !)))) refl fits $
    sets ! (of_opd ! (get ! refl)) refl fits $
    sets ! (agg ! (and_then ! (get ! refl) (and_then ! (get ! refl) (no_more !)))) refl (word_typed Y [] p hv fits) $
    sets ! (agg ! (and_then ! (get ! refl) (and_then ! (get ! refl) (no_more !)))) refl (as_fields (layout O.the_row ∷ layout Lo ∷ []) (ended ∷ wv ∷ []) ((tt, tt), (word_typed Y [] p hv fits, tt))) $
    -- [the handle; the loan; that the lifetime is ended; the tokens]
    move ! (2 ∷ []) $ use1 𝓛 (‵ (fdead m.life) ⊛ ‵ (fdead m.life)) (𝓛.lfts.dead_dup m.life) $ split ! $
    rewrite ! 0 (λ (κ : Lft). ‵ (fdead κ)) (sym asked) refl $ move ! (3 ∷ []) $ fsplit ! $ move ! (2 ∷ 0 ∷ []) $ lent_back ! tt $
    returns ! (look_at ! 0 refl) $ free_all ! refl $
    -- [the value; the right to free; that it is ended; the handle; the tokens]
    move ! (0 ∷ 1 ∷ []) $ fjoin ! $ move ! (2 ∷ []) $ word_in Y ! p a hv $ fjoin ! $ move ! (1 ∷ []) $ ended_in ! m $ pair_in ! O.the_row Lo m lo ended wv $
    use0 𝓛 (raw (fact 𝓤 Of)) (fact_i 𝓤 Of (emp 𝓤) (refl, refl)) $
    nothing ! $ nothing ! $ fjoin ! $ nothing ! $ fjoin ! $ move ! (3 ∷ 0 ∷ 2 ∷ 1 ∷ []) $
    by ! (leaves 𝓛 En hs c z (pair ended wv) (m, lo) (tt, ((tt, (tt, tt)), tt)) (tt, (tt, tt))))))))))
