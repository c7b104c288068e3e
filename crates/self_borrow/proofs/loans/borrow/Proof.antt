-- `borrow` borrows what the box owned for the lifetime, and shares it out.
use Rattle.self_borrow.specs.Facts.Steps.{◌≡◌, ◌∙◌, List, [], ◌∷◌, ◌++◌, ap, refl, proved_at, leaves, Lft, Incl-trans, Fml, flft, ftrue, fsep, flent, ent, subst, sym, id⊢, emp, Val, vptr, Item, ⋆, ◌⊛◌, later, at_ret, ◌$◌, ◌∵◌, !, qed, by, keep, move, drop, fjoin, fsplit, fsplit3, split, split3, join, nothing, use0, use1, use2, await, heard, rewrite, feq_i, in_a_block, enter, of_opd, addr, through, stop, fld, no_more, and_then, first, blocks, exec, env, returns, alloc_all, pass_all, free_all, look_at, get, get_in, sub, whole, sets, sets_last, agg, as_fields, Stays, stay_dropped, walk_of, tables, ‵, raw, fact, fact_i, Ptr, block_ptr, null_ptr, lies_at, full_share, bare, lone, inst_fn, param, param_laws, bounded, a_type, dcons, dnil, plain, no, Some, None, ◌⊑◌, ⊑_refl, bor_new, SProp, never, fst∗, sem, RattleType, layout}
use prog.Wp.{WpFn}
use denote.Opens.{hide}
use mir.Syntax.{Ty}
use contract.Lifetimes.{Lfts}
use denote.Struct.Lending.{lent_at, Lends-lies}
use denote.Signature.{named_lft, type_at}
use denote.Builtin.{RefOf}
use Rattle.std.specs.Box.Ownership.{box_owns}
use Rattle.std.proofs.alloc.Calls.{Al, Goes-blank}
use Rattle.std.proofs.VecSteps.Shapes.{after}
use Rattle.self_borrow.specs.Owned.{IsHeld, maybe_owns}
use Rattle.self_borrow.specs.Facts.Words.{P, word, word_in, word_out, word_typed, lifetime, lifetime_in, lifetime_out, three, three_in, held_value}
use Rattle.self_borrow.specs.contracts.raw_box.RawBox as L
use Rattle.self_borrow.specs.contracts.loans.Lifetime as M-type
use Rattle.self_borrow.specs.contracts.loans.Loan as N
use Rattle.self_borrow.specs.contracts.loans.borrow as f
use Rattle.self_borrow.proofs.loans.borrow.Statement.{statement}
use Rattle.self_borrow.proofs.loans.borrow.Code as code

abbrev Mk : Lfts 3 → RattleType
Mk κs = M-type.the_row (named_lft 3 0 tt κs)

pub borrow_spec : {M : Type 1} → statement M
borrow_spec 𝓤 𝓛 𝓜 𝓡 wired X Z LX LZ g d dd met md =
    let Y : Al = record { row = Z; laws = LZ; g = g; d = d; drops = dd } in
    let En = f.ended X Z g d dd in let c = f.clauses X Z g d dd 𝓛 𝓜.mem 𝓡.returns in
    let Lo : RattleType = L.the_row (param 0 X) (P Y) g in let Ln : RattleType = N.the_row (param 0 X) (P Y) g in
    let hs : Stays En.signature.params En.kept = (stay_dropped (plain Mk) no, (stay_dropped (plain (λ _. Lo)) no, tt)) in
    let inst = bounded (a_type ∷ a_type ∷ []) (X, (Z, tt)) (dcons d (dcons dd dnil)) in let fn = inst_fn inst code.function in
    let 𝓣 = tables 𝓤 𝓛.H 𝓜 𝓡 𝓡.env in
    proved_at 𝓛 En hs c 𝓜 𝓡 (Goes-blank 𝓛 3 (plain Mk) no (λ κs x v. tt), (Goes-blank 𝓛 3 (plain (λ _. Lo)) no (λ κs x v. tt), tt)) (f.Key.name inst) fn
    (code.unfolded 𝓤 𝓛.H 𝓜 𝓡 wired (X, (Z, tt)) d dd) (λ z are.
    let κs = z.0.0 in let qs = z.0.1 in let κ : Lft = κs.0 in let m = z.0.3.0 in let w = z.0.3.1.0 in let a = w.alloc in let Post = (walk_of 𝓛 En hs c).post z in
    let R : RattleType = param 0 X in let Rf : RattleType = type_at {n = 3} (RefOf (0 ∷ []) tt (plain (λ _. R)) (λ _. tt)) κs in let frees : Ty → Ptr → Fml = g.dealloc_token a in
    let toks : Item 𝓤 = ‵ (flft κ qs.0) ⊛ ‵ (flft κs.1.0 qs.1.0) ⊛ ‵ (flft κs.1.1.0 qs.1.1.0) ⊛ ‵ ftrue in
    qed 𝓛 ((toks ⊛ ‵ (fsep ((Mk κs).own_val m z.0.4.0) (fsep (Lo.own_val w z.0.4.1.0) ftrue))) ∷ raw (fact 𝓤 (κs.1.0 ⊑ X.lives)) ∷ raw (fact 𝓤 (κs.1.1.0 ⊑ Z.lives)) ∷ raw (fact 𝓤 (IsHeld w.held)) ∷ []) ∵
    move ! (1 ∷ 3 ∷ []) $ heard ! (κs.1.0 ⊑ X.lives) (λ inX. heard ! (IsHeld w.held) (λ is.
    let x : X.Denot = (held_value w.held is).0 in let ex : w.held ≡ Some x = (held_value w.held is).1 in
    split ! $ move ! (1 ∷ []) $ fsplit3 ! $ lifetime_out (named_lft 3 0 tt κs) ! m z.0.4.0 (λ em life. fsplit ! $ move ! (1 ∷ []) $
    rewrite ! 0 (λ h. ‵ (maybe_owns frees R w.ptr h)) ex refl $
    in_a_block ! w.ptr (λ p. box_owns frees R p x) (fst∗ 𝓤 (never 𝓤) (sem 𝓛 (frees (bare (lone R.mir)) null_ptr))) (λ b o ep.
    move ! (1 ∷ []) $ word_out Y ! w.ptr a z.0.4.1.0 (λ hv ew fits.
    let ln : Ln.Denot = record { ptr = block_ptr b o; alloc = a; life = κ; value = x } in let r : Rf.Denot = record { ref_ptr = (b, o); now = x } in
    let Of0 : Type 0 = (w.held ≡ Some x) × (x ≡ x) in let Of1 : Type 0 = (m.life ≡ m.life) × (κ ≡ m.life) in
    let wv : Val = word (block_ptr b o) hv in let us : List Val = lifetime ∷ wv ∷ [] in
    let ea : z.0.4.0 ++ (z.0.4.1.0 ++ []) ≡ us = λ i. em i ++ ((ew ∙ ap (λ (p : Ptr). word p hv ∷ []) ep) i ++ []) in
    let Γ : List (Item 𝓤) = ‵ ((P Y).own_val a (hv ∷ [])) ∷ ‵ (box_owns frees R (block_ptr b o) x) ∷ ‵ ftrue ∷ toks ∷ raw (fact 𝓤 (κs.1.1.0 ⊑ Z.lives)) ∷ [] in
    by ! (subst (λ (vs : List Val). ent 𝓤 (⋆ 𝓛 Γ) (WpFn 𝓤 𝓛.H 𝓣.C 𝓣.Λ fn vs Post)) (sym ea) (qed 𝓛 Γ ∵
    enter ! _ _ _ _ _ $ alloc_all ! (λ l. pass_all ! refl ((tt, (tt, tt)), (word_typed Y [] (block_ptr b o) hv fits, tt)) $ let Ev = env fn.locals l in
    sets ! (of_opd ! (get_in ! (fld ! refl (stop !)) (sub ! 0 refl (whole !)))) refl (tt, tt) $ sets ! (of_opd ! (get_in ! (fld ! refl (stop !)) (sub ! 1 refl (whole !)))) refl fits $
    first ! $ blocks ! $ sets_last ! (addr ! (through ! refl (stop !))) refl (tt, tt) $ exec ! 𝓣.C 𝓣.Λ Ev (after 3 fn.body) (at_ret Ev Post) $
    sets ! (of_opd ! (get ! refl)) refl (tt, tt) $ sets ! (of_opd ! (get ! refl)) refl fits $
    sets ! (agg ! (and_then ! (get ! refl) (and_then ! (get ! refl) (no_more !)))) refl (word_typed Y [] (block_ptr b o) hv fits) $
    sets ! (agg ! (and_then ! (get ! refl) (and_then ! (get ! refl) (and_then ! (get ! refl) (no_more !))))) refl (as_fields (layout (Mk κs) ∷ layout Ln ∷ layout Rf ∷ []) (lifetime ∷ wv ∷ vptr b o ∷ []) ((tt, (tt, tt)), (word_typed Y [] (block_ptr b o) hv fits, ((tt, tt), tt)))) $
    -- [the handle; what the box owns; true; the tokens; a fact]
    move ! (3 ∷ []) $ split ! $ move ! (3 ∷ []) $ fsplit ! $ bor_new ! tt κ $ move ! (0 ∷ 3 ∷ []) $
    use2 𝓛 (later (‵ (lent_at R (block_ptr b o) x κ) ⊛ ‵ (flft κ qs.0)))
    (Lends-lies 𝓛 R X.lives (block_ptr b o) x ((param_laws 0 X LX).shares 𝓛 x) κ ((κ, qs.0) ∷ []) (Incl-trans z.0.2.0 inX) (⊑_refl κ)) $ await ! tt $ split ! $
    returns ! (look_at ! 0 refl) $ free_all ! refl $
    -- [the value, shared; a token; the right to have it regain; the right to free; tokens; the handle; true; a fact]
    fsplit ! $ drop ! $ hide ! $ feq_i ! (List Val) (vptr b o ∷ []) (vptr b o ∷ []) refl $ fjoin ! $
    move ! (5 ∷ 2 ∷ 3 ∷ []) $ word_in Y ! (block_ptr b o) a hv $ move ! (1 ∷ 2 ∷ []) $ fjoin ! $ move ! (1 ∷ 0 ∷ []) $ fjoin ! $
    lifetime_in (named_lft 3 0 tt κs) ! m life $ three_in ! (Mk κs) Ln Rf m ln r lifetime wv (vptr b o) $
    -- [the result; a token; tokens; true; a fact]
    use0 𝓛 (raw (fact 𝓤 Of1)) (fact_i 𝓤 Of1 (emp 𝓤) (refl, sym life)) $ use0 𝓛 (raw (fact 𝓤 Of0)) (fact_i 𝓤 Of0 (emp 𝓤) (ex, refl)) $ join ! $
    nothing ! $ nothing ! $ fjoin ! $ nothing ! $ fjoin ! $ move ! (3 ∷ 4 ∷ []) $ join ! $ move ! (0 ∷ 1 ∷ 3 ∷ 2 ∷ []) $ keep ! (0 ∷ 1 ∷ 2 ∷ 3 ∷ []) $
    by ! (leaves 𝓛 En hs c z (three lifetime wv (vptr b o)) (m, ln, r) (tt, ((tt, (tt, tt)), tt)) (tt, (tt, tt))))))))))))
