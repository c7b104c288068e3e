-- `none` owns nothing.
use Rattle.self_borrow.specs.Facts.Steps.{◌≡◌, List, [], ◌∷◌, ◌++◌, refl, proved_at, leaves, flft, ftrue, fsep, ent, subst, sym, id⊢, Val, Item, ⋆, ◌⊛◌, ◌$◌, ◌∵◌, !, qed, by, keep, move, drop, fjoin, fsplit, split, join, nothing, use0, heard, enter, of_opd, lit, no_more, and_then, returns, alloc_all, pass_all, free_all, look_at, get, sets, agg, Stays, stay_dropped, param, walk_of, tables, ‵, raw, fact, fact_i, emp, null_ptr, inst_fn, bounded, a_type, dcons, dnil, plain, no, None, ◌⊑◌}
use prog.Wp.{WpFn}
use Rattle.std.proofs.alloc.Calls.{Al, Goes-blank}
use Rattle.self_borrow.specs.Facts.Words.{P, word, word_in, word_typed}
use Rattle.std.proofs.alloc.Calls.{handle_tells}
use Rattle.self_borrow.specs.contracts.raw_box.RawBox as L
use Rattle.self_borrow.specs.contracts.raw_box.RawBox.none as f
use Rattle.self_borrow.proofs.raw_box.RawBox.none.Statement.{statement}
use Rattle.self_borrow.proofs.raw_box.RawBox.none.Code as code

pub none_spec : {M : Type 1} → statement M
none_spec 𝓤 𝓛 𝓜 𝓡 wired X Z LX LZ g d dd met md =
    let Y : Al = record { row = Z; laws = LZ; g = g; d = d; drops = dd } in
    let En = f.ended X Z g d dd in let c = f.clauses X Z g d dd 𝓛 𝓜.mem 𝓡.returns in
    let hs : Stays En.signature.params En.kept = (stay_dropped (plain (λ _. P Y)) no, tt) in
    let inst = bounded (a_type ∷ a_type ∷ []) (X, (Z, tt)) (dcons d (dcons dd dnil)) in let fn = inst_fn inst code.function in
    let 𝓣 = tables 𝓤 𝓛.H 𝓜 𝓡 𝓡.env in
    proved_at 𝓛 En hs c 𝓜 𝓡 (Goes-blank 𝓛 2 (plain (λ _. P Y)) no (λ κs x v. tt), tt) (f.Key.name inst) fn
    (code.unfolded 𝓤 𝓛.H 𝓜 𝓡 wired (X, (Z, tt)) d dd) (λ z are.
    let κs = z.0.0 in let qs = z.0.1 in let a = z.0.3.0 in let Post = (walk_of 𝓛 En hs c).post z in
    let toks : Item 𝓤 = ‵ (flft κs.0 qs.0) ⊛ ‵ (flft κs.1.0 qs.1.0) ⊛ ‵ ftrue in
    let R = L.the_row (param 0 X) (P Y) g in let v : R.Denot = record { ptr = null_ptr; alloc = a; held = None } in
    qed 𝓛 ((toks ⊛ ‵ (fsep ((P Y).own_val a z.0.4.0) ftrue)) ∷ (raw (fact 𝓤 (κs.0 ⊑ X.lives)) ⊛ raw (fact 𝓤 (κs.1.0 ⊑ Z.lives)) ⊛ ‵ ftrue) ∷ []) ∵
    split ! $ move ! (2 ∷ 1 ∷ []) $ drop ! $ fsplit ! $ handle_tells Y ! a z.0.4.0 (λ hv e fits.
    let Γ : List (Item 𝓤) = ‵ ((P Y).own_val a (hv ∷ [])) ∷ ‵ ftrue ∷ toks ∷ [] in
    by ! (subst (λ (us : List Val). ent 𝓤 (⋆ 𝓛 Γ) (WpFn 𝓤 𝓛.H 𝓣.C 𝓣.Λ fn (us ++ []) Post)) (sym e) (qed 𝓛 Γ ∵
    enter ! _ _ _ _ _ $ alloc_all ! (λ l. pass_all ! refl (fits, tt) $
    sets ! (of_opd ! (get ! refl)) refl fits $
    sets ! (agg ! (and_then ! (lit ! tt) (and_then ! (get ! refl) (no_more !)))) refl (word_typed Y [] null_ptr hv fits) $
    returns ! (look_at ! 0 refl) $ free_all ! refl $
    word_in Y ! null_ptr a hv $ move ! (0 ∷ 1 ∷ []) $ fjoin ! $
    use0 𝓛 (raw (fact 𝓤 (v.held ≡ None))) (fact_i 𝓤 (v.held ≡ None) (emp 𝓤) refl) $ nothing ! $ nothing ! $ fjoin ! $
    move ! (3 ∷ 0 ∷ 2 ∷ 1 ∷ []) $ by ! (leaves 𝓛 En hs c z (word null_ptr hv) v (tt, tt) (tt, tt)))))))
