-- `none` owns nothing.
use Rattle.self_borrow.specs.Facts.Steps.{◌≡◌, List, [], ◌∷◌, ◌++◌, refl, proved_at, leaves, ftrue, fsep, ent, subst, sym, emp, Val, Item, ⋆, ◌⊛◌, ◌$◌, ◌∵◌, !, qed, by, move, keep, fjoin, fsplit, split, nothing, use0, enter, lit, no_more, and_then, returns, alloc_all, pass_all, free_all, look_at, get, sets, agg, Stays, stay_dropped, walk_of, tables, ‵, raw, fact, fact_i, null_ptr, plain, yes, None}
use prog.Wp.{WpFn}
use Rattle.std.proofs.alloc.Calls.{Goes-blank, handle_tells}
use Rattle.fluent_c_handles.proofs.Global.{Y, Hn}
use Rattle.self_borrow.specs.Facts.Words.{P, word, word_in, word_typed}
use Rattle.fluent_c_handles.specs.contracts.handle.Handle.none as f
use Rattle.fluent_c_handles.proofs.handle.Handle.none.Statement.{statement}
use Rattle.fluent_c_handles.proofs.handle.Handle.none.Code as code

pub none_spec : {M : Type 1} → statement M
none_spec 𝓤 𝓛 𝓜 𝓡 wired =
    let En = f.ended in let c = f.clauses 𝓛 𝓜.mem 𝓡.returns in let fn = code.function in
    let hs : Stays En.signature.params En.kept = (stay_dropped (plain (λ _. Y.row)) yes, tt) in
    let 𝓣 = tables 𝓤 𝓛.H 𝓜 𝓡 𝓡.env in
    proved_at 𝓛 En hs c 𝓜 𝓡 (Goes-blank 𝓛 0 (plain (λ _. Y.row)) yes (λ κs x v. tt), tt) f.Key.name fn
    (code.unfolded 𝓤 𝓛.H 𝓜 𝓡 wired) (λ z are.
    let a = z.0.3.0 in let Post = (walk_of 𝓛 En hs c).post z in let v : Hn.Denot = record { ptr = null_ptr; alloc = a; held = None } in
    qed 𝓛 ((‵ ftrue ⊛ ‵ (fsep (Y.row.own_val a z.0.4.0) ftrue)) ∷ ‵ ftrue ∷ []) ∵
    split ! $ move ! (1 ∷ []) $ fsplit ! $ handle_tells Y ! a z.0.4.0 (λ hv e fits.
    let Γ : List (Item 𝓤) = ‵ ((P Y).own_val a (hv ∷ [])) ∷ ‵ ftrue ∷ ‵ ftrue ∷ ‵ ftrue ∷ [] in
    by ! (subst (λ (us : List Val). ent 𝓤 (⋆ 𝓛 Γ) (WpFn 𝓤 𝓛.H 𝓣.C 𝓣.Λ fn (us ++ []) Post)) (sym e) (qed 𝓛 Γ ∵
    enter ! _ _ _ _ _ $ alloc_all ! (λ l. pass_all ! refl (fits, tt) $
    sets ! (agg ! (and_then ! (lit ! tt) (and_then ! (get ! refl) (no_more !)))) refl (word_typed Y [] null_ptr hv fits) $
    returns ! (look_at ! 0 refl) $ free_all ! refl $
    word_in Y ! null_ptr a hv $ fjoin ! $
    use0 𝓛 (raw (fact 𝓤 (v.held ≡ None))) (fact_i 𝓤 (v.held ≡ None) (emp 𝓤) refl) $ nothing ! $ nothing ! $ fjoin ! $
    keep ! (3 ∷ 0 ∷ 2 ∷ 1 ∷ []) $ by ! (leaves 𝓛 En hs c z (word null_ptr hv) v (tt, tt) (tt, tt)))))))
