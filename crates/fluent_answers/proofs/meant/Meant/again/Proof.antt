-- `again` makes what has no bytes, with the table of the one that is borrowed.
use Rattle.std.proofs.Common.{◌≡◌, List, [], ◌∷◌, refl}
use Rattle.std.proofs.raw_atomic.Walks.{proved, leaves}
use base.Logic.{emp}
use mir.Syntax.{named}
use mir.Val.{Val, vnil, vptr, vstruct}
use contract.Monad.{fact, fact_i}
use types.Kit.{‵, raw, ◌⊛◌, ◌$◌, ◌∵◌, !, qed, by, move, keep, drop, use0, split, fjoin, fpack, feq_i}
use types.Run.{enter, no_more, returns}
use types.Part.{agg}
use types.ByLocal.{alloc_all, pass_all, free_all, look_at, sets}
use denote.Builtin.{RefOf}
use denote.Exit.{yes}
use denote.RattleType.{RattleType, Valss, owns}
use denote.Ref.{shr_vals, shr_Tells}
use denote.Signature.{plain, types_at}
use denote.Steps.{nothing}
use denote.Struct.Struct.{Shape, within}
use denote.Triple.Entry.{alive}
use denote.Triple.Walked.{Stays, stay_dropped, walk_of, Goes-dropped}
use Rattle.fluent_answers.specs.contracts.meant.Meant as Made
use Rattle.fluent_answers.specs.contracts.meant.Meant.again as f
use Rattle.fluent_answers.proofs.meant.Meant.again.Statement.{statement}
use Rattle.fluent_answers.proofs.meant.Meant.again.Code as code

-- a struct with no bytes
abbrev none : Val
none = vstruct vnil

abbrev shape : Shape
shape = record { name = []; args = []; types = []; fields = [] }

pub again_spec : {M : Type 1} → statement M
again_spec 𝓤 𝓛 𝓜 𝓡 wired =
    let En = f.ended in let c = f.clauses 𝓛 𝓜.mem 𝓡.returns in let fn = code.function in let R : RattleType = Made.the_row in
    let self = RefOf (0 ∷ []) tt (plain (λ _. R)) (λ _. tt) in let hs : Stays En.signature.params En.kept = (stay_dropped self yes, tt) in
    proved 𝓛 En hs c 𝓜 𝓡 (Goes-dropped 𝓛 1 self yes (λ κs x v. refl), tt) f.Key.name fn (code.unfolded 𝓤 𝓛.H 𝓜 𝓡 wired)
    (λ κs. (shr_vals, tt)) (λ κs. (shr_Tells (named 0) κs.0 R, tt)) (λ κs qs bounds a ghost are.
    let p : Val = vptr a.0.ref_ptr.0 a.0.ref_ptr.1 in let made : R.Denot = record { table = a.0.now.table } in
    let y : (walk_of 𝓛 En hs c).Ghost = ((κs, qs, bounds, a, (p ∷ [], tt)), ghost) in let same : Type 0 = a.0.now.table ≡ a.0.now.table in
    qed 𝓛 ((raw (alive 𝓛 En.signature κs qs) ⊛ ‵ (owns (types_at En.signature.params κs) a y.0.4)) ∷ raw ((c κs a).requires ghost) ∷ []) ∵
    -- [the tokens]
    keep ! (0 ∷ []) $ split ! $ move ! (1 ∷ []) $ drop ! $
    enter ! _ _ _ _ _ $ alloc_all ! (λ l. pass_all ! refl ((tt, tt), tt) $
    sets ! (agg ! (no_more !)) refl (tt, tt) $ returns ! (look_at ! 0 refl) $ free_all ! refl $
    -- [what is made; the tokens]
    nothing ! $ nothing ! $ feq_i ! (List Val) (none ∷ []) (none ∷ []) refl $ fjoin ! $ fpack ! (Valss []) (within shape tt (none ∷ [])) tt $ fjoin ! $
    use0 𝓛 (raw (fact 𝓤 same)) (fact_i 𝓤 same (emp 𝓤) refl) $ nothing ! $ nothing ! $ fjoin ! $
    keep ! (3 ∷ 0 ∷ 2 ∷ 1 ∷ []) $ by ! (leaves 𝓛 En hs c y none made (tt, tt) (tt, tt))))
