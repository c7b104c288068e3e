-- A struct of a pointer and an allocator, as the machine has it.
use Rattle.std.specs.Prelude.{◌≡◌, List, [], ◌∷◌, ◌++◌, Option, Some, None}
use Rattle.self_borrow.specs.Facts.Steps.{refl, sym, subst, lit<, ◌∙◌, ap, T, Val, vstruct, vcons, vnil, of_list, ptr_val, has_ty, WT, RattleType, Struct, Shape, within, Valss, Ptr, RawPtr, block_ptr, null_ptr, Item, Goal, Seq, Step, step, ‵, ◌$◌, fsplit, feq_l, feq_i, fjoin, fpick, fpack, move, drop, nothing, Logic, Ura}
use mir.Syntax.{ty_ptr, ty_struct, tcons, tnil}
use Rattle.std.proofs.alloc.Calls.{Al, α, Fits, handle_tells}
use Rattle.std.proofs.ResultValues.{and_tt}
use denote.Param.{param}
use denote.Shadow.{pure_l, pure_i}
use denote.Ref.{NamedLft}
use denote.Struct.Tuple.{Tuple, tuple_type}
use denote.Struct.Declared.{shape as declared}
use base.Fml.{fdead}
use Rattle.self_borrow.specs.Owned.{IsHeld}
use Rattle.self_borrow.specs.contracts.loans.Lifetime as M-type
use Rattle.self_borrow.specs.declared.loans.Lifetime.{Lifetime}
use Rattle.self_borrow.specs.contracts.loans.Ended as O-type
use Rattle.self_borrow.specs.declared.loans.Ended.{Ended}

abbrev shape_of : List RattleType → Shape
shape_of Rs = record { name = []; args = []; types = []; fields = Rs }

abbrev pub word : Ptr → Val → Val
word p hv = vstruct (vcons (ptr_val p) (vcons hv vnil))

pub ptr_typed : (p : Ptr) → T (has_ty ty_ptr (ptr_val p)) × WT (ptr_val p)
ptr_typed (block_ptr b o) = (tt, tt)
ptr_typed null_ptr = (tt, record { fits = lit< tt })

module _ (Z : Al) where
  abbrev pub P : RattleType
  P = param 1 Z.row

  abbrev shape : Shape
  shape = record { name = []; args = []; types = []; fields = RawPtr ∷ P ∷ [] }

  abbrev pub Data : RattleType
  Data = Struct shape

  pub word_typed : (n : mir.Syntax.Sym) → (p : Ptr) (hv : Val) → Fits Z hv → T (has_ty (ty_struct n (tcons ty_ptr (tcons (α Z) tnil))) (word p hv)) × WT (word p hv)
  word_typed n (block_ptr b o) hv f = (and_tt (has_ty (α Z) hv) f.0, (tt, (f.1, tt)))
  word_typed n null_ptr hv f = (and_tt (has_ty (α Z) hv) f.0, (record { fits = lit< tt }, (f.1, tt)))

module _ (Z : Al) {M : Type 1} {𝓤 : Ura M} {𝓛 : Logic 𝓤} {K : Type 0} {Γ : List (Item 𝓤)} {G : Goal 𝓤 𝓛.H} where
  pub word_out : K → (p : Ptr) (a : Z.row.Denot) (vs : List Val)
      → ((hv : Val) → vs ≡ word p hv ∷ [] → Fits Z hv → Seq K 𝓛 (‵ ((P Z).own_val a (hv ∷ [])) ∷ Γ) G) → Seq K 𝓛 (‵ ((Data Z).own_val (p, (a, tt)) vs) ∷ Γ) G
  word_out t p a vs k =
      fpick t (λ vss. fsplit t $ feq_l t (λ ev. fsplit t $ feq_l t (λ ep. fsplit t $ handle_tells Z t a vss.1.0 (λ hv eh f. move t (1 ∷ []) $ drop t $
      k hv (ev ∙ (λ i. vstruct (of_list (ep i ++ (eh i ++ []))) ∷ [])) f))))

  pub word_in : K → (p : Ptr) (a : Z.row.Denot) (hv : Val) → Step K 𝓛 (‵ ((Data Z).own_val (p, (a, tt)) (word p hv ∷ [])) ∷ Γ) G (‵ ((P Z).own_val a (hv ∷ [])) ∷ Γ) G
  word_in t p a hv = step (λ s.
      nothing t $ move t (1 ∷ 0 ∷ []) $ fjoin t $ feq_i t (List Val) (ptr_val p ∷ []) (ptr_val p ∷ []) refl $ fjoin t $
      feq_i t (List Val) (word p hv ∷ []) (word p hv ∷ []) refl $ fjoin t $
      fpack t (Valss (RawPtr ∷ P Z ∷ [])) (within (shape Z) (p, (a, tt)) (word p hv ∷ [])) (ptr_val p ∷ [], (hv ∷ [], tt)) $ s)

abbrev pub pair : Val → Val → Val
pair u v = vstruct (vcons u (vcons v vnil))

abbrev pub three : Val → Val → Val → Val
three u v w = vstruct (vcons u (vcons v (vcons w vnil)))

module _ {M : Type 1} {𝓤 : Ura M} {𝓛 : Logic 𝓤} {K : Type 0} {Γ : List (Item 𝓤)} {G : Goal 𝓤 𝓛.H} where
  pub pair_in : K → (R S : RattleType) (x : R.Denot) (y : S.Denot) (u v : Val)
      → Step K 𝓛 (‵ ((Tuple (R ∷ S ∷ [])).own_val (x, y) (pair u v ∷ [])) ∷ Γ) G (‵ (R.own_val x (u ∷ [])) ∷ ‵ (S.own_val y (v ∷ [])) ∷ Γ) G
  pair_in t R S x y u v = step (λ s.
      nothing t $ move t (2 ∷ 0 ∷ []) $ fjoin t $ move t (1 ∷ 0 ∷ []) $ fjoin t $ feq_i t (List Val) (pair u v ∷ []) (pair u v ∷ []) refl $ fjoin t $
      fpack t (Valss (R ∷ S ∷ [])) (within (declared (tuple_type (R ∷ S ∷ []))) (x, (y, tt)) (pair u v ∷ [])) (u ∷ [], (v ∷ [], tt)) $ s)

  pub three_in : K → (R S U : RattleType) (x : R.Denot) (y : S.Denot) (z : U.Denot) (u v w : Val)
      → Step K 𝓛 (‵ ((Tuple (R ∷ S ∷ U ∷ [])).own_val (x, y, z) (three u v w ∷ [])) ∷ Γ) G
      (‵ (R.own_val x (u ∷ [])) ∷ ‵ (S.own_val y (v ∷ [])) ∷ ‵ (U.own_val z (w ∷ [])) ∷ Γ) G
  three_in t R S U x y z u v w = step (λ s.
      nothing t $ move t (3 ∷ 0 ∷ []) $ fjoin t $ move t (2 ∷ 0 ∷ []) $ fjoin t $ move t (1 ∷ 0 ∷ []) $ fjoin t $
      feq_i t (List Val) (three u v w ∷ []) (three u v w ∷ []) refl $ fjoin t $
      fpack t (Valss (R ∷ S ∷ U ∷ [])) (within (declared (tuple_type (R ∷ S ∷ U ∷ []))) (x, (y, (z, tt))) (three u v w ∷ [])) (u ∷ [], (v ∷ [], (w ∷ [], tt))) $ s)

-- an option that holds a value
pub held_value : {A : Type 0} (h : Option A) → IsHeld h → (x : A) × (h ≡ Some x)
held_value None is = absurd is
held_value (Some x) is = (x, refl)

-- ---- a `Lifetime`
abbrev pub lifetime : Val
lifetime = vstruct (vcons (vstruct vnil) vnil)

module _ (n : NamedLft) {M : Type 1} {𝓤 : Ura M} {𝓛 : Logic 𝓤} {K : Type 0} {Γ : List (Item 𝓤)} {G : Goal 𝓤 𝓛.H} where
  pub lifetime_out : K → (m : Lifetime) (vs : List Val) → (vs ≡ lifetime ∷ [] → m.life ≡ n.lft → Seq K 𝓛 Γ G) → Seq K 𝓛 (‵ ((M-type.the_row n).own_val m vs) ∷ Γ) G
  lifetime_out t m vs k = pure_l t ((M-type.the_row n).own_val m vs) (λ p. k (p.0.1.0 ∙ ap (λ (us : List Val). vstruct (of_list (us ++ [])) ∷ []) p.0.1.1.0.1.0) p.1)

  pub lifetime_in : K → (m : Lifetime) → m.life ≡ n.lft → Step K 𝓛 (‵ ((M-type.the_row n).own_val m (lifetime ∷ [])) ∷ Γ) G Γ G
  lifetime_in t m e = pure_i t ((M-type.the_row n).own_val m (lifetime ∷ [])) ((λ vss. (tt, ((λ us. (tt, tt)), tt))), tt) ((((vstruct vnil ∷ [], tt), (refl, ((tt, (refl, tt)), tt)))), e)

-- ---- an `Ended`
abbrev pub ended : Val
ended = vstruct vnil

module _ {M : Type 1} {𝓤 : Ura M} {𝓛 : Logic 𝓤} {K : Type 0} {Γ : List (Item 𝓤)} {G : Goal 𝓤 𝓛.H} where
  pub ended_out : K → (x : Ended) (vs : List Val) → (vs ≡ ended ∷ [] → Seq K 𝓛 (‵ (fdead x.life) ∷ Γ) G) → Seq K 𝓛 (‵ (O-type.the_row.own_val x vs) ∷ Γ) G
  ended_out t x vs k = fsplit t $ fpick t (λ vss. fsplit t $ feq_l t (λ e. drop t $ k e))

  pub ended_in : K → (x : Ended) → Step K 𝓛 (‵ (O-type.the_row.own_val x (ended ∷ [])) ∷ Γ) G (‵ (fdead x.life) ∷ Γ) G
  ended_in t x = step (λ s. nothing t $ feq_i t (List Val) (ended ∷ []) (ended ∷ []) refl $ fjoin t $ fpack t (Valss []) (within (shape_of []) tt (ended ∷ [])) tt $ fjoin t $ s)
