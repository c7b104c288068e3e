-- Values, one after the other, by the ids before them.
use Rattle.std.proofs.Common.{◌≡◌, ◌∙◌, cond, true, false, Bool, List, [], ◌∷◌, ◌++◌, map, Option, Some, None, refl, sym, ap, if◌then◌else◌}
use Rattle.std.specs.Borrow.{Bor}
use Rattle.std.specs.Map.{lookup}
use Rattle.std.specs.Option.{option_map}
use Rattle.std.specs.Prelude.{bytes_eq}
use Rattle.indexmap.specs.IndexMap.{insert_entry}
use Rattle.fluent_ast.specs.Tree.{Text}
use Rattle.fluent_patterns.specs.Found.{Found, Spot, spot_view, whole, taken_id}
use Rattle.fluent_patterns.specs.declared.finding.Spot as code
use Rattle.fluent_sources.specs.Standing.{Standing, found_at, spot_of}
use Rattle.fluent_sources.specs.Taken.{Firsts, first_of, firsts_with, id_in, noted, taken, taken_at, taken_if}

mapped_if : (b : Bool) (x : code.Spot) (o : Option code.Spot) → option_map spot_view (cond b (Some x) o) ≡ cond b (Some (spot_view x)) (option_map spot_view o)
mapped_if true x o = refl
mapped_if false x o = refl

abbrev pub firsts_of : List (Bor Text × code.Spot) → Firsts
firsts_of es = map (λ e. (e.0.now, spot_view e.1)) es

-- a table is looked up as its list is
pub noted_first : (id : Text) (es : List (Bor Text × code.Spot)) → option_map spot_view (lookup (λ k. bytes_eq id k.now) es) ≡ first_of id (map (λ e. (e.0.now, spot_view e.1)) es)
noted_first id [] = refl
noted_first id (e ∷ es) =
    mapped_if (bytes_eq id e.0.now) e.1 (lookup (λ k. bytes_eq id k.now) es)
    ∙ ap (λ o. cond (bytes_eq id e.0.now) (Some (spot_view e.1)) o) (noted_first id es)

-- a table with one more, whose id isn't there
more_if : (id : Bor Text) (spot : code.Spot) (e : Bor Text × code.Spot) (es : List (Bor Text × code.Spot)) (b : Bool) → cond b (Some (spot_view e.1)) (first_of id.now (firsts_of es)) ≡ None
    → (first_of id.now (firsts_of es) ≡ None → firsts_of (insert_entry (λ a b. bytes_eq a.now b.now) es id spot) ≡ firsts_of es ++ (id.now, spot_view spot) ∷ [])
    → firsts_of (if b then (e.0, spot) ∷ es else e ∷ insert_entry (λ a b. bytes_eq a.now b.now) es id spot) ≡ firsts_of (e ∷ es) ++ (id.now, spot_view spot) ∷ []
more_if id spot e es true h more = absurd cc
more_if id spot e es false h more = ap (λ l. (e.0.now, spot_view e.1) ∷ l) (more h)

pub noted_more : (id : Bor Text) (spot : code.Spot) (es : List (Bor Text × code.Spot)) → first_of id.now (firsts_of es) ≡ None
    → firsts_of (insert_entry (λ a b. bytes_eq a.now b.now) es id spot) ≡ firsts_of es ++ (id.now, spot_view spot) ∷ []
noted_more id spot [] h = refl
noted_more id spot (e ∷ es) h = more_if id spot e es (bytes_eq id.now e.0.now) h (noted_more id spot es)

module _ (s : Standing) (firsts : Firsts) (ss : List Standing) where
  pub passed : id_in s.1.place ≡ None → taken firsts (s ∷ ss) ≡ taken firsts ss
  passed e = ap (λ o. taken_at o s firsts ++ taken (firsts_with o s firsts) ss) e

  pub again : (id : Text) (first : Spot) → id_in s.1.place ≡ Some id → first_of id firsts ≡ Some first → taken firsts (s ∷ ss) ≡ found_at s whole (taken_id first) ∷ taken firsts ss
  again id first e h = ap (λ o. taken_at o s firsts ++ taken (firsts_with o s firsts) ss) e ∙ ap (λ o. taken_if o s ++ taken (noted o id s firsts) ss) h

  pub first : (id : Text) → id_in s.1.place ≡ Some id → first_of id firsts ≡ None → taken firsts (s ∷ ss) ≡ taken (firsts ++ (id, spot_of s) ∷ []) ss
  first id e h = ap (λ o. taken_at o s firsts ++ taken (firsts_with o s firsts) ss) e ∙ ap (λ o. taken_if o s ++ taken (noted o id s firsts) ss) h

-- the id of a value is noted
pub id_noted : (s : Standing) (id : Bor Text) (spot : code.Spot) (es es' : List (Bor Text × code.Spot)) (found : List Found) (ss : List Standing) → Some id.now ≡ id_in s.1.place → None ≡ first_of id.now (firsts_of es)
    → es' ≡ insert_entry (λ a b. bytes_eq a.now b.now) es id spot → spot_view spot ≡ spot_of s → found ++ taken (firsts_of es') ss ≡ found ++ taken (firsts_of es) (s ∷ ss)
id_noted s id spot es es' found ss of new more there =
    ap (λ l. found ++ l)
    (ap (λ l. taken l ss) (ap firsts_of more ∙ (noted_more id spot es (sym new) ∙ ap (λ at. firsts_of es ++ (id.now, at) ∷ []) there))
    ∙ sym (first s (firsts_of es) ss id.now (sym of) (sym new)))
