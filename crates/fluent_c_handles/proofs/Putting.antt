-- Functions that are put into a bundle one after the other.
use Rattle.std.proofs.Common.{◌≡◌, ℕ, ◌+◌, ◌<◌, List, [], ◌∷◌, ◌++◌, length, get_or, map, take, string_bytes, String, Global, refl, sym, ap, ◌∙◌, arith}
use Rattle.std.proofs.lemmas.List.{get_or-map, length-map, take_more}
use Rattle.fluent_ast.specs.Tree.{Text}
use Rattle.fluent_semantics.specs.Bundle.{Bundle}
use Rattle.fluent_bundle.specs.BundleView.{KeepsSettings}
use Rattle.fluent_answers.specs.Tables.{Table}
use Rattle.fluent_c_handles.specs.Answers.{Code}
use Rattle.fluent_c_handles.specs.Inside.Put.{put_all, put_one, with_functions}
use Rattle.fluent_c_handles.proofs.Family.{snoc}

module _ (t : Table) (xs : List (String Global)) (k : ℕ) (x : String Global) (name : Text) (old a b : Bundle Text) where
  pub one_more : k < length xs → x ≡ get_or xs k x → name ≡ string_bytes x
      → a ≡ with_functions t (take k (map string_bytes xs)) old → b ≡ record a { ids = put_one t name a.ids }
      → b ≡ with_functions t (take (k + 1) (map string_bytes xs)) old
  one_more lt is named so_far this =
      let ns : List Text = map string_bytes xs in
      let so : List Text = take k ns in
      let long : length ns ≡ length xs = length-map xs string_bytes in
      let here : get_or ns k (string_bytes x) ≡ string_bytes x = get_or-map string_bytes xs k x (string_bytes x) lt ∙ ap string_bytes (sym is) in
      let more : take (k + 1) ns ≡ so ++ string_bytes x ∷ [] = take_more ns k (string_bytes x) (omega (arith, long, lt)) ∙ ap (λ n. so ++ n ∷ []) here in
      this
      ∙ (ap (λ (c : Bundle Text). record c { ids = put_one t name c.ids }) so_far
      ∙ (ap (λ n. record old { ids = put_one t n (put_all t so old.ids) }) named
      ∙ (ap (λ ids. record old { ids = ids }) (sym (snoc t so (string_bytes x) old.ids))
      ∙ ap (λ l. with_functions t l old) (sym more))))

pub keeps_then : (a b c : Code) → KeepsSettings a b → KeepsSettings b c → KeepsSettings a c
keeps_then a b c p q = record {
  beside = record { locales = q.beside.locales ∙ p.beside.locales; intls = q.beside.intls ∙ p.beside.intls };
  transform = q.transform ∙ p.transform;
  formatter = q.formatter ∙ p.formatter;
}
