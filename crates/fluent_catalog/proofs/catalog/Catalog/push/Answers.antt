use Rattle.std.proofs.Common.{◌≡◌, ◌∙◌, ap, ◌∷◌, ◌++◌, [], map, List, ℕ, IsOk, arith}
use Rattle.std.specs.Borrow.{Bor}
use Rattle.std.proofs.lemmas.List.{map-append}
use Rattle.fluent_catalog.proofs.Pushed.{pushed}
use Rattle.fluent_catalog.proofs.catalog.Catalog.push.Goals as goal

pub returns-clause-tags : goal.returns-clause-tags
returns-clause-tags g c =
    let now = λ (tag : Bor (List ℕ)). tag.now in
    let room : IsOk c.push-2.result = c.push-2.ensures.succeeds (omega (arith, c.in_ok-reserve.ensures.ok)) in
    let all : c.push-2.new.self.items ≡ c.args.self.now.tags.items ++ c.args.tag ∷ [] =
    pushed c.push-2.result c.reserve.new.self.items c.push-2.new.self.items c.args.tag room c.push-2.ensures.items ∙ ap (λ ts. ts ++ c.args.tag ∷ []) c.reserve.ensures.items in
    ap (map now) all ∙ map-append now c.args.self.now.tags.items (c.args.tag ∷ [])
