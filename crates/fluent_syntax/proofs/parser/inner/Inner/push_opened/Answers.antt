use Rattle.std.proofs.Common.{◌∷◌, [], ◌++◌, refl, sym, ap, map, ◌∙◌}
use Rattle.std.proofs.lemmas.List.{map-append}
use Rattle.fluent_ast.specs.View.{key_view, pattern_view, variant_view}
use Rattle.fluent_syntax.specs.Inside.Reading.{all}
use Rattle.fluent_syntax.proofs.Views.{view_variant}
use Rattle.fluent_syntax.proofs.parser.inner.Inner.push_opened.Goals as goal

pub returns-in_ok-push-in-Ok : goal.returns-in_ok-push-in-Ok
returns-in_ok-push-in-Ok g c =
    let k = c.in-Some.key in
    let p = c.in-Ok.value in
    let d = c.args.default in (
      (key_view k, pattern_view p, d),
      rw (sym c.in-Some.ensures, c.in-Ok.ensures) refl,
      ap (map variant_view) c.in_ok-push-in-Ok.ensures.items ∙ (map-append variant_view c.args.found.now.items _ ∙ ap (λ v. all variant_view c.args.found.now ++ v ∷ []) (view_variant k p d)),
    )
