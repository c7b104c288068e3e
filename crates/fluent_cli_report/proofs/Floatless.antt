-- Values of rows have no float.
use Rattle.std.proofs.Common.{◌≡◌, ◌||◌, Bool, false, List, [], ◌∷◌, map, refl, ap, ap₂, ◌∙◌}
use Rattle.serde_json.specs.Data.{Data}
use Rattle.serde_json.specs.View.{items_of}
use Rattle.serde_json.specs.Written.{has_float, items_have_float}
use Rattle.fluent_ast.specs.Tree.{Text}
use Rattle.fluent_cli_report.specs.Json.{json_row, json_rows}
use Rattle.fluent_cli_report.specs.Rows.{Row}
use Rattle.fluent_cli_report.specs.Sarif.{sarif_log, sarif_results, sarif_row, sarif_rule, sarif_rules}
use Rattle.fluent_cli_report.specs.Told.{told}

no_float : {X : Type 0} (f : X → Data) → ((x : X) → has_float (f x) ≡ false) → (xs : List X) → items_have_float (items_of (map f xs)) ≡ false
no_float f none [] = refl
no_float f none (x ∷ xs) = ap (λ b. b || items_have_float (items_of (map f xs))) (none x) ∙ no_float f none xs

pub json_has_none : (little : Bool) (rows : List Row) → has_float (json_rows little rows) ≡ false
json_has_none little rows = no_float json_row (λ r. refl) (told little rows)

pub sarif_has_none : (names : List Text) (little : Bool) (rows : List Row) → has_float (sarif_log (sarif_rules names) (sarif_results little rows)) ≡ false
sarif_has_none names little rows =
    ap₂ (λ results rules. ((results || (((rules || false) || false) || false)) || false) || false)
    (no_float sarif_row (λ r. refl) (told little rows))
    (no_float sarif_rule (λ name. refl) names)
