use Rattle.std.proofs.Common.{rules, ◌≡◌, ◌∙◌, sym, Bool, true, false, List, ◌∷◌, map, string_bytes, String, Global, nat_eq, codes, Some, None, refl}
use Rattle.std.specs.List.{list_all, starts_with}
use Rattle.std.proofs.lemmas.List.Folds.{list_all-map}
use Rattle.fluent_ast.specs.Tree.{Text}
use Rattle.fluent_show_words.specs.Words.{Options, name_and_value, is_argument, asked_from}
use Rattle.fluent_show_words.specs.WordsView.{options_view}
use Rattle.fluent_show_words.proofs.request.Request.from_id.Goals as goal

-- the words split, with the two tests on them
asked : (options : Options) (ok : Bool) (words rest : List (String Global)) (word : String Global) (id : Text) → words ≡ word ∷ rest → id ≡ string_bytes word
    → false ≡ starts_with nat_eq id (codes "--") → list_all is_argument (map string_bytes rest) ≡ ok
    → asked_from options (map string_bytes words) ≡ elim ok [ true ↦ Some (record { options = options; id = id; arguments = map name_and_value (map string_bytes rest) }) | false ↦ None ]
asked options true words rest word id split named no_option arguments = rw split (rw (← named) (rw (← no_option) (rw arguments refl)))
asked options false words rest word id split named no_option arguments = rw split (rw (← named) (rw (← no_option) (rw arguments refl)))

pub returns : goal.returns
returns c = sym (asked (options_view c.args.options) true c.args.words.now c.in_ok-id.arguments.now c.in_ok-id.id.now c.as_str-2.result.now (search rules) (search rules) (search rules)
    (list_all-map is_argument string_bytes c.in_ok-id.arguments.now ∙ search rules))

pub returns-then-not-are_arguments : goal.returns-then-not-are_arguments
returns-then-not-are_arguments c = sym (asked (options_view c.args.options) false c.args.words.now c.in_ok-id.arguments.now c.in_ok-id.id.now c.as_str.result.now (search rules) (search rules) (search rules)
    (list_all-map is_argument string_bytes c.in_ok-id.arguments.now ∙ search rules))
