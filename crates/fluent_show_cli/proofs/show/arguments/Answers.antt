use Rattle.std.proofs.Common.{◌≡◌, ◌∙◌, sym, ap, ℕ, ◌+◌, ◌<◌, List, ◌∷◌, drop, length, get_or, map, String, string_bytes, Global}
use Rattle.std.proofs.lemmas.List.{drop_all, drop_more}
use Rattle.fluent_ast.specs.Tree.{Text}
use Rattle.fluent_semantics.specs.Arguments.{Map, set, set_all}
use Rattle.fluent_semantics.specs.Value.{Value, try_number}
use Rattle.fluent_show_cli.specs.Program.{argument}
use Rattle.fluent_show_words.specs.Words.{name_and_value}
use Rattle.fluent_show_cli.specs.Inside.BundleView.{args_view}
use Rattle.fluent_show_cli.proofs.show.arguments.Goals as goal

-- arguments, after those of words were set
abbrev set_words : List (String Global) → Map (Value Text) → Map (Value Text)
set_words words args = set_all (map argument (map name_and_value (map string_bytes words))) args

-- where one word was set, those of the words after it are left
words_left : (words : List (String Global)) (i : ℕ) (word : String Global) (name value : Text) (v : Value Text) (old new all : Map (Value Text)) → i < length words → word ≡ get_or words i word
    → (name, value) ≡ name_and_value (string_bytes word) → v ≡ try_number value → new ≡ set name v old → set_words (drop i words) old ≡ all → set_words (drop (i + 1) words) new ≡ all
words_left words i word name value v old new all within is pair number sets so_far =
    let rest = drop (i + 1) words in
    ap (set_words rest) (sets ∙ ap (λ x. set name x old) number ∙ ap (λ (p : Text × Text). set p.0 (try_number p.1) old) pair)
    ∙ ap (λ w. set_words (w ∷ rest) old) is
    ∙ sym (ap (λ ws. set_words ws old) (drop_more words i word within))
    ∙ so_far

pub loop-word-preserved : goal.loop-word-preserved
loop-word-preserved c =
    words_left c.args.words.now c.loop-word.word-index c.word-item.result _ _ _ (args_view c.loop-word.args) (args_view c.set.new.self) _ c.loop-word-test.true c.word-item.is
    (c.name_and_value.ensures ∙ ap name_and_value c.as_str.ensures.value) c.try_number.ensures c.in_ok-set.ensures.ok c.loop-word.invariant

pub returns : goal.returns
returns c =
    sym (ap (λ ws. set_words ws (args_view c.loop-word.args)) (drop_all c.loop-word.word-index c.args.words.now c.loop-word-test.false)) ∙ c.loop-word.invariant
