-- What the words give an option or an argument, by the rows of it.
use Rattle.std.proofs.Common.{◌≡◌, ◌∙◌, ◌++◌, List, Option, Some, None, ap, find, option_and_then, option_map}
use Rattle.std.specs.Borrow.{Bor}
use Rattle.std.specs.Str.{bytes_eq}
use Rattle.std.proofs.lemmas.List.{map-append}
use Rattle.clap.specs.Facts.{Entry}
use Rattle.clap.specs.Matches.{matched_of}
use Rattle.clap.specs.Walk.{Row, Text, row_of, rows_of}
use Rattle.clap.specs.declared.parser.matches.Found.{Found}
use Rattle.clap.proofs.WalkLemmas.{find-map}
use Rattle.fluent_cli_words.specs.Given.{source_of, texts}

of_row : (entry : Option Entry) (row : Option Row) → option_map row_of entry ≡ row
    → option_and_then (λ a. a.source) (option_map (λ e. e.1) entry) ≡ option_and_then (λ r. r.source) row
of_row None row is = ap (option_and_then (λ r. r.source)) is
of_row (Some entry) row is = ap (option_and_then (λ r. r.source)) is

pub source-rows : (f : Found) (id : Text) → option_and_then (λ a. a.source) (matched_of f id) ≡ source_of id (rows_of f)
source-rows f id =
    of_row (find (λ e. bytes_eq e.0.now id) f.entries.items) (find (λ r. bytes_eq r.id id) (rows_of f))
    (find-map (λ r. bytes_eq r.id id) row_of f.entries.items)

pub added : (old new found : List (Bor Text)) (values : List Text) → new ≡ old ++ found → texts found ≡ values
    → texts new ≡ texts old ++ values
added old new found values is same =
    ap texts is ∙ map-append (λ s. s.now) old found ∙ ap (λ vs. texts old ++ vs) same
