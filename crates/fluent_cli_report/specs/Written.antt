-- What ends a report.
use Rattle.std.specs.Prelude.{ℕ, ◌==◌, ◌&&◌, Bool, true, false, not, [], ◌∷◌, ◌++◌, codes, if◌then◌else◌}
use Rattle.std.specs.Fmt.{decimal}
use Rattle.fluent_ast.specs.Tree.{Text}
use Rattle.fluent_cli_words.specs.declared.request.Format.{Format}
use Rattle.fluent_cli_words.specs.declared.request.Format.TheVariants as format

-- a number with its noun
abbrev pub counted : ℕ → Text → Text
counted n noun = if n == 1 then codes "1 " ++ noun else (decimal n ++ codes " ") ++ noun ++ codes "s"

-- why the status isn't 0, where the counts don't say it: by whether all files were read, whether no text may be wrong that isn't told, and whether
-- warnings count
abbrev pub reason_of : Bool → Bool → Bool → ℕ → ℕ → Text
reason_of whole well strict errors warnings =
    if not whole then codes " (status 3: a file can't be read)"
    else (if not (errors == 0) then []
    else (if strict && not (warnings == 0) then codes " (status 1: --strict)"
    else (if not well then codes " (status 1: a text may open too many placeables)" else [])))

-- the line with the counts
abbrev pub counts_line : ℕ → ℕ → Text → Text
counts_line errors warnings reason =
    counted errors (codes "error") ++ codes ", " ++ counted warnings (codes "warning") ++ reason ++ 10 ∷ []

-- JSON and SARIF have no counts
abbrev pub has_counts : Format → Bool → Bool
has_counts format.Text quiet = not quiet
has_counts format.Json quiet = false
has_counts format.Github quiet = not quiet
has_counts format.Sarif quiet = false

abbrev pub end_of : Format → Bool → ℕ → ℕ → Text → Text
end_of format quiet errors warnings reason = if has_counts format quiet then counts_line errors warnings reason else []
