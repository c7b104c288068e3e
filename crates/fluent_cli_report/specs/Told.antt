-- Which rows are told.
use Rattle.std.specs.Prelude.{Bool, ◌||◌, not, List, filter, codes}
use Rattle.std.specs.Str.{bytes_eq}
use Rattle.fluent_cli_report.specs.Rows.{Row}

-- where little is told, it is what makes the status 1: errors, and what may be one
abbrev pub is_told : Bool → Row → Bool
is_told little r = not little || (r.is_error || bytes_eq r.name (codes "may-open-too-many"))

abbrev pub told : Bool → List Row → List Row
told little rows = filter (is_told little) rows
