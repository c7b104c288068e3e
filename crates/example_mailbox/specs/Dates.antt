-- How dates are shown.
use Rattle.std.specs.Prelude.{ℕ, List, [], ◌∷◌, ◌++◌, ◌^◌, ◌-◌, Option, Some, None, false, codes, map, slice_get, unwrap_or}
use Rattle.std.specs.Fmt.{decimal, padded_integral, format_spec}
use Rattle.fluent_ast.specs.Tree.{Text}
use Rattle.fluent_semantics.specs.Value.{Value, custom_value}
use Rattle.example_mailbox.specs.declared.date.TheConstants.{ENGLISH, POLISH}
use Rattle.example_mailbox.specs.declared.date.Dates.{Dates}
use Rattle.example_mailbox.specs.declared.date.Dates.TheVariants.{English, Polish}

-- what `{:02}` writes
abbrev pub two_digits : ℕ → Text
two_digits n = padded_integral (format_spec 32 0 4 2 (2 ^ 64 - 1)) false [] (decimal n)

-- 2026-11-07
abbrev pub date_text : Text → Text
date_text (year ∷ month ∷ day ∷ []) = decimal year ++ (codes "-" ++ (two_digits month ++ (codes "-" ++ two_digits day)))
date_text _ = []

abbrev pub months_in : Dates → List Text
months_in English = map (λ name. name.now) ENGLISH
months_in Polish = map (λ name. name.now) POLISH

abbrev pub month_in : Dates → ℕ → Text
month_in f month = unwrap_or (slice_get (months_in f) month) []

-- November 7, 2026, and 7 listopada 2026
abbrev pub date_by : Dates → Text → Option Text
date_by English (year ∷ month ∷ day ∷ []) = Some (month_in English month ++ (codes " " ++ (decimal day ++ (codes ", " ++ decimal year))))
date_by Polish (year ∷ month ∷ day ∷ []) = Some (decimal day ++ (codes " " ++ (month_in Polish month ++ (codes " " ++ decimal year))))
date_by _ _ = None

abbrev pub date_in : Dates → Value Text → Option Text
date_in f (custom_value d) = date_by f d
date_in _ _ = None
