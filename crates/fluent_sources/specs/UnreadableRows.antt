-- A worked text of what can't be read.
use Rattle.std.proofs.Common.{◌≡◌, List, [], ◌∷◌, ◌++◌, false, refl}
use Rattle.std.specs.Fmt as fmt
use Rattle.std.specs.Prelude.{codes}
use Rattle.fluent_reasons.specs.declared.expected.Expected.TheVariants as expected
use Rattle.fluent_patterns.specs.Found.{Found}
use Rattle.fluent_sources.specs.Files.{Read}
use Rattle.fluent_sources.specs.Positions.{found_text, spot_text}
use Rattle.fluent_sources.specs.Unreadable.{unreadable_by}

-- a select without a default, in the second entry
abbrev files : List Read
files = record { name = codes "pl.ftl"; text = codes "a = 1\nb = { $n ->\n [one] x\n}\n"; had_mark = false } ∷ []

abbrev found : Found
found = unreadable_by 0 6 (record { offset = 21; expected = expected.DefaultVariant })

-- it stands where the default is missed
row_spot : spot_text files found.spot ≡ codes "pl.ftl:4:1"
unfolding fmt.digits
row_spot = refl

row_text : found_text files found ≡ codes "expected a default variant, marked by '*'; what begins in line 2 can't be read"
unfolding fmt.digits
row_text = refl
