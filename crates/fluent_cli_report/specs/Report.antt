-- What is written of rows.
use Rattle.std.specs.Prelude.{ℕ, ◌==◌, Bool, List, [], ◌∷◌, ◌++◌, flat_map, codes, encode_utf8, if◌then◌else◌}
use Rattle.std.specs.Fmt.{decimal}
use Rattle.std.specs.Str.{chars}
use Rattle.fluent_ast.specs.Tree.{Text}
use Rattle.fluent_cli_words.specs.declared.request.Format.{Format}
use Rattle.fluent_cli_words.specs.declared.request.Format.TheVariants as format
use Rattle.fluent_cli_report.specs.Json.{json_report}
use Rattle.fluent_cli_report.specs.Picture.{picture}
use Rattle.fluent_cli_report.specs.Rows.{Row, severity}
use Rattle.fluent_cli_report.specs.Sarif.{sarif_report}
use Rattle.fluent_cli_report.specs.Told.{is_told}
use Rattle.fluent_cli_report.specs.declared.options.Look.{Look}

abbrev pub if_told : (Row → Text) → Bool → Row → Text
if_told shown little r = if is_told little r then shown r else []

-- ---- lines for people

abbrev pub text_report : Look → Bool → List Row → Text
text_report look little rows = flat_map (if_told (picture look) little) rows

-- ---- commands of GitHub's workflows

-- a character of a message
abbrev pub in_message : ℕ → Text
in_message c =
    if c == 37 then codes "%25" else (if c == 13 then codes "%0D" else (if c == 10 then codes "%0A" else encode_utf8 c))

-- a character of a property, which a colon or a comma would end
abbrev pub in_property : ℕ → Text
in_property c = if c == 58 then codes "%3A" else (if c == 44 then codes "%2C" else in_message c)

abbrev pub message_text : Text → Text
message_text text = flat_map in_message (chars text)

abbrev pub property_text : Text → Text
property_text text = flat_map in_property (chars text)

-- ::error file=FILE,line=LINE,col=COLUMN,title=NAME::TEXT
abbrev pub github_line : Row → Text
github_line r =
    codes "::" ++ (severity r.is_error ++ (codes " file=" ++ (property_text r.file ++ (codes ",line=" ++ (decimal r.line ++ (codes ",col=" ++ (decimal r.column ++ (codes ",title=" ++ (r.name ++ (codes "::" ++ (message_text r.text ++ 10 ∷ [])))))))))))

abbrev pub github_report : Bool → List Row → Text
github_report little rows = flat_map (if_told github_line little) rows

-- ---- in a format

-- the rows that are told
unfoldable pub report : Format → Look → Bool → List Row → Text
report format.Text look little rows = text_report look little rows
report format.Json look little rows = json_report little rows
report format.Github look little rows = github_report little rows
report format.Sarif look little rows = sarif_report little rows
