-- What is reported of findings: which, in which order, and what of each.
use Rattle.std.specs.Prelude.{ℕ, Bool, true, false, not, List, [], ◌∷◌, ◌++◌, map, count_by, codes, if◌then◌else◌}
use Rattle.std.specs.Borrow.{Bor}
use Rattle.std.specs.Fmt.{decimal}
use Rattle.std.specs.List.{list_any}
use Rattle.std.specs.Ordering.{is_lt, nat_cmp, ordering_then}
use Rattle.std.specs.Str.{bytes_eq}
use Rattle.fluent_ast.specs.Tree.{Text}
use Rattle.fluent_patterns.specs.Found.{Found}
use Rattle.fluent_patterns.specs.Problems.{is_error, name_of}
use Rattle.fluent_sources.specs.Causes.{Folded, folded, others_text}
use Rattle.fluent_sources.specs.Files.{Read}
use Rattle.fluent_sources.specs.Positions.{column_at, found_text, line_at, name_at}
use Rattle.fluent_sources.specs.Wording.{entry_text}
use Rattle.fluent_cli_report.specs.Pages.{line_in, pages_of}
use Rattle.fluent_cli_report.specs.Sorting.{sorted_by}

-- ---- which findings

-- those whose problem has none of these names
abbrev pub is_left : List (Bor Text) → Found → Bool
is_left allowed f = not (list_any (λ name. bytes_eq name.now (name_of f.problem)) allowed)

abbrev pub if_left : List (Bor Text) → Found → List Found
if_left allowed f = if is_left allowed f then f ∷ [] else []

abbrev pub left_of : List (Bor Text) → List Found → List Found
left_of allowed [] = []
left_of allowed (f ∷ fs) = if_left allowed f ++ left_of allowed fs

-- by file, then by byte
abbrev pub is_before : Found → Found → Bool
is_before f g = is_lt (ordering_then (nat_cmp f.spot.file g.spot.file) (nat_cmp f.spot.at g.spot.at))

abbrev pub in_order : List Found → List Found
in_order found = sorted_by is_before found

-- ---- what of each

pub record Row : Type 0 where
  pub file : Text
  pub line : ℕ
  pub column : ℕ
  pub is_error : Bool
  -- of the problem
  pub name : Text
  -- its value or attribute, empty where it is of none
  pub entry : Text
  pub text : Text
  -- the line of the file in which it stands, empty where there is none
  pub source : Text

abbrev pub row_of : List Read → Found → Row
row_of reads f = record {
  file = name_at reads f.spot.file;
  line = line_at reads f.spot;
  column = column_at reads f.spot;
  is_error = is_error f.problem;
  name = name_of f.problem;
  entry = entry_text f.place;
  text = found_text reads f;
  source = line_in (pages_of reads) f.spot.file (line_at reads f.spot);
}

abbrev pub severity : Bool → Text
severity true = codes "error"
severity false = codes "warning"

-- FILE:LINE:COLUMN: WORD: TEXT
abbrev pub line_with : Text → Row → Text
line_with word r =
    r.file ++ (codes ":" ++ (decimal r.line ++ (codes ":" ++ (decimal r.column ++ (codes ": " ++ (word ++ (codes ": " ++ (r.text ++ 10 ∷ []))))))))

abbrev pub line_text : Row → Text
line_text r = line_with (severity r.is_error) r

-- without those whose line was there before, or is among these
abbrev pub kept_after : List Read → List Text → List Found → List Found
kept_after reads lines [] = []
kept_after reads lines (f ∷ fs) =
    if list_any (bytes_eq (line_text (row_of reads f))) lines then kept_after reads lines fs
    else f ∷ kept_after reads (lines ++ line_text (row_of reads f) ∷ []) fs

abbrev pub kept : List Read → List Found → List Found
kept reads found = kept_after reads [] found

-- findings in files, in order, each line once
unfoldable pub kept_in_order : List Read → List Found → List Found
kept_in_order reads found = kept reads (in_order found)

-- their rows
abbrev pub rows_in_order : List Read → List Found → List Row
rows_in_order reads found = map (row_of reads) (kept_in_order reads found)

-- the row of a finding that stands for others, too
abbrev pub folded_row : List Read → Folded → Row
folded_row reads x = record (row_of reads x.found) { text = found_text reads x.found ++ others_text x.others }

-- the rows that are told of them, where findings of one cause are folded or not
abbrev pub told_rows : Bool → List Read → List Found → List Row
told_rows folds reads found = if folds then map (folded_row reads) (folded found) else map (row_of reads) found

-- those that are left by the names of problems that are allowed
abbrev pub rows_of : List Read → List (Bor Text) → List Found → List Row
rows_of reads allowed found = rows_in_order reads (left_of allowed found)

abbrev pub rows_told : Bool → List Read → List (Bor Text) → List Found → List Row
rows_told folds reads allowed found = told_rows folds reads (kept_in_order reads (left_of allowed found))

abbrev pub errors_in : List Row → ℕ
errors_in rows = count_by (λ r. r.is_error) rows

abbrev pub warnings_in : List Row → ℕ
warnings_in rows = count_by (λ r. not r.is_error) rows
