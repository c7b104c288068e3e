-- Where attributes, references, selects and variants stand in an entry: a scan of its bytes.
use Rattle.std.specs.Prelude.{ℕ, ◌+◌, Bool, not, ◌&&◌, ◌||◌, ◌==◌, if◌then◌else◌, List, [], ◌∷◌, ◌++◌, length, take, drop}
use Rattle.fluent_text.specs.Parser.{Text, first, run_len}
use Rattle.fluent_text.specs.Lexical.{is_letter, is_identifier_byte}
use Rattle.fluent_patterns.specs.declared.marks.What.{What}
use Rattle.fluent_patterns.specs.declared.marks.What.TheVariants.{Attribute, Reference, Select, Variant}
use Rattle.fluent_patterns.specs.declared.marks.Mark.{Mark}
use Rattle.fluent_patterns.specs.declared.marks.Mode.{Mode}
use Rattle.fluent_patterns.specs.declared.marks.Mode.TheVariants.{LineStart, Words, Code, Name, Quoted, Escaped}
use Rattle.fluent_patterns.specs.declared.marks.Brace.{Brace}

abbrev pub mark : What → ℕ → Mark
mark what at = record { what = what; at = at }

abbrev pub brace : ℕ → Mode → Brace
brace at outside = record { at = at; outside = outside }

-- what a scan has: where it is, the open braces, the innermost first, and the marks so far
pub record Scan : Type 0 where
  pub mode : Mode
  pub braces : List Brace
  pub marks : List Mark

-- where an entry begins
abbrev pub begin : Scan
begin = record { mode = Words; braces = []; marks = [] }

abbrev pub go_on : Mode → Scan → Scan
go_on m s = record s { mode = m }

abbrev pub note : What → ℕ → Scan → Scan
note what at s = record s { marks = s.marks ++ mark what at ∷ [] }

-- ---- braces

-- into a brace: code stands in it
abbrev pub enter : ℕ → Mode → Scan → Scan
enter at outside s = record s { mode = Code; braces = brace at outside ∷ s.braces }

-- out of the innermost brace; where none is open, on in the text
abbrev pub leave_from : List Brace → Scan → Scan
leave_from [] s = go_on Words s
leave_from (b ∷ others) s = record s { mode = b.outside; braces = others }

abbrev pub leave : Scan → Scan
leave s = leave_from s.braces s

-- the select of the innermost brace, whose variants are text
abbrev pub select_in : List Brace → Scan → Scan
select_in [] s = s
select_in (b ∷ others) s = note Select b.at s

abbrev pub begin_variants : Scan → Scan
begin_variants s = go_on Words (select_in s.braces s)

abbrev pub is_inside : Scan → Bool
is_inside s = not (length s.braces == 0)

-- ---- text

-- "{", "}", a line feed, and anything else
abbrev pub in_words : ℕ → ℕ → Scan → Scan
in_words at b s =
    if b == 123 then enter at Words s
    else (if b == 125 then leave s
    else (if b == 10 then go_on LineStart s
    else go_on Words s))

-- "." begins an attribute, and "[" or "*" in a brace a variant
abbrev pub note_part : ℕ → ℕ → Scan → Scan
note_part at b s =
    if b == 46 && not (is_inside s) then note Attribute at s
    else (if (b == 91 || b == 42) && is_inside s then note Variant at s
    else s)

-- where only spaces stand before it on its line
abbrev pub at_line_start : ℕ → ℕ → Scan → Scan
at_line_start at b s = if b == 32 then s else in_words at b (note_part at b s)

-- ---- code

-- a space or a byte of a line end
abbrev pub is_blank : ℕ → ℕ → Bool
is_blank b next = (b == 32 || b == 10) || b == 13

abbrev pub after : (ℕ → ℕ → Bool) → Text → Text
after p s = drop (run_len p s) s

-- the name that ends here or goes on with these bytes is that of an argument: ":" follows
abbrev pub is_label : Text → Bool
is_label rest = first (after is_blank (after is_identifier_byte rest)) == 58

-- a letter, or "$" or "-" before one
abbrev pub begins_name : ℕ → Text → Bool
begins_name b rest = is_letter b || ((b == 36 || b == 45) && is_letter (first rest))

abbrev pub note_name : ℕ → Text → Scan → Scan
note_name at rest s = if is_label rest then s else note Reference at s

-- a quote, "{", "}", "->", a name, and anything else
abbrev pub in_code : ℕ → ℕ → Text → Scan → Scan
in_code at b rest s =
    if b == 34 then go_on Quoted s
    else (if b == 123 then enter at Code s
    else (if b == 125 then leave s
    else (if b == 45 && first rest == 62 then begin_variants s
    else (if begins_name b rest then go_on Name (note_name at rest s)
    else go_on Code s))))

-- in a name, or in that of an attribute behind it and a dot
abbrev pub in_name : ℕ → ℕ → Text → Scan → Scan
in_name at b rest s = if is_identifier_byte b 0 || b == 46 then s else in_code at b rest s

-- a backslash, a quote, and anything else
abbrev pub in_quotes : ℕ → Scan → Scan
in_quotes b s = if b == 92 then go_on Escaped s else (if b == 34 then go_on Code s else s)

-- ---- the scan

abbrev pub step_in : Mode → ℕ → ℕ → Text → Scan → Scan
step_in LineStart at b rest s = at_line_start at b s
step_in Words at b rest s = in_words at b s
step_in Code at b rest s = in_code at b rest s
step_in Name at b rest s = in_name at b rest s
step_in Quoted at b rest s = in_quotes b s
step_in Escaped at b rest s = go_on Quoted s

-- over the byte at an offset, which others follow
abbrev pub step : ℕ → ℕ → Text → Scan → Scan
step at b rest s = step_in s.mode at b rest s

unfoldable pub scan : ℕ → Text → Scan → Scan
scan at [] s = s
scan at (b ∷ rest) s = scan (at + 1) rest (step at b rest s)

-- the bytes of a text from one offset up to another
abbrev pub between : ℕ → ℕ → Text → Text
between from to s = drop from (take to s)

-- the marks of the entry that stands there in a text, as they are come upon
abbrev pub marks : ℕ → ℕ → Text → List Mark
marks from to s = (scan from (between from to s) begin).marks
