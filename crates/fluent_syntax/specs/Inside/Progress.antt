-- How far a pattern was read.
use Rattle.std.specs.Prelude.{◌≡◌, ℕ, ◌<◌, Bool, false, ◌||◌, ◌==◌, List, [], ◌∷◌, ◌++◌, length, map, Some, None, Result, Ok, Err, Vec}
use Rattle.std.specs.Borrow.{Bor}
use Rattle.std.specs.Str.{bytes_eq}
use Rattle.std.specs.declared.alloc.Global.{Global}
use Rattle.fluent_text.specs.Parser.{Read, Parser, ◌<$>◌, ◌<|>◌, many_from, first, run_len}
use Rattle.fluent_ast.specs.Tree.{Element, Expression, text, placeable}
use Rattle.fluent_text.specs.Lexical.{is_text}
use Rattle.fluent_syntax.specs.Layout.{Piece, line, words, hole, elements, trim_last}
use Rattle.fluent_syntax.specs.Pieces.{inline_text, block_text, block_placeable, pattern_element, pieces}
use Rattle.fluent_syntax.specs.Expressions.{level}
use Rattle.fluent_syntax.specs.Inside.PieceView.{piece_view}
use Rattle.fluent_syntax.specs.Inside.Pushing.{Appends}
use Rattle.fluent_syntax.specs.Inside.Reading.{Gives, all}
use Rattle.fluent_syntax.specs.declared.parser.piece.Piece as code
use Rattle.fluent_syntax.specs.declared.parser.stop.Stop.{Stop}
use Rattle.fluent_syntax.specs.declared.parser.stop.Stop.TheVariants.{Absent, Memory}
use Rattle.fluent_syntax.specs.declared.parser.first_line.Line.{Line}
use Rattle.fluent_syntax.specs.declared.parser.first_line.Line.TheVariants.{Whole, Open}

-- a byte that no text of an indented line begins with
abbrev pub closes_pattern : ℕ → Bool
closes_pattern c = ((c == 91 || c == 42) || c == 46) || c == 125

-- where neither text nor a brace stands next, no line that follows goes on with the pattern
abbrev pub LineEndsPattern : List ℕ → Type 0
LineEndsPattern s = run_len is_text s ≡ 0 → (first s == 123) ≡ false → (n : ℕ) → pattern_element (level n).braces s ≡ None

-- these pieces and those that follow them
abbrev pub goes_on : ℕ → List Piece → Parser (List Piece)
goes_on n ps = λ s. many_from ◌++◌ (pattern_element (level n).braces) (length s) ps s

-- these pieces stand between the start of a pattern and what is left of it
abbrev pub Reached : ℕ → List ℕ → List Piece → List ℕ → Type 0
Reached n whole [] s = s ≡ whole
Reached n whole (p ∷ ps) s = pieces (level n).braces whole ≡ goes_on n (p ∷ ps) s

-- the pieces of a pattern that ends here; with none of them there is no pattern
abbrev pub ended : List Piece → Parser (List Piece)
ended [] = λ s. None
ended (p ∷ ps) = λ s. Some (p ∷ ps, s)

-- an element that no line end stands after, as a piece
abbrev pub piece_of : Element → Piece
piece_of (text u) = words (record { indent = None; bytes = u; fed = false })
piece_of (placeable x) = hole x

-- no text is empty or a line feed by itself
abbrev pub Plain : List Element → Type 0
Plain [] = Unit {0}
Plain (text u ∷ es) = (0 < length u) × (bytes_eq u (10 ∷ []) ≡ false) × Plain es
Plain (placeable x ∷ es) = Plain es

-- elements of one line
abbrev pub pieces_of : List Element → List Piece
pieces_of es = map piece_of es

-- these elements of one line stand between the start of a pattern and what is left of it
abbrev pub InLine : ℕ → List ℕ → List Element → List ℕ → Type 0
InLine n whole es s = Reached n whole (pieces_of es) s × Plain es

-- what the elements of a pattern's first line say: they are the pattern but for the spaces at its end, or the pattern may go on after them
abbrev pub IsFirstLine : ℕ → List ℕ → List Element → Line → Type 0
IsFirstLine n whole es (Whole rest) = (ps : List Piece) × (pieces (level n).braces whole ≡ ended ps rest.now) × (elements ps ≡ trim_last es) × (length ps ≡ length es)
IsFirstLine n whole es (Open rest) = Reached n whole (pieces_of es) rest.now

-- inline_text | block_text, and inline_placeable | block_placeable: together the elements of a pattern
abbrev pub text_pieces : Parser (List Piece)
text_pieces = ((λ w. words w ∷ []) <$> inline_text) <|> ((λ p. line p.0 ∷ words p.1 ∷ []) <$> block_text)

abbrev pub hole_pieces : ℕ → Parser (List Piece)
hole_pieces n = ((λ x. hole x ∷ []) <$> (level n).braces) <|> block_placeable (level n).braces

-- the pieces that were read, one at least, stand after those that were there
abbrev pub PushesPieces : Result (Bor (List ℕ)) Stop → Vec code.Piece Global → Vec code.Piece Global → Read (List Piece) → Type 0
PushesPieces (Ok rest) old new r = (q : Piece) × (qs : List Piece) × (r ≡ Some (q ∷ qs, rest.now)) × Appends piece_view old new (q ∷ qs)
PushesPieces (Err Absent) old new r = (r ≡ None) × (all piece_view new ≡ all piece_view old)
PushesPieces (Err Memory) old new r = Unit {0}

-- the result is what a rule gives of every text between whose start and s these pieces stand
abbrev pub GivesWhole : {A B : Type 0} → ℕ → List Piece → List ℕ → (A → B) → Result (A × Bor (List ℕ)) Stop → (Parser Expression → Parser B) → Type 0
GivesWhole n ps s view result rule = (whole : List ℕ) → Reached n whole ps s → Gives view result (rule (level n).braces whole)
