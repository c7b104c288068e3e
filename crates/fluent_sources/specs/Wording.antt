-- The text of a problem.
use Rattle.std.specs.Prelude.{ℕ, Bool, true, false, [], ◌++◌, Option, Some, None, codes}
use Rattle.std.specs.Fmt.{decimal}
use Rattle.std.specs.Str.{bytes_eq}
use Rattle.fluent_ast.specs.Tree.{Text, Attribute, no_attribute, attribute}
use Rattle.fluent_places.specs.Places.{Place, of_message, of_term}
use Rattle.fluent_reasons.specs.ExpectedText.{expected_text}
use Rattle.fluent_patterns.specs.Found.{Spot, Problem, unreadable, taken_id, function_id, repeated_attribute, missing_message, missing_attribute, missing_value, missing_term, missing_term_attribute, missing_function, not_a_function, cycle, too_many_placeables, may_open_too_many, leads_to, not_given, unused_argument, no_number, no_category, never_comes, repeated_variant, not_translated, value_not_translated, value_not_in_reference, not_in_reference, unknown_variable, variable_left_out, term_left_out, function_left_out}

-- ---- places, as they are written in a reference

abbrev pub attribute_text : Attribute → Text
attribute_text no_attribute = []
attribute_text (attribute name) = codes "." ++ name

abbrev pub place_text : Place → Text
place_text (of_message id a) = id ++ attribute_text a
place_text (of_term id a) = codes "-" ++ (id ++ attribute_text a)

-- nothing where there is none
abbrev pub entry_text : Option Place → Text
entry_text None = []
entry_text (Some place) = place_text place

-- ---- the forms of texts: of a part of an entry, and of an entry itself

-- before, name, after (in 'own')
abbrev pub said_in : Text → Text → Text → Text → Text
said_in own before name after = before ++ (name ++ (after ++ (codes " (in '" ++ (own ++ codes "')"))))

-- 'own' before, name, after
abbrev pub said_of : Text → Text → Text → Text → Text
said_of own before name after = codes "'" ++ (own ++ (codes "'" ++ (before ++ (name ++ after))))

-- 'term' before, name (in 'own')
abbrev pub said_given : Text → Text → Text → Text → Text
said_given own term before name = codes "'" ++ (term ++ said_in own before name [])

abbrev pub taken_text : Text → Text → Text
taken_text own first = codes "the id of " ++ said_of own (codes " is taken by ") first []

-- opens: " can open " or " may open "
abbrev pub too_many_text : Text → Text → ℕ → ℕ → Text
too_many_text own opens count limit =
    said_of own opens (decimal count) (codes " placeables, and no more than " ++ (decimal limit ++ codes " are opened"))

-- of an entry that refers to itself, or to one that leads back to it
abbrev pub round_text : Bool → Text → Text → Text
round_text true own next = said_of own (codes " refers to itself") [] []
round_text false own next = said_of own (codes " refers to '") next (codes "', which leads back to it")

abbrev pub cycle_text : Text → Text → Text
cycle_text own next = round_text (bytes_eq own next) own next

-- of what begins in a line and can't be read, by what was expected
abbrev pub unread_text : Text → ℕ → Text
unread_text what line = what ++ (codes "; what begins in line " ++ (decimal line ++ codes " can't be read"))

-- by the text of its entry, the line where it begins if it can't be read, and how another spot is shown
abbrev pub text_of : (ℕ → ℕ) → (Spot → Text) → Text → Problem → Text
text_of line shown own (unreadable start expected) = unread_text (expected_text expected) (line start)
text_of line shown own (taken_id first) = taken_text own (shown first)
text_of line shown own function_id = codes "the id of " ++ said_of own (codes " is that of a function") [] []
text_of line shown own repeated_attribute = said_of own (codes " stands there twice, and the first counts") [] []
text_of line shown own (missing_message id) = said_in own (codes "no message '") id (codes "'")
text_of line shown own (missing_attribute id a) = said_in own (codes "no attribute '") (id ++ (codes "." ++ a)) (codes "'")
text_of line shown own (missing_value id) = said_in own (codes "no value of message '") id (codes "'")
text_of line shown own (missing_term id) = said_in own (codes "no term '-") id (codes "'")
text_of line shown own (missing_term_attribute id a) = said_in own (codes "no attribute '-") (id ++ (codes "." ++ a)) (codes "'")
text_of line shown own (missing_function id) = said_in own (codes "no function '") id (codes "', unless the application adds it")
text_of line shown own (not_a_function id) = said_in own (codes "no function '") id (codes "': a message or a term has that id")
text_of line shown own (cycle next) = cycle_text own (place_text next)
text_of line shown own (too_many_placeables count limit) = too_many_text own (codes " can open ") count limit
text_of line shown own (may_open_too_many count limit) = too_many_text own (codes " may open ") count limit
text_of line shown own (leads_to place) = said_of own (codes " refers to '") (place_text place) (codes "', where something is wrong")
text_of line shown own (not_given v term) = said_given own (place_text term) (codes "' is not given $") v
text_of line shown own (unused_argument v term) = said_given own (place_text term) (codes "' doesn't use $") v
text_of line shown own no_number = said_in own (codes "NUMBER of what is no number") [] []
text_of line shown own (no_category key) = said_in own (codes "no variant [") key (codes "]")
text_of line shown own (never_comes key) = said_in own (codes "[") key (codes "] never comes in this language")
text_of line shown own (repeated_variant key) = said_in own (codes "[") key (codes "] stands there twice, and the first counts")
text_of line shown own value_not_translated = codes "the value of '" ++ (own ++ codes "' is not translated")
text_of line shown own value_not_in_reference = codes "the value of '" ++ (own ++ codes "' is not in the reference")
text_of line shown own not_translated = said_of own (codes " is not translated") [] []
text_of line shown own not_in_reference = said_of own (codes " is not in the reference") [] []
text_of line shown own (unknown_variable v) = said_of own (codes " asks for $") v (codes ", and the reference doesn't")
text_of line shown own (variable_left_out v) = said_of own (codes " doesn't ask for $") v (codes ", and the reference does")
text_of line shown own (term_left_out term) = said_of own (codes " doesn't refer to '") (place_text term) (codes "', and the reference does")
text_of line shown own (function_left_out id) = said_of own (codes " doesn't call ") id (codes ", and the reference does")
