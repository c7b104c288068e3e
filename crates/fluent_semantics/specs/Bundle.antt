-- What a bundle is, and what each call makes of it: messages, terms and functions of fluent-bundle share one map of ids.
use Rattle.std.specs.Prelude.{ℕ, ◌&&◌, nat_le, List, [], ◌∷◌, ◌++◌, map, Bool, true, false, Option, Some, None, is_some, codes, if◌then◌else◌}
use Rattle.fluent_ast.specs.Tree as t
use Rattle.fluent_ast.specs.Tree.{Text, Attribute, no_attribute, attribute, Key, name_key, number_key, Pattern, Attributes, message_entry, term_entry, junk_entry}
use Rattle.fluent_semantics.specs.Number.{is_text}
use Rattle.fluent_semantics.specs.Value.{Value, text_value, Custom, Plurals, value_text, matches, try_number}
use Rattle.fluent_semantics.specs.Arguments.{Map, get, set, number_function}
use Rattle.fluent_semantics.specs.Errors.{Error, overriding, Kind, message_kind, term_kind, function_kind}

-- a function of the application: its answer to positional and named arguments
abbrev pub Function : Type 0 → Type 0
Function C = List (Value C) → Map (Value C) → Value C

-- what an id means
pub data Entry (C : Type 0) : Type 0 where
  a_message : Option Pattern → Attributes → Entry C
  a_term : Pattern → Attributes → Entry C
  a_function : Function C → Entry C
  number_builtin : Entry C

pub record Bundle (C : Type 0) : Type 0 where
  pub ids : Map (Entry C)
  pub isolates : Bool
  -- what a text element is written as, and what a value is shown as in place of its text
  pub transform : Text → Text
  pub formatter : Value C → Option Text
  pub plurals : Plurals
  pub custom : Custom C
  -- how many placeables one formatting call may open
  pub limit : ℕ

abbrev pub empty_bundle : {C : Type 0} → Plurals → Custom C → Bundle C
empty_bundle plurals custom = record { ids = []; isolates = true; transform = λ t. t; formatter = λ v. None; plurals = plurals; custom = custom; limit = 100 }

-- ---- what a reference finds

-- nothing, a message without a value, or a pattern
pub data Target : Type 0 where
  unknown : Target
  without_value : Target
  found : Pattern → Target

abbrev pub first_of : Text → Attributes → Target
first_of name [] = unknown
first_of name (a ∷ as') = if is_text a.0 name then found a.1 else first_of name as'

abbrev pub value_target : Option Pattern → Target
value_target None = without_value
value_target (Some p) = found p

-- a message's value, or its first attribute of the name
abbrev pub message_target : {C : Type 0} → Option (Entry C) → Attribute → Target
message_target (Some (a_message v as')) no_attribute = value_target v
message_target (Some (a_message v as')) (attribute name) = first_of name as'
message_target _ a = unknown

abbrev pub term_target : {C : Type 0} → Option (Entry C) → Attribute → Target
term_target (Some (a_term p as')) no_attribute = found p
term_target (Some (a_term p as')) (attribute name) = first_of name as'
term_target _ a = unknown

abbrev pub function_found : {C : Type 0} → Option (Entry C) → Option (Function C)
function_found (Some (a_function f)) = Some f
function_found (Some number_builtin) = Some number_function
function_found _ = None

abbrev pub is_message : {C : Type 0} → Option (Entry C) → Bool
is_message (Some (a_message v as')) = true
is_message _ = false

abbrev pub is_term : {C : Type 0} → Option (Entry C) → Bool
is_term (Some (a_term p as')) = true
is_term _ = false

abbrev pub is_function : {C : Type 0} → Option (Entry C) → Bool
is_function e = is_some (function_found e)

-- ---- what is written of a value, and which keys it goes to

abbrev pub unless_formatted : Option Text → Text → Text
unless_formatted (Some t) otherwise = t
unless_formatted None otherwise = otherwise

-- the formatter's answer, else the value's text
abbrev pub shown : {C : Type 0} → Bundle C → Value C → Text
shown b v = unless_formatted (b.formatter v) (value_text b.custom v)

-- an identifier key is a text, a number key what its source is as a value
abbrev pub key_value : {C : Type 0} → Key → Value C
key_value (name_key name) = text_value name
key_value (number_key source) = try_number source

abbrev pub goes_to : {C : Type 0} → Bundle C → Value C → Key → Bool
goes_to b v k = matches b.plurals (key_value k) v

-- ---- adding

-- Adding the entries of a resource in order: a free id is given its entry, any other is left. Junk is passed over.
abbrev pub add_free : {C : Type 0} → Text → Entry C → Map (Entry C) → Map (Entry C)
add_free id e ids = if is_some (get id ids) then ids else set id e ids

abbrev pub added : {C : Type 0} → List t.Entry → Map (Entry C) → Map (Entry C)
added [] ids = ids
added (message_entry id v as' ∷ es) ids = added es (add_free id (a_message v as') ids)
added (term_entry id p as' ∷ es) ids = added es (add_free id (a_term p as') ids)
added (junk_entry source ∷ es) ids = added es ids

-- each id takes its entry
abbrev pub overridden : {C : Type 0} → List t.Entry → Map (Entry C) → Map (Entry C)
overridden [] ids = ids
overridden (message_entry id v as' ∷ es) ids = overridden es (set id (a_message v as') ids)
overridden (term_entry id p as' ∷ es) ids = overridden es (set id (a_term p as') ids)
overridden (junk_entry source ∷ es) ids = overridden es ids

-- the error for an id that was there
abbrev pub error_if_taken : {C : Type 0} → Kind → Text → Map (Entry C) → List Error
error_if_taken kind id ids = if is_some (get id ids) then overriding kind id ∷ [] else []

-- the errors of adding entries, in order
abbrev pub not_added : {C : Type 0} → List t.Entry → Map (Entry C) → List Error
not_added [] ids = []
not_added (message_entry id v as' ∷ es) ids = error_if_taken message_kind id ids ++ not_added es (add_free id (a_message v as') ids)
not_added (term_entry id p as' ∷ es) ids = error_if_taken term_kind id ids ++ not_added es (add_free id (a_term p as') ids)
not_added (junk_entry source ∷ es) ids = not_added es ids

-- ---- calls

pub data Call (C : Type 0) : Type 0 where
  add_resource : List t.Entry → Call C
  add_resource_overriding : List t.Entry → Call C
  add_function : Text → Function C → Call C
  add_builtins : Call C
  set_use_isolating : Bool → Call C
  set_transform : Option (Text → Text) → Call C
  set_formatter : Option (Value C → Option Text) → Call C
  set_placeable_limit : ℕ → Call C

abbrev pub transform_of : Option (Text → Text) → Text → Text
transform_of None t = t
transform_of (Some f) t = f t

abbrev pub formatter_of : {C : Type 0} → Option (Value C → Option Text) → Value C → Option Text
formatter_of None v = None
formatter_of (Some f) v = f v

abbrev pub after : {C : Type 0} → Call C → Bundle C → Bundle C
after (add_resource es) b = record b { ids = added es b.ids }
after (add_resource_overriding es) b = record b { ids = overridden es b.ids }
after (add_function id f) b = record b { ids = add_free id (a_function f) b.ids }
after add_builtins b = record b { ids = add_free (codes "NUMBER") number_builtin b.ids }
after (set_use_isolating on) b = record b { isolates = on }
after (set_transform f) b = record b { transform = transform_of f }
after (set_formatter f) b = record b { formatter = formatter_of f }
after (set_placeable_limit n) b = if nat_le 1 n && nat_le n 10000 then record b { limit = n } else b

-- the errors that a call answers
abbrev pub answered : {C : Type 0} → Call C → Bundle C → List Error
answered (add_resource es) b = not_added es b.ids
answered (add_function id f) b = error_if_taken function_kind id b.ids
answered add_builtins b = error_if_taken function_kind (codes "NUMBER") b.ids
answered _ b = []

-- the bundle after calls in order
abbrev pub after_all : {C : Type 0} → List (Call C) → Bundle C → Bundle C
after_all [] b = b
after_all (c ∷ cs) b = after_all cs (after c b)

-- ---- stored patterns

abbrev pub patterns_of : {C : Type 0} → Entry C → List Pattern
patterns_of (a_message None as') = map (λ a. a.1) as'
patterns_of (a_message (Some p) as') = p ∷ map (λ a. a.1) as'
patterns_of (a_term p as') = p ∷ map (λ a. a.1) as'
patterns_of (a_function f) = []
patterns_of number_builtin = []

-- the patterns of all entries
abbrev pub stored_in : {C : Type 0} → Map (Entry C) → List Pattern
stored_in [] = []
stored_in (e ∷ es) = patterns_of e.1 ++ stored_in es

abbrev pub stored : {C : Type 0} → Bundle C → List Pattern
stored b = stored_in b.ids
