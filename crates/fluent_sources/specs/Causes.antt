-- Findings of one cause: the first three stand for all.
use Rattle.std.specs.Prelude.{◌+◌, ◌-◌, ◌==◌, ◌&&◌, ℕ, Bool, List, [], ◌∷◌, ◌++◌, map, Option, Some, None, option_map, codes, nat_lt, if◌then◌else◌}
use Rattle.std.specs.Fmt.{decimal}
use Rattle.std.specs.Str.{bytes_eq}
use Rattle.fluent_ast.specs.Tree.{Text, Attribute, no_attribute, attribute}
use Rattle.fluent_places.specs.Places.{Place, of_message, of_term}
use Rattle.fluent_patterns.specs.Found.{Found, found_view, Problem, unreadable, taken_id, function_id, repeated_attribute, missing_message, missing_attribute, missing_value, missing_term, missing_term_attribute, missing_function, not_a_function, cycle, too_many_placeables, may_open_too_many, leads_to, not_given, unused_argument, no_number, no_category, never_comes, repeated_variant, not_translated, value_not_translated, value_not_in_reference, not_in_reference, unknown_variable, variable_left_out, term_left_out, function_left_out}
use Rattle.fluent_patterns.specs.Problems.{name_of}
use Rattle.fluent_sources.specs.declared.causes.Folded as code

-- ---- causes

-- an id, and the name of an attribute, which is empty where there is none
abbrev pub Subject : Type 0
Subject = Text × Text

abbrev pub attribute_or_none : Attribute → Text
attribute_or_none no_attribute = []
attribute_or_none (attribute a) = a

abbrev pub place_subject : Place → Subject
place_subject (of_message m a) = (m, attribute_or_none a)
place_subject (of_term t a) = (t, attribute_or_none a)

-- What findings of one cause speak of. What is wrong with one text alone has no cause in common.
abbrev pub subject_of : Problem → Option Subject
subject_of (unreadable start expected) = None
subject_of (taken_id first) = None
subject_of function_id = None
subject_of repeated_attribute = None
subject_of (missing_message id) = Some (id, [])
subject_of (missing_attribute id a) = Some (id, a)
subject_of (missing_value id) = Some (id, [])
subject_of (missing_term id) = Some (id, [])
subject_of (missing_term_attribute id a) = Some (id, a)
subject_of (missing_function id) = Some (id, [])
subject_of (not_a_function id) = Some (id, [])
subject_of (cycle next) = None
subject_of (too_many_placeables count limit) = None
subject_of (may_open_too_many count limit) = None
subject_of (leads_to place) = None
subject_of (not_given v term) = None
subject_of (unused_argument v term) = None
subject_of no_number = None
subject_of (no_category key) = Some (key, [])
subject_of (never_comes key) = Some (key, [])
subject_of (repeated_variant key) = None
subject_of not_translated = Some ([], [])
subject_of value_not_translated = Some ([], [])
subject_of not_in_reference = Some ([], [])
subject_of value_not_in_reference = Some ([], [])
subject_of (unknown_variable v) = None
subject_of (variable_left_out v) = Some (v, [])
subject_of (term_left_out term) = Some (place_subject term)
subject_of (function_left_out id) = Some (id, [])

-- the name of the problem, and what it speaks of
pub record Cause : Type 0 where
  pub name : Text
  pub id : Text
  pub attribute : Text

abbrev pub cause_by : Text → Subject → Cause
cause_by name subject = record { name = name; id = subject.0; attribute = subject.1 }

abbrev pub cause_of : Found → Option Cause
cause_of f = option_map (cause_by (name_of f.problem)) (subject_of f.problem)

abbrev pub same_cause : Cause → Cause → Bool
same_cause a b = bytes_eq a.name b.name && (bytes_eq a.id b.id && bytes_eq a.attribute b.attribute)

-- ---- how many have a cause

abbrev pub one_if : Cause → Option Cause → ℕ
one_if c None = 0
one_if c (Some d) = if same_cause c d then 1 else 0

abbrev pub count_of : Cause → List (Option Cause) → ℕ
count_of c [] = 0
count_of c (d ∷ ds) = one_if c d + count_of c ds

-- ---- findings, of each cause the first three

-- a finding, and how many others have its cause and are not told
pub record Folded : Type 0 where
  pub found : Found
  pub others : ℕ

-- the third stands for those behind it; by how many have the cause before it, and in all
abbrev pub others_at : ℕ → ℕ → ℕ
others_at before all = if before == 2 then all - 3 else 0

abbrev pub told_at : Found → ℕ → ℕ → List Folded
told_at f before all = if nat_lt before 3 then record { found = f; others = others_at before all } ∷ [] else []

-- what is told of a finding, by the causes of all and of those before it
abbrev pub told_by : List (Option Cause) → List (Option Cause) → Found → Option Cause → List Folded
told_by all before f None = record { found = f; others = 0 } ∷ []
told_by all before f (Some c) = told_at f (count_of c before) (count_of c all)

abbrev pub folded_from : List (Option Cause) → List (Option Cause) → List Found → List Folded
folded_from all before [] = []
folded_from all before (f ∷ fs) = told_by all before f (cause_of f) ++ folded_from all (before ++ cause_of f ∷ []) fs

-- Of findings with one cause the first three, and those that have no cause in common.
abbrev pub folded : List Found → List Folded
folded fs = folded_from (map cause_of fs) [] fs

-- how those that are not told stand behind the last that is
abbrev pub others_text : ℕ → Text
others_text n = if n == 0 then [] else codes ", and " ++ (decimal n ++ codes " more")

-- ---- of the code

abbrev pub folded_view : code.Folded → Folded
folded_view f = record { found = found_view f.finding; others = f.others }

abbrev pub folded_views : List code.Folded → List Folded
folded_views list = map folded_view list
