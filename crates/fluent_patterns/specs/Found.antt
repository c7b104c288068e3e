-- What is found in files: where, of which value or attribute, and what is wrong there.
use Rattle.std.specs.Prelude.{◌≡◌, ℕ, List, [], ◌∷◌, ◌++◌, map, Option, Some, None, option_map}
use Rattle.std.specs.declared.vec.Vec.{Vec}
use Rattle.std.proofs.Common.{Global}
use Rattle.fluent_ast.specs.Tree.{Text}
use Rattle.fluent_places.specs.Places.{Place, place_view}
use Rattle.fluent_reasons.specs.declared.expected.Expected.{Expected}
use Rattle.fluent_patterns.specs.declared.finding.Finding.{Finding}
use Rattle.fluent_patterns.specs.declared.finding.Flaw as code_flaw
use Rattle.fluent_patterns.specs.declared.finding.Part as code_part
use Rattle.fluent_patterns.specs.declared.finding.Part.TheVariants as part
use Rattle.fluent_patterns.specs.declared.finding.Problem as code
use Rattle.fluent_patterns.specs.declared.finding.Problem.TheVariants as problem
use Rattle.fluent_patterns.specs.declared.finding.Spot as code_spot

-- a byte of a file's text, where files are numbered from 0
pub record Spot : Type 0 where
  pub file : ℕ
  pub at : ℕ

abbrev pub spot_view : code_spot.Spot → Spot
spot_view s = record { file = s.file; at = s.at }

-- what is wrong; `Problem` of the code says of each what it means
pub data Problem : Type 0 where
  -- what begins at this byte, and what was expected where reading stopped
  unreadable : ℕ → Expected → Problem
  taken_id : Spot → Problem
  function_id : Problem
  repeated_attribute : Problem
  missing_message : Text → Problem
  missing_attribute : Text → Text → Problem
  missing_value : Text → Problem
  missing_term : Text → Problem
  missing_term_attribute : Text → Text → Problem
  missing_function : Text → Problem
  not_a_function : Text → Problem
  cycle : Place → Problem
  too_many_placeables : ℕ → ℕ → Problem
  may_open_too_many : ℕ → ℕ → Problem
  leads_to : Place → Problem
  not_given : Text → Place → Problem
  unused_argument : Text → Place → Problem
  no_number : Problem
  no_category : Text → Problem
  never_comes : Text → Problem
  repeated_variant : Text → Problem
  not_translated : Problem
  value_not_translated : Problem
  not_in_reference : Problem
  value_not_in_reference : Problem
  unknown_variable : Text → Problem
  variable_left_out : Text → Problem
  term_left_out : Place → Problem
  function_left_out : Text → Problem

abbrev pub problem_view : code.Problem → Problem
problem_view (problem.Unreadable start expected) = unreadable start expected
problem_view (problem.TakenId first) = taken_id (spot_view first)
problem_view problem.FunctionId = function_id
problem_view problem.RepeatedAttribute = repeated_attribute
problem_view (problem.MissingMessage id) = missing_message id.now
problem_view (problem.MissingAttribute id a) = missing_attribute id.now a.now
problem_view (problem.MissingValue id) = missing_value id.now
problem_view (problem.MissingTerm id) = missing_term id.now
problem_view (problem.MissingTermAttribute id a) = missing_term_attribute id.now a.now
problem_view (problem.MissingFunction id) = missing_function id.now
problem_view (problem.NotAFunction id) = not_a_function id.now
problem_view (problem.Cycle next) = cycle (place_view next)
problem_view (problem.TooManyPlaceables count limit) = too_many_placeables count limit
problem_view (problem.MayOpenTooMany count limit) = may_open_too_many count limit
problem_view (problem.LeadsTo x) = leads_to (place_view x)
problem_view (problem.NotGiven v x) = not_given v.now (place_view x)
problem_view (problem.UnusedArgument v x) = unused_argument v.now (place_view x)
problem_view problem.NoNumber = no_number
problem_view (problem.NoCategory key) = no_category key.now
problem_view (problem.NeverComes key) = never_comes key.now
problem_view (problem.RepeatedVariant key) = repeated_variant key.now
problem_view problem.NotTranslated = not_translated
problem_view problem.ValueNotTranslated = value_not_translated
problem_view problem.NotInReference = not_in_reference
problem_view problem.ValueNotInReference = value_not_in_reference
problem_view (problem.UnknownVariable v) = unknown_variable v.now
problem_view (problem.VariableLeftOut v) = variable_left_out v.now
problem_view (problem.TermLeftOut x) = term_left_out (place_view x)
problem_view (problem.FunctionLeftOut id) = function_left_out id.now

-- ---- findings

-- a problem, where it stands, and of which value or attribute it is, if of one
pub record Found : Type 0 where
  pub spot : Spot
  pub place : Option Place
  pub problem : Problem

abbrev pub found_view : Finding → Found
found_view f = record { spot = spot_view f.spot; place = option_map place_view f.place; problem = problem_view f.problem }

abbrev pub found_in : Vec Finding Global → List Found
found_in list = map found_view list.items

-- ---- flaws of a pattern

-- a part of a pattern, by its number among those of its kind in the order of the tree
pub data Part : Type 0 where
  whole : Part
  -- to a message, a term, a variable or a function
  the_reference : ℕ → Part
  the_select : ℕ → Part
  the_variant : ℕ → Part

abbrev pub part_view : code_part.Part → Part
part_view part.Whole = whole
part_view (part.Reference n) = the_reference n
part_view (part.Select n) = the_select n
part_view (part.Variant n) = the_variant n

-- a part, and what is wrong with it
abbrev pub Flaw : Type 0
Flaw = Part × Problem

abbrev pub flaw_view : code_flaw.Flaw → Flaw
flaw_view f = (part_view f.part, problem_view f.problem)

abbrev pub flaws_in : Vec code_flaw.Flaw Global → List Flaw
flaws_in list = map flaw_view list.items

-- ---- lists that grow

-- findings were added, these and no other
abbrev pub AddsFound : List Found → Vec Finding Global → Vec Finding Global → Type 0
AddsFound more old new = found_in new ≡ found_in old ++ more

-- the same of flaws
abbrev pub AddsFlaws : List Flaw → Vec code_flaw.Flaw Global → Vec code_flaw.Flaw Global → Type 0
AddsFlaws more old new = flaws_in new ≡ flaws_in old ++ more
