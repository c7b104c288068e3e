-- References to what isn't there.
use Rattle.std.specs.Prelude.{◌||◌, List, [], ◌∷◌, Bool, true, false, Option, Some, None}
use Rattle.fluent_ast.specs.Tree.{Text, Attribute, no_attribute, attribute, Pattern}
use Rattle.fluent_semantics.specs.Bundle.{Entry, Target, unknown, without_value, found, message_target, term_target, is_message, is_term, is_function}
use Rattle.fluent_places.specs.Places.{Names}
use Rattle.fluent_places.specs.Needs.{Need, a_message, a_term, a_function, a_variable, a_default}
use Rattle.fluent_patterns.specs.Found.{Problem, missing_message, missing_attribute, missing_value, missing_term, missing_term_attribute, missing_function, not_a_function, Flaw}
use Rattle.fluent_patterns.specs.Names.{is_one_of}
use Rattle.fluent_patterns.specs.Numbered.{flaws_of, if_any}

-- where no pattern stands
abbrev pub unless_found : Target → Problem → Option Problem
unless_found (found p) problem = None
unless_found unknown problem = Some problem
unless_found without_value problem = Some problem

abbrev pub unless_there : Bool → Problem → Option Problem
unless_there true problem = None
unless_there false problem = Some problem

-- what a reference to a message lacks, by whether the message is there
abbrev pub lacking_message : Bool → Text → Attribute → Problem
lacking_message false id a = missing_message id
lacking_message true id no_attribute = missing_value id
lacking_message true id (attribute name) = missing_attribute id name

-- the same of a term, which has a value where it is there
abbrev pub lacking_term : Bool → Text → Attribute → Problem
lacking_term false id a = missing_term id
lacking_term true id no_attribute = missing_term id
lacking_term true id (attribute name) = missing_term_attribute id name

-- what is missing of a function: none can be added where a message or a term has its id
abbrev pub lacking_function : Bool → Bool → Text → Option Problem
lacking_function true added f = Some (not_a_function f)
lacking_function false added f = unless_there added (missing_function f)

-- by whether it is there, whether its id is another's, and whether an application adds it
abbrev pub function_problem : Bool → Bool → Bool → Text → Option Problem
function_problem true taken added f = None
function_problem false taken added f = lacking_function taken added f

-- a message or a term is there
abbrev pub is_taken : Option (Entry Text) → Bool
is_taken entry = is_message entry || is_term entry

-- what is missing of the function with an id
abbrev pub function_lack : Names Text → List Text → Text → Option Problem
function_lack named functions f = function_problem (is_function (named f)) (is_taken (named f)) (is_one_of functions f) f

-- what is missing of a need, where an application has these functions too
abbrev pub problem_of : Names Text → List Text → Need → Option Problem
problem_of named functions (a_message m a) = unless_found (message_target (named m) a) (lacking_message (is_message (named m)) m a)
problem_of named functions (a_term t a names) = unless_found (term_target (named t) a) (lacking_term (is_term (named t)) t a)
problem_of named functions (a_function f) = function_lack named functions f
problem_of named functions (a_variable v) = None
problem_of named functions a_default = None

abbrev pub problems_of : Names Text → List Text → Need → List Problem
problems_of named functions n = if_any (problem_of named functions n)

-- what is missing of the references of a pattern
abbrev pub missing : Names Text → List Text → Pattern → List Flaw
missing named functions p = flaws_of (problems_of named functions) p
