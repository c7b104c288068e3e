-- Laws that callers rely on, as statements.
use Rattle.std.specs.Prelude.{◌≡◌, ◌↔◌, ℕ, ℤ, ◌+◌, ◌≤◌, List, [], ◌∷◌, ◌++◌, false, Option, Some, if◌then◌else◌}
use Rattle.fluent_ast.specs.Tree as t
use Rattle.fluent_ast.specs.Tree.{Text, Attribute, Pattern, Inline, string, number, term, Call, no_call, call, arguments, no_inlines, Nameds, no_nameds, named_argument, message_entry, term_entry, junk_entry}
use Rattle.fluent_intl.specs.Decimal.{Reads}
use Rattle.fluent_semantics.specs.Number.{is_text, read_number}
use Rattle.fluent_semantics.specs.Errors.{Error, resolver_error, overriding, parser_error, ResolverError, lost, missing_default, cyclic, too_many_placeables}
use Rattle.fluent_semantics.specs.Errors as errors
use Rattle.fluent_semantics.specs.Value.{Value, no_value, error_value, Custom, same}
use Rattle.fluent_semantics.specs.Arguments.{Map, get, set, set_all, IsInOrder}
use Rattle.fluent_semantics.specs.Bundle.{Bundle, Entry, a_message, a_term, Function, is_message, is_term, is_function, add_resource, add_resource_overriding, add_function, add_builtins, after, answered}
use Rattle.fluent_semantics.specs.Bundle as bundles
use Rattle.fluent_intl.specs.declared.operands.PluralOperands.{PluralOperands}
use Rattle.fluent_intl.specs.declared.plurals.PluralRuleType.{PluralRuleType}
use Rattle.fluent_semantics.specs.Meaning as meanings
use Rattle.fluent_semantics.specs.Walk.{Environment, written}
use Rattle.fluent_semantics.specs.Meaning.{Budget, left, limit_reached, Outcome, Ran, by_substitution, within_budget, run, substituted, meaning}
use Rattle.fluent_semantics.specs.Result.{written_pattern}

-- ---- arguments

-- the last value of a key among pairs, if there is one
abbrev pub last_of : {A : Type 0} → Text → List (Text × A) → Option A → Option A
last_of key [] otherwise = otherwise
last_of key (e ∷ es) otherwise = last_of key es (if is_text key e.0 then Some e.1 else otherwise)

-- After pairs were set in order, each key has the last value that was set for it, else the one that it had.
abbrev pub LastStands : Type 0 → Type 0
LastStands A = (key : Text) (es : List (Text × A)) (m : Map A) → get key (set_all es m) ≡ last_of key es (get key m)

-- A map has for each key what was set last, keeps its keys in order and each once, and is told by its look-ups.
pub record IsMap (A : Type 0) : Type 0 where
  pub set_one : (q key : Text) (v : A) (m : Map A) → get q (set key v m) ≡ (if is_text q key then Some v else get q m)
  pub last_stands : LastStands A
  pub empty_in_order : IsInOrder {A = A} []
  pub set_in_order : (key : Text) (v : A) (m : Map A) → IsInOrder m → IsInOrder (set key v m)
  pub same : (m n : Map A) → IsInOrder m → IsInOrder n → ((q : Text) → get q m ≡ get q n) → m ≡ n

-- ---- adding

-- An id means at most one of message, term and function.
abbrev pub MeansOneThing : Type 0 → Type 0
MeansOneThing C = (b : Bundle C) (id : Text) → (if is_message (get id b.ids) then 1 else 0) + (if is_term (get id b.ids) then 1 else 0) + (if is_function (get id b.ids) then 1 else 0) ≤ 1

-- a call that adds without overriding
abbrev pub IsAdding : {C : Type 0} → bundles.Call C → Type 0
IsAdding (add_resource es) = Unit {0}
IsAdding (add_function id f) = Unit {0}
IsAdding add_builtins = Unit {0}
IsAdding _ = ⊥

-- Adding never changes what a present id means.
abbrev pub AddingKeeps : Type 0 → Type 0
AddingKeeps C = (b : Bundle C) (c : bundles.Call C) (id : Text) (e : Entry C) → IsAdding c → get id b.ids ≡ Some e → get id (after c b).ids ≡ Some e

-- the last entry of an id in a source, if there is one
abbrev pub last_entry : {C : Type 0} → Text → List t.Entry → Option (Entry C) → Option (Entry C)
last_entry id [] otherwise = otherwise
last_entry id (message_entry n v as' ∷ es) otherwise = last_entry id es (if is_text id n then Some (a_message v as') else otherwise)
last_entry id (term_entry n p as' ∷ es) otherwise = last_entry id es (if is_text id n then Some (a_term p as') else otherwise)
last_entry id (junk_entry source ∷ es) otherwise = last_entry id es otherwise

-- Overriding lets the last entry of an id win, whatever the id meant before.
abbrev pub LastWins : Type 0 → Type 0
LastWins C = (b : Bundle C) (id : Text) (es : List t.Entry) → get id (after (add_resource_overriding es) b).ids ≡ last_entry id es (get id b.ids)

-- How resources are cut up has no effect: one resource of two parts is the two parts in order, with their errors in order.
pub record CutsAlike (C : Type 0) : Type 0 where
  pub adding : (b : Bundle C) (es fs : List t.Entry) → after (add_resource (es ++ fs)) b ≡ after (add_resource fs) (after (add_resource es) b)
  pub errors : (b : Bundle C) (es fs : List t.Entry) → answered (add_resource (es ++ fs)) b ≡ answered (add_resource es) b ++ answered (add_resource fs) (after (add_resource es) b)
  pub overriding : (b : Bundle C) (es fs : List t.Entry) → after (add_resource_overriding (es ++ fs)) b ≡ after (add_resource_overriding fs) (after (add_resource_overriding es) b)

-- ---- values

-- No value is the same as none or error.
pub record NothingIsSame (C : Type 0) : Type 0 where
  pub none_left : (custom : Custom C) (v : Value C) → same custom no_value v ≡ false
  pub none_right : (custom : Custom C) (v : Value C) → same custom v no_value ≡ false
  pub error_left : (custom : Custom C) (v : Value C) → same custom error_value v ≡ false
  pub error_right : (custom : Custom C) (v : Value C) → same custom v error_value ≡ false

-- ---- terms

abbrev pub IsLiteral : Inline → Type 0
IsLiteral (string t) = Unit {0}
IsLiteral (number t) = Unit {0}
IsLiteral _ = ⊥

abbrev pub AreLiteral : Nameds → Type 0
AreLiteral no_nameds = Unit {0}
AreLiteral (named_argument name x ns) = IsLiteral x × AreLiteral ns

-- no positional arguments, and literal named ones
abbrev pub IsClosed : Call → Type 0
IsClosed no_call = Unit {0}
IsClosed (call (arguments no_inlines ns)) = AreLiteral ns
IsClosed (call (arguments _ ns)) = ⊥

-- A reference to a term without positional and with literal named arguments gives the same in every environment.
pub record TermsAreClosed (C : Type 0) : Type 0 where
  pub budgeted : (b : Bundle C) (env env' : Environment C) (path : List Pattern) (id : Text) (a : Attribute) (c : Call) (budget : Budget) → IsClosed c →
      written within_budget b (run b) env path (term id a c) budget ≡ written within_budget b (run b) env' path (term id a c) budget
  pub substituted : (b : Bundle C) (n : ℕ) (env env' : Environment C) (path : List Pattern) (id : Text) (a : Attribute) (c : Call) → IsClosed c →
      written by_substitution b (meanings.substituted b n) env path (term id a c) ≡ written by_substitution b (meanings.substituted b n) env' path (term id a c)

-- ---- the limit

abbrev pub is_limit : Error → ℕ
is_limit (resolver_error too_many_placeables) = 1
is_limit (resolver_error (lost r)) = 0
is_limit (resolver_error (errors.no_value id)) = 0
is_limit (resolver_error missing_default) = 0
is_limit (resolver_error cyclic) = 0
is_limit (overriding kind id) = 0
is_limit (parser_error start end) = 0

abbrev pub reaches_limit_in : List Error → ℕ
reaches_limit_in [] = 0
reaches_limit_in (e ∷ es) = is_limit e + reaches_limit_in es

-- The limit's error comes at most once in a run.
abbrev pub ReachesLimitOnce : Type 0 → Type 0
ReachesLimitOnce C = (b : Bundle C) (env : Environment C) (path : List Pattern) (p : Pattern) (budget : Budget) → reaches_limit_in (run b env path p budget).errors ≤ 1

-- ---- bundles that answer alike

-- two bundles whose ids mean the same, and whose settings answer alike
pub record AnswerAlike {C : Type 0} (b c : Bundle C) : Type 0 where
  pub ids : (id : Text) → get id b.ids ≡ get id c.ids
  pub isolates : b.isolates ≡ c.isolates
  pub transform : (t : Text) → b.transform t ≡ c.transform t
  pub formatter : (v : Value C) → b.formatter v ≡ c.formatter v
  pub plurals : (kind : PluralRuleType) (o : PluralOperands) → b.plurals kind o ≡ c.plurals kind o
  pub text : (x : C) → b.custom.text x ≡ c.custom.text x
  pub limit : b.limit ≡ c.limit

-- Two bundles that answer alike give the same text and errors for the same arguments and pattern, however each came to be.
abbrev pub AlikeGiveTheSame : Type 0 → Type 0
AlikeGiveTheSame C = (b c : Bundle C) (args : Map (Value C)) (p : Pattern) → AnswerAlike b c → written_pattern b args p ≡ written_pattern c args p

-- ---- numbers

-- The number that a text is by computation is the one that it is by definition, with its count of digits after the point.
abbrev pub ReadsAsDefined : Type 0
ReadsAsDefined = (t : Text) (z : ℤ) (places : Option ℕ) → read_number t ≡ Some (z, places) ↔ Reads t z places
