-- A bundle is opened, and set up.
use Rattle.std.specs.Prelude.{◌≡◌, ◌≤◌, ℕ, Bool, true, false, Ok, Err, Some, None, is_some}
use Rattle.std.specs.Str.{IsUtf8}
use Rattle.fluent_ast.specs.Tree.{Text}
use Rattle.fluent_plural_rules.specs.RuleTexts.{IsParse, category_of}
use Rattle.fluent_plural_rules.specs.RuleTree.{Rules}
use Rattle.fluent_semantics.specs.Bundle.{Bundle}
use Rattle.fluent_c_handles.specs.Answers.{BundleCall, CanBeRead, Kept, KeptCall, NotOpenedByTag, OpenedByTag, language_rules, new_bundle, new_kept}
use Rattle.fluent_c_handles.specs.declared.answer.Answer.TheVariants as answer
use Rattle.fluent_c_handles.specs.declared.opening.OpenFault.{OpenFault}
use Rattle.fluent_c_handles.specs.declared.opening.OpenFault.TheVariants as fault
use Rattle.fluent_c_handles.specs.declared.sources.SourceFault.TheVariants as source_fault

-- It is new, and this is said of its bundle.
pub record IsNew (is : Bundle Text → Type 0) (m : Kept) : Type 0 where
  pub bundle : Bundle Text
  pub opened : is bundle
  pub new : m ≡ new_kept bundle

-- A bundle is opened, by rules that there are or by the root's; or why none is. One that is open stays.
abbrev pub OpensTo : (Bundle Text → Type 0) → (OpenFault → Type 0) → Bool → KeptCall
OpensTo is why known None (Some m) answer.Done = (known ≡ true) × IsNew is m
OpensTo is why known None (Some m) answer.Root = (known ≡ false) × IsNew is m
OpensTo is why known None None (answer.Fault (source_fault.Open f)) = why f
OpensTo is why known None None (answer.Fault source_fault.Memory) = why fault.Memory
OpensTo is why known (Some m) (Some new) answer.Open = new ≡ m
OpensTo is why known old new a = ⊥

-- ---- by the tag of its language

abbrev pub OpensByTag : Text → Bool → Bool → KeptCall
OpensByTag tag on bare = OpensTo (OpenedByTag tag on bare) (NotOpenedByTag tag) (is_some (language_rules tag))

-- ---- by the texts of its plural rules

-- A bundle with the built-in function alone, and the rules that two texts have.
pub record OpenedByRules (cardinal ordinal : Text) (on : Bool) (bundle : Bundle Text) : Type 0 where
  pub texts : IsUtf8 cardinal × IsUtf8 ordinal
  pub rules : Rules
  pub read : IsParse cardinal ordinal (Ok rules)
  pub is : bundle ≡ new_bundle (category_of rules) on false

-- why there is none
abbrev pub NotOpenedByRules : Text → Text → OpenFault → Type 0
NotOpenedByRules cardinal ordinal fault.NotText = ¬ (IsUtf8 cardinal × IsUtf8 ordinal)
NotOpenedByRules cardinal ordinal (fault.Rules f) = IsParse cardinal ordinal (Err f)
NotOpenedByRules cardinal ordinal fault.Memory = IsUtf8 cardinal × IsUtf8 ordinal × CanBeRead cardinal ordinal

abbrev pub OpensByRules : Text → Text → Bool → KeptCall
OpensByRules cardinal ordinal on = OpensTo (OpenedByRules cardinal ordinal on) (NotOpenedByRules cardinal ordinal) true

-- ---- the limit on placeables

abbrev pub IsLimit : ℕ → Type 0
IsLimit n = (1 ≤ n) × (n ≤ 10000)

-- with this limit
abbrev pub with_limit : ℕ → Bundle Text → Bundle Text
with_limit n bundle = record bundle { limit = n }

abbrev pub limited_to : ℕ → Kept → Kept
limited_to n m = record m { by = λ all. with_limit n (m.by all) }

-- it is set, or none of those that can be
abbrev pub SetsLimit : ℕ → BundleCall
SetsLimit n m new answer.Done = (new ≡ limited_to n m) × IsLimit n
SetsLimit n m new answer.OutOfRange = (new ≡ m) × ¬ (IsLimit n)
SetsLimit n m new a = ⊥
