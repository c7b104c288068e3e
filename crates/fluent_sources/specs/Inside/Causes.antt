-- Causes while findings are gone over.
use Rattle.std.specs.Prelude.{◌≡◌, ◌+◌, ℕ, List, [], ◌∷◌, ◌++◌, Option, Some, None}
use Rattle.std.specs.Map.{lookup}
use Rattle.std.specs.declared.vec.Vec.{Vec}
use Rattle.std.proofs.Common.{Global}
use Rattle.indexmap.specs.IndexMap.{IndexMap}
use Rattle.fluent_patterns.specs.Found.{Found}
use Rattle.fluent_sources.specs.Causes.{Cause, cause_of, count_of, folded_views, one_if, same_cause, told_by}
use Rattle.fluent_sources.specs.declared.causes.Cause as code
use Rattle.fluent_sources.specs.declared.causes.Folded.{Folded}

abbrev pub cause_view : code.Cause → Cause
cause_view c = record { name = c.name.now; id = c.id.now; attribute = c.attribute.now }

abbrev pub number_or_0 : Option ℕ → ℕ
number_or_0 None = 0
number_or_0 (Some n) = n

-- the number that a table has for a cause
abbrev pub number_in : {S : Type 0} → IndexMap code.Cause ℕ S → Cause → ℕ
number_in table c = number_or_0 (lookup (λ k. same_cause c (cause_view k)) table.entries)

-- one more was counted
abbrev pub Counts : {S : Type 0} → Option Cause → IndexMap code.Cause ℕ S → IndexMap code.Cause ℕ S → Type 0
Counts cause old new = (c : code.Cause) → number_in new (cause_view c) ≡ number_in old (cause_view c) + one_if (cause_view c) cause

-- all of these were counted
abbrev pub AreCounts : {S : Type 0} → List (Option Cause) → IndexMap code.Cause ℕ S → Type 0
AreCounts causes table = (c : code.Cause) → number_in table (cause_view c) ≡ count_of (cause_view c) causes

-- a finding was told, or passed, where all and those before it were counted
pub record Tells {S R : Type 0} (f : Found) (counts : IndexMap code.Cause ℕ S) (seen seen' : IndexMap code.Cause ℕ R) (list list' : Vec Folded Global) : Type 0 where
  pub counted : Counts (cause_of f) seen seen'
  pub told : (all before : List (Option Cause)) → AreCounts all counts → AreCounts before seen → folded_views list'.items ≡ folded_views list.items ++ told_by all before f (cause_of f)
