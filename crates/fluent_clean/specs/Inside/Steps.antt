-- What is known of findings while places are looked at.
use Rattle.std.specs.Prelude.{◌≡◌, ◌⊎◌, ℕ, ◌+◌, List, [], ◌∷◌, false, Option, Some, None, map}
use Rattle.std.specs.List.{AllByRecursion}
use Rattle.std.specs.declared.vec.Vec.{Vec}
use Rattle.std.proofs.Common.{Global}
use Rattle.fluent_ast.specs.Tree.{Text, Attribute}
use Rattle.fluent_ast.specs.View.{pattern_view}
use Rattle.fluent_ast.specs.declared.ast.Pattern as tree
use Rattle.fluent_semantics.specs.Bundle.{message_target, term_target}
use Rattle.fluent_places.specs.Places.{Place, place_view, views, Names, place_target}
use Rattle.fluent_places.specs.Needs.{Need, a_message, a_term, needs, place_of, IsAmong}
use Rattle.fluent_places.specs.declared.place.Place as code
use Rattle.fluent_clean.specs.Clean.{LeadsOn, IsMet, IsFine}
use Rattle.fluent_clean.specs.Findings.{named_by, NeedsAt, IsRight, GoRound, is_large, IsUncleanBy, Says, SaysOf}
use Rattle.fluent_clean.specs.Inside.Table.{Known, known_of, count_of, AreRight, IsWell}
use Rattle.fluent_clean.specs.declared.finding.Finding.{Finding}
use Rattle.fluent_clean.specs.declared.finding.Kind.{Kind}
use Rattle.fluent_clean.specs.declared.checking.Look.{Look}
use Rattle.fluent_clean.specs.declared.checking.Look.TheVariants as look
use Rattle.fluent_clean.specs.declared.passes.Step.{Step}
use Rattle.fluent_clean.specs.declared.passes.Step.TheVariants as step

-- ---- why a need isn't met

-- whatever was looked at and is told, the kind says so
abbrev pub SaysAnyhow : Names Text → Need → Kind → Type 0
SaysAnyhow named n k = (is_large k ≡ false) × ((seen : List Place) (fs : List Finding) → Says named seen fs n k)

-- what is said of a message, or of a term, that doesn't lead on
abbrev pub MissesMessage : Names Text → Text → Attribute → Kind → Type 0
MissesMessage named m a k = (LeadsOn (message_target (named m) a) → ⊥) → SaysAnyhow named (a_message m a) k

abbrev pub MissesTerm : Names Text → Text → Attribute → Kind → Type 0
MissesTerm named t a k = (LeadsOn (term_target (named t) a) → ⊥) → (names : List Text) → SaysAnyhow named (a_term t a names) k

-- the same of what refers to a place
abbrev pub Misses : Names Text → Place → Kind → Type 0
Misses named x k = (LeadsOn (place_target named x) → ⊥) → (n : Need) → place_of n ≡ Some x → SaysAnyhow named n k

-- The places that were looked at are those of a table, and where one of them leads on without a count, a finding says that it isn't clean.
pub record AreAll (named : Names Text) (known : Known) (seen : List Place) (fs : List Finding) : Type 0 where
  pub told : (y : Place) → LeadsOn (place_target named y) → known_of known y ≡ Some None → IsUncleanBy fs y
  pub listed : (y : Place) → IsAmong y seen → known_of known y ≡ None → ⊥

-- where these are all findings, the kind says so
abbrev pub Explains : Names Text → Known → Need → Kind → Type 0
Explains named known n k = (is_large k ≡ false) × ((seen : List Place) (fs : List Finding) → AreAll named known seen fs → Says named seen fs n k)

-- the same of what refers to a place
abbrev pub ExplainsAt : Names Text → Known → Place → Kind → Type 0
ExplainsAt named known x k = (n : Need) → place_of n ≡ Some x → Explains named known n k

-- a place is there, and right, or the kind says why not
abbrev pub AnswersAt : Names Text → Known → Place → Option Kind → Type 0
AnswersAt named known x None = LeadsOn (place_target named x) × IsRight named x (count_of known x)
AnswersAt named known x (Some k) = ExplainsAt named known x k

abbrev pub Answers : Names Text → Known → Need → Option Kind → Type 0
Answers named known n None = IsWell named known n
Answers named known n (Some k) = Explains named known n k

-- ---- the findings of a place

-- a need is well, or one of the findings says why not
abbrev pub IsAnswered : Names Text → Known → List Finding → Need → Type 0
IsAnswered named known fs n = IsWell named known n ⊎ ((f : Finding) × IsAmong f fs × Explains named known n f.kind)

-- a finding is of a place, and of one of these needs
abbrev pub IsOf : Names Text → Known → Place → List Need → Finding → Type 0
IsOf named known x ns f = (place_view f.place ≡ x) × ((n : Need) × IsAmong n ns × Explains named known n f.kind)

-- The findings are of needs, and each of some needs is answered.
pub record Explained (named : Names Text) (known : Known) (x : Place) (all some : List Need) (fs : List Finding) : Type 0 where
  pub each : AllByRecursion (IsOf named known x all) fs
  pub every : AllByRecursion (IsAnswered named known fs) some

-- each need of a pattern of the code is answered by these findings, which are of its needs
abbrev pub IsExplainedBy : Names Text → Known → code.Place → tree.Pattern → Vec Finding Global → Type 0
IsExplainedBy named known x p fs = Explained named known (place_view x) (needs (pattern_view p)) (needs (pattern_view p)) fs.items

-- a finding is of a place, and of something that its pattern needs
abbrev pub IsOfNeeds : Names Text → Known → Place → Finding → Type 0
IsOfNeeds named known x f = (place_view f.place ≡ x) × ((n : Need) × NeedsAt named x n × Explains named known n f.kind)

-- the same of what stands at a place
pub record ExplainedAt (named : Names Text) (known : Known) (x : Place) (fs : List Finding) : Type 0 where
  pub each : AllByRecursion (IsOfNeeds named known x) fs
  pub every : (n : Need) → NeedsAt named x n → IsAnswered named known fs n

abbrev pub IsLook : Names Text → Known → Place → Look → Type 0
IsLook named known x look.Nothing = LeadsOn (place_target named x) → ⊥
IsLook named known x (look.Clean k) = IsRight named x k
IsLook named known x (look.Unclean fs) = (fs.items ≡ [] → ⊥) × ExplainedAt named known x fs.items

-- ---- the findings of all places

-- an entry of the table is named, or fine
abbrev pub IsToldAs : Names Text → ℕ → List Finding → Place → Option ℕ → Type 0
IsToldAs named limit fs x (Some k) = IsAmong x (named_by fs) ⊎ IsFine named limit x
IsToldAs named limit fs x None = IsUncleanBy fs x ⊎ (LeadsOn (place_target named x) → ⊥)

-- all that what stands at a place needs is met, or explained by a finding of it
abbrev pub IsWholeBy : Names Text → Known → List Finding → Place → Type 0
IsWholeBy named known fs x = (n : Need) → NeedsAt named x n → IsMet named n ⊎ ((f : Finding) × IsAmong f fs × (place_view f.place ≡ x) × Explains named known n f.kind)

-- a finding is of something that its pattern needs, or true of its place
abbrev pub IsTrueBy : Names Text → ℕ → Known → Finding → Type 0
IsTrueBy named limit known f = ((n : Need) × NeedsAt named (place_view f.place) n × Explains named known n f.kind) ⊎ SaysOf named limit (place_view f.place) f.kind

-- these entries were looked at
pub record Looked (named : Names Text) (limit : ℕ) (known es : Known) (fs : List Finding) : Type 0 where
  pub told : AllByRecursion (λ e. IsToldAs named limit fs (place_view e.0) e.1) es
  pub whole : AllByRecursion (λ e. IsWholeBy named known fs (place_view e.0)) es
  pub holds : AllByRecursion (IsTrueBy named limit known) fs

abbrev pub IsStep : Names Text → ℕ → Known → Step → Type 0
IsStep named limit known (step.Done fs) = Looked named limit known known fs.items
IsStep named limit known (step.Clean q k) = (known_of known (place_view q) ≡ Some None) × IsRight named (place_view q) k

-- the places of a table, in order
abbrev pub keys_in : Known → List Place
keys_in known = map (λ e. place_view e.0) known

-- the places of a table are these
pub record IsListing (seen : List Place) (known : Known) : Type 0 where
  pub listed : (x : Place) → IsAmong x seen → IsAmong x (keys_in known)
  pub only : (x : Place) → IsAmong x (keys_in known) → IsAmong x seen

-- all entries of some table of these places were looked at
abbrev pub AreTold : Names Text → ℕ → List Place → Vec Finding Global → Type 0
AreTold named limit seen fs = (known : Known) × IsListing seen known × Looked named limit known known fs.items

-- no count is known
abbrev pub AreUnknown : Known → Type 0
AreUnknown known = (q : code.Place) (k : ℕ) → known_of known (place_view q) ≡ Some (Some k) → ⊥

abbrev pub one_if_none : Option ℕ → ℕ
one_if_none None = 1
one_if_none (Some k) = 0

-- how many entries no count is known of
abbrev pub untaken : Known → ℕ
untaken [] = 0
untaken (e ∷ es) = one_if_none e.1 + untaken es

-- What is known is right still, and the places are the same.
abbrev pub Takes : Names Text → Known → Known → Type 0
Takes named old new = AreRight named new × (keys_in new ≡ keys_in old)

-- ---- findings that are added

-- Only such were added as are true of their places.
pub record AddsTrue (named : Names Text) (limit : ℕ) (old new : List Finding) : Type 0 where
  pub kept : (f : Finding) → IsAmong f old → IsAmong f new
  pub only : (f : Finding) → IsAmong f new → IsAmong f old ⊎ SaysOf named limit (place_view f.place) f.kind

-- the same of lists of the code, whatever the limit
abbrev pub AddsCycles : Names Text → Vec Finding Global → Vec Finding Global → Type 0
AddsCycles named old new = (limit : ℕ) → AddsTrue named limit old.items new.items

-- the same where these places are a cycle
abbrev pub PushesCycle : Vec code.Place Global → Vec Finding Global → Vec Finding Global → Type 0
PushesCycle ys old new = (named : Names Text) → GoRound named (views ys.items) → AddsCycles named old new
