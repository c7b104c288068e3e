-- What is kept of patterns stays theirs while ids keep their numbers and contents their classes. No contract cites this.
use Rattle.std.specs.Prelude.{◌≡◌, ℕ, List, Option}
use Rattle.std.specs.Global.{Box}
use Rattle.std.proofs.Common.{sym, subst, ◌∙◌}
use Rattle.fluent_ast.specs.Tree.{Text, Pattern}
use Rattle.fluent_references.specs.Classes.{Grows, HasClass}
use Rattle.fluent_references.specs.Linked.{still_of}
use Rattle.fluent_references.specs.Links.{KeepsNumbers}
use Rattle.fluent_references.specs.declared.linked.Linked.{Linked}
use Rattle.fluent_bundle_entries.specs.declared.slot.Slot.{Slot}
use Rattle.fluent_bundle_entries.specs.declared.slot.Kept.{Kept}
use Rattle.fluent_bundle_entries.specs.KeptLinks.{AreKept, IsKeptOf, IsLinked, attributes_in, attributes_kept, value_in}

pub kept_by : (n n' : Text → Option ℕ) → ((id : Text) → n' id ≡ n id) → KeepsNumbers n n'
kept_by n n' same = λ id k h. same id ∙ h

pub grows_by : (t t' : List Pattern) → t' ≡ t → Grows t t'
grows_by t t' same = λ c p h. subst (λ t. HasClass t c p) (sym same) h

module _ (n n' : Text → Option ℕ) (t t' : List Pattern) (kept : KeepsNumbers n n') (grows : Grows t t') where
  still_kept : (ps : List Pattern) (ls : List Linked) → AreKept n t ps ls → AreKept n' t' ps ls
  still_kept ps ls h = record {
    each = λ k p l at here. still_of n n' t t' kept grows p l (h.each k p l at here);
    left = h.left;
    all = h.all;
  }

  pub still_kept_of : (v : Option Pattern) (ps : List Pattern) (k : Option (Box Kept)) → IsKeptOf n t v ps k → IsKeptOf n' t' v ps k
  still_kept_of v ps k h = record {
    value = λ p l at here. still_of n n' t t' kept grows p l (h.value p l at here);
    left = h.left;
    none = h.none;
    attributes = still_kept ps (attributes_kept k) h.attributes;
  }

  pub still_linked : {F : Type 0} (s : Slot F) → IsLinked n t s → IsLinked n' t' s
  still_linked s h = still_kept_of (value_in s.entry) (attributes_in s.entry) s.kept h
