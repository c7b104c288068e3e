-- Arguments that were read and set, and the one after them.
use Rattle.std.proofs.Common.{arith, ◌≡◌, ◌∙◌, ◌<◌, List, [], ◌∷◌, ◌++◌, ℕ, length, map, refl, sym, ap}
use Rattle.std.specs.List.{All}
use Rattle.std.proofs.lemmas.List.{map_push}
use Rattle.std.proofs.lemmas.List.Elements.{All-push}
use Rattle.fluent_ast.specs.Tree.{Text}
use Rattle.fluent_semantics.specs.Arguments.{Map, set, set_all}
use Rattle.fluent_semantics.specs.Value.{Value}
use Rattle.fluent_answers.specs.ArgumentView.{argument_view}
use Rattle.fluent_answers.specs.Inside.Setting.{HasNotOne, SetsOne}
use Rattle.fluent_answers.specs.Records.{Are, HasFirstWith, HasTexts, NotRead, Record, StandBefore}
use Rattle.fluent_answers.specs.Values.{argument_pair, argument_values, record_value}
use Rattle.fluent_answers.specs.declared.argument.Argument.{Argument}
use Rattle.fluent_answers.specs.declared.fault.Fault.{Fault}
use Rattle.fluent_answers.specs.declared.fault.Fault.TheVariants as fault
use Rattle.fluent_answers.proofs.Stands.{first_of, has_first, one_more}

-- these stand before the rest, and were set
pub record SoFar (bytes rest : List ℕ) (values : Map (Value Text)) : Type 0 where
  pub all : List Record
  pub before : StandBefore all bytes rest
  pub texts : All HasTexts all
  pub are : values ≡ argument_values all

pub none_yet : (bytes : List ℕ) → SoFar bytes bytes []
none_yet bytes = record { all = []; before = refl; texts = λ k d h. absurd (omega arith); are = refl }

set_all_push : (es : List (Text × Value Text)) (e : Text × Value Text) (m : Map (Value Text)) → set_all (es ++ e ∷ []) m ≡ set e.0 e.1 (set_all es m)
set_all_push [] e m = refl
set_all_push (x ∷ es) e m = set_all_push es e (set x.0 x.1 m)

module _ (bytes rest : List ℕ) (values : Map (Value Text)) (so : SoFar bytes rest values) where
  pub one_set : (next : List ℕ) (values' : Map (Value Text)) → SetsOne rest next values values' → SoFar bytes next values'
  one_set next values' s = record {
    all = so.all ++ s.has.one ∷ [];
    before = one_more so.all bytes rest next s.has.one so.before s.has.is.some;
    texts = All-push HasTexts so.all s.has.one so.texts s.has.is.texts;
    are = s.are ∙ ap (set s.has.one.name (record_value s.has.one)) so.are
        ∙ sym (ap (λ es. set_all es []) (map_push argument_pair so.all s.has.one) ∙ set_all_push (map argument_pair so.all) (argument_pair s.has.one) []);
  }

  pub not_one : (rest ≡ [] → ⊥) → (f : Fault) → HasNotOne rest f → NotRead bytes f
  not_one some fault.Cut h = record { all = so.all; rest = rest; before = so.before; texts = so.texts; some = some; none = h }
  not_one some fault.NotText h = record { all = so.all; next = h.one; rest = rest; after = h.after; before = so.before; texts = so.texts; some = h.some; none = h.none }
  not_one some fault.Memory h = has_first HasTexts so.all bytes rest h.0 h.1.one so.before so.texts h.1.is.some h.1.is.texts

-- some bytes are some arguments
pub many_first : (items : List Argument) (bytes : List ℕ) → Are (map argument_view items) bytes → 0 < length bytes → HasFirstWith HasTexts bytes
many_first items bytes are some = first_of HasTexts argument_view items bytes are (never items are)
  where
    never : (xs : List Argument) → Are (map argument_view xs) bytes → xs ≡ [] → ⊥
    never [] none e = absurd (omega (arith, some, ap length none.whole))
    never (x ∷ xs) a e = absurd cc
