-- What was opened and is held is what its bundle means.
use Rattle.std.proofs.Common.{◌≡◌, ◌∙◌, refl, sym, ap, subst, Bool, true, false, cond, Option, Some, None, Result, Ok, Err, IfOk, IfErr, List, [], is_some, map, codes, String, Global, string_bytes}
use Rattle.std.specs.Option.{option_map}
use Rattle.std.specs.Ordering.{nat_cmp, eq_by_cmp}
use Rattle.std.specs.Cmp.Lexicographic.{slice_cmp}
use Rattle.fluent_ast.specs.Tree.{Text}
use Rattle.fluent_semantics.specs.Bundle as m
use Rattle.fluent_semantics.specs.Bundle.{Bundle, number_builtin, formatter_of, transform_of}
use Rattle.fluent_semantics.specs.Value.{Plurals, Value}
use Rattle.fluent_plural_rules.specs.RuleTexts.{category_of}
use Rattle.fluent_bundle.specs.BundleView.{formatter_in, transform_in}
use Rattle.fluent_answers.specs.Asked as asked
use Rattle.fluent_answers.specs.Tables.{Table}
use Rattle.fluent_c_handles.specs.Answers.{Code, Kept, NotOpenedByTag, OpenedByTag, bundle_view, new_bundle, new_kept, stock_content}
use Rattle.fluent_c_handles.specs.Calls.Opening.{IsNew, NotOpenedByRules, OpenedByRules, OpensTo}
use Rattle.fluent_c_handles.specs.Family.{Declares, answered_by, is_asked, nothing_declared}
use Rattle.fluent_c_handles.specs.Inside.Boxed.{Boxed}
use Rattle.fluent_c_handles.specs.Inside.Opened.{IsBare, OpensStock}
use Rattle.fluent_c_handles.specs.Inside.Resources.{AreAmong}
use Rattle.fluent_c_handles.specs.Inside.Rules.{IsUnset}
use Rattle.fluent_c_handles.specs.declared.answer.Answer.{Answer}
use Rattle.fluent_c_handles.specs.declared.answer.Answer.TheVariants as answer
use Rattle.fluent_c_handles.specs.declared.opening.OpenFault.{OpenFault}
use Rattle.fluent_c_handles.specs.declared.opening.OpenFault.TheVariants as fault
use Rattle.fluent_c_handles.specs.declared.sources.SourceFault.TheVariants as source
use Rattle.fluent_c_handles.specs.declared.stock.Stock.{Stock}
use Rattle.fluent_c_handles.proofs.Family.{whole}
use Rattle.fluent_c_handles.proofs.From.{opened_from, opened_by_from}
use Rattle.fluent_c_handles.proofs.Ordered.{ids_rise}

pub opened_known : (tag : Text) (on bare : Bool) (b : Bundle Text) → OpenedByTag tag on bare b → NotOpenedByTag tag fault.Memory
opened_known tag on bare b o = (o.text, (o.rules, o.read))

-- ---- in a box

module _ (is : Bundle Text → Type 0) (why : OpenFault → Type 0) (known : Bool) where
  module _ (stock : Stock) (ok : OpensStock is stock) (memory : (b : Bundle Text) → is b → why fault.Memory) where
    new_by : (m : Kept) → m ≡ stock_content stock → IsNew is m
    new_by m e = record { bundle = ok.bundle; opened = ok.opened; new = e ∙ ok.new }

    pub opens_known : known ≡ true → (new : Option Kept) (a : Answer) → Boxed answer.Done (Ok stock) new a → OpensTo is why known None new a
    opens_known k (Some m) a boxed = subst (λ x. OpensTo is why known None (Some m) x) (sym boxed.0) (k, new_by m boxed.1)
    opens_known k None (answer.Fault source.Memory) boxed = memory ok.bundle ok.opened
    opens_known k None a boxed = absurd boxed

    pub opens_root : known ≡ false → (new : Option Kept) (a : Answer) → Boxed answer.Root (Ok stock) new a → OpensTo is why known None new a
    opens_root k (Some m) a boxed = subst (λ x. OpensTo is why known None (Some m) x) (sym boxed.0) (k, new_by m boxed.1)
    opens_root k None (answer.Fault source.Memory) boxed = memory ok.bundle ok.opened
    opens_root k None a boxed = absurd boxed

  pub opens_not : (f : OpenFault) → why f → (kind : Answer) (new : Option Kept) (a : Answer) → Boxed kind (Err f) new a → OpensTo is why known None new a
  opens_not f w kind None (answer.Fault (source.Open g)) boxed = subst why (sym boxed) w
  opens_not f w kind new a boxed = absurd boxed

  pub opens_by : known ≡ true → (opened : Result Stock OpenFault) → IfOk opened (OpensStock is) → IfErr opened why → ((b : Bundle Text) → is b → why fault.Memory)
      → (new : Option Kept) (a : Answer) → Boxed answer.Done opened new a → OpensTo is why known None new a
  opens_by k (Ok stock) ok err memory new a boxed = opens_known stock ok memory k new a boxed
  opens_by k (Err f) ok err memory new a boxed = opens_not f err answer.Done new a boxed

-- ---- what a bundle that was just opened has

among_new : (plurals : Plurals) (on bare : Bool) → AreAmong [] (new_bundle plurals on bare).ids
among_new plurals on true id h = h
among_new plurals on false id h = by (eq_by_cmp (slice_cmp nat_cmp) id (codes "NUMBER")) h
  where
    by : (b : Bool) → is_asked (cond {A = Option (m.Entry Text)} b (Some number_builtin) None) ≡ true → false ≡ true
    by true j = j
    by false j = j

pub bare_by_tag : (tag : Text) (on bare : Bool) (b : Code) → OpenedByTag tag on bare (bundle_view b) → IsUnset b → IsBare b
bare_by_tag tag on bare b o u = record {
  from = opened_from tag on bare (bundle_view b) o;
  names = subst (λ (x : Bundle Text). AreAmong [] x.ids) (sym o.is) (among_new (category_of o.rules) on bare);
  formatter = u.formatter;
  transform = u.transform;
}

pub bare_by_rules : (cardinal ordinal : Text) (on : Bool) (b : Code) → OpenedByRules cardinal ordinal on (bundle_view b) → IsUnset b → IsBare b
bare_by_rules cardinal ordinal on b o u = record {
  from = opened_by_from cardinal ordinal on (bundle_view b) o;
  names = subst (λ (x : Bundle Text). AreAmong [] x.ids) (sym o.is) (among_new (category_of o.rules) on false);
  formatter = u.formatter;
  transform = u.transform;
}

-- ---- where nothing is asked

pub is_none : {A : Type 0} (o : Option A) → is_some o ≡ false → o ≡ None
is_none None h = refl
is_none (Some a) h = absurd cc

pub no_formatter : (b : Code) → formatter_in b ≡ None → (bundle_view b).formatter ≡ (λ v. None)
no_formatter b e = ap (λ o. formatter_of (option_map (λ g v. asked.formatter_of g v) o)) e

pub no_transform : (b : Code) → transform_in b ≡ None → (bundle_view b).transform ≡ (λ s. s)
no_transform b e = ap (λ o. transform_of (option_map asked.transform_of o)) e

-- the bundle is what it is by all answers
pub unchanged : (all : Table) (b : Code) → AreAmong [] (bundle_view b).ids → formatter_in b ≡ None → transform_in b ≡ None → answered_by all nothing_declared (bundle_view b) ≡ bundle_view b
unchanged all b names f x = sym (whole all nothing_declared (bundle_view b) (ids_rise b) names (λ h. no_formatter b f) (λ h. no_transform b x))

pub new_content : (stock : Stock) (b : Code) → stock.bundle ≡ b → IsBare b → stock_content stock ≡ record { by = λ all. answered_by all nothing_declared (bundle_view b); declared = nothing_declared; told = [] } → stock_content stock ≡ new_kept (bundle_view b)
new_content stock b is bare c = c ∙ (λ i. record { by = λ all. unchanged all b bare.names bare.formatter bare.transform i; declared = nothing_declared; told = [] })
