-- What is missing where a reference leads to no pattern.
use Rattle.std.proofs.Common.{◌≡◌, List, [], ◌∷◌, Bool, true, false, Option, Some, None, refl, sym, ap, subst, ◌∙◌, if◌then◌else◌}
use Rattle.fluent_ast.specs.Tree.{Text, Attribute, no_attribute, attribute, Attributes, Pattern}
use Rattle.fluent_semantics.specs.Number.{is_text}
use Rattle.fluent_semantics.specs.Bundle.{Entry, a_message, a_term, a_function, number_builtin, Target, unknown, without_value, found, first_of, value_target, message_target, term_target, is_message, is_term}
use Rattle.fluent_places.specs.Places.{of_message, of_term, Names}
use Rattle.fluent_places.specs.Needs.{Need, place_of}
use Rattle.fluent_places.specs.Needs as need
use Rattle.fluent_clean.specs.Clean.{LeadsOn}
use Rattle.fluent_bundle_entries.specs.EntryView.{TermContent, message_content, term_content}
use Rattle.fluent_bundle_entries.specs.MessageView.{Content}
use Rattle.fluent_clean.specs.Inside.Steps.{Misses, MissesMessage, MissesTerm, SaysAnyhow}
use Rattle.fluent_clean.specs.declared.finding.Kind.{Kind}

-- ---- messages

pub no_message : (e : Option (Entry Text)) → None ≡ message_content e → is_message e ≡ false
no_message None h = refl
no_message (Some (a_message v as')) h = absurd cc
no_message (Some (a_term p as')) h = refl
no_message (Some (a_function f)) h = refl
no_message (Some number_builtin) h = refl

pub some_message : (e : Option (Entry Text)) (x : Content) → Some x ≡ message_content e → is_message e ≡ true
some_message None x h = absurd cc
some_message (Some (a_message v as')) x h = refl
some_message (Some (a_term p as')) x h = absurd cc
some_message (Some (a_function f)) x h = absurd cc
some_message (Some number_builtin) x h = absurd cc

no_value : (v : Option Pattern) → (LeadsOn (value_target v) → ⊥) → value_target v ≡ without_value
no_value None never = refl
no_value (Some p) never = absurd (never (p, refl))

pub without : (e : Option (Entry Text)) (x : Content) → Some x ≡ message_content e → (LeadsOn (message_target e no_attribute) → ⊥) → message_target e no_attribute ≡ without_value
without None x h never = absurd cc
without (Some (a_message v as')) x h never = no_value v never
without (Some (a_term p as')) x h never = absurd cc
without (Some (a_function f)) x h never = absurd cc
without (Some number_builtin) x h never = absurd cc

-- ---- attributes

first_if : (b : Bool) (p : Pattern) (t : Target) → ((LeadsOn t → ⊥) → t ≡ unknown) → (LeadsOn (if b then found p else t) → ⊥) → (if b then found p else t) ≡ unknown
first_if true p t later never = absurd (never (p, refl))
first_if false p t later never = later never

first_none : (name : Text) (as' : Attributes) → (LeadsOn (first_of name as') → ⊥) → first_of name as' ≡ unknown
first_none name [] never = refl
first_none name (a ∷ as') never = first_if (is_text a.0 name) a.1 (first_of name as') (first_none name as') never

pub no_attribute_of_message : (e : Option (Entry Text)) (name : Text) → (LeadsOn (message_target e (attribute name)) → ⊥) → message_target e (attribute name) ≡ unknown
no_attribute_of_message None name never = refl
no_attribute_of_message (Some (a_message v as')) name never = first_none name as' never
no_attribute_of_message (Some (a_term p as')) name never = refl
no_attribute_of_message (Some (a_function f)) name never = refl
no_attribute_of_message (Some number_builtin) name never = refl

pub no_attribute_of_term : (e : Option (Entry Text)) (name : Text) → (LeadsOn (term_target e (attribute name)) → ⊥) → term_target e (attribute name) ≡ unknown
no_attribute_of_term None name never = refl
no_attribute_of_term (Some (a_message v as')) name never = refl
no_attribute_of_term (Some (a_term p as')) name never = first_none name as' never
no_attribute_of_term (Some (a_function f)) name never = refl
no_attribute_of_term (Some number_builtin) name never = refl

-- ---- terms

pub no_term : (e : Option (Entry Text)) → None ≡ term_content e → is_term e ≡ false
no_term None h = refl
no_term (Some (a_message v as')) h = refl
no_term (Some (a_term p as')) h = absurd cc
no_term (Some (a_function f)) h = refl
no_term (Some number_builtin) h = refl

pub some_term : (e : Option (Entry Text)) (x : TermContent) → Some x ≡ term_content e → is_term e ≡ true
some_term None x h = absurd cc
some_term (Some (a_message v as')) x h = absurd cc
some_term (Some (a_term p as')) x h = refl
some_term (Some (a_function f)) x h = absurd cc
some_term (Some number_builtin) x h = absurd cc

-- each has a value
pub no_value_of_term : (e : Option (Entry Text)) → (LeadsOn (term_target e no_attribute) → ⊥) → is_term e ≡ false
no_value_of_term None never = refl
no_value_of_term (Some (a_message v as')) never = refl
no_value_of_term (Some (a_term p as')) never = absurd (never (p, refl))
no_value_of_term (Some (a_function f)) never = refl
no_value_of_term (Some number_builtin) never = refl

-- ---- what refers there

message_of : (n : Need) (m : Text) (a : Attribute) → place_of n ≡ Some (of_message m a) → n ≡ need.a_message m a
message_of (need.a_message l b) m a e = let id : l ≡ m = cc in let at : b ≡ a = cc in ap (λ k. need.a_message k b) id ∙ ap (need.a_message m) at
message_of (need.a_term t b names) m a e = absurd cc
message_of (need.a_function f) m a e = absurd cc
message_of (need.a_variable v) m a e = absurd cc
message_of need.a_default m a e = absurd cc

term_of : (n : Need) (t : Text) (a : Attribute) → place_of n ≡ Some (of_term t a) → (names : List Text) × (n ≡ need.a_term t a names)
term_of (need.a_message m b) t a e = absurd cc
term_of (need.a_term u b names) t a e = let id : u ≡ t = cc in let at : b ≡ a = cc in (names, ap (λ k. need.a_term k b names) id ∙ ap (λ k. need.a_term t k names) at)
term_of (need.a_function f) t a e = absurd cc
term_of (need.a_variable v) t a e = absurd cc
term_of need.a_default t a e = absurd cc

pub misses_message : (named : Names Text) (m : Text) (a : Attribute) (k : Kind) → MissesMessage named m a k → Misses named (of_message m a) k
misses_message named m a k misses never n e = subst (λ j. SaysAnyhow named j k) (sym (message_of n m a e)) (misses never)

pub misses_term : (named : Names Text) (t : Text) (a : Attribute) (k : Kind) → MissesTerm named t a k → Misses named (of_term t a) k
misses_term named t a k misses never n e = let r = term_of n t a e in subst (λ j. SaysAnyhow named j k) (sym r.1) (misses never r.0)
