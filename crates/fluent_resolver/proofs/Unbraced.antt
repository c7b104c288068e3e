-- Inline expressions that stand in no braces.
use Rattle.std.proofs.Common.{◌≡◌, refl, sym, ap, ◌∙◌, is_none, Option, Some, None}
use Rattle.fluent_ast.specs.Fallback.{fallback, in_braces}
use Rattle.fluent_ast.specs.Tree.{Text, Attribute, Inline, string, number, function, message, term, variable, Call, Arguments}
use Rattle.fluent_text.specs.Escapes.{unescaped}
use Rattle.fluent_semantics.specs.Ahead.{ahead, comes}
use Rattle.fluent_semantics.specs.Arguments.{get}
use Rattle.fluent_semantics.specs.Bundle.{Bundle, message_target, shown, term_target}
use Rattle.fluent_semantics.specs.Errors.{reference_of}
use Rattle.fluent_semantics.specs.Value.{Value, try_number}
use Rattle.fluent_semantics.specs.Walk as walk
use Rattle.fluent_semantics.specs.Walk.{Environment, application, elements, local, variables}
use Rattle.fluent_resolver_state.specs.Happened.{variable_errors, variable_shown}
use Rattle.fluent_resolver.specs.Inside.Parts as parts
use Rattle.fluent_resolver.specs.Inside.Parts.{View, Following, tells_and_puts, text_then}
use Rattle.fluent_resolver.proofs.Answered.{loses_is}

pub written_string : (t : Text) (b : Bundle Text) (k : Following) (v : View) → parts.written (string t) b k v ≡ text_then k v (unescaped t) v.budget
unfolding elements
written_string t b k v = refl

pub written_number : (t : Text) (b : Bundle Text) (k : Following) (v : View) → parts.written (number t) b k v ≡ text_then k v (shown b (try_number t)) v.budget
unfolding elements
written_number t b k v = refl

pub written_function : (f : Text) (a : Arguments) (b : Bundle Text) (k : Following) (v : View) → parts.written (function f a) b k v ≡ parts.calls (parts.shows (function f a) f) a b k v
unfolding elements
written_function f a b k v = refl

pub written_message : (m : Text) (a : Attribute) (b : Bundle Text) (k : Following) (v : View) → parts.written (message m a) b k v ≡ parts.follow (message m a) m (message_target (get m b.ids) a) b k v
unfolding elements
written_message m a b k v = refl

pub written_term : (t : Text) (a : Attribute) (c : Call) (b : Bundle Text) (k : Following) (v : View) → parts.written (term t a c) b k v ≡ parts.term (term t a c) t (term_target (get t b.ids) a) c b k v
unfolding elements
written_term t a c b k v = refl

written_variable : (id : Text) (b : Bundle Text) (k : Following) (v : View) → parts.written (variable id) b k v ≡ walk.variable_text (ahead Text) b (comes b) v.environment (variable id) (get id (variables v.environment)) (is_none v.kept) (text_then k v) v.budget
unfolding elements
written_variable id b k v = refl

shown_variable : (x : Inline) (o : Option (Value Text)) (b : Bundle Text) (k : Following) (v : View) (env : Environment Text) → walk.variable_text (ahead Text) b (comes b) env x o (is_none v.kept) (text_then k v) v.budget ≡ tells_and_puts (variable_errors env x o) (variable_shown b x o) b k v
shown_variable x (Some y) b k v env = refl
shown_variable x None b k v (application m) = loses_is b (application m) (reference_of x) (in_braces (fallback x)) (is_none v.kept) (text_then k v) v.budget
shown_variable x None b k v (local m) = refl

pub variable_is : (x : Inline) (id : Text) (b : Bundle Text) (k : Following) (v : View) → x ≡ variable id → parts.written x b k v ≡ tells_and_puts (variable_errors v.environment x (get id (variables v.environment))) (variable_shown b x (get id (variables v.environment))) b k v
variable_is x id b k v is =
    ap (λ x. parts.written x b k v) is
    ∙ written_variable id b k v
    ∙ ap (λ x. walk.variable_text (ahead Text) b (comes b) v.environment x (get id (variables v.environment)) (is_none v.kept) (text_then k v) v.budget) (sym is)
    ∙ shown_variable x (get id (variables v.environment)) b k v v.environment
