use Rattle.std.proofs.Common.{◌≡◌, ℕ, List, true, false, Some, None, Err, sym, ap, ◌∙◌, subst}
use Rattle.fluent_text.specs.Parser.{Text, Read, otherwise, and_then, pure, ◌>>◌, ◌<$>◌}
use Rattle.fluent_ast.specs.Tree.{Arguments, function}
use Rattle.fluent_ast.specs.View.{name_view, arguments_view}
use Rattle.fluent_syntax.specs.Expressions.{Level, level, provided, is_function_name}
use Rattle.fluent_syntax.specs.Inside.Parts.{message_to, reference_to}
use Rattle.fluent_syntax.specs.Inside.Reading.{Gives}
use Rattle.fluent_syntax.proofs.Views.{view_function}
use Rattle.fluent_syntax.proofs.parser.inner.Inner.reference.Goals as goal

-- what a name refers to that no function has
of_message : (g : Level) (id : Text) (s : List ℕ) → is_function_name id ≡ false → reference_to g id s ≡ message_to id s
of_message g id s e = ap (λ b. otherwise ((provided b >> ((λ a. function id a) <$> g.brackets)) s) (message_to id) s) e

-- what a function's name refers to, by what is read as its arguments
of_function : (g : Level) (id : Text) (s : List ℕ) (r : Read Arguments) → is_function_name id ≡ true → g.brackets s ≡ r
    → reference_to g id s ≡ otherwise (and_then r (λ a. pure (function id a))) (message_to id) s
of_function g id s r e read =
    ap (λ b. otherwise ((provided b >> ((λ a. function id a) <$> g.brackets)) s) (message_to id) s) e
    ∙ ap (λ q. otherwise (and_then q (λ a. pure (function id a))) (message_to id) s) read

pub returns-then-not-is_function_name : goal.returns-then-not-is_function_name
returns-then-not-is_function_name g c =
    of_message (level c.args.self.now.depth) (name_view c.args.id) c.args.s.now (sym c.is_function_name.ensures ∙ c.if-not-is_function_name.true) ∙ c.message_reference.ensures

pub returns-in_ok-arguments-in-Ok : goal.returns-in_ok-arguments-in-Ok
returns-in_ok-arguments-in-Ok g c =
    let l = level c.args.self.now.depth in
    let id = c.args.id in
    let boxed = c.in_ok-arguments-in-Ok.arguments in
    let rest = c.in-Ok.rest.now in
    of_function l (name_view id) c.args.s.now (Some (arguments_view c.in-Ok.arguments, rest)) (sym c.is_function_name.ensures ∙ c.if-not-is_function_name.false)
    (c.requires.brackets.reads c.args.self.now.alloc c.args.s _ c.in-Ok.ensures)
    ∙ ap (λ x. Some (x, rest)) (ap (λ a. function (name_view id) (arguments_view a)) (sym c.in_ok-arguments-in-Ok.ensures.ok) ∙ sym (view_function id boxed))

pub returns-in-Err-Absent : goal.returns-in-Err-Absent
returns-in-Err-Absent g c =
    let l = level c.args.self.now.depth in
    let s = c.args.s.now in
    let none : l.brackets s ≡ None = subst (λ e. Gives arguments_view (Err e) (l.brackets s)) c.in-Err-Absent.field-0-is (c.requires.brackets.reads c.args.self.now.alloc c.args.s (Err c.in-Err-Absent.field-0) c.in-Err-Absent.ensures) in
    of_function l (name_view c.args.id) s None (sym c.is_function_name.ensures ∙ c.if-not-is_function_name.false) none ∙ c.message_reference-in-Err-Absent.ensures
