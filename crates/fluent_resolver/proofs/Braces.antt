-- Braces that stand round an expression alone give what it gives.
use Rattle.std.proofs.Common.{◌≡◌, refl, sym, ap, subst, ◌∙◌, List, false}
use Rattle.fluent_ast.specs.Tree as t
use Rattle.fluent_ast.specs.Tree.{Text, Pattern, Expression, Inline}
use Rattle.fluent_ast.specs.References.{in_expression, in_inline}
use Rattle.fluent_semantics.specs.Ahead.{ahead, comes}
use Rattle.fluent_semantics.specs.Bundle.{Bundle}
use Rattle.fluent_semantics.specs.Walk as walk
use Rattle.fluent_semantics.specs.Walk.{Environment, Steps, elements}
use Rattle.fluent_resolver.specs.Inside.Parts as parts
use Rattle.fluent_resolver.specs.Inside.Parts.{View, Following, innermost, innermost_inline, is_braced, text_then, writes_now}

mutual
  pub refers_same : (e : Expression) → in_expression (innermost e) ≡ in_expression e
  refers_same (t.inline x) = refers_same_inline x
  refers_same (t.select x vs) = refl

  refers_same_inline : (x : Inline) → in_expression (innermost_inline x) ≡ in_inline x
  refers_same_inline (t.string x) = refl
  refers_same_inline (t.number x) = refl
  refers_same_inline (t.function f a) = refl
  refers_same_inline (t.message m a) = refl
  refers_same_inline (t.term x a c) = refl
  refers_same_inline (t.variable x) = refl
  refers_same_inline (t.nested e) = refers_same e

module _ {C : Type 0} (S : Steps) (b : Bundle C) (below : Environment C → List Pattern → Pattern → S.M Text) (env : Environment C) (path : List Pattern) where
  mutual
    unfolding elements

    pub writes_same : (e : Expression) → walk.expression S b below env path (innermost e) ≡ walk.expression S b below env path e
    writes_same (t.inline x) = writes_same_inline x
    writes_same (t.select x vs) = refl

    writes_same_inline : (x : Inline) → walk.expression S b below env path (innermost_inline x) ≡ walk.written S b below env path x
    writes_same_inline (t.string x) = refl
    writes_same_inline (t.number x) = refl
    writes_same_inline (t.function f a) = refl
    writes_same_inline (t.message m a) = refl
    writes_same_inline (t.term x a c) = refl
    writes_same_inline (t.variable x) = refl
    writes_same_inline (t.nested e) = writes_same e

-- what is ahead of it
pub ahead_same : (e i : Expression) (b : Bundle Text) (k : Following) (v : View) → innermost e ≡ i → parts.expression e b k v ≡ parts.expression i b k v
ahead_same e i b k v is =
    ap (λ m. m (writes_now v) (text_then k v) v.budget) (sym (writes_same (ahead Text) b (comes b) v.environment v.path e))
    ∙ ap (λ y. parts.expression y b k v) is

pub inline_ahead : (x : Inline) (b : Bundle Text) (k : Following) (v : View) → parts.expression (t.inline x) b k v ≡ parts.written x b k v
unfolding elements
inline_ahead x b k v = refl

pub nested_ahead : (e : Expression) (b : Bundle Text) (k : Following) (v : View) → parts.written (t.nested e) b k v ≡ parts.expression e b k v
unfolding elements
nested_ahead e b k v = refl

-- ---- none stand round the innermost

bare_if : (x y : Inline) → is_braced y ≡ false → t.inline y ≡ t.inline x → is_braced x ≡ false
bare_if x y bare is = let same : y ≡ x = cc in subst (λ z. is_braced z ≡ false) same bare

mutual
  pub unbraced : (e : Expression) (x : Inline) → innermost e ≡ t.inline x → is_braced x ≡ false
  unbraced (t.inline y) x h = unbraced_inline y x h
  unbraced (t.select y vs) x h = cc

  unbraced_inline : (y x : Inline) → innermost_inline y ≡ t.inline x → is_braced x ≡ false
  unbraced_inline (t.string s) x h = bare_if x (t.string s) refl h
  unbraced_inline (t.number s) x h = bare_if x (t.number s) refl h
  unbraced_inline (t.function f a) x h = bare_if x (t.function f a) refl h
  unbraced_inline (t.message m a) x h = bare_if x (t.message m a) refl h
  unbraced_inline (t.term y a c) x h = bare_if x (t.term y a c) refl h
  unbraced_inline (t.variable y) x h = bare_if x (t.variable y) refl h
  unbraced_inline (t.nested e) x h = unbraced e x h
