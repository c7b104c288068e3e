-- What is ahead of a part of a pattern and of what follows it.
use Rattle.std.specs.Prelude.{◌≡◌, List, [], ◌∷◌, ◌++◌, length, Bool, true, false, is_none, Option, None, Some}
use Rattle.fluent_ast.specs.Tree as t
use Rattle.fluent_ast.specs.Tree.{Text, Pattern, Expression, Inline, Variants, Inlines, Nameds, argument, no_inlines, named_argument, no_nameds, Arguments}
use Rattle.fluent_ast.specs.Fallback.{fallback_of}
use Rattle.fluent_semantics.specs.Ahead.{Rest, Next, Values, after, begins, ahead, comes}
use Rattle.fluent_semantics.specs.Arguments.{Map, get, set, set_all}
use Rattle.fluent_semantics.specs.Bundle.{Bundle, Function, Target, found, function_found, message_target, term_target, unknown}
use Rattle.fluent_semantics.specs.Errors.{Error, resolver_error, missing_default}
use Rattle.fluent_semantics.specs.Events.{entered, tells, writes}
use Rattle.fluent_semantics.specs.Meaning.{Budget, ending, last_mark}
use Rattle.fluent_semantics.specs.Value.{Value, text_value}
use Rattle.fluent_resolver_state.specs.Status.{Status}
use Rattle.fluent_semantics.specs.Walk as walk
use Rattle.fluent_semantics.specs.Walk.{Environment, local, has_one, inner, is_on}

-- What a run has at hand: the text that is kept, where one is, the budget, where variables are looked up, the patterns that are being written, and the values that it ends with.
pub record View : Type 0 where
  pub kept : Option Text
  pub budget : Budget
  pub environment : Environment Text
  pub path : List Pattern
  pub values : Values Text

-- what follows, by the value that was made, if one was
abbrev pub Following : Type 0
Following = Option (Value Text) → View → Rest Text

-- a part, in a bundle, before what follows
abbrev pub Part : Type 0
Part = Bundle Text → Following → View → Rest Text

-- texts are written, and not kept
abbrev pub writes_now : View → Bool
writes_now v = is_none v.kept

-- a text is written, or it is kept behind what is kept
abbrev pub goes_on : Option Text → (Option Text → Budget → Rest Text) → Next Text Text
goes_on None k t b = after (writes t) (k None b)
goes_on (Some own) k t b = k (Some (own ++ t)) b

-- what follows a text
abbrev pub text_then : Following → View → Next Text Text
text_then k v = goes_on v.kept (λ kept b. k None (record v { kept = kept; budget = b }))

-- what follows a value
abbrev pub value_then : Following → View → Next Text (Value Text)
value_then k v x b = k (Some x) (record v { budget = b })

-- ---- parts

-- errors, and then a text
abbrev pub tells_and_puts : List Error → Text → Part
tells_and_puts es t b k v = after (tells es) (text_then k v t v.budget)

-- nothing more
abbrev pub nothing : Part
nothing b k v = k None v

-- the end of a placeable
abbrev pub closing : Expression → Bool → Part
closing e marked b k v = tells_and_puts [] (ending (fallback_of e) v.budget ++ last_mark marked) b k v

-- a value
abbrev pub value : Value Text → Part
value x b k v = k (Some x) v

abbrev pub elements : Bool → Pattern → Part
elements one p b k v = walk.elements (ahead Text) b (comes b) v.environment v.path one p (writes_now v) (text_then k v) v.budget

abbrev pub part : Bool → Expression → Part
part one e b k v = walk.part (ahead Text) b (comes b) v.environment v.path one (t.placeable e) (writes_now v) (text_then k v) v.budget

abbrev pub expression : Expression → Part
expression e b k v = walk.expression (ahead Text) b (comes b) v.environment v.path e (writes_now v) (text_then k v) v.budget

abbrev pub written : Inline → Part
written x b k v = walk.written (ahead Text) b (comes b) v.environment v.path x (writes_now v) (text_then k v) v.budget

abbrev pub resolved : Inline → Part
resolved x b k v = walk.resolved (ahead Text) b (comes b) v.environment v.path x false (value_then k v) v.budget

-- a text that is written, and kept: it is a value
abbrev pub kept : Inline → Part
kept x b k v = begins (walk.written (ahead Text) b (comes b) v.environment v.path x false (λ t d. k (Some (text_value t)) (record v { budget = d })) v.budget)

abbrev pub whole : Pattern → Part
whole p b k v = walk.whole (ahead Text) b (comes b) v.environment v.path p (writes_now v) (text_then k v) v.budget

-- what a reference leads to
abbrev pub follow : Inline → Text → Target → Part
follow x id target b k v = walk.follow (ahead Text) b (comes b) v.environment v.environment v.path x id target (writes_now v) (text_then k v) v.budget

abbrev pub go : Inline → Pattern → Part
go x p b k v = walk.go (ahead Text) b (comes b) v.environment (is_on v.path p) v.environment v.path x p (writes_now v) (text_then k v) v.budget

-- a pattern that a reference leads to: it is entered, its elements are written, and it is left
abbrev pub visited : Pattern → Part
visited p b k v =
    after (entered (length (v.path ++ p ∷ [])) ∷ []) (begins (elements (has_one p) p b (λ given u. k given (record u { path = v.path })) (record v { path = v.path ++ p ∷ [] })))

-- a pattern that is one text
abbrev pub text_alone : Text → Pattern
text_alone x = t.more (t.text x) t.nothing

-- the variant that a value goes to, or else the default
abbrev pub matched : Variants → Value Text → Part
matched vs x b k v = walk.matched (ahead Text) b (comes b) v.environment v.path x (walk.default_of (ahead Text) b (comes b) v.environment v.path vs) vs (writes_now v) (text_then k v) v.budget

-- a variant that was chosen, if one was
abbrev pub chosen : Option Pattern → Part
chosen None b k v = tells_and_puts (resolver_error missing_default ∷ []) [] b k v
chosen (Some p) b k v = whole p b k v

-- a function's answer, written
abbrev pub answered : Inline → Option (Function Text) → List (Value Text) → Map (Value Text) → Part
answered x f vs m b k v = walk.function_text (ahead Text) b (comes b) v.environment x f vs m (writes_now v) (text_then k v) v.budget

-- what a reference that has no arguments leads to
abbrev pub target_of : Bundle Text → Inline → Target
target_of b (t.message m a) = message_target (get m b.ids) a
target_of b (t.term x a t.no_call) = term_target (get x b.ids) a
target_of b _ = unknown

-- a reference without arguments to a pattern of one text, which isn't being written
abbrev pub LeadsToText : {B : Type 0} → Status B → Inline → Text → Type 0
LeadsToText s x y = (target_of s.bundle x ≡ found (text_alone y)) × (is_on s.path (text_alone y) ≡ false)

-- whether an inline expression stands in braces
abbrev pub is_braced : Inline → Bool
is_braced (t.string x) = false
is_braced (t.number x) = false
is_braced (t.function f a) = false
is_braced (t.message m a) = false
is_braced (t.term x a c) = false
is_braced (t.variable x) = false
is_braced (t.nested e) = true

-- a literal or a variable, which asks for no other part
abbrev pub IsLeaf : Inline → Type 0
IsLeaf (t.string x) = Unit {0}
IsLeaf (t.number x) = Unit {0}
IsLeaf (t.function f a) = ⊥
IsLeaf (t.message m a) = ⊥
IsLeaf (t.term x a c) = ⊥
IsLeaf (t.variable x) = Unit {0}
IsLeaf (t.nested e) = ⊥

-- a message reference
abbrev pub IsMessage : Inline → Type 0
IsMessage (t.string x) = ⊥
IsMessage (t.number x) = ⊥
IsMessage (t.function f a) = ⊥
IsMessage (t.message m a) = Unit {0}
IsMessage (t.term x a c) = ⊥
IsMessage (t.variable x) = ⊥
IsMessage (t.nested e) = ⊥

-- a term reference
abbrev pub IsTerm : Inline → Type 0
IsTerm (t.string x) = ⊥
IsTerm (t.number x) = ⊥
IsTerm (t.function f a) = ⊥
IsTerm (t.message m a) = ⊥
IsTerm (t.term x a c) = Unit {0}
IsTerm (t.variable x) = ⊥
IsTerm (t.nested e) = ⊥

-- a function's call
abbrev pub IsFunction : Inline → Type 0
IsFunction (t.string x) = ⊥
IsFunction (t.number x) = ⊥
IsFunction (t.function f a) = Unit {0}
IsFunction (t.message m a) = ⊥
IsFunction (t.term x a c) = ⊥
IsFunction (t.variable x) = ⊥
IsFunction (t.nested e) = ⊥

-- a select
abbrev pub IsSelect : Expression → Type 0
IsSelect (t.select x vs) = Unit {0}
IsSelect (t.inline x) = ⊥

abbrev mutual
  -- the expression within all braces that stand round it alone
  pub innermost : Expression → Expression
  innermost (t.inline x) = innermost_inline x
  innermost (t.select x vs) = t.select x vs

  pub innermost_inline : Inline → Expression
  innermost_inline (t.string x) = t.inline (t.string x)
  innermost_inline (t.number x) = t.inline (t.number x)
  innermost_inline (t.function f a) = t.inline (t.function f a)
  innermost_inline (t.message m a) = t.inline (t.message m a)
  innermost_inline (t.term x a c) = t.inline (t.term x a c)
  innermost_inline (t.variable x) = t.inline (t.variable x)
  innermost_inline (t.nested e) = innermost e

-- ---- calls

-- what is made of the values of arguments
abbrev pub Use : Type 0
Use = List (Value Text) → Map (Value Text) → Part

abbrev pub shows : Inline → Text → Use
shows x id vs m b = answered x (function_found (get id b.ids)) vs m b

abbrev pub gives : Text → Use
gives id vs m b = value (walk.function_value (ahead Text) b (comes b) (walk.application []) (function_found (get id b.ids)) vs m) b

abbrev pub in_term : Inline → Text → Target → Use
in_term x id target vs m b k v = walk.follow (ahead Text) b (comes b) v.environment (local m) v.path x id target (writes_now v) (text_then k v) v.budget

abbrev pub hands : Use
hands vs m b k v = k None (record v { values = Some (vs, m) })

-- The values of a call's arguments so far, and the arguments that are left.
pub record Held : Type 0 where
  pub values : List (Value Text)
  pub map : Map (Value Text)
  pub more : Inlines
  pub more_named : Nameds

-- the arguments that are left, and then what is made of them
abbrev pub gathering : Use → Held → Part
gathering made_of h b k v =
    walk.positional (ahead Text) b (comes b) v.environment v.path h.more false (λ ws c.
    begins (walk.named (ahead Text) b (comes b) v.environment v.path h.more_named false (λ es d.
    made_of (h.values ++ ws) (set_all es h.map) b k (record v { budget = d })) c)) v.budget

-- the first of them has this value
abbrev pub after_first : Inlines → Nameds → Held → Value Text → Held
after_first (argument x xs) ns h y = record { values = h.values ++ y ∷ []; map = h.map; more = xs; more_named = ns }
after_first no_inlines (named_argument name x ns) h y = record { values = h.values; map = set name y h.map; more = no_inlines; more_named = ns }
after_first no_inlines no_nameds h y = h

abbrev pub after_value : Held → Value Text → Held
after_value h y = after_first h.more h.more_named h y

-- the first of them, if one is left
abbrev pub first_argument : Inlines → Nameds → Option Inline
first_argument (argument x xs) ns = Some x
first_argument no_inlines (named_argument name x ns) = Some x
first_argument no_inlines no_nameds = None

abbrev pub next_argument : Held → Option Inline
next_argument h = first_argument h.more h.more_named

-- one more step, after a positional argument
abbrev pub stepping : Inlines → Rest Text → Rest Text
stepping (argument x xs) r = begins r
stepping no_inlines r = r

-- the same, where the first of them has this value, if it has one
abbrev pub taken : Use → Held → Option (Value Text) → Part
taken made_of h None b k v = gathering made_of h b k v
taken made_of h (Some y) b k v = stepping h.more (gathering made_of (after_value h y) b k v)

-- a term that a reference leads to, in the environment that these make
abbrev pub entering_term : Inline → Text → Target → Map (Value Text) → Part
entering_term x id target m = in_term x id target [] m

-- a term reference, by what it leads to
abbrev pub term : Inline → Text → Target → t.Call → Part
term x id target c b k v =
    begins (walk.local_of (ahead Text) b (comes b) v.environment v.path c false (λ m d. entering_term x id target m b k (record v { budget = d })) v.budget)

-- the arguments of a call, and what is made of them
abbrev pub calls : Use → Arguments → Part
calls made_of a b k v =
    begins (walk.called (ahead Text) b (comes b) v.environment v.path a false (λ c d. made_of c.0 c.1 b k (record v { budget = d })) v.budget)
