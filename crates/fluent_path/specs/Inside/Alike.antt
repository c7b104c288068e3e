-- What tells most patterns apart before they are compared.
use Rattle.std.specs.Prelude.{ℕ, Bool, true, false, nat_eq, length, Option, None, Some}
use Rattle.fluent_ast.specs.Tree as t
use Rattle.fluent_ast.specs.Tree.{function, inline, message, more, nested, nothing, number, placeable, select, string, term, text, variable}

-- how long the id of a message is that an expression refers to
abbrev pub id_length : t.Expression → Option ℕ
id_length (inline (message id a)) = Some (length id)
id_length (inline (term id a c)) = None
id_length (inline (string t)) = None
id_length (inline (number t)) = None
id_length (inline (function id b)) = None
id_length (inline (variable id)) = None
id_length (inline (nested e)) = None
id_length (select x vs) = None

-- whether two lengths are the same where both are known
abbrev pub may_be_same : Option ℕ → Option ℕ → Bool
may_be_same (Some m) (Some n) = nat_eq m n
may_be_same (Some m) None = true
may_be_same None n = true

-- whether two expressions may be the same, by the lengths of ids where both are references to messages
abbrev pub are_alike : t.Expression → t.Expression → Bool
are_alike e f = may_be_same (id_length e) (id_length f)

-- whether two patterns may begin with the same element: with texts of one length, or with placeables that may be the same
abbrev pub begin_alike : t.Pattern → t.Pattern → Bool
begin_alike nothing nothing = true
begin_alike nothing (more x q) = false
begin_alike (more x p) nothing = false
begin_alike (more (text t) p) (more (text u) q) = nat_eq (length t) (length u)
begin_alike (more (text t) p) (more (placeable f) q) = false
begin_alike (more (placeable e) p) (more (text u) q) = false
begin_alike (more (placeable e) p) (more (placeable f) q) = are_alike e f

-- a reference to a message, without an attribute
abbrev pub referring : t.Text → t.Expression
referring id = inline (message id t.no_attribute)

-- a pattern that is one
abbrev pub only_message : t.Text → t.Pattern
only_message id = more (placeable (referring id)) nothing
