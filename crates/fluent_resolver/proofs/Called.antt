-- Calls: their arguments, one after the other.
use Rattle.std.proofs.Common.{◌≡◌, refl, sym, ap, ◌∙◌, List, []}
use Rattle.fluent_ast.specs.Tree.{Text, Inlines, Nameds, Arguments, arguments}
use Rattle.fluent_semantics.specs.Ahead.{begins}
use Rattle.fluent_semantics.specs.Arguments.{Map}
use Rattle.fluent_semantics.specs.Bundle.{Bundle}
use Rattle.fluent_semantics.specs.Value.{Value}
use Rattle.fluent_semantics.specs.Walk.{elements}
use Rattle.fluent_resolver.specs.Inside.Parts.{Following, Use, View, calls, gathering}

called_none : (made_of : Use) (ps : Inlines) (ns : Nameds) (b : Bundle Text) (k : Following) (v : View) → calls made_of (arguments ps ns) b k v ≡ begins (begins (gathering made_of (record { values = []; map = []; more = ps; more_named = ns }) b k v))
unfolding elements
called_none made_of ps ns b k v = refl

-- a call begins, of which no argument has its value
pub called_at : (made_of : Use) (args : Arguments) (ps : Inlines) (ns : Nameds) (values : List (Value Text)) (map : Map (Value Text)) (b : Bundle Text) (k : Following) (v : View) → args ≡ arguments ps ns → values ≡ [] → map ≡ [] → calls made_of args b k v ≡ begins (begins (gathering made_of (record { values = values; map = map; more = ps; more_named = ns }) b k v))
called_at made_of args ps ns values map b k v is none no_map =
    ap (λ a. calls made_of a b k v) is
    ∙ called_none made_of ps ns b k v
    ∙ ap (λ m. begins (begins (gathering made_of (record { values = []; map = m; more = ps; more_named = ns }) b k v))) (sym no_map)
    ∙ ap (λ vs. begins (begins (gathering made_of (record { values = vs; map = map; more = ps; more_named = ns }) b k v))) (sym none)
