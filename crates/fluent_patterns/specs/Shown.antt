-- The variables that a pattern shows, and the functions that it calls to show what they answer: outside of selectors.
use Rattle.std.specs.Prelude.{◌≡◌, List, [], ◌∷◌, ◌++◌, Vec}
use Rattle.std.specs.Borrow.{Bor}
use Rattle.std.specs.declared.alloc.Global.{Global}
use Rattle.fluent_ast.specs.Tree.{Text, Pattern, nothing, more, Element, text, placeable, Expression, inline, select, Variants, no_variants, variant, Inline, string, number, function, message, term, variable, nested, Arguments, arguments, Inlines, no_inlines, argument}
use Rattle.fluent_places.specs.Asked.{texts}
use Rattle.fluent_patterns.specs.declared.shown.Wanted.{Wanted}
use Rattle.fluent_patterns.specs.declared.shown.Wanted.TheVariants.{Variables, Functions}

-- a variable, where variables are wanted
abbrev pub variable_if : Wanted → Text → List Text
variable_if Variables v = v ∷ []
variable_if Functions v = []

-- a function, where functions are
abbrev pub function_if : Wanted → Text → List Text
function_if Variables f = []
function_if Functions f = f ∷ []

module _ (wanted : Wanted) where
  -- In the order of the tree. Named arguments are literals, and a term throws its positional ones away.
  abbrev mutual
    pub shown : Pattern → List Text
    shown nothing = []
    shown (more e p) = in_element e ++ shown p

    pub in_element : Element → List Text
    in_element (text t) = []
    in_element (placeable e) = in_expression e

    -- a selector chooses, and is not shown
    pub in_expression : Expression → List Text
    in_expression (inline x) = in_inline x
    in_expression (select x vs) = in_variants vs

    pub in_variants : Variants → List Text
    in_variants no_variants = []
    in_variants (variant k p d vs) = shown p ++ in_variants vs

    pub in_inline : Inline → List Text
    in_inline (string t) = []
    in_inline (number t) = []
    in_inline (function f a) = function_if wanted f ++ in_arguments a
    in_inline (message m a) = []
    in_inline (term t a c) = []
    in_inline (variable v) = variable_if wanted v
    in_inline (nested e) = in_expression e

    pub in_arguments : Arguments → List Text
    in_arguments (arguments xs ns) = in_inlines xs

    pub in_inlines : Inlines → List Text
    in_inlines no_inlines = []
    in_inlines (argument x xs) = in_inline x ++ in_inlines xs

-- names were added, these and no other
abbrev pub AddsNames : List Text → Vec (Bor Text) Global → Vec (Bor Text) Global → Type 0
AddsNames added old new = texts new.items ≡ texts old.items ++ added
