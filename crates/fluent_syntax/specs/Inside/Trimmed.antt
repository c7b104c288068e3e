-- Elements that trimming leaves as they are.
use Rattle.std.specs.Prelude.{◌≡◌, List, [], ◌∷◌}
use Rattle.fluent_ast.specs.Tree.{Element}
use Rattle.fluent_syntax.specs.Layout.{trimmed, trim_last}

-- trimming leaves this element as it is
abbrev pub Stays : Element → Type 0
Stays e = trimmed e ≡ e ∷ []

-- trimming the last of these elements leaves them as they are
abbrev pub AllStay : List Element → Type 0
AllStay es = es ≡ trim_last es
