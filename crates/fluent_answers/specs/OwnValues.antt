-- Values of the caller's own, by their texts: a token that the caller knows one by, a line feed, and what it is shown as.
use Rattle.std.specs.Prelude.{◌==◌}
use Rattle.std.specs.List.{after_first}
use Rattle.fluent_ast.specs.Tree.{Text}
use Rattle.fluent_semantics.specs.Number.{is_text}
use Rattle.fluent_semantics.specs.Value.{Custom}

-- what stands after the first line feed; nothing where there is none
abbrev pub own_text : Text → Text
own_text t = after_first (λ c. c == 10) t

-- what is said of such values
abbrev pub own_custom : Custom Text
own_custom = record { text = own_text; same = is_text }
