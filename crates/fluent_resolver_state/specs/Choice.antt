-- Which variant a value goes to.
use Rattle.std.specs.Prelude.{Bool, false, Option, Some, None, if◌then◌else◌}
use Rattle.fluent_ast.specs.Tree.{Text, Key, Pattern, Variants, no_variants, variant}
use Rattle.fluent_intl.specs.Number.{Number}
use Rattle.fluent_semantics.specs.Number.{is_text, same_number}
use Rattle.fluent_semantics.specs.Value.{Value, text_value, number_value}

-- the first default
abbrev pub first_default : Variants → Option Pattern
first_default no_variants = None
first_default (variant k p d vs) = if d then Some p else first_default vs

-- the first variant with such a key, else the other
abbrev pub choice : (Key → Bool) → Option Pattern → Variants → Option Pattern
choice goes otherwise no_variants = otherwise
choice goes otherwise (variant k p d vs) = if goes k then Some p else choice goes otherwise vs

-- whether a key's value is a word, or a number like that one, where there is one
abbrev pub is_like : Text → Option Number → Value Text → Bool
is_like word n (text_value t) = is_text t word
is_like word (Some n) (number_value m) = same_number m n
is_like word n v = false
