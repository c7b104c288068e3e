-- The bytes that stand for the kinds of values.
use Rattle.std.specs.Prelude.{◌==◌, ℕ, Option, Some, None, if◌then◌else◌}
use Rattle.fluent_answers.specs.declared.kind.Kind.{Kind}
use Rattle.fluent_answers.specs.declared.kind.Kind.TheVariants as kind

-- t, n, c, o or e
abbrev pub byte_of : Kind → ℕ
byte_of kind.Text = 116
byte_of kind.Number = 110
byte_of kind.Own = 99
byte_of kind.Nothing = 111
byte_of kind.Error = 101

abbrev pub kind_of : ℕ → Option Kind
kind_of c = if c == 116 then Some kind.Text else (if c == 110 then Some kind.Number else (if c == 99 then Some kind.Own else (if c == 111 then Some kind.Nothing else (if c == 101 then Some kind.Error else None))))
