-- A variant takes at least one byte.
use Rattle.std.proofs.Common.{◌≡◌, ℕ, ◌<◌, Bool, true, false, List, [], ◌∷◌, length, Some, None, refl, arith, subst}
use Rattle.fluent_ast.specs.Tree.{Key, Pattern}
use Rattle.fluent_text.specs.Parser.{skip, byte, pure, many_from, run1}
use Rattle.fluent_text.specs.Lexical.{blank, blank_inline, blank_turn, line_end, line_break}
use Rattle.fluent_syntax.specs.Pieces.{pattern}
use Rattle.fluent_syntax.specs.Expressions.{level, star, variant, variant_head, variant_key}
use Rattle.fluent_syntax.specs.Facts.Prefixes.{Takes, takes-bind, takes-then, takes-pure, Eats, Lessens, eats-bind, eats-then}
use Rattle.fluent_syntax.specs.Facts.LexicalPrefixes.{takes-blanks, takes-spaces, takes-star, takes-variant_key}
use Rattle.fluent_syntax.specs.Facts.Rules.{eats-line_end}
use Rattle.fluent_syntax.specs.Facts.Sound.{takes-sound}
use Rattle.fluent_syntax.specs.Facts.Trees.{OfPattern, sound-pattern, sound-braces}
use Rattle.fluent_syntax.proofs.BareReferences.{none_some}

takes-pattern : (n : ℕ) → Takes (pattern (level n).braces)
takes-pattern n = takes-sound (OfPattern n) (pattern (level n).braces) (sound-pattern (level n).braces n (sound-braces n))

eats-head : (default : Bool) → Eats (variant_head default)
unfolding variant_head
eats-head default =
    eats-then line_end _ eats-line_end (takes-then (skip blank) _ takes-blanks (takes-then (star default) _ (takes-star default) (takes-bind variant_key _ takes-variant_key
    (λ k. takes-then (skip blank_inline) (pure k) takes-spaces (takes-pure k)))))

eats-variant : (n : ℕ) (default : Bool) → Eats (variant (level n) default)
unfolding variant
eats-variant n default =
    eats-bind (variant_head default) _ (eats-head default) (λ key. takes-bind (pattern (level n).braces) _ (takes-pattern n) (λ p. takes-pure (key, p, default)))

no_head : (default : Bool) → variant_head default [] ≡ None
unfolding variant_head variant_key line_end line_break blank blank_turn blank_inline run1 byte many_from
no_head true = refl
no_head false = refl

no_variant : (n : ℕ) (default : Bool) → variant (level n) default [] ≡ None
unfolding variant
no_variant n default = rw (no_head default) refl

pub variant_less : (n : ℕ) (default : Bool) (s : List ℕ) (v : Key × Pattern × Bool) (rest : List ℕ) → variant (level n) default s ≡ Some (v, rest) → length rest < length s
variant_less n default [] v rest e = absurd (none_some (variant (level n) default []) (v, rest) (no_variant n default) e)
variant_less n default (c ∷ cs) v rest e = subst (Lessens (c ∷ cs)) e ((eats-variant n default).less (c ∷ cs) (omega arith))
