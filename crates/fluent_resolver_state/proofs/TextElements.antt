-- Patterns of texts alone.
use Rattle.std.proofs.Common.{◌≡◌, sym, ap, ◌∙◌, ℕ, ◌+◌, ◌<◌, ◌≤◌, List, [], ◌++◌, length, map, drop, get_or}
use Rattle.fluent_ast.specs.Tree.{Text, Expression, text, placeable, more, pattern_of}
use Rattle.fluent_ast.specs.View.{element_view}
use Rattle.fluent_ast.specs.declared.ast.PatternElement.{PatternElement}
use Rattle.fluent_bundle_entries.specs.Texts.{texts_of}
use Rattle.fluent_resolver_state.specs.Facts.Lists.{next_of, none_left}

-- the texts of the elements from one on
abbrev pub texts_from : List PatternElement → ℕ → Text
texts_from es i = texts_of (pattern_of (map element_view (drop i es)))

pub text_next : (es : List PatternElement) (i : ℕ) (e : PatternElement) (t : Text) → i < length es → e ≡ get_or es i e → element_view e ≡ text t → t ++ texts_from es (i + 1) ≡ texts_from es i
text_next es i e t h is p = sym (
    ap (λ es. texts_of (pattern_of (map element_view es))) (next_of es i e h is)
    ∙ ap (λ v. texts_of (more v (pattern_of (map element_view (drop (i + 1) es))))) p)

pub placeable_next : (es : List PatternElement) (i : ℕ) (e : PatternElement) (x : Expression) → i < length es → e ≡ get_or es i e → element_view e ≡ placeable x → texts_from es (i + 1) ≡ texts_from es i
placeable_next es i e x h is p = sym (
    ap (λ es. texts_of (pattern_of (map element_view es))) (next_of es i e h is)
    ∙ ap (λ v. texts_of (more v (pattern_of (map element_view (drop (i + 1) es))))) p)

-- after the last element none is left
pub no_texts_left : (es : List PatternElement) (i : ℕ) → length es ≤ i → texts_from es i ≡ []
no_texts_left es i h = ap (λ es. texts_of (pattern_of (map element_view es))) (none_left es i h)
