-- Two texts are put one after the other.
use Rattle.std.proofs.Common.{◌≡◌, sym, ap, ◌∙◌, ◌++◌, append_assoc, Option, Some, None}
use Rattle.fluent_ast.specs.Tree.{Text}
use Rattle.fluent_semantics.specs.Ahead.{Rest}
use Rattle.fluent_semantics.specs.Events.{writes}
use Rattle.fluent_semantics.specs.Meaning.{Budget}
use Rattle.fluent_resolver_state.specs.Facts.Happening.{writes_on}
use Rattle.fluent_resolver.specs.Inside.Parts.{View, Following, goes_on, text_then}

goes_in_turn : (kept : Option Text) (k : Option Text → Budget → Rest Text) (t u : Text) (b : Budget) → goes_on kept k (t ++ u) b ≡ goes_on kept (λ kept' c. goes_on kept' k u c) t b
goes_in_turn None k t u b = ap (λ es. record { events = es ++ (k None b).events; parts = (k None b).parts; values = (k None b).values }) (writes_on t u) ∙ ap (λ es. record { events = es; parts = (k None b).parts; values = (k None b).values }) (append_assoc (writes t) (writes u) (k None b).events)
goes_in_turn (Some own) k t u b = ap (λ x. k (Some x) b) (sym (append_assoc own t u))

pub texts_in_turn : (k : Following) (v : View) (t u : Text) (b : Budget) → text_then k v (t ++ u) b ≡ text_then (λ given v'. text_then k v' u v'.budget) v t b
texts_in_turn k v t u b = goes_in_turn v.kept (λ kept c. k None (record v { kept = kept; budget = c })) t u b
