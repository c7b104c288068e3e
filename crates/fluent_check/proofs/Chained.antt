-- Findings that are added one part after the other.
use Rattle.std.proofs.Common.{◌≡◌, ◌∙◌, List, ◌++◌, ap}
use Rattle.std.proofs.lemmas.List.{append_assoc}
use Rattle.fluent_patterns.specs.Found.{Found}

pub two : (f f1 f2 a b : List Found) → f1 ≡ f ++ a → f2 ≡ f1 ++ b → f2 ≡ f ++ (a ++ b)
two f f1 f2 a b ha hb = hb ∙ (ap (λ l. l ++ b) ha ∙ append_assoc f a b)
