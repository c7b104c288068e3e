-- What events come to, and those of a text that is written.
use Rattle.std.proofs.Common.{◌≡◌, refl, ap, List, [], ◌∷◌, ◌++◌}
use Rattle.fluent_ast.specs.Tree.{Text}
use Rattle.fluent_semantics.specs.Events.{Event, wrote, told, opened, reached_limit, entered, writes, text_in, errors_in}

-- ---- one after the other

pub text_on : (a b : List Event) → text_in (a ++ b) ≡ text_in a ++ text_in b
text_on [] b = refl
text_on (wrote c ∷ a) b = ap (λ y. c ∷ y) (text_on a b)
text_on (told e ∷ a) b = text_on a b
text_on (opened ∷ a) b = text_on a b
text_on (reached_limit ∷ a) b = text_on a b
text_on (entered n ∷ a) b = text_on a b

pub errors_on : (a b : List Event) → errors_in (a ++ b) ≡ errors_in a ++ errors_in b
errors_on [] b = refl
errors_on (wrote c ∷ a) b = errors_on a b
errors_on (told e ∷ a) b = ap (λ y. e ∷ y) (errors_on a b)
errors_on (opened ∷ a) b = errors_on a b
errors_on (reached_limit ∷ a) b = errors_on a b
errors_on (entered n ∷ a) b = errors_on a b

-- ---- a text that is written

pub text_of : (t : Text) → text_in (writes t) ≡ t
text_of [] = refl
text_of (c ∷ t) = ap (λ y. c ∷ y) (text_of t)

pub errors_of : (t : Text) → errors_in (writes t) ≡ []
errors_of [] = refl
errors_of (c ∷ t) = errors_of t

pub writes_on : (a b : Text) → writes (a ++ b) ≡ writes a ++ writes b
writes_on [] b = refl
writes_on (c ∷ a) b = ap (λ y. wrote c ∷ y) (writes_on a b)
