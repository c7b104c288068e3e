-- The measure of a cycle of calls falls.
use Rattle.std.proofs.Common.{◌≡◌, ℕ, ◌<◌, subst}

pub falls_to : {x y t : ℕ} → y ≡ t → x < y → x < t
falls_to {x = x} h k = subst (λ t. x < t) h k
