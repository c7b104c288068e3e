-- What falls, call by call: the levels that are left, and at the same levels the rank of a function.
use Rattle.std.proofs.Common.{ℕ, ◌+◌, ◌-◌, ◌*◌, ◌<◌, arith}

-- at the same levels
pub less_rank : (levels r s : ℕ) → r < s → 19 * levels + r < 19 * levels + s
less_rank levels r s h = omega arith

-- one level down
pub less_level : (levels r s : ℕ) → 0 < levels → r < 19 + s → 19 * (levels - 1) + r < 19 * levels + s
less_level levels r s some h = omega arith
