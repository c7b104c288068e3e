use Rattle.std.proofs.Common.{refl}
use Rattle.fluent_semantics.specs.Users.{IsMap}
use Rattle.fluent_semantics.proofs.Maps.{get_set, last_stands, set_in_order, same_maps}
use Rattle.fluent_semantics.proofs.laws.maps_are_told_by_look_ups.Goals as goal

is_map : (A : Type 0) → IsMap A
is_map A = record { set_one = get_set; last_stands = last_stands; empty_in_order = refl; set_in_order = set_in_order; same = same_maps }

pub returns-clause-any : goal.returns-clause-any
returns-clause-any c s = is_map _

pub returns-clause-arguments : goal.returns-clause-arguments
returns-clause-arguments c s = is_map _

pub returns-clause-ids : goal.returns-clause-ids
returns-clause-ids c s = is_map _
