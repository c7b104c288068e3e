use Rattle.std.proofs.Common.{refl}
use Rattle.fluent_langneg.proofs.examples.look_up_cuts_from_the_end.Goals as goal

pub returns-clause-trials : goal.returns-clause-trials
returns-clause-trials c = record { rfc = refl; one_subtag = refl; digit = refl; two_singles = refl; private = refl; ends_in_single = refl; any = refl; any_inside = refl; underscore = refl; empty = refl }

pub returns-clause-answers : goal.returns-clause-answers
returns-clause-answers c = record { rfc = refl; shorter = refl; shortest = refl; longer = refl; own = refl; own_longer = refl; no_subtag = refl; underscore = refl; first_of_two = refl; any = refl; nothing = refl; empty = refl }

pub returns-clause-lists : goal.returns-clause-lists
returns-clause-lists c = record { rfc = refl; exhausted_first = refl; skipped = refl; once = refl; default_wanted = refl; default_alone = refl; any = refl; any_before = refl; no_default = refl }
