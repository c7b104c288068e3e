-- Ids and names of attributes that can't be had where they stand.
use Rattle.std.specs.Prelude.{List, [], ◌++◌}
use Rattle.fluent_patterns.specs.Found.{Found}
use Rattle.fluent_sources.specs.Repeated.{function_ids, repeated_attributes}
use Rattle.fluent_sources.specs.Standing.{Standing}
use Rattle.fluent_sources.specs.Taken.{taken}

abbrev pub found_ids : List Standing → List Found
found_ids ss = taken [] ss ++ (function_ids ss ++ repeated_attributes [] ss)
