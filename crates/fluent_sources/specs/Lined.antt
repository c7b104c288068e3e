-- Sources of the code with what is kept of their lines.
use Rattle.std.specs.Prelude.{List, map}
use Rattle.fluent_sources.specs.Files.{Read}
use Rattle.fluent_sources.specs.Reading.{read_view}
use Rattle.fluent_sources.specs.declared.lines.Lined.{Lined}

abbrev pub lined_view : Lined → Read
lined_view l = read_view l.source

abbrev pub lined_views : List Lined → List Read
lined_views list = map lined_view list
