use Rattle.std.proofs.Common.{◌≡◌, map, take}
use Rattle.fluent_sources.specs.Reading.{read_view}
use Rattle.fluent_cli_report.specs.Pages.{page_views, pages_of}
use Rattle.fluent_cli_report.proofs.pages.pages_of.Given as goal

abbrev pub invariant-loop-source : goal.invariant-loop-source
invariant-loop-source l = page_views l.pages.items ≡ pages_of (map read_view (take l.source-index l.sources))
