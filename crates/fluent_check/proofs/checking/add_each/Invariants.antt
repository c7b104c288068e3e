use Rattle.std.proofs.Common.{IsTrue, map, take}
use Rattle.std.specs.List.{AllByRecursion}
use Rattle.fluent_check.specs.Faultless.{tag_of}
use Rattle.fluent_sources.specs.Groups.{group_view, groups_from}
use Rattle.fluent_check.specs.Inside.Faultless.{IsFaultlessBeside}
use Rattle.fluent_check.specs.Inside.Looks.{AddsLooks}
use Rattle.fluent_sources.specs.ReadFiles.{file_view}
use Rattle.fluent_check.proofs.checking.add_each.Given as goal

abbrev pub invariant-loop-index : goal.invariant-loop-index
invariant-loop-index l = record {
  looks : AddsLooks l.settings (groups_from l.settings.grouping (group_view l.all) 0 (map file_view (take l.index l.all.own.now))) l.initial.findings l.findings l.is_clean;
  clean : IsTrue l.is_clean → AllByRecursion (IsFaultlessBeside (tag_of l.settings.language) (map file_view l.all.beside.now)) (map file_view (take l.index l.all.own.now));
}
