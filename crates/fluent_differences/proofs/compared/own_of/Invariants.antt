use Rattle.std.proofs.Common.{map, take}
use Rattle.std.specs.List.{filter_map}
use Rattle.fluent_places.specs.NeedsView.{need_view}
use Rattle.fluent_differences.specs.Compared.{function_of, term_of}
use Rattle.fluent_differences.specs.Inside.Names.{HasNames}
use Rattle.fluent_differences.proofs.compared.own_of.Given as goal

abbrev pub invariant-loop-need : goal.invariant-loop-need
invariant-loop-need l =
    HasNames (filter_map term_of (map need_view (take l.need-index l.list))) l.terms
    × HasNames (filter_map function_of (map need_view (take l.need-index l.list))) l.functions
