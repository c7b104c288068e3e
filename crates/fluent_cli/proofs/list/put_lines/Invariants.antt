use Rattle.std.proofs.Common.{◌≡◌, ◌++◌, drop, flat_map, string_bytes}
use Rattle.fluent_places.specs.Places.{views}
use Rattle.fluent_cli.specs.Inside.Listing.{line_by}
use Rattle.fluent_cli.proofs.list.put_lines.Given as goal

abbrev pub invariant-loop-place : goal.invariant-loop-place
invariant-loop-place l =
    string_bytes l.text ++ flat_map (line_by l.asked) (views (drop l.place-index l.places))
    ≡ string_bytes l.initial.text ++ flat_map (line_by l.asked) (views l.places)
