use Rattle.std.proofs.Common.{◌≡◌, ◌∙◌, ap, flat_map, refl, rules, string_bytes, subst, sym}
use Rattle.fluent_places.specs.Places.{views}
use Rattle.fluent_check.specs.Listed.{listed_names, listed_places}
use Rattle.fluent_sources.specs.ReadFiles.{files_read}
use Rattle.fluent_cli.specs.Inside.Listing.{line_by}
use Rattle.fluent_cli.specs.Listed.{AreLines}
use Rattle.fluent_cli.proofs.Lines.{lines_are}
use Rattle.fluent_cli.proofs.list.list.Goals as goal

pub returns : goal.returns
returns c =
    let files = files_read 0 c.args.sources.now in
    let listing = c.in_ok-listing.listing in
    let lines = flat_map (line_by listing.asked) (listed_places files) in
    let same : views c.as_slice.result.now ≡ listed_places files = ap views c.as_slice.ensures.value ∙ c.in_ok-listing.ensures.places in
    let printed : string_bytes c.put_lines.new.text ≡ flat_map (line_by listing.asked) (views c.as_slice.result.now) = search rules in
    let is : lines ≡ string_bytes c.put_lines.new.text = sym (printed ∙ ap (flat_map (line_by listing.asked)) same) in
    record {
      status = refl;
      output = subst (λ text. AreLines (listed_names files) (listed_places files) text) is
          (lines_are (listed_names files) listing.asked (listed_places files) c.in_ok-listing.ensures.asked);
      errors = search rules;
    }
