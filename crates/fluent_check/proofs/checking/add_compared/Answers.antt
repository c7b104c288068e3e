use Rattle.std.proofs.Common.{[], refl, sym}
use Rattle.std.proofs.lemmas.List.{append-nil}
use Rattle.fluent_places.specs.Places.{names_of}
use Rattle.fluent_patterns.specs.Found.{found_in}
use Rattle.fluent_check.specs.Bundles.{bundle_view}
use Rattle.fluent_sources.specs.Groups.{group_view}
use Rattle.fluent_sources.specs.Standing.{standings}
use Rattle.fluent_check.proofs.Editions.{none_differ, some_ok}
use Rattle.fluent_check.proofs.checking.add_compared.Goals as goal

pub returns-in_default : goal.returns-in_default
returns-in_default c = record {
  differences = [];
  right = none_differ c.args.group.now.references.now (group_view c.args.group.now) (names_of (bundle_view c.args.bundle.now)) (standings c.args.places.now.list) c.in_default.ensures.value;
  found_is = sym (append-nil (found_in c.args.findings.now));
}

pub returns : goal.returns
returns c =
    some_ok c.add_differences.result c.args.group.now.references.now c.in-Some.field-0.now (group_view c.args.group.now) (names_of (bundle_view c.args.bundle.now)) (standings c.args.places.now.list) c.args.findings.now c.add_differences.new.findings
    c.in-Some.ensures.value refl c.add_differences.ensures
