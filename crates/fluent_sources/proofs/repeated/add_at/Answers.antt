use Rattle.std.proofs.Common.{◌++◌, ◌∷◌, [], ◌∙◌, ap, map, not}
use Rattle.std.proofs.lemmas.List.{map-append}
use Rattle.fluent_patterns.specs.Found.{found_in, found_view}
use Rattle.fluent_sources.specs.Standing.{standing_view}
use Rattle.fluent_sources.proofs.RepeatedNames.{among, name_again, name_noted}
use Rattle.fluent_sources.proofs.repeated.add_at.Goals as goal

pub returns-then-branch : goal.returns-then-branch
returns-then-branch c = λ ss.
    name_noted (standing_view c.args.standing.now) c.in-Some.name c.args.names.keys c.insert.new.self.keys c.in-Some.ensures c.in_ok-insert.ensures.keys (found_in c.args.findings.now) ss
    (among c.in-Some.name c.args.names.keys c.in_ok-insert.field-0 c.in_ok-insert.ensures.added ∙ ap not c.if-branch.true)

pub returns : goal.returns
returns c = λ ss.
    name_again (standing_view c.args.standing.now) c.in-Some.name c.args.names.keys c.insert.new.self.keys c.in-Some.ensures c.in_ok-insert.ensures.keys (found_in c.args.findings.now) (found_in c.push.new.self) ss
    (among c.in-Some.name c.args.names.keys c.in_ok-insert.field-0 c.in_ok-insert.ensures.added ∙ ap not c.if-branch.false)
    (ap (map found_view) c.in_ok-push.ensures.items
    ∙ (map-append found_view c.args.findings.now.items (c.found.result ∷ []) ∙ ap (λ x. found_in c.args.findings.now ++ x ∷ []) c.found.ensures))
