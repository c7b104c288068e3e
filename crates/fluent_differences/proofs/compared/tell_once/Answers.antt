use Rattle.std.proofs.Common.{ap, map, refl, sym, ◌∙◌}
use Rattle.std.proofs.lemmas.List.{map-append}
use Rattle.fluent_places.specs.Asked.{texts}
use Rattle.fluent_patterns.specs.Found.{flaw_view, flaws_in}
use Rattle.fluent_differences.specs.Compared.{told_view}
use Rattle.fluent_differences.proofs.Naming.{new_name, told_again, told_first}
use Rattle.fluent_differences.proofs.compared.tell_once.Goals as goal

pub returns-then-has : goal.returns-then-has
returns-then-has c = λ xs. told_again (told_view c.args.told) (flaws_in c.args.flaws.now) (texts c.args.names.now.keys) (texts c.args.names.now.keys) xs (sym c.has.ensures ∙ c.if-has.true) refl

pub returns : goal.returns
returns c = λ xs.
    let new = sym c.has.ensures ∙ c.if-has.false in
    told_first (told_view c.args.told) (flaws_in c.args.flaws.now) (flaws_in c.push.new.self) (texts c.args.names.now.keys) (texts c.insert.new.self.keys) xs new
    (new_name c.args.told.name c.args.names.now.keys c.insert.new.self.keys new c.in_ok-insert.ensures.keys)
    (ap (λ l. map flaw_view l) c.in_ok-push.ensures.items ∙ map-append flaw_view c.args.flaws.now.items _)
