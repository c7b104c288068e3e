use Rattle.std.specs.Str.{bytes_eq}
use Rattle.fluent_places.proofs.Gathering.{adds_inserted, text_test}
use Rattle.fluent_places.proofs.asking.add_name.Goals as goal

pub returns : goal.returns
returns c = adds_inserted (λ x. x.now) (λ a b. bytes_eq a.now b.now) text_test c.args.name c.args.names.now.keys c.insert.new.self.keys c.in_ok-insert.ensures.keys
