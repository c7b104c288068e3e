use Rattle.std.proofs.Common.{◌≡◌, ◌==◌, true, length, rules, tests, eq-eqb}
use Rattle.std.proofs.lemmas.Iterator.{YieldsList-from_slice, YieldsList-from_zip}
use Rattle.std.proofs.lemmas.Iterator.Search.{all_from_yields_List}
use Rattle.fluent_intl.specs.LanguageTags.{alike}
use Rattle.fluent_plural_rules.proofs.languages.is_same_tag.Goals as goal

pub returns-then-a-b : goal.returns-then-a-b
returns-then-a-b c =
    let long : (length c.args.a.now == length c.args.b.now) ≡ true = eq-eqb _ _ c.if-a-b.true in
    let pairs = YieldsList-from_zip {s = c.zip.result} (YieldsList-from_slice c.args.a.now (cc)) (YieldsList-from_slice c.args.b.now (search rules)) in
    let each = all_from_yields_List alike c.all.new.self _ c.all.result c.all.ensures.ran pairs (λ x b q k. search (rules, tests)) in
    rw long each
