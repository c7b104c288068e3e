use Rattle.std.proofs.Common.{rules, ◌≡◌}
use Rattle.std.proofs.lemmas.Bool.Decides.{Decides-at}
use Rattle.fluent_intl.specs.Options.{options_of}
use Rattle.fluent_intl.specs.SameContent.{same_options, same_content_decides}
use Rattle.fluent_intl.proofs.options.FluentNumberOptionsPartialEq.eq.Goals as goal

pub returns-then-same_kinds-clause-content : goal.returns-then-same_kinds-clause-content
returns-then-same_kinds-clause-content c =
    let test : c.same_digits.result ≡ same_options c.args.self.now c.args.other.now = search rules in
    Decides-at _ _ test (same_content_decides (options_of c.args.self.now) (options_of c.args.other.now))
