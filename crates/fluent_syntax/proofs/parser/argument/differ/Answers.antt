use Rattle.std.proofs.Common.{◌≡◌, ◌-◌, ◌+◌, ◌∷◌, ◌∙◌, sym, ap, subst, map, drop, true, false, arith}
use Rattle.std.specs.Str.{bytes_eq}
use Rattle.std.specs.Set.{is_member}
use Rattle.fluent_ast.specs.View.{named_view}
use Rattle.fluent_syntax.specs.Expressions.{names, differ}
use Rattle.fluent_syntax.proofs.Names.{Holds, names-drop, differ-later, differ-seen, differ-new, differ-few, members-more, was_there, was_absent}
use Rattle.fluent_syntax.proofs.parser.argument.differ.Goals as goal

pub returns-then-not-branch : goal.returns-then-not-branch
returns-then-not-branch c =
    let xs = c.args.named.now in
    let i = c.names.at - 1 in
    let ts = names (map named_view (drop (i + 1) xs)) in
    let key = c.name_of.result in
    let at : i + 1 ≡ c.names.at = omega arith in
    let holds : Holds c.names.later ts = subst (λ k. Holds c.names.later (names (map named_view (drop k xs)))) (sym at) c.names.invariant.members in
    let split : names (map named_view (drop i xs)) ≡ key.now ∷ ts = names-drop named_view xs i c.index-named-at.result (omega arith) c.index-named-at.is ∙ ap (λ t. t ∷ ts) (sym c.name_of.ensures) in
    let seen : is_member bytes_eq ts key.now ≡ true = sym (holds key) ∙ was_there _ _ c.in_ok-insert.ensures.added c.if-not-branch.true in
    sym (differ-later named_view xs i (ap differ split ∙ differ-seen key.now ts seen))

pub names-preserved : goal.names-preserved
names-preserved c =
    let xs = c.args.named.now in
    let i = c.names.at - 1 in
    let ts = names (map named_view (drop (i + 1) xs)) in
    let key = c.name_of.result in
    let at : i + 1 ≡ c.names.at = omega arith in
    let holds : Holds c.names.later ts = subst (λ k. Holds c.names.later (names (map named_view (drop k xs)))) (sym at) c.names.invariant.members in
    let split : names (map named_view (drop i xs)) ≡ key.now ∷ ts = names-drop named_view xs i c.index-named-at.result (omega arith) c.index-named-at.is ∙ ap (λ t. t ∷ ts) (sym c.name_of.ensures) in
    let new : is_member bytes_eq ts key.now ≡ false = sym (holds key) ∙ was_absent _ _ c.in_ok-insert.ensures.added c.if-not-branch.false in
    record {
      within = omega arith;
      fresh = ap differ split ∙ differ-new key.now ts new (ap (λ k. differ (names (map named_view (drop k xs)))) at ∙ c.names.invariant.fresh);
      members = subst (Holds c.insert.new.self) (sym split) (members-more c.names.later c.insert.new.self key ts holds c.in_ok-insert.ensures.updates);
    }

pub returns-then-named-lt2 : goal.returns-then-named-lt2
returns-then-named-lt2 c = sym (differ-few named_view c.args.named.now c.if-named-lt2.true)
