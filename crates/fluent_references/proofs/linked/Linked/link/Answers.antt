use Rattle.std.proofs.Common.{[], Some, arith, map, ap, sym, rules, ◌≡◌, ◌∙◌, length, nat_eq}
use Rattle.fluent_ast.specs.References.{references}
use Rattle.fluent_ast.specs.View.{pattern_view}
use Rattle.fluent_references.specs.Linked.{with_referring}
use Rattle.fluent_references.specs.Slots.{slots as slots_of, number}
use Rattle.fluent_references.specs.Table.{table}
use Rattle.fluent_references.proofs.Gathered.{has_class, kept, names_kept, no_class, no_items, none_linked, none_referred, referring, some_items, some_referred}
use Rattle.fluent_references.proofs.linked.Linked.link.Goals as goal

pub returns-clause-linked : goal.returns-clause-linked
returns-clause-linked g c =
    let p = pattern_view c.args.pattern.now in
    let items = c.link_pattern.new.links.items in
    let told : c.is_empty.result ≡ nat_eq (length items) 0 = search (rules, c.is_empty.ensures) in
    let are = c.in_ok-link_pattern.ensures.ok.1 [] (sym (ap (map Some) c.new-links.ensures.items)) in
    let some = some_referred (number (slots_of c.link_pattern.new.slots)) (references p) items (some_items items c.is_empty.result told c.if-is_empty.false) are in
    (has_class (table c.class_of.new.self) p c.in_ok-class.class c.in_ok-class.ensures.class some, are)

pub returns-clause-stored : goal.returns-clause-stored
returns-clause-stored g c =
    let p = pattern_view c.args.pattern.now in
    let items = c.link_pattern.new.links.items in
    let told : c.is_empty.result ≡ nat_eq (length items) 0 = search (rules, c.is_empty.ensures) in
    c.in_ok-class.ensures.stored
    ∙ referring (number (slots_of c.link_pattern.new.slots)) (references p) items p (table c.args.classes.now)
    (some_items items c.is_empty.result told c.if-is_empty.false)
    (c.in_ok-link_pattern.ensures.ok.1 [] (sym (ap (map Some) c.new-links.ensures.items)))

pub returns-then-is_empty-clause-linked : goal.returns-then-is_empty-clause-linked
returns-then-is_empty-clause-linked g c =
    let p = pattern_view c.args.pattern.now in
    let items = c.link_pattern.new.links.items in
    let told : c.is_empty.result ≡ nat_eq (length items) 0 = search (rules, c.is_empty.ensures) in
    let are = c.in_ok-link_pattern.ensures.ok.1 [] (sym (ap (map Some) c.new-links.ensures.items)) in
    (no_class (table c.args.classes.now) p (none_referred (number (slots_of c.link_pattern.new.slots)) (references p) items (no_items items c.is_empty.result told c.if-is_empty.true) are), are)

pub returns-then-is_empty-clause-stored : goal.returns-then-is_empty-clause-stored
returns-then-is_empty-clause-stored g c =
    let p = pattern_view c.args.pattern.now in
    let items = c.link_pattern.new.links.items in
    let told : c.is_empty.result ≡ nat_eq (length items) 0 = search (rules, c.is_empty.ensures) in
    let are = c.in_ok-link_pattern.ensures.ok.1 [] (sym (ap (map Some) c.new-links.ensures.items)) in
    sym (ap (λ rs. with_referring rs p (table c.args.classes.now)) (none_referred (number (slots_of c.link_pattern.new.slots)) (references p) items (no_items items c.is_empty.result told c.if-is_empty.true) are))

pub returns-then-is_empty-clause-numbers : goal.returns-then-is_empty-clause-numbers
returns-then-is_empty-clause-numbers g c = kept (slots_of c.args.slots.now) (slots_of c.link_pattern.new.slots) (references (pattern_view c.args.pattern.now)) c.in_ok-link_pattern.ensures.ok.0

pub returns-then-is_empty-clause-named : goal.returns-then-is_empty-clause-named
returns-then-is_empty-clause-named g c = names_kept (slots_of c.args.slots.now) (slots_of c.link_pattern.new.slots) (references (pattern_view c.args.pattern.now)) c.in_ok-link_pattern.ensures.ok.0

pub returns-clause-numbers : goal.returns-clause-numbers
returns-clause-numbers g c = kept (slots_of c.args.slots.now) (slots_of c.link_pattern.new.slots) (references (pattern_view c.args.pattern.now)) c.in_ok-link_pattern.ensures.ok.0

pub returns-clause-named : goal.returns-clause-named
returns-clause-named g c = names_kept (slots_of c.args.slots.now) (slots_of c.link_pattern.new.slots) (references (pattern_view c.args.pattern.now)) c.in_ok-link_pattern.ensures.ok.0

pub returns-in_err-class-clause-numbers : goal.returns-in_err-class-clause-numbers
returns-in_err-class-clause-numbers g c = kept (slots_of c.args.slots.now) (slots_of c.link_pattern.new.slots) (references (pattern_view c.args.pattern.now)) c.in_ok-link_pattern.ensures.ok.0

pub returns-in_err-class-clause-named : goal.returns-in_err-class-clause-named
returns-in_err-class-clause-named g c = names_kept (slots_of c.args.slots.now) (slots_of c.link_pattern.new.slots) (references (pattern_view c.args.pattern.now)) c.in_ok-link_pattern.ensures.ok.0

pub returns-in_err-link_pattern-clause-numbers : goal.returns-in_err-link_pattern-clause-numbers
returns-in_err-link_pattern-clause-numbers g c = let begun = c.in_err-link_pattern.ensures.err in kept (slots_of c.args.slots.now) (slots_of c.link_pattern.new.slots) begun.0 begun.3

pub returns-in_err-link_pattern-clause-named : goal.returns-in_err-link_pattern-clause-named
returns-in_err-link_pattern-clause-named g c = let begun = c.in_err-link_pattern.ensures.err in names_kept (slots_of c.args.slots.now) (slots_of c.link_pattern.new.slots) begun.0 begun.3

pub returns-clause-classless : goal.returns-clause-classless
returns-clause-classless g c =
    let items = c.link_pattern.new.links.items in
    let told : c.is_empty.result ≡ nat_eq (length items) 0 = search (rules, c.is_empty.ensures) in
    λ none. absurd (some_items items c.is_empty.result told c.if-is_empty.false (none_linked (number (slots_of c.link_pattern.new.slots)) (references (pattern_view c.args.pattern.now)) items none (c.in_ok-link_pattern.ensures.ok.1 [] (sym (ap (map Some) c.new-links.ensures.items)))))

pub returns-in_err-class-clause-succeeds : goal.returns-in_err-class-clause-succeeds
returns-in_err-class-clause-succeeds g c =
    let items = c.link_pattern.new.links.items in
    let told : c.is_empty.result ≡ nat_eq (length items) 0 = search (rules, c.is_empty.ensures) in
    λ none. absurd (some_items items c.is_empty.result told c.if-is_empty.false (none_linked (number (slots_of c.link_pattern.new.slots)) (references (pattern_view c.args.pattern.now)) items none (c.in_ok-link_pattern.ensures.ok.1 [] (sym (ap (map Some) c.new-links.ensures.items)))))

pub returns-in_err-link_pattern-clause-succeeds : goal.returns-in_err-link_pattern-clause-succeeds
returns-in_err-link_pattern-clause-succeeds g c = λ none. absurd (omega (arith, ap length none, c.in_err-link_pattern.ensures.alloc_failed))
