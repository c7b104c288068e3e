use Rattle.std.proofs.Common.{◌∙◌, ap, sym, subst, map}
use Rattle.fluent_references.specs.Classes.{HasClass}
use Rattle.fluent_references.specs.Inside.Content.{content}
use Rattle.fluent_references.proofs.Distinct.{distinct, kept_in, class_is, stored_in}
use Rattle.fluent_references.proofs.classes.Classes.class_of.Goals as goal

pub invariant_of-self : goal.invariant_of-self
invariant_of-self c = record { distinct = distinct c.insert_full.new.self.keys c.insert_full.ensures.unique }

pub returns-clause-class : goal.returns-clause-class
returns-clause-class c = let s = c.in_ok-class.ensures.stored in class_is c.insert_full.new.self.keys c.in_ok-class.class s.0 (record { pattern = c.args.pattern }) s.1 s.2

pub returns-clause-kept : goal.returns-clause-kept
returns-clause-kept c = λ n p at. subst (λ ks. HasClass (map content ks) n p) (sym c.in_ok-class.ensures.keys) (kept_in c.args.self.now.stored.keys _ n p at)

pub returns-clause-stored : goal.returns-clause-stored
returns-clause-stored c = ap (map content) c.in_ok-class.ensures.keys ∙ stored_in c.args.self.now.stored.keys (record { pattern = c.args.pattern })
