use Rattle.std.proofs.Common.{◌≡◌, ◌∙◌, [], ℕ, Ok, Err, refl, sym, subst}
use Rattle.fluent_text.specs.Parser as p
use Rattle.fluent_intl.specs.declared.plurals.PluralRuleType.TheVariants.{CARDINAL, ORDINAL}
use Rattle.fluent_plural_rules.specs.RuleGrammar as g
use Rattle.fluent_plural_rules.specs.RuleTexts.{IsParse}
use Rattle.fluent_plural_rules.specs.declared.rule_texts.fault.RuleFault.{RuleFault}
use Rattle.fluent_plural_rules.specs.declared.rule_texts.fault.RuleFault.TheVariants.{Syntax, Memory}
use Rattle.fluent_c_handles.proofs.opening.root.Goals as goal

none : g.rules [] ≡ Ok []
unfolding p.run1 g.word g.keyword g.rule g.line g.rules_from g.rules
none = refl

-- a text without a rule is read, and takes no memory
is_read : (f : RuleFault) → IsParse [] [] (Err f) → ⊥
is_read Memory h = h (none, none)
is_read (Syntax CARDINAL at) h = let never : Ok [] ≡ Err at = sym none ∙ h in cc
is_read (Syntax ORDINAL at) h = let never : Ok [] ≡ Err at = sym none ∙ h.1 in cc

pub returns-in-Err-clause-err : goal.returns-in-Err-clause-err
returns-in-Err-clause-err c = is_read c.in-Err.field-0 (subst (λ r. IsParse [] [] r) c.in-Err.is c.parse.ensures)
