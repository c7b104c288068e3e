use Rattle.std.proofs.Common.{◌≡◌, ◌∙◌, ℕ, List, sym, subst, IfOk, Result, Ok, Err}
use Rattle.std.specs.String.{string_bytes}
use Rattle.fluent_intl.specs.Decimal.{IsText, decimal_text}
use Rattle.fluent_intl.proofs.DecimalTexts.{text_is}
use Rattle.fluent_intl.proofs.decimal.Decimal.as_text.Goals as goal

if_ok_more : {T E : Type 0} (r : Result T E) (P Q : T → Type 0) → ((x : T) → P x → Q x) → IfOk r P → IfOk r Q
if_ok_more (Ok x) P Q more h = more x h
if_ok_more (Err e) P Q more h = h

text_of : (c : goal.After-from_str) → c.as_str.result.now ≡ decimal_text c.args.self.now c.args.minimum
text_of c = c.as_str.ensures ∙ c.text-written.ensures.bytes

is_text : (c : goal.After-from_str) (s : List ℕ) → s ≡ c.as_str.result.now → IsText c.args.self.now c.args.minimum s
is_text c s e = subst (IsText c.args.self.now c.args.minimum) (sym (e ∙ c.as_str.ensures)) c.text-written.ensures.text

pub returns-clause-bytes : goal.returns-clause-bytes
returns-clause-bytes c = if_ok_more c.from_str.result _ _ (λ s e. e ∙ text_of c) c.from_str.ensures.ok

pub returns-clause-text : goal.returns-clause-text
returns-clause-text c = if_ok_more c.from_str.result _ _ (λ s e. is_text c (string_bytes s) e) c.from_str.ensures.ok

pub returns-clause-only : goal.returns-clause-only
returns-clause-only c = if_ok_more c.from_str.result _ _ (λ s e other h. text_is c.args.self.now c.args.minimum other h ∙ sym (e ∙ text_of c)) c.from_str.ensures.ok

pub returns-clause-reads_back : goal.returns-clause-reads_back
returns-clause-reads_back c = if_ok_more c.from_str.result _ _ (λ s e. (is_text c (string_bytes s) e).reads) c.from_str.ensures.ok
