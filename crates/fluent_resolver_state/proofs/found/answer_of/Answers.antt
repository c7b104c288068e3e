use Rattle.std.proofs.Common.{arith}
use Rattle.fluent_resolver_state.proofs.found.answer_of.Goals as goal

pub returns-in_default : goal.returns-in_default
returns-in_default g c = grind arith

pub returns-in_err-call-in-Function : goal.returns-in_err-call-in-Function
returns-in_err-call-in-Function g c = grind arith

pub returns-in_err-NUMBER-in-Number : goal.returns-in_err-NUMBER-in-Number
returns-in_err-NUMBER-in-Number g c = grind arith

pub returns-in_ok-call-in-Function : goal.returns-in_ok-call-in-Function
returns-in_ok-call-in-Function g c = grind arith

pub returns-in_ok-NUMBER-in-Number : goal.returns-in_ok-NUMBER-in-Number
returns-in_ok-NUMBER-in-Number g c = grind arith

pub returns-in_default-entry : goal.returns-in_default-entry
returns-in_default-entry g c = grind arith
