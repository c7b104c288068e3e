-- What is done of a bundle that may be open, without an answer.
use Rattle.std.specs.Prelude.{Option}
use Rattle.fluent_c_handles.specs.Answers.{Kept}

-- what it was, and what it is
abbrev pub KeptVisit : Type 1
KeptVisit = Option Kept → Option Kept → Type 0
