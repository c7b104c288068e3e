-- What is given and written in a bundle that a call makes first. Where an allocation fails before the bundle is there, nothing is.
use Rattle.std.specs.Prelude.{◌≡◌, ◌⊎◌, Bool, Option, Result}
use Rattle.std.specs.Result.{IsErr}
use Rattle.std.specs.Borrow.{Bor}
use Rattle.std.specs.declared.alloc.AllocError.{AllocError}
use Rattle.std.specs.declared.borrow.CowStr.{CowStr}
use Rattle.std.proofs.Common.{Global}
use Rattle.fluent_text.specs.Changes.{Change, new, old}
use Rattle.fluent_text.specs.declared.counting.Counting.{Counting}
use Rattle.fluent_text.specs.declared.counting.WriteFault.{WriteFault}
use Rattle.fluent_ast.specs.Tree.{Text}
use Rattle.fluent_ast.specs.declared.ast.Pattern as code
use Rattle.fluent_semantics.specs.Bundle.{Bundle}
use Rattle.fluent_values.specs.declared.args.FluentArgs.{FluentArgs}
use Rattle.fluent_bundle.specs.Formatted.{AddsSome, Errors, GivesFound, GivesWhole, GivesWithin, WritesBeginning, WritesFound, WritesWhole, WritesWithin, written}
use Rattle.fluent_fallback.specs.Chain.{pattern_asked}

-- ---- of a pattern: what a bundle gives and writes of it, by what an application's values show, with arguments

pub record GivesAfter {C : Type 0} (b : Bundle Text) (content : C → Text) (args : Option (Bor (FluentArgs C))) (p : code.Pattern) (result : Result (CowStr Global) AllocError) (errors : Change Errors) : Type 0 where
  pub within : GivesWithin b content args p result errors
  pub whole : GivesWhole b content args p result errors
  pub prefix : AddsSome (written b content args p).errors errors

pub record WritesAfter {C W : Type 0} (b : Bundle Text) (content : C → Text) (args : Option (Bor (FluentArgs C))) (p : code.Pattern) (result : Result (Unit {0}) WriteFault) (contents : W → Option Text) (w : Change (Counting W)) (errors : Change Errors) : Type 0 where
  pub within : WritesWithin b content args p result contents w errors
  pub whole : WritesWhole b content args p result contents w errors
  pub prefix : WritesBeginning b content args p contents w errors

-- ---- of the value of the message that an id names, or its first attribute where a name is given

module _ {C : Type 0} (b : Bundle Text) (content : C → Text) (args : Option (Bor (FluentArgs C))) (id : Text) (name : Option (Bor Text)) where
  -- it is found as in the bundle, or nothing was begun
  abbrev pub FindsAfter : Result (Option (CowStr Global)) AllocError → Change Errors → Type 0
  FindsAfter result errors = GivesFound b content args (pattern_asked id name) result errors ⊎ (IsErr result × (new errors ≡ old errors))

  abbrev pub WritesFoundAfter : {W : Type 0} → Result Bool WriteFault → (W → Option Text) → Change (Counting W) → Change Errors → Type 0
  WritesFoundAfter result contents w errors =
      WritesFound b content args (pattern_asked id name) result contents w errors ⊎ (IsErr result × (new w ≡ old w) × (new errors ≡ old errors))
