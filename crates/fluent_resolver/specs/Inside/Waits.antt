-- The work that waits in a run, and what calls add to it.
use Rattle.std.specs.Prelude.{◌≡◌, List, [], ◌∷◌, ◌++◌, Option, None, Some, Result, OnOk, IfErr}
use Rattle.std.specs.declared.vec.Vec.{Vec}
use Rattle.std.proofs.Common.{Global}
use Rattle.std.specs.Global.{Box}
use Rattle.fluent_values.specs.declared.args.FluentArgs.{FluentArgs}
use Rattle.fluent_values.specs.declared.output.Halt.{Halt}
use Rattle.fluent_values.specs.declared.output.Halt.TheVariants.{Memory}
use Rattle.fluent_values.specs.declared.types.value.FluentValue.{FluentValue}
use Rattle.fluent_text.specs.Changes.{Change}
use Rattle.fluent_resolver.specs.declared.frame.Frame.{Frame}
use Rattle.fluent_resolver.specs.declared.frame.Frame.TheVariants as frames
use Rattle.fluent_resolver.specs.declared.frame.Gathering.{Gathering}
use Rattle.fluent_resolver.specs.declared.work.Rest.{Rest}
use Rattle.fluent_resolver.specs.declared.work.Work.{Work}

-- the frames and the values of what is left, if anything is
abbrev pub frames_left : {C : Type 0} → Option (Box (Rest C)) → List (Frame C)
frames_left None = []
frames_left (Some rest) = rest.value.frames.items

abbrev pub values_left : {C : Type 0} → Option (Box (Rest C)) → Option (Vec (FluentValue C) Global × FluentArgs C)
values_left None = None
values_left (Some rest) = rest.value.values

-- the frames that wait, the innermost first
abbrev pub frames_in : {C : Type 0} → Work C → List (Frame C)
frames_in work = frames_left work.rest

-- the values that the run ends with, if it ends with any
abbrev pub values_in : {C : Type 0} → Work C → Option (Vec (FluentValue C) Global × FluentArgs C)
values_in work = values_left work.rest

-- A frame was added at the end, unless an allocation failed.
pub record Waits {T C : Type 0} (f : Frame C) (result : Result T Halt) (work : Change (Work C)) : Type 0 where
  pub frames : OnOk result (frames_in work.exit.now ≡ frames_in work.entry.now ++ f ∷ [])
  pub values : values_in work.exit.now ≡ values_in work.entry.now
  pub err : IfErr result (λ e. e ≡ Memory)

-- a call waits
pub record IsHeld {C : Type 0} (g : Gathering C) (before after : Work C) : Type 0 where
  pub box : Box (Gathering C)
  pub value : box.value ≡ g
  pub frames : frames_in after ≡ frames_in before ++ frames.Gather box ∷ []
