-- What a handle owns.
use Rattle.std.specs.Prelude.{ℕ, List, [], ◌∷◌, Option, None, Some}
use Rattle.std.specs.Box.Ownership.{box_owns}
use Rattle.std.specs.Global.{Global}
use Rattle.std.specs.Coded.{Coded, coded_option}
use Rattle.std.specs.contracts.impls.GlobalAllocator.TheImpl.{ghosts}
use base.Fraction.{full_share}
use base.Fml.{Fml, ftrue, fsep, fex, flft}
use mir.Syntax.{named}
use denote.RawPtr.{Ptr}
use denote.Ref.{NamedLft}
use denote.RattleType.{RattleType}
use Rattle.fluent_c_handles.specs.contracts.stock.Stock.{the_row}
use Rattle.fluent_c_handles.specs.declared.stock.Stock.{Stock}

-- the lifetime with this number in a signature
abbrev pub numbered : ℕ → List ℕ → NamedLft
numbered k κ = record { mir = named k; lft = κ }

-- a bundle whose resources are borrowed while a and b last, and whose sources while b does
abbrev pub stock_row : ℕ → ℕ → RattleType
stock_row a b = the_row (numbered 0 (a ∷ b ∷ [])) (numbered 1 (b ∷ []))

-- both lifetimes last, and the bundle lies at p
abbrev pub stock_owns : Global → Ptr → Stock → ℕ → ℕ → Fml
stock_owns alloc p x a b =
    fsep (fsep (flft (a ∷ []) full_share) (flft (b ∷ []) full_share)) (box_owns (ghosts.dealloc_token alloc) (stock_row a b) p x)

abbrev pub handle_owns : Global → Ptr → Option Stock → Fml
handle_owns alloc p None = ftrue
handle_owns alloc p (Some x) = fex ℕ (λ a. fex ℕ (λ b. stock_owns alloc p x a b))

abbrev pub held_coded : Coded (Option Stock)
held_coded = coded_option (stock_row 0 0).coded
