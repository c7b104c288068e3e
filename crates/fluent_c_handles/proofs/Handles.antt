-- A handle's lifetimes are taken out of what it owns, and put back.
use Rattle.self_borrow.specs.Facts.Steps.{ℕ, [], ◌∷◌, Ptr, flft, ftrue, full_share, Option, Some, None, SProp, Logic, Ura, ent, sep, sem, ‵, ◌$◌, ◌∵◌, !, qed, keep, done, updating, now, fpick, fpack, fsplit, fjoin, lft_new}
use base.Logic.{ex}
use base.Fml.{fex}
use types.Kit.{show}
use Rattle.std.specs.Global.{Global}
use Rattle.std.specs.contracts.impls.GlobalAllocator.TheImpl.{ghosts}
use Rattle.self_borrow.specs.Owned.{maybe_owns}
use Rattle.fluent_c_handles.specs.Handles.{stock_row, stock_owns, handle_owns}
use Rattle.fluent_c_handles.specs.declared.stock.Stock.{Stock}

module _ {M : Type 1} {𝓤 : Ura M} (𝓛 : Logic 𝓤) (alloc : Global) (p : Ptr) where
  open 𝓛 use {H, A}

  abbrev pub Opened : Option Stock → ℕ × ℕ → SProp 𝓤
  Opened h n = sep 𝓤 (A.lft (n.0 ∷ []) full_share) (sep 𝓤 (A.lft (n.1 ∷ []) full_share) (sem 𝓛 (maybe_owns (ghosts.dealloc_token alloc) (stock_row n.0 n.1) p h)))

  pub opens : (h : Option Stock) → ent 𝓤 (sem 𝓛 (handle_owns alloc p h)) (H.⇛ (ex 𝓤 (Opened h)))
  opens None = qed 𝓛 (‵ ftrue ∷ []) ∵ updating ! $ lft_new ! tt (λ b. lft_new ! tt (λ a. now ! $ show ! (Opened None) (a, b) $ done !))
  opens (Some x) = qed 𝓛 (‵ (handle_owns alloc p (Some x)) ∷ []) ∵ updating ! $ fpick ! (λ a. fpick ! (λ b. fsplit ! $ fsplit ! $ now ! $ show ! (Opened (Some x)) (a, b) $ done !))

  pub shuts : (a b : ℕ) (h : Option Stock) → ent 𝓤 (Opened h (a, b)) (sem 𝓛 (handle_owns alloc p h))
  shuts a b None = qed 𝓛 (‵ (flft (a ∷ []) full_share) ∷ ‵ (flft (b ∷ []) full_share) ∷ ‵ ftrue ∷ []) ∵ keep ! (2 ∷ []) $ done !
  shuts a b (Some x) = qed 𝓛 (‵ (flft (a ∷ []) full_share) ∷ ‵ (flft (b ∷ []) full_share) ∷ ‵ (maybe_owns (ghosts.dealloc_token alloc) (stock_row a b) p (Some x)) ∷ []) ∵
      fjoin ! $ fjoin ! $ fpack ! ℕ (λ c. stock_owns alloc p x a c) b $ fpack ! ℕ (λ d. fex ℕ (λ c. stock_owns alloc p x d c)) a $ done !
