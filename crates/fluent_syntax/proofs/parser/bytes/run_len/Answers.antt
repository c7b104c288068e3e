use Rattle.std.proofs.Common.{◌≡◌, ◌+◌, ◌<◌, ℕ, Bool, cond, List, length, get_or, drop, sym, ap, ◌∙◌, subst, arith}
use Rattle.fluent_text.specs.Facts.Runs.{run_len-drop}
use Rattle.fluent_text.specs.Parser.{run_len}
use Rattle.fluent_syntax.specs.Inside.Classes.{class_test}
use Rattle.fluent_syntax.proofs.parser.bytes.run_len.Goals as goal

-- what a byte of the run, or one that ends it, adds to what was passed before it
turn : (p : ℕ → ℕ → Bool) (s bytes : List ℕ) (i b : ℕ) (v : Bool) → bytes ≡ s → i < length bytes → b ≡ get_or s (i + 1) 0 → v ≡ p (get_or bytes i 0) b
    → run_len p s ≡ i + run_len p (drop i s) → run_len p s ≡ i + cond v (1 + run_len p (drop (i + 1) s)) 0
turn p s bytes i b v same within next told kept =
    let at : v ≡ p (get_or s i 0) (get_or s (i + 1) 0) = told ∙ (ap (λ t. p (get_or t i 0) b) same ∙ ap (p (get_or s i 0)) next) in
    kept ∙ ap (λ n. i + n) (run_len-drop p s i (subst (λ t. i < length t) same within) ∙ ap (λ w. cond w (1 + run_len p (drop (i + 1) s)) 0) (sym at))

pub bytes-preserved : goal.bytes-preserved
bytes-preserved c =
    let p = class_test c.args.class in
    let s = c.args.s.now in
    let kept = turn p s c.as_bytes-bytes.result.now c.bytes.at c.byte_at.result c.is_in.result c.as_bytes-bytes.ensures.value c.bytes-test.true c.byte_at.ensures c.is_in.ensures c.bytes.invariant in
    let next : run_len p s ≡ c.bytes.at + (1 + run_len p (drop (c.bytes.at + 1) s)) = kept ∙ ap (λ w. c.bytes.at + cond w (1 + run_len p (drop (c.bytes.at + 1) s)) 0) c.if-not-is_in.false in
    omega (arith, next)

pub returns-then-not-is_in-clause-len : goal.returns-then-not-is_in-clause-len
returns-then-not-is_in-clause-len c =
    let p = class_test c.args.class in
    let s = c.args.s.now in
    let kept = turn p s c.as_bytes-bytes.result.now c.bytes.at c.byte_at.result c.is_in.result c.as_bytes-bytes.ensures.value c.bytes-test.true c.byte_at.ensures c.is_in.ensures c.bytes.invariant in
    omega (arith, kept ∙ ap (λ w. c.bytes.at + cond w (1 + run_len p (drop (c.bytes.at + 1) s)) 0) c.if-not-is_in.true)
