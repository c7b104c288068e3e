-- Records that are written as bytes are read again.
use Rattle.std.proofs.Common.{◌≡◌, ◌∙◌, ◌<◌, ◌^◌, ◌≤◌, ℕ, take, drop, List, [], ◌∷◌, ◌++◌, length, refl, sym, ap, subst, append_assoc, arith}
use Rattle.std.specs.Prelude.{Some, None, if◌then◌else◌}
use Rattle.std.specs.Int.{w32, to_le_bytes, from_le_bytes}
use Rattle.std.proofs.Math.Seq.{take-append_seam, drop-append_seam}
use Rattle.std.proofs.lemmas.Bool.{le-ltb}
use Rattle.std.proofs.lemmas.List.{length-append}
use Rattle.std.proofs.lemmas.List.Elements.{All-head, All-tail}
use Rattle.std.proofs.lemmas.Nat.{from_le_bytes-to_le_bytes_4}
use Rattle.fluent_text.specs.Parser.{Parser, and_then, ◌>>=◌, pure}
use Rattle.fluent_answers.specs.Kinds.{byte_of}
use Rattle.fluent_answers.specs.Records.{Record, exactly, kind, one_record, sized}
use Rattle.fluent_answers.specs.Encoded.{ReadsWritten, Fits, encoded, all_encoded, sized_bytes}
use Rattle.fluent_answers.specs.declared.kind.Kind.{Kind}
use Rattle.fluent_answers.specs.declared.kind.Kind.TheVariants as kinds

shorter : (t more : List ℕ) → length t ≤ length (t ++ more)
shorter t more = subst (λ n. length t ≤ n) (sym (length-append t more)) (omega arith)

exactly_prefix : (t more : List ℕ) → exactly (length t) (t ++ more) ≡ Some (t, more)
exactly_prefix t more =
    ap (λ b. if b then None else Some (take (length t) (t ++ more), drop (length t) (t ++ more))) (le-ltb (length (t ++ more)) (length t) (shorter t more))
    ∙ ap (λ p. Some (p, drop (length t) (t ++ more))) (take-append_seam t more)
    ∙ ap (λ p. Some (t, p)) (drop-append_seam t more)

sized_prefix : (t more : List ℕ) → length t < 2 ^ 32 → sized (sized_bytes t ++ more) ≡ Some (t, more)
sized_prefix t more fits =
    let size = to_le_bytes w32 (length t) in
    ap sized (append_assoc size t more)
    ∙ ap (λ r. and_then r (λ s. exactly (from_le_bytes w32 s))) (exactly_prefix size (t ++ more))
    ∙ ap (λ n. exactly n (t ++ more)) (from_le_bytes-to_le_bytes_4 (length t) fits)
    ∙ exactly_prefix t more

kind_prefix : (k : Kind) (more : List ℕ) → kind (byte_of k ∷ more) ≡ Some (k, more)
kind_prefix kinds.Text more = refl
kind_prefix kinds.Number more = refl
kind_prefix kinds.Own more = refl
kind_prefix kinds.Nothing more = refl
kind_prefix kinds.Error more = refl

-- what is read after the kind, and after the name
abbrev after_name : Kind → List ℕ → Parser Record
after_name k name = sized >>= (λ value. pure (record { name = name; kind = k; value = value }))

abbrev after_kind : Kind → Parser Record
after_kind k = sized >>= after_name k

one_prefix : (r : Record) (more : List ℕ) → Fits r → one_record (encoded r ++ more) ≡ Some (r, more)
one_prefix r more fits =
    let texts = (sized_bytes r.name ++ sized_bytes r.value) ++ more in
    ap (λ r. and_then r after_kind) (kind_prefix r.kind texts)
    ∙ ap (after_kind r.kind) (append_assoc (sized_bytes r.name) (sized_bytes r.value) more)
    ∙ ap (λ n. and_then n (after_name r.kind)) (sized_prefix r.name (sized_bytes r.value ++ more) fits.0)
    ∙ ap (λ n. and_then n (λ value. pure (record { name = r.name; kind = r.kind; value = value }))) (sized_prefix r.value more fits.1)

pub reads_written : ReadsWritten
reads_written [] rest fit = refl
reads_written (r ∷ all) rest fit = (
  all_encoded all ++ rest,
  ap one_record (append_assoc (encoded r) (all_encoded all) rest) ∙ one_prefix r (all_encoded all ++ rest) (All-head Fits r all fit),
  reads_written all rest (All-tail Fits r all fit),
)
