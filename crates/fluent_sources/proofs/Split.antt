-- Files in three parts of one list.
use Rattle.std.proofs.Common.{◌≡◌, ◌∙◌, ℕ, ◌-◌, List, ◌++◌, length, map, take, drop, sym, ap, arith}
use Rattle.std.proofs.Math.Seq.{take-append_seam, drop-append_seam, take-length}
use Rattle.std.proofs.lemmas.List.{append_assoc, length-append, length-drop, take-map, drop-map}
use Rattle.fluent_sources.specs.Groups.{Group}
use Rattle.fluent_sources.specs.Parts.{parts}
use Rattle.fluent_sources.specs.ReadFiles.{ReadFile, file_view}
use Rattle.fluent_sources.specs.declared.files.Read.{Read}

module _ (files b s r : List ReadFile) (m n : ℕ) (three : files ≡ (b ++ s) ++ r) (first : m ≡ length b) (behind : n ≡ length (b ++ s)) where
  behind_first : drop m files ≡ s ++ r
  behind_first = ap (drop m) (three ∙ append_assoc b s r) ∙ (ap (λ k. drop k (b ++ (s ++ r))) first ∙ drop-append_seam b (s ++ r))

  length_own : n - m ≡ length s
  length_own = omega (arith, first, behind, length-append b s)

  part_beside : take m files ≡ b
  part_beside = ap (take m) (three ∙ append_assoc b s r) ∙ (ap (λ k. take k (b ++ (s ++ r))) first ∙ take-append_seam b (s ++ r))

  part_own : take (n - m) (drop m files) ≡ s
  part_own = ap (take (n - m)) behind_first ∙ (ap (λ k. take k (s ++ r)) length_own ∙ take-append_seam s r)

  part_references : drop n files ≡ r
  part_references = ap (drop n) three ∙ (ap (λ k. drop k ((b ++ s) ++ r)) behind ∙ drop-append_seam (b ++ s) r)

group_is : (g : Group) (b s r : List ReadFile) → g.beside ≡ b → g.own ≡ s → g.references ≡ r → g ≡ record { beside = b; own = s; references = r }
group_is g b s r p q e =
    ap (λ x. record { beside = x; own = g.own; references = g.references }) p
    ∙ (ap (λ x. record { beside = b; own = x; references = g.references }) q
    ∙ ap (λ x. record { beside = b; own = s; references = x }) e)

pub parts_are : (files b s r : List ReadFile) (m n : ℕ) → files ≡ (b ++ s) ++ r → m ≡ length b → n ≡ length (b ++ s) → parts files m n ≡ record { beside = b; own = s; references = r }
parts_are files b s r m n three first behind =
    group_is (parts files m n) b s r (part_beside files b s r m n three first behind) (part_own files b s r m n three first behind) (part_references files b s r m n three first behind)

rest : (xs : List Read) (n : ℕ) → take (length xs - n) (drop n xs) ≡ drop n xs
rest xs n = ap (λ k. take k (drop n xs)) (sym (length-drop n xs)) ∙ take-length (drop n xs)

pub mapped : (list xs ys zs : List Read) (m n : ℕ) → xs ≡ list → ys ≡ list → zs ≡ list
    → record { beside = map file_view (take m xs); own = map file_view (take (n - m) (drop m ys)); references = map file_view (take (length zs - n) (drop n zs)) } ≡ parts (map file_view list) m n
mapped list xs ys zs m n x y z =
    group_is (record { beside = map file_view (take m xs); own = map file_view (take (n - m) (drop m ys)); references = map file_view (take (length zs - n) (drop n zs)) }) (take m (map file_view list)) (take (n - m) (drop m (map file_view list))) (drop n (map file_view list))
    (ap (λ l. map file_view (take m l)) x ∙ sym (take-map file_view m list))
    (ap (λ l. map file_view (take (n - m) (drop m l))) y ∙ (sym (take-map file_view (n - m) (drop m list)) ∙ ap (take (n - m)) (sym (drop-map file_view m list))))
    (ap (map file_view) (rest zs n) ∙ (ap (λ l. map file_view (drop n l)) z ∙ sym (drop-map file_view n list)))
