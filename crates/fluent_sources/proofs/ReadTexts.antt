-- Files by the texts that were read.
use Rattle.std.proofs.Common.{◌≡◌, ◌∙◌, ℕ, suc, List, [], ◌∷◌, get_or, map, drop, refl, ap}
use Rattle.fluent_syntax.specs.Chunks.{entries, junk_ranges}
use Rattle.fluent_resource.specs.ResourceView.{entries_of, source_in}
use Rattle.fluent_resource.specs.declared.resource.FluentResource.{FluentResource}
use Rattle.fluent_sources.specs.Files.{Read}
use Rattle.fluent_sources.specs.ReadFiles.{file_with, files_of, files_with}

pub of_texts : (number : ℕ) (rs : List FluentResource) (ranges : List (List (ℕ × ℕ))) (reads : List Read) → map source_in rs ≡ map (λ (read : Read). read.text) reads → map entries_of rs ≡ map (λ (read : Read). entries read.text) reads
    → ranges ≡ map (λ (read : Read). junk_ranges read.text) reads → files_with number rs ranges ≡ files_of number reads
of_texts number [] ranges [] texts es junk = refl
of_texts number [] ranges (read ∷ reads) texts es junk = absurd cc
of_texts number (r ∷ rs) ranges [] texts es junk = absurd cc
of_texts number (r ∷ rs) ranges (read ∷ reads) texts es junk =
    let text : source_in r ≡ read.text = cc in
    let texts_more : map source_in rs ≡ map (λ (x : Read). x.text) reads = cc in
    let es_first : entries_of r ≡ entries read.text = cc in
    let es_more : map entries_of rs ≡ map (λ (x : Read). entries x.text) reads = cc in
    let junk_first : get_or ranges 0 [] ≡ junk_ranges read.text = ap (λ l. get_or l 0 []) junk in
    let junk_more : drop 1 ranges ≡ map (λ (x : Read). junk_ranges x.text) reads = ap (drop 1) junk in
    ap (λ t. file_with number t (entries_of r) (get_or ranges 0 []) ∷ files_with (suc number) rs (drop 1 ranges)) text
    ∙ (ap (λ e. file_with number read.text e (get_or ranges 0 []) ∷ files_with (suc number) rs (drop 1 ranges)) es_first
    ∙ (ap (λ j. file_with number read.text (entries read.text) j ∷ files_with (suc number) rs (drop 1 ranges)) junk_first
    ∙ ap (λ l. file_with number read.text (entries read.text) (junk_ranges read.text) ∷ l) (of_texts (suc number) rs (drop 1 ranges) reads texts_more es_more junk_more)))
