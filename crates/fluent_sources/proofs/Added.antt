-- Groups of files, part by part.
use Rattle.std.proofs.Common.{◌≡◌, ◌∙◌, ℕ, suc, ◌+◌, ◌<◌, ◌≤◌, List, [], ◌∷◌, ◌++◌, length, get_or, map, drop, Option, Some, None, refl, sym, ap, add-zero, add-one, arith, Global}
use Rattle.std.specs.Borrow.{Bor}
use Rattle.std.specs.Slice.{IsItemAt}
use Rattle.std.specs.declared.vec.Vec.{Vec}
use Rattle.std.proofs.lemmas.List.{append_assoc, drop-drop, get_or-drop, get_or-map, get_or_past, length-map, map-append, at_drop_more, length_push}
use Rattle.fluent_resource.specs.ResourceView.{entries_of, source_in}
use Rattle.fluent_resource.specs.declared.resource.FluentResource.{FluentResource}
use Rattle.fluent_ast.specs.declared.errors.ParserError.{ParserError}
use Rattle.fluent_syntax.specs.Parsed.{error_range}
use Rattle.fluent_sources.specs.ReadFiles.{ReadFile, file_view, file_with, files_with, ranges_of}
use Rattle.fluent_sources.specs.Sites.{sites}
use Rattle.fluent_sources.specs.SiteView.{site_views}
use Rattle.fluent_sources.specs.Standing.{standings_in, standings_of}
use Rattle.fluent_sources.specs.declared.files.Read.{Read}

-- ---- of two lists of files

pub standings_both : (xs ys : List ReadFile) → standings_in (xs ++ ys) ≡ standings_in xs ++ standings_in ys
standings_both [] ys = refl
standings_both (x ∷ xs) ys = ap (λ l. standings_of x ++ l) (standings_both xs ys) ∙ sym (append_assoc (standings_of x) (standings_in xs) (standings_in ys))

-- ---- what can't be read in one of some sources

abbrev ranges_in : Vec ParserError Global → List (ℕ × ℕ)
ranges_in errors = map error_range errors.items

pub ranges_at : (us : List (Vec ParserError Global)) (i : ℕ) (o : Option (Bor (Vec ParserError Global))) → IsItemAt us i o → ranges_of o ≡ get_or (map ranges_in us) i []
ranges_at us i None at = sym (get_or_past (map ranges_in us) i [] (let past : length us ≤ i = at.3 in omega (arith, past, length-map us ranges_in)))
ranges_at us i (Some x) at = let within : i < length us = at.3.0 in ap ranges_in at.1 ∙ sym (get_or-map ranges_in us i x.now [] within)

-- ---- of one more resource

view_of : (f : Read) (number : ℕ) (r : FluentResource) (ranges : List (List (ℕ × ℕ))) (i : ℕ) → f.number ≡ number → ranges_of f.unreadable ≡ get_or ranges i [] → site_views f.sites.items ≡ sites (source_in r) (entries_of r) → f.resource.now ≡ r
    → file_view f ≡ file_with number (source_in r) (entries_of r) (get_or ranges i [])
view_of f number r ranges i numbered junk where_it_is of =
    let text : source_in f.resource.now ≡ source_in r = ap source_in of in
    let es : entries_of f.resource.now ≡ entries_of r = ap entries_of of in
    cc

first_more : (number : ℕ) (rs : List FluentResource) (ranges : List (List (ℕ × ℕ))) (i : ℕ) (r : FluentResource) → i < length rs → r ≡ get_or rs i r
    → files_with number (drop i rs) (drop i ranges) ≡ file_with number (source_in r) (entries_of r) (get_or ranges i []) ∷ files_with (suc number) (drop (i + 1) rs) (drop (i + 1) ranges)
first_more number rs ranges i r lt is =
    at_drop_more (λ l. files_with number l (drop i ranges)) rs i r lt
    ∙ (ap (λ u. file_with number (source_in u) (entries_of u) (get_or (drop i ranges) 0 []) ∷ files_with (suc number) (drop (i + 1) rs) (drop 1 (drop i ranges))) (sym is)
    ∙ (ap (λ j. file_with number (source_in r) (entries_of r) j ∷ files_with (suc number) (drop (i + 1) rs) (drop 1 (drop i ranges))) (get_or-drop i ranges 0 [] ∙ ap (λ n. get_or ranges n []) (add-zero i))
    ∙ ap (λ l. file_with number (source_in r) (entries_of r) (get_or ranges i []) ∷ files_with (suc number) (drop (i + 1) rs) l) (drop-drop 1 i ranges)))

more_by : (rs : List FluentResource) (ranges : List (List (ℕ × ℕ))) (i : ℕ) (r : FluentResource) (old new : List Read) (f : Read) (whole : List ReadFile) → i < length rs → r ≡ get_or rs i r → new ≡ old ++ f ∷ []
    → file_view f ≡ file_with (length old) (source_in r) (entries_of r) (get_or ranges i [])
    → map file_view old ++ files_with (length old) (drop i rs) (drop i ranges) ≡ whole
    → map file_view new ++ files_with (length new) (drop (i + 1) rs) (drop (i + 1) ranges) ≡ whole
more_by rs ranges i r old new f whole lt is more of so_far =
    let rest = files_with (suc (length old)) (drop (i + 1) rs) (drop (i + 1) ranges) in
    ap (λ l. map file_view l ++ files_with (length l) (drop (i + 1) rs) (drop (i + 1) ranges)) more
    ∙ (ap (λ n. map file_view (old ++ f ∷ []) ++ files_with n (drop (i + 1) rs) (drop (i + 1) ranges)) (length_push old f ∙ add-one (length old))
    ∙ (ap (λ l. l ++ rest) (map-append file_view old (f ∷ []))
    ∙ (append_assoc (map file_view old) (file_view f ∷ []) rest
    ∙ (ap (λ x. map file_view old ++ x ∷ rest) of
    ∙ (ap (λ l. map file_view old ++ l) (sym (first_more (length old) rs ranges i r lt is)) ∙ so_far)))))

pub files_more : (rs : List FluentResource) (ranges : List (List (ℕ × ℕ))) (i : ℕ) (r : FluentResource) (old new : List Read) (f : Read) (whole : List ReadFile) → i < length rs → r ≡ get_or rs i r → new ≡ old ++ f ∷ []
    → f.number ≡ length old → ranges_of f.unreadable ≡ get_or ranges i [] → site_views f.sites.items ≡ sites (source_in r) (entries_of r) → f.resource.now ≡ r
    → map file_view old ++ files_with (length old) (drop i rs) (drop i ranges) ≡ whole
    → map file_view new ++ files_with (length new) (drop (i + 1) rs) (drop (i + 1) ranges) ≡ whole
files_more rs ranges i r old new f whole lt is more numbered junk where_it_is of so_far =
    more_by rs ranges i r old new f whole lt is more (view_of f (length old) r ranges i numbered junk where_it_is of) so_far
