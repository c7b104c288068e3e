-- The sites of entries, one entry after the other.
use Rattle.std.proofs.Common.{◌≡◌, ℕ, ◌+◌, ◌-◌, ◌<◌, List, [], ◌∷◌, ◌++◌, length, take, drop, map, get_or, ap, sym, ◌∙◌, refl, arith, add-zero}
use Rattle.std.proofs.lemmas.List.{append_assoc, append-nil, length-drop, drop-drop, get_or-drop}
use Rattle.fluent_ast.specs.Tree.{Text}
use Rattle.fluent_ast.specs.View.{entry_view}
use Rattle.fluent_ast.specs.declared.ast.Entry.{Entry}
use Rattle.fluent_places.specs.Places.{Place, places_of, places_in}
use Rattle.fluent_patterns.specs.Marks.{marks}
use Rattle.fluent_patterns.specs.declared.marks.Mark.{Mark}
use Rattle.fluent_sources.specs.Sites.{Site, sites_at, sites_from, start_of}

start-drop : (source : Text) (starts : List ℕ) (i : ℕ) → start_of source (drop i starts) ≡ get_or starts i (length source)
start-drop source starts i = get_or-drop i starts 0 (length source) ∙ ap (λ n. get_or starts n (length source)) (add-zero i)

first-sites : (source : Text) (starts : List ℕ) (es : List Entry) → 0 < length es
    → sites_from source starts (map entry_view es)
    ≡ sites_at (start_of source starts) (start_of source starts) (places_in (map entry_view (take 1 es))) (marks (start_of source starts) (start_of source (drop 1 starts)) source)
    ++ sites_from source (drop 1 starts) (map entry_view (drop 1 es))
first-sites source starts [] some = absurd (omega arith)
first-sites source starts (e ∷ es) some =
    let from = start_of source starts in
    ap (λ ps. sites_at from from ps (marks from (start_of source (drop 1 starts)) source) ++ sites_from source (drop 1 starts) (map entry_view es)) (sym (append-nil (places_of (entry_view e))))

-- the same where the offsets are known
first_known : (source : Text) (starts : List ℕ) (es : List Entry) (from to : ℕ) → 0 < length es → start_of source starts ≡ from → start_of source (drop 1 starts) ≡ to
    → sites_from source starts (map entry_view es)
    ≡ sites_at from from (places_in (map entry_view (take 1 es))) (marks from to source) ++ sites_from source (drop 1 starts) (map entry_view (drop 1 es))
first_known source starts es from to some from-is to-is =
    let rest = sites_from source (drop 1 starts) (map entry_view (drop 1 es)) in
    let places = places_in (map entry_view (take 1 es)) in
    first-sites source starts es some
    ∙ (ap (λ n. sites_at n n places (marks n (start_of source (drop 1 starts)) source) ++ rest) from-is
    ∙ ap (λ n. sites_at from from places (marks from n source) ++ rest) to-is)

-- those of one entry more
pub sites-step : (source : Text) (starts : List ℕ) (es : List Entry) (i from to : ℕ) (places : List Place) (ms : List Mark) (old new whole : List Site) → i < length es
    → from ≡ get_or starts i (length source) → to ≡ get_or starts (i + 1) (length source)
    → places ≡ places_in (map entry_view (take (i + 1 - i) (drop i es))) → ms ≡ marks from to source → new ≡ old ++ sites_at from from places ms
    → old ++ sites_from source (drop i starts) (map entry_view (drop i es)) ≡ whole
    → new ++ sites_from source (drop (i + 1) starts) (map entry_view (drop (i + 1) es)) ≡ whole
sites-step source starts es i from to places ms old new whole within from-is to-is places-is marks-is new-is before =
    let ss = drop i starts in
    let ys = drop i es in
    let own = sites_at from from places ms in
    let rest = sites_from source (drop (i + 1) starts) (map entry_view (drop (i + 1) es)) in
    let some : 0 < length ys = omega (arith, length-drop i es) in
    let one : 1 ≡ i + 1 - i = omega arith in
    let begins : start_of source ss ≡ from = start-drop source starts i ∙ sym from-is in
    let ends : start_of source (drop 1 ss) ≡ to = ap (start_of source) (drop-drop 1 i starts) ∙ (start-drop source starts (i + 1) ∙ sym to-is) in
    let of_entry : places_in (map entry_view (take 1 ys)) ≡ places = ap (λ n. places_in (map entry_view (take n ys))) one ∙ sym places-is in
    let step : sites_from source ss (map entry_view ys) ≡ own ++ rest =
    first_known source ss ys from to some begins ends
    ∙ (ap (λ p. sites_at from from p (marks from to source) ++ sites_from source (drop 1 ss) (map entry_view (drop 1 ys))) of_entry
    ∙ (ap (λ m. sites_at from from places m ++ sites_from source (drop 1 ss) (map entry_view (drop 1 ys))) (sym marks-is)
    ∙ (ap (λ s. own ++ sites_from source s (map entry_view (drop 1 ys))) (drop-drop 1 i starts)
    ∙ ap (λ y. own ++ sites_from source (drop (i + 1) starts) (map entry_view y)) (drop-drop 1 i es))))
    in
    ap (λ l. l ++ rest) new-is ∙ (append_assoc old own rest ∙ (ap (λ l. old ++ l) (sym step) ∙ before))
