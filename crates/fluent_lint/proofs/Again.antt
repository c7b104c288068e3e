-- Definitions are gone over, one after the other.
use Rattle.std.proofs.Common.{◌≡◌, ℕ, zero, suc, ◌+◌, ◌<◌, ◌≤◌, Bool, true, false, cond, true≢false, List, [], ◌∷◌, ◌++◌, length, get_or, map, take, Option, Some, None, refl, sym, ap, subst, ◌∙◌, arith}
use Rattle.std.specs.Borrow.{Bor}
use Rattle.std.specs.Map.{lookup}
use Rattle.std.specs.Option.{option_or}
use Rattle.std.specs.Str.{bytes_eq}
use Rattle.std.proofs.lemmas.List.{append_assoc, append-nil, map-append, take_more, take_all}
use Rattle.std.proofs.lemmas.Slice.Eq.{bytes_eq-Decides}
use Rattle.fluent_ast.specs.Tree.{Text, Entry}
use Rattle.fluent_ast.specs.View.{entry_view}
use Rattle.fluent_ast.specs.declared.ast.Entry as code
use Rattle.fluent_resource.specs.ResourceView.{entries_of}
use Rattle.fluent_resource.specs.declared.resource.FluentResource.{FluentResource}
use Rattle.fluent_lint.specs.Twice.{Defined, again_after, again_if, again_view, defined_from, defined_if, defined_in, first_defined, id_of}
use Rattle.fluent_lint.specs.Inside.Seen.{AreFirsts, GoesOver, IsSeen, noted_first}
use Rattle.fluent_lint.specs.declared.sources.Definition.{Definition}
use Rattle.fluent_lint.specs.declared.sources.Seen.{Seen}
use Rattle.fluent_lint.specs.declared.sources.Twice.{Twice}

-- ---- none, and some after others

pub goes_none : (s : Seen) → GoesOver [] s s
goes_none s = λ before h. (subst (AreFirsts s.firsts.entries) (sym (append-nil before)) h, sym (append-nil (map again_view s.list.items)))

again_append : (before ds es : List Defined) → again_after before (ds ++ es) ≡ again_after before ds ++ again_after (before ++ ds) es
again_append before [] es = ap (λ b. again_after b es) (sym (append-nil before))
again_append before (d ∷ ds) es =
    let here = again_if (first_defined d.0 before) d in
    let on = before ++ d ∷ [] in
    ap (λ l. here ++ l) (again_append on ds es) ∙ (sym (append_assoc here (again_after on ds) (again_after (on ++ ds) es)) ∙ ap (λ b. (here ++ again_after on ds) ++ again_after b es) (append_assoc before (d ∷ []) ds))

pub goes_then : (ds es : List Defined) (a b c : Seen) → GoesOver ds a b → GoesOver es b c → GoesOver (ds ++ es) a c
goes_then ds es a b c first then = λ before h.
    let one = first before h in
    let two = then (before ++ ds) one.0 in
    let old = map again_view a.list.items in (
      subst (AreFirsts c.firsts.entries) (append_assoc before ds es) two.0,
      two.1 ∙ (ap (λ l. l ++ again_after (before ++ ds) es) one.1 ∙ (append_assoc old (again_after before ds) (again_after (before ++ ds) es) ∙ ap (λ l. old ++ l) (sym (again_append before ds es)))),
    )

-- ---- one definition

snoc_head : {X : Type 0} (b : Bool) (x : X) (o p : Option X) → cond b (Some x) (option_or o p) ≡ option_or (cond b (Some x) o) p
snoc_head true x o p = refl
snoc_head false x o p = refl

found_last : (q : Text) (ds : List Defined) (d : Defined) → first_defined q (ds ++ d ∷ []) ≡ option_or (first_defined q ds) (cond (bytes_eq q d.0) (Some d.1) None)
found_last q [] d = refl
found_last q (e ∷ es) d = ap (λ o. cond (bytes_eq q e.0) (Some e.1) o) (found_last q es d) ∙ snoc_head (bytes_eq q e.0) e.1 (first_defined q es) (cond (bytes_eq q d.0) (Some d.1) None)

-- an id that wasn't defined: its definition is the first
new_id : (q id : Text) (here : Definition) (o : Option Definition) (x y : Bool) → bytes_eq id q ≡ x → bytes_eq q id ≡ y → (id ≡ q → o ≡ None) → cond x (Some here) o ≡ option_or o (cond y (Some here) None)
new_id q id here o true true e f none = ap (λ p. option_or p (Some here)) (sym (none ((bytes_eq-Decides id q).0 e)))
new_id q id here o true false e f none = absurd (true≢false (sym ((bytes_eq-Decides q id).1 (sym ((bytes_eq-Decides id q).0 e))) ∙ f))
new_id q id here o false true e f none = absurd (true≢false (sym ((bytes_eq-Decides id q).1 (sym ((bytes_eq-Decides q id).0 f))) ∙ e))
new_id q id here None false false e f none = refl
new_id q id here (Some z) false false e f none = refl

-- an id that was defined: its first definition stays
old_id : (q id : Text) (first here : Definition) (o : Option Definition) (y : Bool) → bytes_eq q id ≡ y → (id ≡ q → o ≡ Some first) → o ≡ option_or o (cond y (Some here) None)
old_id q id first here None true e some = let o = some (sym ((bytes_eq-Decides q id).0 e)) in absurd cc
old_id q id first here (Some z) true e some = refl
old_id q id first here None false e some = refl
old_id q id first here (Some z) false e some = refl

pub goes_first : (id : Bor Text) (here : Definition) (old new : Seen) → noted_first id.now old ≡ None → ((q : Bor Text) → noted_first q.now new ≡ cond (bytes_eq id.now q.now) (Some here) (noted_first q.now old)) → new.list.items ≡ old.list.items
    → GoesOver ((id.now, here) ∷ []) old new
goes_first id here old new none updates same = λ before h.
    let free : first_defined id.now before ≡ None = sym (h id) ∙ none in (
      λ q. updates q ∙ (ap (λ o. cond (bytes_eq id.now q.now) (Some here) o) (h q)
          ∙ (new_id q.now id.now here (first_defined q.now before) (bytes_eq id.now q.now) (bytes_eq q.now id.now) refl refl (λ e. subst (λ t. first_defined t before ≡ None) e free) ∙ sym (found_last q.now before (id.now, here)))),
      ap (λ l. map again_view l) same ∙ (sym (append-nil (map again_view old.list.items)) ∙ ap (λ o. map again_view old.list.items ++ (again_if o (id.now, here) ++ [])) (sym free)),
    )

pub goes_again : (id : Bor Text) (here first : Definition) (t : Twice) (old new : Seen) → noted_first id.now old ≡ Some first → new.firsts ≡ old.firsts → new.list.items ≡ old.list.items ++ t ∷ [] → again_view t ≡ (id.now, (first, here))
    → GoesOver ((id.now, here) ∷ []) old new
goes_again id here first t old new some same pushed this = λ before h.
    let taken : first_defined id.now before ≡ Some first = sym (h id) ∙ some in (
      λ q. ap (λ m. lookup (λ k. bytes_eq q.now k.now) m.entries) same ∙ (h q
          ∙ (old_id q.now id.now first here (first_defined q.now before) (bytes_eq q.now id.now) refl (λ e. subst (λ u. first_defined u before ≡ Some first) e taken) ∙ sym (found_last q.now before (id.now, here)))),
      ap (λ l. map again_view l) pushed ∙ (map-append again_view old.list.items (t ∷ []) ∙ (ap (λ a. map again_view old.list.items ++ a ∷ []) this ∙ ap (λ o. map again_view old.list.items ++ (again_if o (id.now, here) ++ [])) (sym taken))),
    )

-- ---- one more entry of a resource

from_snoc : (r j : ℕ) (es : List Entry) (e : Entry) → defined_from r j (es ++ e ∷ []) ≡ defined_from r j es ++ defined_if (id_of e) (record { resource = r; entry = j + length es })
from_snoc r j [] e = let same : j ≡ j + 0 = omega arith in append-nil (defined_if (id_of e) (record { resource = r; entry = j })) ∙ ap (λ n. defined_if (id_of e) (record { resource = r; entry = n })) same
from_snoc r j (x ∷ xs) e =
    let one = defined_if (id_of x) (record { resource = r; entry = j }) in
    let same : suc j + length xs ≡ j + length (x ∷ xs) = omega arith in
    ap (λ l. one ++ l) (from_snoc r (suc j) xs e) ∙ (sym (append_assoc one (defined_from r (suc j) xs) (defined_if (id_of e) (record { resource = r; entry = suc j + length xs })))
    ∙ ap (λ n. (one ++ defined_from r (suc j) xs) ++ defined_if (id_of e) (record { resource = r; entry = n })) same)

taken_length : {A B : Type 0} (f : A → B) (xs : List A) (k : ℕ) → k < length xs → length (map f (take k xs)) ≡ k
taken_length f [] k lt = absurd (omega arith)
taken_length f (x ∷ xs) zero lt = refl
taken_length f (x ∷ xs) (suc k) lt = ap suc (taken_length f xs k (omega arith))

from_more : (r : ℕ) (xs : List code.Entry) (k : ℕ) (x : code.Entry) → k < length xs → x ≡ get_or xs k x → defined_from r 0 (map entry_view (take (k + 1) xs)) ≡ defined_from r 0 (map entry_view (take k xs)) ++ defined_if (id_of (entry_view x)) (record { resource = r; entry = k })
from_more r xs k x lt is =
    let same : 0 + length (map entry_view (take k xs)) ≡ k = omega (arith, taken_length entry_view xs k lt) in
    ap (λ l. defined_from r 0 (map entry_view l)) (take_more xs k x lt ∙ ap (λ u. take k xs ++ u ∷ []) (sym is)) ∙ (ap (defined_from r 0) (map-append entry_view (take k xs) (x ∷ []))
    ∙ (from_snoc r 0 (map entry_view (take k xs)) (entry_view x) ∙ ap (λ n. defined_from r 0 (map entry_view (take k xs)) ++ defined_if (id_of (entry_view x)) (record { resource = r; entry = n })) same))

pub entry_more : (r : ℕ) (xs : List code.Entry) (k : ℕ) (x : code.Entry) (a b c : Seen) → k < length xs → x ≡ get_or xs k x → GoesOver (defined_from r 0 (map entry_view (take k xs))) a b → GoesOver (defined_if (id_of (entry_view x)) (record { resource = r; entry = k })) b c
    → GoesOver (defined_from r 0 (map entry_view (take (k + 1) xs))) a c
entry_more r xs k x a b c lt is so_far this = subst (λ ds. GoesOver ds a c) (sym (from_more r xs k x lt is)) (goes_then _ _ a b c so_far this)

pub entries_end : (r : ℕ) (xs : List code.Entry) (k : ℕ) (a b : Seen) → length xs ≤ k → GoesOver (defined_from r 0 (map entry_view (take k xs))) a b → GoesOver (defined_from r 0 (map entry_view xs)) a b
entries_end r xs k a b le h = subst (λ ys. GoesOver (defined_from r 0 (map entry_view ys)) a b) (take_all k xs le) h

-- ---- one more resource

in_snoc : (n : ℕ) (rs : List FluentResource) (r : FluentResource) → defined_in n (rs ++ r ∷ []) ≡ defined_in n rs ++ defined_from (n + length rs) 0 (entries_of r)
in_snoc n [] r = let same : n ≡ n + 0 = omega arith in append-nil (defined_from n 0 (entries_of r)) ∙ ap (λ m. defined_from m 0 (entries_of r)) same
in_snoc n (s ∷ ss) r =
    let one = defined_from n 0 (entries_of s) in
    let same : suc n + length ss ≡ n + length (s ∷ ss) = omega arith in
    ap (λ l. one ++ l) (in_snoc (suc n) ss r) ∙ (sym (append_assoc one (defined_in (suc n) ss) (defined_from (suc n + length ss) 0 (entries_of r)))
    ∙ ap (λ m. (one ++ defined_in (suc n) ss) ++ defined_from m 0 (entries_of r)) same)

taken : {A : Type 0} (xs : List A) (k : ℕ) → k < length xs → length (take k xs) ≡ k
taken [] k lt = absurd (omega arith)
taken (x ∷ xs) zero lt = refl
taken (x ∷ xs) (suc k) lt = ap suc (taken xs k (omega arith))

in_more : (rs : List FluentResource) (i : ℕ) (r : FluentResource) → i < length rs → r ≡ get_or rs i r → defined_in 0 (take (i + 1) rs) ≡ defined_in 0 (take i rs) ++ defined_from i 0 (entries_of r)
in_more rs i r lt is =
    let same : 0 + length (take i rs) ≡ i = omega (arith, taken rs i lt) in
    ap (defined_in 0) (take_more rs i r lt ∙ ap (λ u. take i rs ++ u ∷ []) (sym is)) ∙ (in_snoc 0 (take i rs) r ∙ ap (λ m. defined_in 0 (take i rs) ++ defined_from m 0 (entries_of r)) same)

-- ---- from none on

pub seen_none : (s : Seen) → s.firsts.entries ≡ [] → s.list.items ≡ [] → IsSeen [] s
seen_none s no_firsts no_list = (λ q. ap (λ l. lookup (λ k. bytes_eq q.now k.now) l) no_firsts, ap (λ l. map again_view l) no_list)

pub resource_more : (rs : List FluentResource) (i : ℕ) (r : FluentResource) (es : List code.Entry) (b c : Seen) → i < length rs → r ≡ get_or rs i r → map entry_view es ≡ entries_of r → IsSeen (defined_in 0 (take i rs)) b → GoesOver (defined_from i 0 (map entry_view es)) b c
    → IsSeen (defined_in 0 (take (i + 1) rs)) c
resource_more rs i r es b c lt is of so_far this =
    let ds = defined_in 0 (take i rs) in
    let more = defined_from i 0 (map entry_view es) in
    let on = this ds so_far.0 in
    subst (λ l. IsSeen l c) (sym (in_more rs i r lt is ∙ ap (λ l. ds ++ defined_from i 0 l) (sym of))) (on.0, on.1 ∙ (ap (λ l. l ++ again_after ds more) so_far.1 ∙ sym (again_append [] ds more)))

pub all_again : (rs : List FluentResource) (i : ℕ) (b : Seen) → length rs ≤ i → IsSeen (defined_in 0 (take i rs)) b → map again_view b.list.items ≡ again_after [] (defined_in 0 rs)
all_again rs i b le seen = seen.1 ∙ ap (λ l. again_after [] (defined_in 0 l)) (take_all i rs le)
