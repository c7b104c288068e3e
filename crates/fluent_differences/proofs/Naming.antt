-- Names in sets, and what is told of each once.
use Rattle.std.proofs.Common.{◌≡◌, ◌∙◌, ◌||◌, if◌then◌else◌, not, Bool, true, false, ℕ, ◌+◌, ◌<◌, ◌≤◌, List, [], ◌∷◌, ◌++◌, length, get_or, map, take, drop, cond, Option, Some, None, refl, sym, ap, subst, filter}
use Rattle.std.specs.List.{list_any, filter_map, cons_option}
use Rattle.std.specs.Option.{option_map}
use Rattle.std.specs.Prelude.{Result, Ok, Err}
use Rattle.std.specs.Result.{OnOk}
use Rattle.std.specs.Borrow.{Bor}
use Rattle.std.specs.Str.{bytes_eq}
use Rattle.std.proofs.lemmas.List.{append_assoc, append-nil, map-append, take_all, take_more, drop_more, drop_all}
use Rattle.std.proofs.lemmas.List.Elements.{filter_map-append, filter-append}
use Rattle.std.proofs.lemmas.List.Folds.{list_any-append}
use Rattle.std.proofs.lemmas.Slice.Eq.{bytes_eq-Decides}
use Rattle.indexmap.specs.IndexSet.{IndexSet, insert_key}
use Rattle.fluent_ast.specs.Tree.{Text}
use Rattle.fluent_semantics.specs.Number.{is_text}
use Rattle.fluent_places.specs.Asked.{texts}
use Rattle.fluent_places.specs.Places.{Place, of_term}
use Rattle.fluent_places.specs.Needs.{Need, a_message, a_term, a_function, a_variable, a_default}
use Rattle.fluent_places.specs.NeedsView.{need_view}
use Rattle.fluent_places.specs.declared.listing.Need as code
use Rattle.fluent_patterns.specs.Found.{Flaw, whole, term_left_out, function_left_out}
use Rattle.fluent_differences.specs.Among.{is_at, is_in}
use Rattle.fluent_differences.specs.Compared.{is_reference, Rule, Told, told_unless, is_number, of_terms_left_out, of_functions_left_out, told_from, firsts, flaws_by}
use Rattle.fluent_differences.specs.Inside.Names.{HasMore, HasNames, names_if}

-- ---- those so far, with one more

prefix : {A B : Type 0} (f : A → B) (xs : List A) (i : ℕ) (x : A) → i < length xs → x ≡ get_or xs i x → map f (take (i + 1) xs) ≡ map f (take i xs) ++ f x ∷ []
prefix f xs i x h is = ap (map f) (take_more xs i x h) ∙ (map-append f (take i xs) (get_or xs i x ∷ []) ∙ ap (λ u. map f (take i xs) ++ f u ∷ []) (sym is))

-- ---- a name among those of a set

pub any_text : (v : Text) (ks : List (Bor Text)) → list_any (λ k. bytes_eq v k.now) ks ≡ is_in v (texts ks)
any_text v [] = refl
any_text v (k ∷ ks) = ap (λ b. is_text v k.now || b) (any_text v ks)

or_false : (b : Bool) → b ≡ (b || false)
or_false true = refl
or_false false = refl

or_assoc : (a b c : Bool) → ((a || b) || c) ≡ (a || (b || c))
or_assoc true b c = refl
or_assoc false b c = refl

or_there : (a b : Bool) → (b ≡ true → a ≡ true) → a ≡ (a || (b || false))
or_there true b h = refl
or_there false true h = h refl
or_there false false h = refl

is_in_append : (v : Text) (xs ys : List Text) → is_in v (xs ++ ys) ≡ (is_in v xs || is_in v ys)
is_in_append v xs ys = list_any-append (is_text v) xs ys

-- one that is there is found by what has its bytes
there : (v w : Text) (vs : List Text) → is_in w vs ≡ true → is_text v w ≡ true → is_in v vs ≡ true
there v w vs h e = subst (λ u. is_in u vs ≡ true) (sym ((bytes_eq-Decides v w).0 e)) h

more_by : (v : Text) (x : Bor Text) (old : List (Bor Text)) (b : Bool) → list_any (λ k. bytes_eq x.now k.now) old ≡ b
    → is_in v (texts (if b then old else old ++ x ∷ [])) ≡ (is_in v (texts old) || is_in v (x.now ∷ []))
more_by v x old true e = or_there (is_in v (texts old)) (is_text v x.now) (there v x.now (texts old) (sym (any_text x.now old) ∙ e))
more_by v x old false e = ap (is_in v) (map-append (λ k. k.now) old (x ∷ [])) ∙ is_in_append v (texts old) (x.now ∷ [])

-- a name is inserted
pub has_more : (x : Bor Text) (old new : List (Bor Text)) → new ≡ insert_key (λ a b. bytes_eq a.now b.now) old x
    → (v : Text) → is_in v (texts new) ≡ (is_in v (texts old) || is_in v (x.now ∷ []))
has_more x old new e v = ap (λ l. is_in v (texts l)) e ∙ more_by v x old (list_any (λ k. bytes_eq x.now k.now) old) refl

-- one is, if there is one
pub some_more : {S R : Type 0} (r : Result (Unit {0}) R) (o : Option (Bor Text)) (x : Bor Text) (old new : IndexSet (Bor Text) S) → o ≡ Some x → OnOk r (HasMore (x.now ∷ []) old new) → OnOk r (HasMore (names_if o) old new)
some_more r o x old new e h = subst (λ p. OnOk r (HasMore (names_if p) old new)) (sym e) h

pub none_more : {S : Type 0} (o : Option (Bor Text)) (s : IndexSet (Bor Text) S) → o ≡ None → HasMore (names_if o) s s
none_more o s e = subst (λ p. HasMore (names_if p) s s) (sym e) (λ v. or_false (is_in v (texts s.keys)))

-- of what is referred to
pub of_more : {S : Type 0} (of : Need → Option Text) (x : Need) (o : Option (Bor Text)) (old new : IndexSet (Bor Text) S) → option_map (λ v. v.now) o ≡ of x → HasMore (names_if o) old new → HasMore (filter_map of (x ∷ [])) old new
of_more of x o old new e h = subst (λ l. HasMore l old new) (by o ∙ ap (λ p. cons_option p []) e) h
  where
    by : (p : Option (Bor Text)) → names_if p ≡ cons_option (option_map (λ v. v.now) p) []
    by None = refl
    by (Some v) = refl

-- ---- those of references, so far

names_more : (of : Need → Option Text) (xs : List code.Need) (i : ℕ) (x : code.Need) (v : Text) (a b : Bool) → i < length xs → x ≡ get_or xs i x
    → a ≡ is_in v (filter_map of (map need_view (take i xs))) → b ≡ (a || is_in v (filter_map of (need_view x ∷ []))) → b ≡ is_in v (filter_map of (map need_view (take (i + 1) xs)))
names_more of xs i x v a b h is so_far more =
    let olds = map need_view (take i xs) in
    let one = need_view x ∷ [] in
    more ∙ (ap (λ c. c || is_in v (filter_map of one)) so_far ∙ (sym (is_in_append v (filter_map of olds) (filter_map of one))
    ∙ ap (is_in v) (sym (filter_map-append of olds one) ∙ ap (filter_map of) (sym (prefix need_view xs i x h is)))))

pub has_so_far : {S : Type 0} (of : Need → Option Text) (xs : List code.Need) (i : ℕ) (x : code.Need) (old new : IndexSet (Bor Text) S) → i < length xs → x ≡ get_or xs i x
    → HasNames (filter_map of (map need_view (take i xs))) old → HasMore (filter_map of (need_view x ∷ [])) old new
    → HasNames (filter_map of (map need_view (take (i + 1) xs))) new
has_so_far of xs i x old new h is so_far more = λ v. names_more of xs i x v (is_in v (texts old.keys)) (is_in v (texts new.keys)) h is (so_far v) (more v)

pub has_no_name : {S : Type 0} (of : Need → Option Text) (xs : List code.Need) (s : IndexSet (Bor Text) S) → s.keys ≡ [] → HasNames (filter_map of (map need_view (take 0 xs))) s
has_no_name of xs s e = λ v. ap (λ ks. is_in v (texts ks)) e

pub has_all : {S : Type 0} (of : Need → Option Text) (xs : List code.Need) (i : ℕ) (s : IndexSet (Bor Text) S) → length xs ≤ i → HasNames (filter_map of (map need_view (take i xs))) s → HasNames (filter_map of (map need_view xs)) s
has_all of xs i s h names = subst (λ l. HasNames (filter_map of (map need_view l)) s) (take_all i xs h) names

-- ---- references among needs

pub reference_added : (x : code.Need) (old new : List code.Need) → is_reference (need_view x) ≡ true → new ≡ old ++ x ∷ [] → map need_view new ≡ map need_view old ++ filter is_reference (need_view x ∷ [])
reference_added x old new e pushed = ap (map need_view) pushed ∙ (map-append need_view old (x ∷ []) ∙ ap (λ b. map need_view old ++ cond b (need_view x ∷ []) []) (sym e))

pub reference_passed : (x : code.Need) (old : List code.Need) → is_reference (need_view x) ≡ false → map need_view old ≡ map need_view old ++ filter is_reference (need_view x ∷ [])
reference_passed x old e = sym (append-nil (map need_view old)) ∙ ap (λ b. map need_view old ++ cond b (need_view x ∷ []) []) (sym e)

pub kept_more : (xs : List code.Need) (i : ℕ) (x : code.Need) (old new : List Need) → i < length xs → x ≡ get_or xs i x
    → old ≡ filter is_reference (map need_view (take i xs)) → new ≡ old ++ filter is_reference (need_view x ∷ []) → new ≡ filter is_reference (map need_view (take (i + 1) xs))
kept_more xs i x old new h is so_far added =
    let olds = map need_view (take i xs) in
    let one = need_view x ∷ [] in
    added ∙ (ap (λ l. l ++ filter is_reference one) so_far ∙ (sym (filter-append is_reference olds one) ∙ ap (filter is_reference) (sym (prefix need_view xs i x h is))))

-- ---- what is told once

pub told_none : (o : Option Told) (flaws : List Flaw) (names : List Text) (xs : List (Option Told)) → o ≡ None → flaws ++ firsts names xs ≡ flaws ++ firsts names (o ∷ xs)
told_none o flaws names xs e = ap (λ p. flaws ++ firsts names (p ∷ xs)) (sym e)

first_if : (b : Bool) (x : Told) (names : List Text) (xs : List (Option Told)) → is_in x.0 names ≡ b
    → firsts names (Some x ∷ xs) ≡ (if b then firsts names xs else x.1 ∷ firsts (names ++ x.0 ∷ []) xs)
first_if b x names xs e = ap (λ c. if c then firsts names xs else x.1 ∷ firsts (names ++ x.0 ∷ []) xs) e

-- a name is inserted that isn't there
pub new_name : (x : Bor Text) (old new : List (Bor Text)) → is_in x.now (texts old) ≡ false → new ≡ insert_key (λ a b. bytes_eq a.now b.now) old x → texts new ≡ texts old ++ x.now ∷ []
new_name x old new e inserted = ap texts (inserted ∙ ap (λ b. if b then old else old ++ x ∷ []) (any_text x.now old ∙ e)) ∙ map-append (λ k. k.now) old (x ∷ [])

-- a name that was told
pub told_again : (x : Told) (flaws : List Flaw) (names names' : List Text) (xs : List (Option Told)) → is_in x.0 names ≡ true → names' ≡ names
    → flaws ++ firsts names' xs ≡ flaws ++ firsts names (Some x ∷ xs)
told_again x flaws names names' xs e same = ap (λ ns. flaws ++ firsts ns xs) same ∙ ap (λ l. flaws ++ l) (sym (first_if true x names xs e))

-- one that wasn't
pub told_first : (x : Told) (flaws flaws' : List Flaw) (names names' : List Text) (xs : List (Option Told)) → is_in x.0 names ≡ false → names' ≡ names ++ x.0 ∷ [] → flaws' ≡ flaws ++ x.1 ∷ []
    → flaws' ++ firsts names' xs ≡ flaws ++ firsts names (Some x ∷ xs)
told_first x flaws flaws' names names' xs e added pushed =
    ap (λ l. l ++ firsts names' xs) pushed ∙ (append_assoc flaws (x.1 ∷ []) (firsts names' xs)
    ∙ (ap (λ ns. flaws ++ (x.1 ∷ firsts ns xs)) added ∙ ap (λ l. flaws ++ l) (sym (first_if false x names xs e))))

-- ---- references, one after the other

pub told_more : (rule : Rule) (xs : List code.Need) (i : ℕ) (x : code.Need) (one : Option Told) (old new all : List Flaw) (names names' : List Text) → i < length xs → x ≡ get_or xs i x → one ≡ rule i (need_view x)
    → ((rest : List (Option Told)) → new ++ firsts names' rest ≡ old ++ firsts names (one ∷ rest))
    → old ++ firsts names (told_from rule i (map need_view (drop i xs))) ≡ all
    → new ++ firsts names' (told_from rule (i + 1) (map need_view (drop (i + 1) xs))) ≡ all
told_more rule xs i x one old new all names names' h is told tells so_far =
    let rest = told_from rule (i + 1) (map need_view (drop (i + 1) xs)) in
    let next : drop i xs ≡ x ∷ drop (i + 1) xs = drop_more xs i x h ∙ ap (λ y. y ∷ drop (i + 1) xs) (sym is) in
    tells rest ∙ (ap (λ o. old ++ firsts names (o ∷ rest)) told ∙ (ap (λ l. old ++ firsts names (told_from rule i (map need_view l))) (sym next) ∙ so_far))

pub told_all : (rule : Rule) (xs : List code.Need) (i : ℕ) (old all : List Flaw) (names : List Text) → length xs ≤ i
    → old ++ firsts names (told_from rule i (map need_view (drop i xs))) ≡ all → old ≡ all
told_all rule xs i old all names h so_far =
    sym (append-nil old) ∙ (ap (λ l. old ++ firsts names (told_from rule i (map need_view l))) (sym (drop_all i xs h)) ∙ so_far)

-- ---- rules that say the same

told_same : (r s : Rule) (n : ℕ) (xs : List Need) → ((k : ℕ) (x : Need) → r k x ≡ s k x) → told_from r n xs ≡ told_from s n xs
told_same r s n [] h = refl
told_same r s n (x ∷ xs) h = ap (λ o. o ∷ told_from r (n + 1) xs) (h n x) ∙ ap (λ l. s n x ∷ l) (told_same r s (n + 1) xs h)

flaws_same : (r s : Rule) (xs : List Need) → ((k : ℕ) (x : Need) → r k x ≡ s k x) → flaws_by r xs ≡ flaws_by s xs
flaws_same r s xs h = ap (firsts []) (told_same r s 0 xs h)

terms_rule : (places : List Place) (us vs : List Text) → ((v : Text) → is_in v us ≡ is_in v vs) → (k : ℕ) (x : Need) → of_terms_left_out places us k x ≡ of_terms_left_out places vs k x
terms_rule places us vs h k (a_message m a) = refl
terms_rule places us vs h k (a_term t a names) = ap (λ b. if is_at (of_term t a) places then told_unless b t (whole, term_left_out (of_term t a)) else None) (h t)
terms_rule places us vs h k (a_function f) = refl
terms_rule places us vs h k (a_variable v) = refl
terms_rule places us vs h k a_default = refl

functions_rule : (us vs shows : List Text) → ((v : Text) → is_in v us ≡ is_in v vs) → (k : ℕ) (x : Need) → of_functions_left_out us shows k x ≡ of_functions_left_out vs shows k x
functions_rule us vs shows h k (a_message m a) = refl
functions_rule us vs shows h k (a_term t a names) = refl
functions_rule us vs shows h k (a_function f) = ap (λ b. told_unless ((is_number f || b) || not (is_in f shows)) f (whole, function_left_out f)) (h f)
functions_rule us vs shows h k (a_variable v) = refl
functions_rule us vs shows h k a_default = refl

pub terms_same : (places : List Place) (us vs : List Text) (xs : List Need) → ((v : Text) → is_in v us ≡ is_in v vs) → flaws_by (of_terms_left_out places us) xs ≡ flaws_by (of_terms_left_out places vs) xs
terms_same places us vs xs h = flaws_same (of_terms_left_out places us) (of_terms_left_out places vs) xs (terms_rule places us vs h)

pub functions_same : (us vs shows : List Text) (xs : List Need) → ((v : Text) → is_in v us ≡ is_in v vs) → flaws_by (of_functions_left_out us shows) xs ≡ flaws_by (of_functions_left_out vs shows) xs
functions_same us vs shows xs h = flaws_same (of_functions_left_out us shows) (of_functions_left_out vs shows) xs (functions_rule us vs shows h)

-- ---- lists of flaws, one after another

pub chained : (f f1 f2 f3 f4 a b c d : List Flaw) → f1 ≡ f ++ a → f2 ≡ f1 ++ b → f3 ≡ f2 ++ c → f4 ≡ f3 ++ d → f4 ≡ f ++ (a ++ (b ++ (c ++ d)))
chained f f1 f2 f3 f4 a b c d ha hb hc hd =
    hd ∙ (ap (λ l. l ++ d) hc ∙ (append_assoc f2 c d ∙ (ap (λ l. l ++ (c ++ d)) hb ∙ (append_assoc f1 b (c ++ d)
    ∙ (ap (λ l. l ++ (b ++ (c ++ d))) ha ∙ append_assoc f a (b ++ (c ++ d)))))))

pub chained_ok : {R : Type 0} (r : Result (Unit {0}) R) (f f1 f2 f3 f4 a b c d d' : List Flaw) → f1 ≡ f ++ a → f2 ≡ f1 ++ b → f3 ≡ f2 ++ c → d' ≡ d → OnOk r (f4 ≡ f3 ++ d') → OnOk r (f4 ≡ f ++ (a ++ (b ++ (c ++ d))))
chained_ok (Ok x) f f1 f2 f3 f4 a b c d d' ha hb hc e hd = chained f f1 f2 f3 f4 a b c d ha hb hc (hd ∙ ap (λ l. f3 ++ l) e)
chained_ok (Err x) f f1 f2 f3 f4 a b c d d' ha hb hc e hd = hd
