-- Errors that are added at the end of a list, one by one or at once.
use Rattle.std.proofs.Common.{◌≡◌, ◌∙◌, sym, ap, subst, refl, false, ℕ, ◌+◌, ◌<◌, List, [], ◌∷◌, ◌++◌, map, take, drop, length, get_or, append_assoc, append-nil, Result, Ok, Err, IsErr, is_ok}
use Rattle.std.specs.Result.{OnOk}
use Rattle.std.proofs.lemmas.List.{take-append-drop, take_more, map-append}
use Rattle.std.proofs.lemmas.Result.{on_ok_weaker}
use Rattle.fluent_semantics.specs.Errors.{Error}
use Rattle.fluent_resolver_state.specs.Status.{reported}
use Rattle.fluent_bundle_entries.specs.ErrorView.{error_view}
use Rattle.fluent_bundle_entries.specs.declared.errors.FluentError.{FluentError}
use Rattle.fluent_bundle.specs.Formatted.{AddsAll, AddsPrefix}
use Rattle.fluent_show_cli.specs.Inside.OutputProgress.{Added}

pub always : {T E P : Type 0} (r : Result T E) → P → OnOk r P
always (Ok x) p = p
always (Err e) p = tt

-- what holds where an answer is Ok, of another that is Ok where that one is
pub ok_alike : {T E T' E' : Type 0} (P : Type 0) (r : Result T E) (r' : Result T' E') → is_ok r' ≡ is_ok r → OnOk r P → OnOk r' P
ok_alike P (Ok x) (Ok y) same p = p
ok_alike P (Err e) (Ok y) same p = cc
ok_alike P r (Err e) same p = tt

-- errors after all of others
pub adds_then : (xs ys : List Error) (old mid new : List FluentError) → AddsAll xs old mid → AddsAll ys mid new → AddsAll (xs ++ ys) old new
adds_then xs ys old mid new first second = record { added = second.added ∙ ap (λ w. w ++ ys) first.added ∙ append_assoc (reported old) xs ys }

-- all that is in a list that was empty
pub added_to_none : (old new : List FluentError) (errors : List Error) → old ≡ [] → AddsAll errors old new → reported new ≡ errors
added_to_none old new errors none adds = adds.added ∙ ap (λ es. reported es ++ errors) none

-- all of them, whatever is answered
pub added_by : {T E : Type 0} (r : Result T E) (errors : List Error) (old new : List FluentError) → reported new ≡ reported old ++ errors → Added r errors old new
added_by r errors old new h =
    let all : AddsAll errors old new = record { added = h } in
    record { all = always r all; prefix = record { prefix = errors; rest = []; whole = append-nil errors; adds = all } }

-- all at once
pub added_all : {T E : Type 0} (r : Result T E) (errors : List Error) (old found : List FluentError) → map error_view found ≡ errors → Added r errors old (old ++ found)
added_all r errors old found e = added_by r errors old (old ++ found) (map-append error_view old found ∙ ap (λ w. reported old ++ w) e)

-- none, where the answer is no Ok
pub added_nothing : {T E : Type 0} (r : Result T E) (errors : List Error) (old new : List FluentError) → is_ok r ≡ false → new ≡ old → Added r errors old new
added_nothing (Ok x) errors old new faulted same = cc
added_nothing (Err e) errors old new faulted same = record {
  all = tt;
  prefix = record { prefix = []; rest = errors; whole = refl; adds = record { added = ap reported same ∙ sym (append-nil (reported old)) } };
}

module _ {X : Type 0} (f : X → Error) where
  -- the first ones
  pub first_added : {T E : Type 0} (r : Result T E) (xs : List X) (i : ℕ) (old new : List FluentError) → IsErr r → reported new ≡ reported old ++ map f (take i xs) → Added r (map f xs) old new
  first_added (Ok x) xs i old new failed so_far = cc
  first_added (Err e) xs i old new failed so_far = record {
    all = tt;
    prefix = record {
      prefix = map f (take i xs);
      rest = map f (drop i xs);
      whole = sym (map-append f (take i xs) (drop i xs)) ∙ ap (map f) (take-append-drop i xs);
      adds = record { added = so_far };
    };
  }

  -- one more
  pub more_added : (xs : List X) (i : ℕ) (d : X) (e : FluentError) (start old new : List FluentError) → i < length xs → error_view e ≡ f (get_or xs i d) → new ≡ old ++ e ∷ []
      → reported old ≡ reported start ++ map f (take i xs) → reported new ≡ reported start ++ map f (take (i + 1) xs)
  more_added xs i d e start old new within is pushed so_far =
      let one_more = ap (λ x. map f (take i xs) ++ x ∷ []) is ∙ sym (map-append f (take i xs) (get_or xs i d ∷ [])) ∙ ap (map f) (sym (take_more xs i d within)) in
      ap reported pushed
      ∙ map-append error_view old (e ∷ [])
      ∙ ap (λ w. w ++ error_view e ∷ []) so_far
      ∙ append_assoc (reported start) (map f (take i xs)) (error_view e ∷ [])
      ∙ ap (λ w. reported start ++ w) one_more

-- The same of an answer that is Ok where this one is.
pub recast : {T E T' E' : Type 0} (r : Result T E) (r' : Result T' E') (errors errors' : List Error) (old new : List FluentError) → is_ok r' ≡ is_ok r → errors ≡ errors'
    → Added r errors old new → Added r' errors' old new
recast r r' errors errors' old new same e h = record {
  all = subst (λ es. OnOk r' (AddsAll es old new)) e (ok_alike (AddsAll errors old new) r r' same h.all);
  prefix = subst (λ es. AddsPrefix es old new) e h.prefix;
}

-- a call that was Ok added all of its own
pub whole_added : {T E : Type 0} (r : Result T E) (x : T) (xs : List Error) (old new : List FluentError) → r ≡ Ok x → Added r xs old new → AddsAll xs old new
whole_added r x xs old new was h = subst (λ w. OnOk w (AddsAll xs old new)) was h.all

-- errors added after all of others
pub added_then : {T E T' E' : Type 0} (r : Result T E) (r' : Result T' E') (x : T) (xs ys : List Error) (old mid new : List FluentError) → r ≡ Ok x
    → Added r xs old mid → Added r' ys mid new → Added r' (xs ++ ys) old new
added_then r r' x xs ys old mid new was first second =
    let all : AddsAll xs old mid = whole_added r x xs old mid was first in
    record {
      all = on_ok_weaker r' (adds_then xs ys old mid new all) second.all;
      prefix = record {
        prefix = xs ++ second.prefix.prefix;
        rest = second.prefix.rest;
        whole = append_assoc xs second.prefix.prefix second.prefix.rest ∙ ap (λ w. xs ++ w) second.prefix.whole;
        adds = adds_then xs second.prefix.prefix old mid new all second.prefix.adds;
      };
    }

-- a call that faulted added a beginning of more, too
pub added_short : {T E T' E' : Type 0} (r : Result T E) (r' : Result T' E') (xs ys : List Error) (old new : List FluentError) → is_ok r' ≡ false
    → Added r xs old new → Added r' (xs ++ ys) old new
added_short r (Ok x) xs ys old new faulted h = cc
added_short r (Err e) xs ys old new faulted h = record {
  all = tt;
  prefix = record {
    prefix = h.prefix.prefix;
    rest = h.prefix.rest ++ ys;
    whole = sym (append_assoc h.prefix.prefix h.prefix.rest ys) ∙ ap (λ w. w ++ ys) h.prefix.whole;
    adds = h.prefix.adds;
  };
}

-- what a call added that was Ok, whatever is answered later
pub added_kept : {T E T' E' : Type 0} (r : Result T E) (r' : Result T' E') (x : T) (errors : List Error) (old new : List FluentError) → r ≡ Ok x
    → Added r errors old new → Added r' errors old new
added_kept r r' x errors old new was h = record { all = always r' (whole_added r x errors old new was h); prefix = h.prefix }
