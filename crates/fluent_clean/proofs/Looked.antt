-- What was found while all places were looked at is what findings say.
use Rattle.std.proofs.Common.{◌≡◌, ℕ, cond, ◌+◌, ◌<◌, List, [], ◌∷◌, ◌++◌, slice_get, take, Option, Some, None, inl, inr, refl, sym, ap, subst, ◌∙◌}
use Rattle.std.specs.List.{AllByRecursion}
use Rattle.std.proofs.lemmas.List.{append-nil}
use Rattle.fluent_ast.specs.Tree.{Text, Pattern, is_yes}
use Rattle.fluent_places.specs.Places.{Place, place_same, place_view, Names, place_target}
use Rattle.fluent_places.specs.Needs.{Need, needs, IsAmong}
use Rattle.fluent_places.specs.declared.place.Place as code
use Rattle.fluent_places.specs.Facts.Growing.{all_got, all_map}
use Rattle.fluent_clean.specs.Clean.{LeadsOn, IsThere, IsClean, clean, IsMet, IsFine}
use Rattle.fluent_clean.specs.Findings.{named_by, NeedsAt, IsRight, IsUncleanBy, SaysOf, IsTrueFinding, IsNamedOrFine, IsWhole, AreFindingsOf}
use Rattle.fluent_clean.specs.Inside.Table.{Known, known_of}
use Rattle.fluent_clean.specs.Inside.Steps.{AddsTrue, AreAll, ExplainedAt, IsListing, IsOfNeeds, IsToldAs, IsTrueBy, IsWholeBy, Looked, keys_in}
use Rattle.fluent_clean.specs.declared.finding.Finding.{Finding}
use Rattle.fluent_clean.specs.declared.finding.Kind.TheVariants as kind
use Rattle.fluent_clean.proofs.Among.{all_joined, all_of, joined_left, joined_right, mapped, one_of, pushed_here, pushed_kept, pushed_only, some_of, unmapped}
use Rattle.fluent_clean.proofs.Tables.{none_known}

-- ---- what is told stays told

abbrev Keeps : List Finding → List Finding → Type 0
Keeps fs gs = (f : Finding) → IsAmong f fs → IsAmong f gs

still_named : (fs gs : List Finding) (x : Place) → Keeps fs gs → IsAmong x (named_by fs) → IsAmong x (named_by gs)
still_named fs gs x kept h =
    let u = unmapped (λ f. place_view f.place) fs x h in
    subst (λ y. IsAmong y (named_by gs)) (sym u.2) (mapped (λ f. place_view f.place) gs u.0 (kept u.0 u.1))

still_told : (named : Names Text) (limit : ℕ) (fs gs : List Finding) (x : Place) (o : Option ℕ) → Keeps fs gs → IsToldAs named limit fs x o → IsToldAs named limit gs x o
still_told named limit fs gs x None kept (inl u) = inl (u.0, kept u.0 u.1, u.2, u.3)
still_told named limit fs gs x None kept (inr nothing) = inr nothing
still_told named limit fs gs x (Some k) kept (inl h) = inl (still_named fs gs x kept h)
still_told named limit fs gs x (Some k) kept (inr fine) = inr fine

still_whole : (named : Names Text) (known : Known) (fs gs : List Finding) (x : Place) → Keeps fs gs → IsWholeBy named known fs x → IsWholeBy named known gs x
still_whole named known fs gs x kept w n asks = elim (w n asks) [ inl met ↦ inl met | inr k ↦ inr (k.0, kept k.0 k.1, k.2, k.3) ]

-- ---- one more entry

module _ (named : Names Text) (limit : ℕ) (known : Known) (fs more gs : List Finding) (i : ℕ) (e : code.Place × Option ℕ) (at : slice_get known i ≡ Some e)
    (grown : gs ≡ fs ++ more) (looked : Looked named limit known (take i known) fs) where
  kept : Keeps fs gs
  kept f h = subst (IsAmong f) (sym grown) (joined_left f fs more h)

  added : Keeps more gs
  added f h = subst (IsAmong f) (sym grown) (joined_right f fs more h)

  looked_grown : AllByRecursion (IsTrueBy named limit known) more → IsToldAs named limit gs (place_view e.0) e.1 → IsWholeBy named known gs (place_view e.0) → Looked named limit known (take (i + 1) known) gs
  looked_grown says told whole = record {
    told = all_got (λ d. IsToldAs named limit gs (place_view d.0) d.1) known i e at (all_map _ _ (take i known) (λ d h. still_told named limit fs gs (place_view d.0) d.1 kept h) looked.told) told;
    whole = all_got (λ d. IsWholeBy named known gs (place_view d.0)) known i e at (all_map _ _ (take i known) (λ d h. still_whole named known fs gs (place_view d.0) kept h) looked.whole) whole;
    holds = subst (AllByRecursion (IsTrueBy named limit known)) (sym grown) (all_joined (IsTrueBy named limit known) fs more looked.holds says);
  }

-- of a clean pattern all that is asked for is met
met_of : (named : Names Text) (p : Pattern) (n : Need) → IsClean named p → IsAmong n (needs p) → IsMet named n
met_of named p n (clean all refers) among = (one_of (IsThere named) (needs p) n among all, λ q e. refers q (n, among, e))

whole_right : (named : Names Text) (known : Known) (gs : List Finding) (x : Place) (k : ℕ) → IsRight named x k → IsWholeBy named known gs x
whole_right named known gs x k right n asks = inl (met_of named asks.0 n (right.0 asks.0 asks.1) asks.2)

none_more : (fs gs : List Finding) → gs ≡ fs → gs ≡ fs ++ []
none_more fs gs same = same ∙ sym (append-nil fs)

pub looked_nothing : (named : Names Text) (limit : ℕ) (known : Known) (fs gs : List Finding) (i : ℕ) (q : code.Place) → slice_get known i ≡ Some (q, None) → gs ≡ fs → (LeadsOn (place_target named (place_view q)) → ⊥)
    → Looked named limit known (take i known) fs → Looked named limit known (take (i + 1) known) gs
looked_nothing named limit known fs gs i q at same nothing h =
    looked_grown named limit known fs [] gs i (q, None) at (none_more fs gs same) h tt (inr nothing) (λ n asks. absurd (nothing (asks.0, asks.1)))

pub looked_fine : (named : Names Text) (limit : ℕ) (known : Known) (fs gs : List Finding) (i : ℕ) (q : code.Place) (k : ℕ) → slice_get known i ≡ Some (q, Some k) → gs ≡ fs → IsRight named (place_view q) k → IsFine named limit (place_view q)
    → Looked named limit known (take i known) fs → Looked named limit known (take (i + 1) known) gs
looked_fine named limit known fs gs i q k at same right fine h =
    looked_grown named limit known fs [] gs i (q, Some k) at (none_more fs gs same) h tt (inr fine) (whole_right named known gs (place_view q) k right)

pub looked_large : (named : Names Text) (limit : ℕ) (known : Known) (fs gs : List Finding) (i : ℕ) (q : code.Place) (k : ℕ) (f : Finding) → slice_get known i ≡ Some (q, Some k) → gs ≡ fs ++ f ∷ [] → f.place ≡ q → f.kind ≡ kind.TooManyPlaceables k limit
    → limit < k → IsRight named (place_view q) k → Looked named limit known (take i known) fs → Looked named limit known (take (i + 1) known) gs
looked_large named limit known fs gs i q k f at grown here as' more right h =
    let place : place_view f.place ≡ place_view q = ap place_view here in
    let says : SaysOf named limit (place_view f.place) f.kind = subst (SaysOf named limit (place_view f.place)) (sym as') (refl, more, subst (λ x. IsRight named x k) (sym place) right) in
    looked_grown named limit known fs (f ∷ []) gs i (q, Some k) at grown h (inr says, tt)
    (inl (subst (λ x. IsAmong x (named_by gs)) place (mapped (λ g. place_view g.place) gs f (pushed_here fs gs f grown)))) (whole_right named known gs (place_view q) k right)

pub looked_unclean : (named : Names Text) (limit : ℕ) (known : Known) (fs more gs : List Finding) (i : ℕ) (q : code.Place) → slice_get known i ≡ Some (q, None) → gs ≡ fs ++ more → (more ≡ [] → ⊥) → ExplainedAt named known (place_view q) more
    → Looked named limit known (take i known) fs → Looked named limit known (take (i + 1) known) gs
looked_unclean named limit known fs more gs i q at grown some explained h =
    let x = place_view q in
    let one = some_of more some in
    let of = one_of (IsOfNeeds named known x) more one.0 one.1 explained.each in
    let here = added named limit known fs more gs i (q, None) at grown h in
    looked_grown named limit known fs more gs i (q, None) at grown h
    (all_map _ _ more (λ f k. inl (k.1.0, subst (λ y. NeedsAt named y k.1.0) (sym k.0) k.1.1, k.1.2)) explained.each)
    (inl (one.0, here one.0 one.1, of.0, of.1.2.0))
    (λ n asks. elim (explained.every n asks) [ inl well ↦ inl well.0 | inr k ↦ inr (k.0, here k.0 k.1, (one_of (IsOfNeeds named known x) more k.0 k.1 explained.each).0, k.2) ])

-- what stands in an entry of which nothing is known
pub entry_at : (known : Known) (i : ℕ) (q : code.Place) (o a : Option ℕ) → Some (q, o) ≡ slice_get known i → o ≡ a → slice_get known i ≡ Some (q, a)
entry_at known i q o a at is = subst (λ b. slice_get known i ≡ Some (q, b)) is (sym at)

-- ---- findings that are says of their places

pub true_one : (named : Names Text) (limit : ℕ) (old new : List Finding) (f : Finding) → new ≡ old ++ f ∷ [] → SaysOf named limit (place_view f.place) f.kind → AddsTrue named limit old new
true_one named limit old new f e says = record {
  kept = λ g h. pushed_kept old new f g e h;
  only = λ g h. elim (pushed_only old new f g e h) [ inl there ↦ inl there | inr same ↦ inr (subst (λ k. SaysOf named limit (place_view k.place) k.kind) (sym same) says) ];
}

pub true_then : (named : Names Text) (limit : ℕ) (a b c : List Finding) → AddsTrue named limit a b → AddsTrue named limit b c → AddsTrue named limit a c
true_then named limit a b c h j = record {
  kept = λ f k. j.kept f (h.kept f k);
  only = λ f k. elim (j.only f k) [ inl there ↦ h.only f there | inr says ↦ inr says ];
}

-- ---- all of them

-- a place that leads on, and has no count, has a finding
unclean_as : (named : Names Text) (limit : ℕ) (fs : List Finding) (x : Place) (o : Option ℕ) → IsToldAs named limit fs x o → o ≡ None → LeadsOn (place_target named x) → IsUncleanBy fs x
unclean_as named limit fs x None (inl u) e l = u
unclean_as named limit fs x None (inr nothing) e l = absurd (nothing l)
unclean_as named limit fs x (Some k) h e l = absurd cc

unclean_head : (named : Names Text) (limit : ℕ) (fs : List Finding) (e : code.Place × Option ℕ) (es : Known) (x : Place) (d : Dec (x ≡ place_view e.0))
    → IsToldAs named limit fs (place_view e.0) e.1 → (known_of es x ≡ Some None → IsUncleanBy fs x) → LeadsOn (place_target named x)
    → cond (is_yes d) (Some e.1) (known_of es x) ≡ Some None → IsUncleanBy fs x
unclean_head named limit fs e es x (yes p) told rest l h = let none : e.1 ≡ None = cc in unclean_as named limit fs x e.1 (subst (λ y. IsToldAs named limit fs y e.1) (sym p) told) none l
unclean_head named limit fs e es x (no other) told rest l h = rest h

unclean_told : (named : Names Text) (limit : ℕ) (fs : List Finding) (es : Known) → AllByRecursion (λ e. IsToldAs named limit fs (place_view e.0) e.1) es → (x : Place) → LeadsOn (place_target named x) → known_of es x ≡ Some None → IsUncleanBy fs x
unclean_told named limit fs [] h x l e = absurd cc
unclean_told named limit fs (f ∷ es) h x l e = unclean_head named limit fs f es x (place_same x (place_view f.0)) h.0 (unclean_told named limit fs es h.1 x l) l e

told_as : (named : Names Text) (limit : ℕ) (fs : List Finding) (x : Place) (o : Option ℕ) → IsToldAs named limit fs x o → IsNamedOrFine named limit fs x
told_as named limit fs x None (inl u) = inl (subst (λ y. IsAmong y (named_by fs)) u.2 (mapped (λ f. place_view f.place) fs u.0 u.1))
told_as named limit fs x None (inr nothing) = inr (λ p e. absurd (nothing (p, e)))
told_as named limit fs x (Some k) h = h

still_is_told : (named : Names Text) (limit : ℕ) (fs gs : List Finding) (x : Place) → Keeps fs gs → IsNamedOrFine named limit fs x → IsNamedOrFine named limit gs x
still_is_told named limit fs gs x keeps (inl h) = inl (still_named fs gs x keeps h)
still_is_told named limit fs gs x _ (inr fine) = inr fine

-- what holds of each entry's place holds of each place of a table
at_key : (P : Place → Type 0) (es : Known) → AllByRecursion (λ e. P (place_view e.0)) es → (x : Place) → IsAmong x (keys_in es) → P x
at_key P [] all x among = absurd among
at_key P (e ∷ es) all x (inl here) = subst P (sym here) all.0
at_key P (e ∷ es) all x (inr later) = at_key P es all.1 x later

module _ (named : Names Text) (limit : ℕ) (seen : List Place) (known : Known) (fs gs : List Finding)
    (listing : IsListing seen known) (looked : Looked named limit known known fs) (adds : AddsTrue named limit fs gs) where
  are_all : AreAll named known seen gs
  are_all = record {
    told = λ y leads none. let u = unclean_told named limit fs known looked.told y leads none in (u.0, adds.kept u.0 u.1, u.2, u.3);
    listed = λ y among none. none_known known y none (listing.listed y among);
  }

  told_at : (x : Place) → IsAmong x seen → IsNamedOrFine named limit gs x
  told_at x among = still_is_told named limit fs gs x adds.kept
      (at_key (IsNamedOrFine named limit fs) known (all_map _ _ known (λ e h. told_as named limit fs (place_view e.0) e.1 h) looked.told) x (listing.listed x among))

  true_by : (f : Finding) → IsTrueBy named limit known f → IsTrueFinding named limit seen gs f
  true_by f (inl k) = inl (k.0, k.1, k.2.1 seen gs are_all)
  true_by f (inr says) = inr says

  holds_at : (f : Finding) → IsAmong f gs → IsTrueFinding named limit seen gs f
  holds_at f among = elim (adds.only f among) [ inl there ↦ true_by f (one_of (IsTrueBy named limit known) fs f there looked.holds) | inr says ↦ inr says ]

  whole_at : (x : Place) → IsAmong x seen → IsWhole named seen gs x
  whole_at x among n asks = elim (at_key (IsWholeBy named known fs) known looked.whole x (listing.listed x among) n asks) [
    | inl met ↦ inl met
    | inr k ↦ inr (k.0, adds.kept k.0 k.1, k.2, k.3.1 seen gs are_all)
  ]

  pub finds : AreFindingsOf named limit seen gs
  finds = record {
    told = all_of (IsNamedOrFine named limit gs) seen told_at;
    holds = all_of (IsTrueFinding named limit seen gs) gs holds_at;
    whole = all_of (IsWhole named seen gs) seen whole_at;
  }
