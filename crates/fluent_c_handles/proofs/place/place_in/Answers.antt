use Rattle.std.proofs.Common.{◌≡◌, ◌∙◌, ◌==◌, Bool, true, false, [], ◌∷◌, Some, length, refl, sym, ap, if◌then◌else◌}
use Rattle.fluent_ast.specs.Tree.{Text, Attributes, Pattern, attribute}
use Rattle.fluent_semantics.specs.Number.{is_text}
use Rattle.fluent_bundle_entries.specs.MessageView.{first_named}
use Rattle.fluent_places.specs.Places.{of_message}
use Rattle.fluent_c_handles.specs.Calls.Finding.{place_at}
use Rattle.fluent_c_handles.proofs.Family.{same_text}
use Rattle.fluent_c_handles.proofs.place.place_in.Goals as goal

-- the attribute that was found has the name
has_name : (name : Text) (as' : Attributes) (a : Text × Pattern) → first_named name as' ≡ Some a → a.0 ≡ name
has_name name [] a h = absurd cc
has_name name (b ∷ bs) a h = by (is_text b.0 name) refl h (has_name name bs a)
  where
    by : (t : Bool) → is_text b.0 name ≡ t → (if t then Some b else first_named name bs) ≡ Some a → (first_named name bs ≡ Some a → a.0 ≡ name) → a.0 ≡ name
    by true k h rest = let same : b ≡ a = cc in ap (λ x. x.0) (sym same) ∙ same_text b.0 name k
    by false k h rest = rest h

-- so its place is that of the name
with_name : (id name : Text) → (length name == 0) ≡ false → of_message id (attribute name) ≡ place_at id name
with_name id [] h = absurd (let never : true ≡ false = h in cc)
with_name id (c ∷ cs) h = refl

pub returns-clause-is : goal.returns-clause-is
returns-clause-is c =
    let id = c.in_ok-message.ensures.own in
    let name = c.id.ensures ∙ has_name c.args.name.now _ _ (sym c.in_ok-attribute.ensures) in
    (λ i. of_message (id i) (attribute (name i))) ∙ with_name c.args.id.now c.args.name.now (sym c.is_empty.ensures ∙ c.if-is_empty.false)
