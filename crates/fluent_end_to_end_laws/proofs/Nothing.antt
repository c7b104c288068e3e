-- What was not begun wrote and added nothing, and what is done in a bundle is done in one of the same content.
use Rattle.std.specs.Prelude.{◌≡◌, ◌⊎◌, Bool, false, is_ok, List, [], Option, Some, None, Result, Ok, Err, IfOk, refl}
use Rattle.std.specs.Result.{IsErr}
use Rattle.std.specs.Borrow.{Bor}
use Rattle.std.specs.declared.alloc.AllocError.{AllocError}
use Rattle.std.specs.declared.borrow.CowStr.{CowStr}
use Rattle.std.specs.Io.KnownBytes.{Appends}
use Rattle.std.proofs.Common.{inl, subst, sym, append-nil, Global}
use Rattle.fluent_text.specs.Changes.{Change, new, old}
use Rattle.fluent_text.specs.Writer.{writer_in}
use Rattle.fluent_text.specs.declared.counting.Counting.{Counting}
use Rattle.fluent_text.specs.declared.counting.WriteFault.{WriteFault}
use Rattle.fluent_ast.specs.Tree.{Text, Pattern}
use Rattle.fluent_ast.specs.declared.ast.Pattern as code
use Rattle.fluent_semantics.specs.Arguments.{Map}
use Rattle.fluent_semantics.specs.Bundle.{Bundle}
use Rattle.fluent_semantics.specs.Errors.{Error}
use Rattle.fluent_semantics.specs.Events.{Event}
use Rattle.fluent_semantics.specs.Value.{Value}
use Rattle.fluent_bundle_entries.specs.declared.errors.FluentError.{FluentError}
use Rattle.fluent_values.specs.declared.args.FluentArgs.{FluentArgs}
use Rattle.fluent_bundle.specs.Formatted.{AddsPrefix, Errors, GivesAsked, WritesAsked, WritesPrefix, events, written}
use Rattle.fluent_end_to_end_laws.specs.Given.{GivesAfter, WritesAfter}

taken_none : (held : Option Text) → Appends held held []
taken_none None = tt
taken_none (Some t) = sym (append-nil t)

none_added : (errors : List Error) (list : List FluentError) → AddsPrefix errors list list
none_added errors list = record { prefix = []; rest = errors; whole = refl; adds = record { added = sym (append-nil _) } }

none_written : (events : List Event) (held : Option Text) (list : List FluentError) → WritesPrefix events held held list list
none_written events held list = record { done = []; rest = events; whole = refl; taken = taken_none held; adds = record { added = sym (append-nil _) } }

pub of_ok : {B E : Type 0} (P : B → Type 0) (r : Result B E) (b : B) → r ≡ Ok b → IfOk r P → P b
of_ok P r b is holds = subst (λ s. IfOk s P) is holds

pub is_err : {T E : Type 0} (r : Result T E) → is_ok r ≡ false → IsErr r
is_err (Ok x) h = cc
is_err (Err e) h = refl

module _ {C : Type 0} (b : Bundle Text) (content : C → Text) (args : Option (Bor (FluentArgs C))) where
  -- ---- of a pattern

  pub gives_none : (p : code.Pattern) (r : Result (CowStr Global) AllocError) (errors : Change Errors) → is_ok r ≡ false → new errors ≡ old errors → GivesAfter b content args p r errors
  gives_none p (Ok x) errors h same = cc
  gives_none p (Err e) errors h same = record {
    within = λ few. record { text = tt; adds = tt };
    whole = record { text = tt; adds = tt };
    prefix = subst (λ es. AddsPrefix (written b content args p).errors (old errors).items es.items) (sym same) (none_added _ _);
  }

  pub writes_none : {W : Type 0} (p : code.Pattern) (r : Result (Unit {0}) WriteFault) (contents : W → Option Text) (w : Change (Counting W)) (errors : Change Errors) → is_ok r ≡ false → new w ≡ old w → new errors ≡ old errors
      → WritesAfter b content args p r contents w errors
  writes_none p (Ok x) contents w errors h unwritten same = cc
  writes_none p (Err e) contents w errors h unwritten same = record {
    within = λ few. tt;
    whole = tt;
    prefix = subst (λ v. WritesPrefix (events b content args p) (contents (writer_in (old w))) (contents (writer_in v)) (old errors).items (new errors).items) (sym unwritten)
        (subst (λ es. WritesPrefix (events b content args p) (contents (writer_in (old w))) (contents (writer_in (old w))) (old errors).items es.items) (sym same) (none_written _ _ _));
  }

  -- in a bundle of the same content

  pub gives_in : (a : Bundle Text) (p : code.Pattern) (r : Result (CowStr Global) AllocError) (errors : Change Errors) → a ≡ b → GivesAfter a content args p r errors → GivesAfter b content args p r errors
  gives_in a p r errors same gives = subst (λ c. GivesAfter c content args p r errors) same gives

  pub writes_in : {W : Type 0} (a : Bundle Text) (p : code.Pattern) (r : Result (Unit {0}) WriteFault) (contents : W → Option Text) (w : Change (Counting W)) (errors : Change Errors) → a ≡ b
      → WritesAfter a content args p r contents w errors → WritesAfter b content args p r contents w errors
  writes_in a p r contents w errors same writes = subst (λ c. WritesAfter c content args p r contents w errors) same writes

-- ---- of what an id names

pub finds_in : (a b : Bundle Text) (args : Map (Value Text)) (ask : Bundle Text → Option Pattern) (r : Result (Option (CowStr Global)) AllocError) (errors errors' : Errors) → a ≡ b
    → GivesAsked a args (ask a) r errors errors' → GivesAsked b args (ask b) r errors errors' ⊎ (IsErr r × (errors' ≡ errors))
finds_in a b args ask r errors errors' same finds = inl (subst (λ c. GivesAsked c args (ask c) r errors errors') same finds)

pub writes_found_in : {W : Type 0} (a b : Bundle Text) (args : Map (Value Text)) (ask : Bundle Text → Option Pattern) (r : Result Bool WriteFault) (contents : W → Option Text) (w w' : Counting W) (errors errors' : Errors) → a ≡ b
    → WritesAsked a args (ask a) r contents w w' errors errors' → WritesAsked b args (ask b) r contents w w' errors errors' ⊎ (IsErr r × (w' ≡ w) × (errors' ≡ errors))
writes_found_in a b args ask r contents w w' errors errors' same writes = inl (subst (λ c. WritesAsked c args (ask c) r contents w w' errors errors') same writes)
