-- What a name means among arguments, one after the other.
use Rattle.std.proofs.Common.{◌≡◌, sym, ap, ◌∙◌, ℕ, ◌+◌, ◌<◌, List, length, get_or, drop, cond, ◌&&◌, Some}
use Rattle.std.specs.Cmp.{eq_by_cmp_equiv}
use Rattle.std.specs.Cmp.Lexicographic.{slice_cmp, nat_list_cmp_total, texts_ties}
use Rattle.std.specs.FinMap.Entries.{find-put}
use Rattle.std.specs.Ordering.{nat_cmp, eq_by_cmp}
use Rattle.std.specs.Str.{bytes_eq}
use Rattle.fluent_ast.specs.Tree.{Text}
use Rattle.fluent_ast.specs.View.{inline_view}
use Rattle.fluent_ast.specs.declared.ast.NamedArgument.{NamedArgument}
use Rattle.fluent_semantics.specs.Arguments.{Map, get, set, set_all}
use Rattle.fluent_semantics.specs.Value.{Value}
use Rattle.fluent_resolver_state.specs.Locals.{are_literals, is_literal, literal_value, literal_values}
use Rattle.fluent_resolver_state.specs.Facts.Lists.{next_of}

pub got_set : (k q : Text) (v : Value Text) (m : Map (Value Text)) → get q (set k v m) ≡ cond (bytes_eq k q) (Some v) (get q m)
got_set k q v m =
    let tied : eq_by_cmp (slice_cmp nat_cmp) q k ≡ bytes_eq k q = sym (texts_ties k q ∙ (eq_by_cmp_equiv nat_list_cmp_total).symm k q) in
    find-put (slice_cmp nat_cmp) nat_list_cmp_total q k v m ∙ ap (λ b. cond b (Some v) (get q m)) tied

module _ (xs : List NamedArgument) (i : ℕ) (x : NamedArgument) (h : i < length xs) (is : x ≡ get_or xs i x) where
  -- the next argument is set before the others
  pub next_set : (m : Map (Value Text)) → set_all (literal_values (drop i xs)) m ≡ set_all (literal_values (drop (i + 1) xs)) (set x.name.name.now (literal_value (inline_view x.value)) m)
  next_set m = ap (λ ys. set_all (literal_values ys) m) (next_of xs i x h is)

  -- whether all are literals is whether it is one, and the others are
  pub next_is : are_literals (drop i xs) ≡ is_literal (inline_view x.value) && are_literals (drop (i + 1) xs)
  next_is = ap are_literals (next_of xs i x h is)
