-- The smallest indent, from the start.
use Rattle.std.proofs.Common.{◌≡◌, ℕ, ◌+◌, ◌<◌, min, map, List, length, get_or, drop, Option, Some, None, refl, ap, arith}
use Rattle.std.proofs.lemmas.List.{drop_more}
use Rattle.fluent_syntax.specs.Layout.{smaller, smallest_indent, indent_in}
use Rattle.fluent_syntax.specs.declared.parser.piece.Piece as code
use Rattle.fluent_syntax.specs.Inside.PieceView.{piece_view}

pub smaller_assoc : (a b c : Option ℕ) → smaller a (smaller b c) ≡ smaller (smaller a b) c
smaller_assoc None b c = refl
smaller_assoc (Some m) None c = refl
smaller_assoc (Some m) (Some n) None = refl
smaller_assoc (Some m) (Some n) (Some k) = let e : min m (min n k) ≡ min (min m n) k = omega arith in ap (λ x. Some x) e

-- one turn, at an index
pub smaller_more : (ps : List code.Piece) (i : ℕ) (d : code.Piece) (so_far : Option ℕ) → i < length ps
    → smaller so_far (smallest_indent (map piece_view (drop i ps))) ≡ smaller (smaller so_far (indent_in (piece_view (get_or ps i d)))) (smallest_indent (map piece_view (drop (i + 1) ps)))
smaller_more ps i d so_far h = rw (drop_more ps i d h) (smaller_assoc so_far (indent_in (piece_view (get_or ps i d))) (smallest_indent (map piece_view (drop (i + 1) ps))))

pub smaller_none : (a : Option ℕ) → smaller a None ≡ a
smaller_none None = refl
smaller_none (Some m) = refl

pub ruleset leasts = (smaller_more, smaller_none)
