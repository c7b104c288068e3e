-- The turns of an argument list, beside a loop that keeps its names in a set.
use Rattle.std.proofs.Common.{◌≡◌, ℕ, suc, ◌-◌, ◌<◌, Bool, true, false, not, ◌==◌, List, [], ◌∷◌, length, drop, Option, Some, None, Ok, Err, refl, ap, ◌∙◌, arith}
use Rattle.std.specs.Str.{bytes_eq}
use Rattle.std.specs.Set.{is_member}
use Rattle.std.specs.Borrow.{Bor}
use Rattle.std.specs.BTreeSet.{BTreeSet, UpdatesBy}
use Rattle.fluent_text.specs.Parser.{Text, first}
use Rattle.fluent_text.specs.Lexical.{blank}
use Rattle.fluent_reasons.specs.declared.expected.Expected.{Expected}
use Rattle.fluent_reasons.specs.declared.expected.Expected.TheVariants as expected
use Rattle.fluent_reasons.specs.Stopping.{Reader, and_then, pure, enough, if_next, turns, past}
use Rattle.fluent_reasons.specs.Reasons.{argument, argument_turn, argument_list, with_name}
use Rattle.fluent_reasons.proofs.Names.{Holds, text_cmp, members-more}

-- so many turns after these names
abbrev pub rest_of_list : Reader (Unit {0}) → ℕ → List Text → Reader (Unit {0})
rest_of_list enclosed k names s =
    and_then (turns (λ ns. if_next 41 enough (argument_turn enclosed ns)) k names s) (λ _. pure tt)

pub begun : (enclosed : Reader (Unit {0})) (k : ℕ) (s : Text) → k ≡ length s → argument_list enclosed s ≡ rest_of_list enclosed k [] s
unfolding argument_list
begun enclosed k s e = rw e refl

pub done : (enclosed : Reader (Unit {0})) (k : ℕ) (names : List Text) (s : Text) → k ≡ 0 → rest_of_list enclosed k names s ≡ Ok (tt, s)
unfolding turns
done enclosed k names s e = ap (λ n. rest_of_list enclosed n names s) e

pub bracket : (enclosed : Reader (Unit {0})) (k : ℕ) (names : List Text) (s : Text)
    → 0 < k → (first s == 41) ≡ true → rest_of_list enclosed k names s ≡ Ok (tt, s)
unfolding turns
bracket enclosed k names s room b =
    let k1 : k ≡ suc (k - 1) = omega arith in
    ap (λ n. rest_of_list enclosed n names s) k1 ∙ rw b

pub stopped : (enclosed : Reader (Unit {0})) (k : ℕ) (names : List Text) (s : Text) (e : Text × Expected)
    → 0 < k → (first s == 41) ≡ false → argument enclosed (not (length names == 0)) s ≡ Err e → rest_of_list enclosed k names s ≡ Err e
unfolding turns argument_turn
stopped enclosed k names s e room b a =
    let k1 : k ≡ suc (k - 1) = omega arith in
    ap (λ n. rest_of_list enclosed n names s) k1 ∙ rw (b, a)

pub repeated_name : (enclosed : Reader (Unit {0})) (k : ℕ) (names : List Text) (s n r : Text)
    → 0 < k → (first s == 41) ≡ false → argument enclosed (not (length names == 0)) s ≡ Ok (Some n, r) → is_member bytes_eq names n ≡ true
    → rest_of_list enclosed k names s ≡ Err (s, expected.NewName)
unfolding turns argument_turn
repeated_name enclosed k names s n r room b a m =
    let k1 : k ≡ suc (k - 1) = omega arith in
    ap (λ n. rest_of_list enclosed n names s) k1 ∙ rw (b, a, m)

pub last : (enclosed : Reader (Unit {0})) (k : ℕ) (names all : List Text) (s r : Text) (m : Option Text)
    → 0 < k → (first s == 41) ≡ false → argument enclosed (not (length names == 0)) s ≡ Ok (m, r) → with_name names s m r ≡ Ok (all, r)
    → (first (past blank r) == 44) ≡ false → rest_of_list enclosed k names s ≡ Ok (tt, past blank r)
unfolding turns argument_turn
last enclosed k names all s r m room b a w c =
    let k1 : k ≡ suc (k - 1) = omega arith in
    ap (λ n. rest_of_list enclosed n names s) k1 ∙ rw (b, a, w, c)

pub next : (enclosed : Reader (Unit {0})) (k j : ℕ) (names all : List Text) (s r : Text) (m : Option Text)
    → k ≡ suc j → (first s == 41) ≡ false → argument enclosed (not (length names == 0)) s ≡ Ok (m, r) → with_name names s m r ≡ Ok (all, r)
    → (first (past blank r) == 44) ≡ true → rest_of_list enclosed k names s ≡ rest_of_list enclosed j all (past blank (drop 1 (past blank r)))
unfolding turns argument_turn
next enclosed k j names all s r m k1 b a w c = ap (λ n. rest_of_list enclosed n names s) k1 ∙ rw (b, a, w, c)

-- what the loop keeps: some names are in the set, and the turns that are left give what the whole list does
pub record Keeps (enclosed : Reader (Unit {0})) (whole : Text) (set : BTreeSet (Bor (List ℕ))) (named : Bool) (k : ℕ) (s : Text) : Type 0 where
  pub names : List Text
  pub members : Holds set names
  pub some : named ≡ not (length names == 0)
  pub gives : argument_list enclosed whole ≡ rest_of_list enclosed k names s

-- the names after an argument, in the set as in the list
pub record Joined (names : List Text) (start : Text) (m : Option Text) (r : Text) (set : BTreeSet (Bor (List ℕ))) (named : Bool) : Type 0 where
  pub all : List Text
  pub members : Holds set all
  pub some : named ≡ not (length all == 0)
  pub read : with_name names start m r ≡ Ok (all, r)

pub nameless : (names : List Text) (start r : Text) (m : Option Text) (set : BTreeSet (Bor (List ℕ))) (named : Bool)
    → m ≡ None → Holds set names → named ≡ not (length names == 0) → Joined names start m r set named
nameless names start r m set named e h s = record { all = names; members = h; some = s; read = ap (λ x. with_name names start x r) e }

pub joined : (names : List Text) (start r : Text) (m : Option Text) (before after : BTreeSet (Bor (List ℕ))) (key : Bor (List ℕ))
    → m ≡ Some key.now → Holds before names → is_member bytes_eq names key.now ≡ false → UpdatesBy text_cmp (text_cmp key) before after true
    → Joined names start m r after true
joined names start r m before after key e h new u = record {
  all = key.now ∷ names;
  members = members-more before after key names h u;
  some = grind arith;
  read = ap (λ x. with_name names start x r) e ∙ rw new;
}

pub ruleset list_turns = (done, bracket, stopped, repeated_name, last)
