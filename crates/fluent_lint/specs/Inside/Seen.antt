-- What is noted of definitions while entries are gone over.
use Rattle.std.specs.Prelude.{◌≡◌, List, [], ◌++◌, map, Option, bytes_eq}
use Rattle.std.specs.Borrow.{Bor}
use Rattle.std.specs.Map.{lookup}
use Rattle.fluent_ast.specs.Tree.{Text}
use Rattle.fluent_lint.specs.Twice.{Defined, again_after, again_view, first_defined}
use Rattle.fluent_lint.specs.declared.sources.Definition.{Definition}
use Rattle.fluent_lint.specs.declared.sources.Seen.{Seen}

-- the entries of the table
abbrev pub Firsts : Type 0
Firsts = List (Bor Text × Definition)

-- it has the first of each id among these definitions
abbrev pub AreFirsts : Firsts → List Defined → Type 0
AreFirsts firsts ds = (q : Bor Text) → lookup (λ k. bytes_eq q.now k.now) firsts ≡ first_defined q.now ds

-- where an id is defined first, by the table
abbrev pub noted_first : Text → Seen → Option Definition
noted_first id seen = lookup (λ k. bytes_eq id k.now) seen.firsts.entries

-- These definitions are gone over, whatever stands before them: the first of each id is noted, and what is defined again is added.
abbrev pub GoesOver : List Defined → Seen → Seen → Type 0
GoesOver ds old new = (before : List Defined) → AreFirsts old.firsts.entries before →
    AreFirsts new.firsts.entries (before ++ ds) × (map again_view new.list.items ≡ map again_view old.list.items ++ again_after before ds)

-- of these definitions and none before them, the first ones are noted, and what is defined again
abbrev pub IsSeen : List Defined → Seen → Type 0
IsSeen ds s = AreFirsts s.firsts.entries ds × (map again_view s.list.items ≡ again_after [] ds)
