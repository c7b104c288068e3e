-- What a run does, as one list of events in the order in which they happen.
use Rattle.std.specs.Prelude.{◌≡◌, ℕ, zero, suc, ◌+◌, max, List, [], ◌∷◌, ◌++◌}
use Rattle.fluent_ast.specs.Tree.{Text}
use Rattle.fluent_semantics.specs.Errors.{Error}
use Rattle.fluent_semantics.specs.Meaning.{Budget, left, limit_reached}

-- A byte is written, an error is told, a placeable is opened, one more than the limit is tried, a pattern is entered under a path of this length.
pub data Event : Type 0 where
  wrote : ℕ → Event
  told : Error → Event
  opened reached_limit : Event
  entered : ℕ → Event

abbrev pub writes : Text → List Event
writes [] = []
writes (c ∷ t) = wrote c ∷ writes t

abbrev pub tells : List Error → List Event
tells [] = []
tells (e ∷ es) = told e ∷ tells es

-- ---- what events come to

abbrev pub text_in : List Event → Text
text_in [] = []
text_in (wrote c ∷ es) = c ∷ text_in es
text_in (told e ∷ es) = text_in es
text_in (opened ∷ es) = text_in es
text_in (reached_limit ∷ es) = text_in es
text_in (entered n ∷ es) = text_in es

abbrev pub errors_in : List Event → List Error
errors_in [] = []
errors_in (wrote c ∷ es) = errors_in es
errors_in (told e ∷ es) = e ∷ errors_in es
errors_in (opened ∷ es) = errors_in es
errors_in (reached_limit ∷ es) = errors_in es
errors_in (entered n ∷ es) = errors_in es

-- the budget with one placeable less
abbrev pub less_one : Budget → Budget
less_one (left zero) = limit_reached
less_one (left (suc n)) = left n
less_one limit_reached = limit_reached

-- what is left of a budget after events
abbrev pub spent : List Event → Budget → Budget
spent [] b = b
spent (wrote c ∷ es) b = spent es b
spent (told e ∷ es) b = spent es b
spent (opened ∷ es) b = spent es (less_one b)
spent (reached_limit ∷ es) b = spent es limit_reached
spent (entered n ∷ es) b = spent es b

abbrev pub opened_in : List Event → ℕ
opened_in [] = 0
opened_in (wrote c ∷ es) = opened_in es
opened_in (told e ∷ es) = opened_in es
opened_in (opened ∷ es) = opened_in es + 1
opened_in (reached_limit ∷ es) = opened_in es
opened_in (entered n ∷ es) = opened_in es

-- the longest path
abbrev pub longest_in : List Event → ℕ
longest_in [] = 0
longest_in (wrote c ∷ es) = longest_in es
longest_in (told e ∷ es) = longest_in es
longest_in (opened ∷ es) = longest_in es
longest_in (reached_limit ∷ es) = longest_in es
longest_in (entered n ∷ es) = max n (longest_in es)

abbrev pub entered_in : List Event → ℕ
entered_in [] = 0
entered_in (wrote c ∷ es) = entered_in es
entered_in (told e ∷ es) = entered_in es
entered_in (opened ∷ es) = entered_in es
entered_in (reached_limit ∷ es) = entered_in es
entered_in (entered n ∷ es) = entered_in es + 1

-- those that write nothing
abbrev pub silent : List Event → List Event
silent [] = []
silent (wrote c ∷ es) = silent es
silent (told e ∷ es) = told e ∷ silent es
silent (opened ∷ es) = opened ∷ silent es
silent (reached_limit ∷ es) = reached_limit ∷ silent es
silent (entered n ∷ es) = entered n ∷ silent es

-- the first of these events happened, perhaps none or all of them
pub record IsPrefix (done all : List Event) : Type 0 where
  pub rest : List Event
  pub whole : done ++ rest ≡ all
