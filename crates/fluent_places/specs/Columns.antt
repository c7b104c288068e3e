-- Lines and columns of a text.
use Rattle.std.specs.Prelude.{ℕ, ◌+◌, ◌==◌, nat_lt, nat_le, Bool, true, false, ◌||◌, List, [], ◌∷◌, if◌then◌else◌}

-- U+000A
abbrev pub is_feed : ℕ → Bool
is_feed b = b == 10

-- whether a byte begins a character, as all but the continuation bytes of UTF-8 do
abbrev pub begins : ℕ → Bool
begins b = nat_lt b 128 || nat_le 192 b

abbrev pub one_if : Bool → ℕ
one_if true = 1
one_if false = 0

abbrev pub feeds : List ℕ → ℕ
feeds [] = 0
feeds (b ∷ bs) = one_if (is_feed b) + feeds bs

abbrev pub characters : List ℕ → ℕ
characters [] = 0
characters (b ∷ bs) = one_if (begins b) + characters bs

abbrev pub has_feed : List ℕ → Bool
has_feed [] = false
has_feed (b ∷ bs) = is_feed b || has_feed bs

-- what stands after the last line feed, or all where there is none
abbrev pub after_last : List ℕ → List ℕ
after_last [] = []
after_last (b ∷ bs) = if has_feed bs then after_last bs else (if is_feed b then bs else b ∷ bs)

-- the line and the column of what follows these bytes
abbrev pub line_after : List ℕ → ℕ
line_after bs = 1 + feeds bs

abbrev pub column_after : List ℕ → ℕ
column_after bs = 1 + characters (after_last bs)
