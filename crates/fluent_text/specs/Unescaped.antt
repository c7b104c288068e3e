-- What the parts of a quoted text mean.
use Rattle.std.specs.Prelude.{◌≡◌, encode_utf8, Result, Ok, Err}
use Rattle.std.specs.declared.alloc.AllocError.{AllocError}
use Rattle.std.specs.declared.alloc.Global.{Global}
use Rattle.std.specs.declared.borrow.CowStr.{CowStr}
use Rattle.std.specs.declared.borrow.CowStr.TheVariants.{Borrowed, Owned}
use Rattle.fluent_text.specs.Parser.{Text}
use Rattle.fluent_text.specs.declared.unicode.Unescaped.{Unescaped}
use Rattle.fluent_text.specs.declared.unicode.Unescaped.TheVariants.{Plain, Character}

abbrev pub bytes_of : Unescaped → Text
bytes_of (Plain t) = t.now
bytes_of (Character c) = encode_utf8 c

-- the answer is this text, borrowed and not made
abbrev pub Borrows : Result (CowStr Global) AllocError → Text → Type 0
Borrows (Ok (Borrowed t)) s = t.now ≡ s
Borrows (Ok (Owned t)) s = ⊥
Borrows (Err e) s = ⊥
