-- Records: values in bytes, each with a name. Arguments of a call are records whose names are variables, answers of a caller such
-- whose names are questions.
use Rattle.std.specs.Prelude.{◌≡◌, ◌≢◌, ℕ, List, [], ◌∷◌, length, take, drop, Option, Some, None, if◌then◌else◌, nat_lt}
use Rattle.std.specs.List.{All}
use Rattle.std.specs.Int.{w32, from_le_bytes}
use Rattle.std.specs.Str.{IsUtf8}
use Rattle.fluent_text.specs.Parser.{Parser, ◌>>=◌, pure}
use Rattle.fluent_answers.specs.Kinds.{kind_of}
use Rattle.fluent_answers.specs.declared.fault.Fault.{Fault}
use Rattle.fluent_answers.specs.declared.fault.Fault.TheVariants as fault
use Rattle.fluent_answers.specs.declared.kind.Kind.{Kind}

-- ---- one record: the kind of its value, and then its name and its value, each after its length, which is four bytes, the
-- lowest first

pub record Record : Type 0 where
  pub name : List ℕ
  pub kind : Kind
  pub value : List ℕ

abbrev pub kind_by : Option Kind → Parser Kind
kind_by None s = None
kind_by (Some k) s = Some (k, s)

abbrev pub kind : Parser Kind
kind [] = None
kind (c ∷ s) = kind_by (kind_of c) s

-- so many bytes
abbrev pub exactly : ℕ → Parser (List ℕ)
exactly n s = if nat_lt (length s) n then None else Some (take n s, drop n s)

-- bytes after their length
abbrev pub sized : Parser (List ℕ)
sized = exactly 4 >>= (λ size. exactly (from_le_bytes w32 size))

abbrev pub one_record : Parser Record
one_record = kind >>= (λ k. sized >>= (λ name. sized >>= (λ value.
    pure (record { name = name; kind = k; value = value }))))

-- ---- records one after the other

-- these stand before a rest
abbrev pub StandBefore : List Record → List ℕ → List ℕ → Type 0
StandBefore [] s rest = s ≡ rest
StandBefore (r ∷ all) s rest =
    (next : List ℕ) × (one_record s ≡ Some (r, next)) × StandBefore all next rest

-- the name and the value of an argument are texts
abbrev pub HasTexts : Record → Type 0
HasTexts r = IsUtf8 r.name × IsUtf8 r.value

-- the value of an answer is one; its name, a question, may be any bytes
abbrev pub HasTextValue : Record → Type 0
HasTextValue r = IsUtf8 r.value

module _ (HasText : Record → Type 0) where
  -- bytes are these records
  pub record AreWith (all : List Record) (bytes : List ℕ) : Type 0 where
    pub whole : StandBefore all bytes []
    pub texts : All HasText all

  -- After some records there is something, and no record at its start.
  pub record IsCutWith (bytes : List ℕ) : Type 0 where
    pub all : List Record
    pub rest : List ℕ
    pub before : StandBefore all bytes rest
    pub texts : All HasText all
    pub some : rest ≢ []
    pub none : one_record rest ≡ None

  -- After some records there is one with something that is no text.
  pub record HasNotTextWith (bytes : List ℕ) : Type 0 where
    pub all : List Record
    pub next : Record
    pub rest : List ℕ
    pub after : List ℕ
    pub before : StandBefore all bytes rest
    pub texts : All HasText all
    pub some : one_record rest ≡ Some (next, after)
    pub none : ¬ (HasText next)

  -- At the start there is a record with texts, which takes memory.
  pub record HasFirstWith (bytes : List ℕ) : Type 0 where
    pub first : Record
    pub after : List ℕ
    pub some : one_record bytes ≡ Some (first, after)
    pub texts : HasText first

  -- why bytes were not read as records
  abbrev pub NotReadWith : List ℕ → Fault → Type 0
  NotReadWith bytes fault.Cut = IsCutWith bytes
  NotReadWith bytes fault.NotText = HasNotTextWith bytes
  NotReadWith bytes fault.Memory = HasFirstWith bytes

-- ---- arguments, and answers

abbrev pub Are : List Record → List ℕ → Type 0
Are = AreWith HasTexts

abbrev pub NotRead : List ℕ → Fault → Type 0
NotRead = NotReadWith HasTexts

abbrev pub AreAnswers : List Record → List ℕ → Type 0
AreAnswers = AreWith HasTextValue

abbrev pub NotReadAsAnswers : List ℕ → Fault → Type 0
NotReadAsAnswers = NotReadWith HasTextValue
