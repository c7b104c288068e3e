-- Worked rows of the look-up. Those of a single range are the examples of RFC 4647, section 3.4, and its rules.
use Prim.Native.String.{String}
use Rattle.std.specs.Prelude.{◌≡◌, ℕ, List, [], ◌∷◌, map, Option, Some, None, codes}
use Rattle.fluent_langneg.specs.Lookup.{tried, lookup, negotiated}

-- for this range these are tried, one after the other
abbrev pub Tries : String → List String → Type 0
Tries range tags = tried (codes range) ≡ map codes tags

-- this range is served by the language at this index
abbrev pub Serves : List String → String → Option ℕ → Type 0
Serves available range index = lookup (map codes available) (codes range) ≡ index

-- these ranges and this default are served by the languages at these indices
abbrev pub Orders : List String → List String → String → List ℕ → Type 0
Orders available requested default indices = negotiated (map codes requested) (map codes available) (codes default) ≡ indices

pub record Trials : Type 0 where
  pub rfc : Tries "zh-Hant-CN-x-private1-private2" ("zh-Hant-CN-x-private1-private2" ∷ "zh-Hant-CN-x-private1" ∷ "zh-Hant-CN" ∷ "zh-Hant" ∷ "zh" ∷ [])
  pub one_subtag : Tries "en" ("en" ∷ [])
  -- a single letter or digit goes with the subtag after it, and so do two of them
  pub digit : Tries "en-1-abc" ("en-1-abc" ∷ "en" ∷ [])
  pub two_singles : Tries "en-a-b-abc" ("en-a-b-abc" ∷ "en" ∷ [])
  pub private : Tries "x-private" ("x-private" ∷ [])
  -- a range is tried as it stands
  pub ends_in_single : Tries "en-x" ("en-x" ∷ "en" ∷ [])
  pub any : Tries "*" ("*" ∷ [])
  pub any_inside : Tries "de-*-CH" ("de-*-CH" ∷ "de" ∷ [])
  pub underscore : Tries "pt_BR" ("pt_BR" ∷ "pt" ∷ [])
  pub empty : Tries "" ("" ∷ [])

-- languages of the examples
abbrev pub german : List String
german = "de-CH-1996" ∷ "DE" ∷ "en" ∷ []

abbrev pub chinese : List String
chinese = "zh" ∷ "zh-Hant" ∷ "zh-Hans-CN" ∷ "zh-hant-cn" ∷ []

pub record Answers : Type 0 where
  pub rfc : Serves chinese "zh-Hant-CN-x-private1-private2" (Some 3)
  pub shorter : Serves chinese "zh-Hant-TW" (Some 1)
  pub shortest : Serves chinese "zh-Hans" (Some 0)
  -- a range is never served by a longer tag
  pub longer : Serves german "de-ch" (Some 1)
  pub own : Serves german "de-ch-1996" (Some 0)
  pub own_longer : Serves german "de-CH-1996-x-a" (Some 0)
  -- nor by one that only begins like it
  pub no_subtag : Serves german "des" None
  pub underscore : Serves ("pt_BR" ∷ []) "pt-br" (Some 0)
  pub first_of_two : Serves ("en" ∷ "en" ∷ []) "en-GB" (Some 0)
  pub any : Serves german "*" None
  pub nothing : Serves [] "en" None
  pub empty : Serves german "" None

pub record Lists : Type 0 where
  -- the RFC's list: all of a range is tried before the next
  pub rfc : Orders ("en" ∷ "zh" ∷ "fr" ∷ []) ("fr-FR" ∷ "zh-Hant" ∷ []) "en" (2 ∷ 1 ∷ 0 ∷ [])
  pub exhausted_first : Orders ("en" ∷ "zh-Hant" ∷ "fr" ∷ []) ("fr-FR" ∷ "zh-Hant" ∷ []) "en" (2 ∷ 1 ∷ 0 ∷ [])
  pub skipped : Orders ("en" ∷ "pl" ∷ []) ("uk" ∷ "pl" ∷ []) "en" (1 ∷ 0 ∷ [])
  -- each once, where it comes first
  pub once : Orders ("en" ∷ "pl" ∷ []) ("en-GB" ∷ "pl" ∷ "en-US" ∷ []) "en" (0 ∷ 1 ∷ [])
  pub default_wanted : Orders ("pl" ∷ "en" ∷ []) ("en" ∷ "pl" ∷ []) "en" (1 ∷ 0 ∷ [])
  pub default_alone : Orders ("pl" ∷ "en" ∷ []) [] "en-US" (1 ∷ [])
  -- `*` leaves it to what follows, or to the default
  pub any : Orders ("pl" ∷ "en" ∷ []) ("*" ∷ []) "en" (1 ∷ [])
  pub any_before : Orders ("pl" ∷ "en" ∷ []) ("*" ∷ "pl" ∷ []) "en" (0 ∷ 1 ∷ [])
  pub no_default : Orders ("pl" ∷ []) ("uk" ∷ []) "en" []
