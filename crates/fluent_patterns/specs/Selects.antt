-- What is wrong with the selects of a pattern, for who translates: plural categories, and variants that never come.
-- Selects and variants are numbered in the order of the tree: a select after those of its selector, then each variant
-- before those within its value.
use Rattle.std.specs.Prelude.{ℕ, ℤ, pos, ◌+◌, ◌/◌, ◌%◌, ◌^◌, Bool, false, not, ◌&&◌, ◌||◌, ◌==◌, int_lt, unsigned_abs, List, [], ◌∷◌, ◌++◌, map, filter, fold, Option, Some, None, nat_eq, codes, if◌then◌else◌}
use Rattle.std.specs.Bool.{beq}
use Rattle.std.specs.List.{list_all, list_any}
use Rattle.std.specs.Option.{option_eq}
use Rattle.std.specs.Str.{bytes_eq}
use Rattle.fluent_ast.specs.Tree.{Text, Key, name_key, number_key, Pattern, nothing, more, Element, text, placeable, Expression, inline, select, Variants, no_variants, variant, Inline, string, number, function, message, term, variable, nested, Call, no_call, call, Arguments, arguments, Inlines, no_inlines, argument, Nameds, no_nameds, named_argument}
use Rattle.fluent_semantics.specs.Number.{category_word, read_number}
use Rattle.fluent_patterns.specs.Categories.{Category, Categories, all_categories, comes}
use Rattle.fluent_patterns.specs.Found.{Flaw, the_select, the_variant, no_category, never_comes, repeated_variant}

-- ---- keys

-- what a key matches: a text, or a number by whether it is below 0, its whole part, its fraction in units of 10^-18, and
-- its count of digits after the point
pub data Sense : Type 0 where
  a_text : Text → Sense
  a_number : Bool → ℕ → ℕ → Option ℕ → Sense

abbrev pub same_sense : Sense → Sense → Bool
same_sense (a_text s) (a_text t) = bytes_eq s t
same_sense (a_number m w f p) (a_number n x g q) = beq m n && ((w == x) && ((f == g) && option_eq nat_eq p q))
same_sense _ _ = false

abbrev pub is_among : Sense → List Sense → Bool
is_among x senses = list_any (same_sense x) senses

abbrev pub number_sense : ℤ → Option ℕ → Sense
number_sense z places = a_number (int_lt z (pos 0)) (unsigned_abs z / 10 ^ 18) (unsigned_abs z % 10 ^ 18) places

abbrev pub read_sense : Text → Option (ℤ × Option ℕ) → Sense
read_sense t None = a_text t
read_sense t (Some r) = number_sense r.0 r.1

-- the number that a key is, else its text
abbrev pub sense_of : Key → Sense
sense_of (name_key t) = a_text t
sense_of (number_key t) = read_sense t (read_number t)

abbrev pub whole_number : ℕ → Sense
whole_number n = a_number false n 0 None

-- one more, unless it is there
abbrev pub with_sense : List Sense → Sense → List Sense
with_sense senses x = if is_among x senses then senses else senses ++ x ∷ []

-- those of keys, each once
abbrev pub senses_of : List Key → List Sense
senses_of keys = fold (λ senses k. with_sense senses (sense_of k)) [] keys

abbrev pub key_text : Key → Text
key_text (name_key t) = t
key_text (number_key t) = t

abbrev pub keys_of : Variants → List Key
keys_of no_variants = []
keys_of (variant k p d vs) = k ∷ keys_of vs

abbrev pub default_keys : Variants → List Key
default_keys no_variants = []
default_keys (variant k p d vs) = if d then k ∷ default_keys vs else default_keys vs

-- ---- selects on numbers

abbrev pub is_category_word : Text → Bool
is_category_word t = list_any (λ c. bytes_eq t (category_word c)) all_categories

-- a plural category
abbrev pub is_category : Key → Bool
is_category (name_key t) = is_category_word t
is_category (number_key t) = false

-- a plural category that is not `other`, which serves for all kinds of values
abbrev pub is_plural : Key → Bool
is_plural (name_key t) = is_category_word t && not (bytes_eq t (codes "other"))
is_plural (number_key t) = false

-- a name that is no plural category
abbrev pub is_other_name : Key → Bool
is_other_name (name_key t) = not (is_category_word t)
is_other_name (number_key t) = false

-- A select is on a number where it has plural keys and its selector is a call of NUMBER, or a variable and all names are
-- categories.
abbrev pub is_on_number : Inline → List Key → Bool
is_on_number (function f a) keys = bytes_eq f (codes "NUMBER") && list_any is_plural keys
is_on_number (variable v) keys = list_any is_plural keys && not (list_any is_other_name keys)
is_on_number _ keys = false

abbrev pub is_literal : Inline → Text → Bool
is_literal (string t) wanted = bytes_eq t wanted
is_literal _ wanted = false

abbrev pub has_literal : Text → Text → Nameds → Bool
has_literal name wanted no_nameds = false
has_literal name wanted (named_argument n x ns) = (bytes_eq n name && is_literal x wanted) || has_literal name wanted ns

-- it asks which one it is
abbrev pub is_ordinal : Inline → Bool
is_ordinal (function f (arguments xs ns)) = has_literal (codes "type") (codes "ordinal") ns
is_ordinal _ = false

-- the categories that a select is by, none where it isn't on a number
abbrev pub asked_by : Categories → Inline → List Key → List Category
asked_by c x keys = if is_on_number x keys then (if is_ordinal x then c.ordinal else c.cardinal) else []

-- ---- flaws

-- these whole numbers have variants of their own
abbrev pub have_variants : List Sense → List ℕ → Bool
have_variants senses ns = list_all (λ n. is_among (whole_number n) senses) ns

-- whole numbers have it, and all of those from 0 to 999 have variants of their own
abbrev pub is_counted_out : List Sense → Category → Bool
is_counted_out senses c = comes c && have_variants senses c.numbers

-- whole numbers from 0 to 999 have it, or, where all are wanted, any number
abbrev pub is_wanted : Bool → Category → Bool
is_wanted all c = if all then c.exists else comes c

-- It is wanted and nothing serves for it: no variant by its name or by numbers, and for `other`, unless all are wanted, no
-- default by a category.
abbrev pub is_lacked : Bool → List Sense → Bool → Category → Bool
is_lacked all senses otherwise c =
    is_wanted all c
    && not (is_among (a_text c.key) senses)
    && not (is_counted_out senses c)
    && not (not all && otherwise && bytes_eq c.key (codes "other"))

-- those that a select lacks
abbrev pub lacked : Bool → List Category → Variants → List Category
lacked all asked vs = filter (is_lacked all (senses_of (keys_of vs)) (list_any is_category (default_keys vs))) asked

-- a category that no number has
abbrev pub no_number_has : List Category → Text → Bool
no_number_has asked t = list_any (λ c. bytes_eq t c.key && not c.exists) asked

abbrev pub is_strange : List Category → Key → Bool
is_strange asked (name_key t) = no_number_has asked t
is_strange asked (number_key t) = false

abbrev pub select_flaws_at : ℕ → List Category → List Flaw
select_flaws_at n lacks = map (λ c. (the_select n, no_category c.key)) lacks

-- one flaw, where this holds
abbrev pub flaw_if : Bool → Flaw → List Flaw
flaw_if holds flaw = if holds then flaw ∷ [] else []

-- of a variant, by the senses of the keys before it; a default always comes
abbrev pub variant_flaws_at : ℕ → List Category → List Sense → Key → Bool → List Flaw
variant_flaws_at n asked before k is_default =
    flaw_if (is_strange asked k && not is_default) (the_variant n, never_comes (key_text k))
    ++ flaw_if (is_among (sense_of k) before) (the_variant n, repeated_variant (key_text k))

-- ---- in the order of the tree

-- how many selects and variants were passed, and the flaws of those
pub record Passed : Type 0 where
  pub selects : ℕ
  pub variants : ℕ
  pub flaws : List Flaw

abbrev pub none_passed : Passed
none_passed = record { selects = 0; variants = 0; flaws = [] }

abbrev pub after_select : List Category → Passed → Passed
after_select lacks s = record {
  selects = s.selects + 1;
  variants = s.variants;
  flaws = s.flaws ++ select_flaws_at s.selects lacks;
}

abbrev pub after_key : List Category → List Sense → Key → Bool → Passed → Passed
after_key asked before k is_default s = record {
  selects = s.selects;
  variants = s.variants + 1;
  flaws = s.flaws ++ variant_flaws_at s.variants asked before k is_default;
}

module _ (c : Categories) where
  abbrev mutual
    pub after_pattern : Pattern → Passed → Passed
    after_pattern nothing s = s
    after_pattern (more e p) s = after_pattern p (after_element e s)

    pub after_element : Element → Passed → Passed
    after_element (text t) s = s
    after_element (placeable e) s = after_expression e s

    pub after_expression : Expression → Passed → Passed
    after_expression (inline x) s = after_inline x s
    after_expression (select x vs) s =
        let asked = asked_by c x (keys_of vs) in
        after_variants asked [] vs (after_select (lacked c.all asked vs) (after_inline x s))

    pub after_variants : List Category → List Sense → Variants → Passed → Passed
    after_variants asked before no_variants s = s
    after_variants asked before (variant k p d vs) s =
        after_variants asked (with_sense before (sense_of k)) vs (after_pattern p (after_key asked before k d s))

    pub after_inline : Inline → Passed → Passed
    after_inline (string t) s = s
    after_inline (number t) s = s
    after_inline (function f a) s = after_arguments a s
    after_inline (message m a) s = s
    after_inline (term t a k) s = after_call k s
    after_inline (variable v) s = s
    after_inline (nested e) s = after_expression e s

    pub after_call : Call → Passed → Passed
    after_call no_call s = s
    after_call (call a) s = after_arguments a s

    pub after_arguments : Arguments → Passed → Passed
    after_arguments (arguments xs ns) s = after_named ns (after_positional xs s)

    pub after_positional : Inlines → Passed → Passed
    after_positional no_inlines s = s
    after_positional (argument x xs) s = after_positional xs (after_inline x s)

    pub after_named : Nameds → Passed → Passed
    after_named no_nameds s = s
    after_named (named_argument name x ns) s = after_named ns (after_inline x s)

-- the flaws of a pattern's selects
abbrev pub select_flaws : Categories → Pattern → List Flaw
select_flaws c p = (after_pattern c p none_passed).flaws
