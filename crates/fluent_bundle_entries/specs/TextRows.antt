-- Which patterns are texts alone, and what their texts are, by rows.
use Rattle.std.specs.Prelude.{◌≡◌, true, false, Some, None, codes}
use Rattle.fluent_ast.specs.Tree.{Element, nothing, more, text, placeable, inline, string}
use Rattle.fluent_bundle_entries.specs.Texts.{is_text, texts_of, sole_text}

abbrev one : Element
one = text (codes "one ")

abbrev two : Element
two = text (codes "two")

-- its text is no text element
abbrev quoted : Element
quoted = placeable (inline (string (codes "quoted ")))

pub record Rows : Type 0 where
  pub nothing_is_text : is_text nothing ≡ true
  pub two_texts : is_text (more one (more two nothing)) ≡ true
  pub placeable_alone : is_text (more quoted nothing) ≡ false
  pub placeable_first : is_text (more quoted (more two nothing)) ≡ false
  pub placeable_last : is_text (more one (more quoted nothing)) ≡ false
  pub texts_in_order : texts_of (more one (more two nothing)) ≡ codes "one two"
  pub placeables_passed_over : texts_of (more one (more quoted (more two nothing))) ≡ codes "one two"
  pub sole : sole_text (more two nothing) ≡ Some (codes "two")
  pub not_two : sole_text (more one (more two nothing)) ≡ None
  pub not_a_placeable : sole_text (more quoted nothing) ≡ None
  pub not_nothing : sole_text nothing ≡ None
