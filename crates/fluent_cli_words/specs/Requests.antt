-- What is asked for, field by field, by what the words give.
use Rattle.std.specs.Prelude.{◌≡◌, List, ◌++◌, map, unwrap_or, codes}
use Rattle.std.specs.List.{before_first}
use Rattle.clap.specs.Walk.{Row, first_of}
use Rattle.fluent_cli_words.specs.Given.{argument_view, arguments_in, attribute_in, format_of, id_in, is_dot, is_given, text_of, texts, values_of}
use Rattle.fluent_cli_words.specs.declared.request.CheckRequest.{CheckRequest}
use Rattle.fluent_cli_words.specs.declared.request.ListRequest.{ListRequest}
use Rattle.fluent_cli_words.specs.declared.request.ShowRequest.{ShowRequest}

pub record IsCheck (rows : List Row) (check : CheckRequest) : Type 0 where
  pub language : text_of check.language ≡ first_of (codes "language") rows
  pub files : texts check.files.items ≡ values_of (codes "file") rows
  pub references : texts check.references.items ≡ values_of (codes "reference") rows
  pub beside : texts check.beside.items ≡ values_of (codes "with") rows
  pub translation : text_of check.translation ≡ first_of (codes "translation") rows
  pub format : check.format ≡ format_of rows
  pub is_quiet : check.is_quiet ≡ is_given (codes "quiet") rows
  pub is_strict : check.is_strict ≡ is_given (codes "strict") rows
  pub is_every : check.is_every ≡ is_given (codes "every") rows
  pub has_caret : check.has_caret ≡ is_given (codes "caret") rows
  pub has_color : check.has_color ≡ is_given (codes "color") rows
  pub is_each : check.is_each ≡ is_given (codes "each") rows
  pub has_all_categories : check.has_all_categories ≡ is_given (codes "all-categories") rows
  pub functions : texts check.functions.items ≡ values_of (codes "function") rows
  pub allowed : texts check.allowed.items ≡ values_of (codes "allow") rows

pub record IsShow (rows : List Row) (show : ShowRequest) : Type 0 where
  pub language : show.language.now ≡ unwrap_or (first_of (codes "language") rows) (codes "en")
  pub is_strict : show.is_strict ≡ is_given (codes "strict") rows
  pub files : texts show.files.items ≡ values_of (codes "file") rows ++ values_of (codes "fallback") rows
  pub beside : texts show.beside.items ≡ values_of (codes "with") rows
  pub functions : texts show.functions.items ≡ values_of (codes "function") rows
  pub id : show.id.now ≡ before_first is_dot (id_in rows)
  pub attribute : text_of show.attribute ≡ attribute_in (id_in rows)
  pub arguments : map argument_view show.arguments.items ≡ arguments_in rows

abbrev pub IsList : List Row → ListRequest → Type 0
IsList rows list = texts list.files.items ≡ values_of (codes "file") rows
