-- A request of the code, as what was asked.
use Rattle.std.specs.Prelude.{List, map, Option, String, string_bytes}
use Rattle.std.specs.Option.{option_map}
use Rattle.std.specs.Borrow.{Bor}
use Rattle.std.proofs.Common.{Global}
use Rattle.fluent_ast.specs.Tree.{Text}
use Rattle.fluent_show_words.specs.Words as w
use Rattle.fluent_show_words.specs.Words.{Asked, name_and_value}
use Rattle.fluent_show_words.specs.declared.options.Options.{Options}
use Rattle.fluent_show_words.specs.declared.request.Request.{Request}

abbrev pub text_view : Option (Bor Text) → Option Text
text_view text = option_map (λ t. t.now) text

-- words as texts
abbrev pub texts_of : List (String Global) → List Text
texts_of words = map string_bytes words

abbrev pub options_view : Options → w.Options
options_view o = record {
  isolate = o.isolate;
  cardinal = text_view o.cardinal;
  ordinal = text_view o.ordinal;
  fallback = text_view o.fallback;
}

abbrev pub asked_view : Request → Asked
asked_view r = record {
  options = options_view r.options;
  id = r.id.now;
  arguments = map name_and_value (texts_of r.arguments.now);
}

-- the one and the other, where it is there
abbrev pub options_seen : Option Options → Option w.Options
options_seen found = option_map options_view found

abbrev pub asked_seen : Option Request → Option Asked
asked_seen found = option_map asked_view found
