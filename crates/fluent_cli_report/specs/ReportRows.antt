-- Worked rows: what is written of an error and of a warning, in each format.
use Rattle.std.specs.Prelude.{◌≡◌, true, false, List, [], ◌∷◌, ◌++◌, Some, None, codes}
use Rattle.serde_json.specs.Data.{array, no_items}
use Rattle.serde_json.specs.Written.{compact_text}
use Rattle.fluent_ast.specs.Tree.{Text}
use Rattle.fluent_cli_report.specs.Json.{json_report}
use Rattle.fluent_cli_report.specs.Report.{github_report, text_report}
use Rattle.fluent_cli_report.specs.Rows.{Row}
use Rattle.fluent_cli_report.specs.Unread.{Unread, unread_lines, unread_rows}
use Rattle.fluent_cli_report.specs.Written.{end_of, reason_of}
use Rattle.fluent_cli_report.specs.declared.options.Look.{Look}
use Rattle.fluent_cli_words.specs.declared.request.Format.TheVariants as format
use Rattle.fluent_cli_report.specs.Sarif.{sarif_log, sarif_results, sarif_row, sarif_rules}

abbrev pub wrong : Row
wrong = record {
  file = codes "a b.ftl";
  line = 3;
  column = 12;
  is_error = true;
  name = codes "missing-term";
  entry = codes "x";
  text = codes "no term '-y' (in 'x')";
  source = codes "x =\t{ \"o\" }{ -y }";
}

abbrev pub odd : Row
odd = record {
  file = codes "a,b:100%.ftl";
  line = 1;
  column = 1;
  is_error = false;
  name = codes "repeated-variant";
  entry = codes "x.label";
  text = codes "50% \"x\"";
  source = [];
}

abbrev pub maybe : Row
maybe = record {
  file = codes "c.ftl";
  line = 2;
  column = 1;
  is_error = false;
  name = codes "may-open-too-many";
  entry = codes "c";
  text = codes "t";
  source = codes "c = {a}";
}

abbrev pub plain : Look
plain = record { has_caret = false; has_color = false }

abbrev pub marked : Look
marked = record { has_caret = true; has_color = false }

abbrev pub colors : Look
colors = record { has_caret = true; has_color = true }

abbrev pub lost : Unread
lost = record { file = codes "d.ftl"; line = None; reason = codes "no" }

abbrev pub no_text : Unread
no_text = record { file = codes "e.ftl"; line = Some 7; reason = codes "not UTF-8 at byte 9" }

abbrev pub both : List Row
both = wrong ∷ odd ∷ []

abbrev pub line : Text → Text
line text = text ++ 10 ∷ []

pub record Reports : Type 0 where
  pub people : text_report plain false both
      ≡ line (codes "a b.ftl:3:12: error: no term '-y' (in 'x')") ++ line (codes "a,b:100%.ftl:1:1: warning: 50% \"x\"")
  pub people_little : text_report plain true (wrong ∷ odd ∷ maybe ∷ [])
      ≡ line (codes "a b.ftl:3:12: error: no term '-y' (in 'x')") ++ line (codes "c.ftl:2:1: warning: t")
  pub people_none : text_report plain false [] ≡ []
  -- a tab takes a place
  pub caret : text_report marked false both
      ≡ line (codes "a b.ftl:3:12: error: no term '-y' (in 'x')") ++ line (codes "    x = { \"o\" }{ -y }") ++ line (codes "               ^")
      ++ line (codes "a,b:100%.ftl:1:1: warning: 50% \"x\"")
  pub colored : text_report colors false (maybe ∷ [])
      ≡ codes "c.ftl:2:1: " ++ 27 ∷ codes "[1;33mwarning" ++ 27 ∷ line (codes "[0m: t") ++ line (codes "    c = {a}") ++ codes "    " ++ 27 ∷ codes "[1;33m^" ++ 27 ∷ line (codes "[0m")
  -- what ends a report
  pub counts : end_of format.Text false 1 2 [] ≡ line (codes "1 error, 2 warnings")
  pub counts_quiet : end_of format.Text true 1 2 [] ≡ []
  pub counts_json : end_of format.Json false 1 2 [] ≡ []
  pub reason_errors : reason_of true false true 1 1 ≡ []
  pub reason_strict : reason_of true true true 0 1 ≡ codes " (status 1: --strict)"
  pub reason_maybe : reason_of true false false 0 1 ≡ codes " (status 1: a text may open too many placeables)"
  pub reason_unread : reason_of false false true 1 1 ≡ codes " (status 3: a file can't be read)"
  -- files that can't be read
  pub unread : unread_lines (lost ∷ no_text ∷ []) ≡ line (codes "fluent: d.ftl: no") ++ line (codes "fluent: e.ftl:7: not UTF-8 at byte 9")
  pub unread_people : unread_rows format.Text (lost ∷ []) ≡ []
  pub unread_commands : github_report true (unread_rows format.Github (no_text ∷ []))
      ≡ line (codes "::error file=e.ftl,line=7,col=1,title=unreadable-file::not UTF-8 at byte 9")
  pub commands : github_report false (odd ∷ [])
      ≡ line (codes "::warning file=a%2Cb%3A100%25.ftl,line=1,col=1,title=repeated-variant::50%25 \"x\"")
  pub json_error : json_report false (wrong ∷ [])
      ≡ line (codes "[{\"column\":12,\"entry\":\"x\",\"file\":\"a b.ftl\",\"kind\":\"missing-term\",\"line\":3,\"severity\":\"error\",\"text\":\"no term '-y' (in 'x')\"}]")
  pub json_warning : json_report false (odd ∷ [])
      ≡ line (codes "[{\"column\":1,\"entry\":\"x.label\",\"file\":\"a,b:100%.ftl\",\"kind\":\"repeated-variant\",\"line\":1,\"severity\":\"warning\",\"text\":\"50% \\\"x\\\"\"}]")
  pub json_little : json_report true both ≡ json_report false (wrong ∷ [])
  pub json_none : json_report false [] ≡ line (codes "[]")

pub record Logs : Type 0 where
  pub result : compact_text (sarif_row wrong)
      ≡ codes "{\"level\":\"error\",\"locations\":[{\"physicalLocation\":{\"artifactLocation\":{\"uri\":\"a%20b.ftl\"},\"region\":{\"startColumn\":12,\"startLine\":3}}}],\"message\":{\"text\":\"no term '-y' (in 'x')\"},\"ruleId\":\"missing-term\"}"
  pub little : sarif_results true both ≡ sarif_results false (wrong ∷ [])
  pub rules : compact_text (sarif_rules (codes "cycle" ∷ codes "unreadable" ∷ [])) ≡ codes "[{\"id\":\"cycle\"},{\"id\":\"unreadable\"}]"
  pub log : compact_text (sarif_log (array no_items) (sarif_results false []))
      ≡ codes "{\"$schema\":\"https://json.schemastore.org/sarif-2.1.0.json\",\"runs\":[{\"columnKind\":\"unicodeCodePoints\",\"results\":[],\"tool\":{\"driver\":{\"name\":\"fluent\",\"rules\":[]}}}],\"version\":\"2.1.0\"}"
