-- Worked rows: which bytes stay in a URI, and names of files.
use Rattle.std.specs.Prelude.{◌≡◌, [], ◌∷◌, filter, not, codes}
use Rattle.std.specs.List.{range_with_len}
use Rattle.percent_encoding.specs.AsciiSet.{should_percent_encode}
use Rattle.fluent_cli_report.specs.Uri.{uri_text}
use Rattle.fluent_cli_report.specs.declared.sarif.TheConstants.{ESCAPED}

pub record Uris : Type 0 where
  -- all that stay
  pub stay : filter (λ b. not (should_percent_encode ESCAPED b)) (range_with_len 0 256)
      ≡ codes "-./0123456789ABCDEFGHIJKLMNOPQRSTUVWXYZ_abcdefghijklmnopqrstuvwxyz~"
  pub folder : uri_text (codes "../pl/main-1.ftl") ≡ codes "../pl/main-1.ftl"
  pub space : uri_text (codes "my file.ftl") ≡ codes "my%20file.ftl"
  pub percent : uri_text (codes "50%.ftl") ≡ codes "50%25.ftl"
  pub scheme : uri_text (codes "a:b") ≡ codes "a%3Ab"
  pub query : uri_text (codes "a?b#c") ≡ codes "a%3Fb%23c"
  pub marks : uri_text (codes "\"<>\\^`{|}") ≡ codes "%22%3C%3E%5C%5E%60%7B%7C%7D"
  pub feed : uri_text (10 ∷ 127 ∷ []) ≡ codes "%0A%7F"
  -- the bytes of 'ł'
  pub letter : uri_text (197 ∷ 130 ∷ []) ≡ codes "%C5%82"
