-- The rows of URIs.
use Rattle.std.proofs.Common.{refl}
use Rattle.percent_encoding.proofs.OnLiterals.{percent_encoding_on_literals}
use Rattle.fluent_cli_report.specs.UriRows.{Uris}

pub uris : Uris
unfolding percent_encoding_on_literals
uris = record {
  stay = refl;
  folder = refl;
  space = refl;
  percent = refl;
  scheme = refl;
  query = refl;
  marks = refl;
  feed = refl;
  letter = refl;
}
