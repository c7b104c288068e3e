-- The rows of records and attributes hold.
use Rattle.std.proofs.Common.{refl}
use Rattle.fluent_c_handles.specs.Rows.{RecordRows}

rows : RecordRows
rows = record { name = refl; more = refl; names = refl }
