-- What the reports of a row add to a count.
use Rattle.std.specs.Prelude.{ℕ, ◌+◌, cond, List, sum_by}
use Rattle.host.specs.declared.records.Report.{Report}
use Rattle.tally.specs.declared.totals.Totals.{Totals}
use Rattle.tally.specs.Tallies.{capped}

abbrev pub nulls_of : Report → ℕ
nulls_of r = cond r.is_null 1 0

abbrev pub bytes_of : Report → ℕ
bytes_of r = cond r.is_null 0 r.length

abbrev pub null_reports : List Report → ℕ
null_reports rs = sum_by nulls_of rs

abbrev pub byte_reports : List Report → ℕ
byte_reports rs = sum_by bytes_of rs

-- a null more, or as many bytes more as the field has
abbrev pub with_report : Totals → Report → Totals
with_report t r = cond r.is_null (record t { nulls = capped (t.nulls + 1) }) (record t { bytes = capped (t.bytes + r.length) })

abbrev pub with_row : List Report → Totals → Totals
with_row rs t = record {
  rows = capped (t.rows + 1);
  failures = t.failures;
  nulls = capped (t.nulls + null_reports rs);
  bytes = capped (t.bytes + byte_reports rs);
}
