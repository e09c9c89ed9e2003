-- A row that is written whole.
use Rattle.std.specs.Prelude.{◌≡◌, ℕ, ◌<◌, Bool, List, length, get_or, slice_index_or}
use Rattle.host.specs.declared.records.BindRecord.{BindRecord}
use Rattle.host.specs.declared.records.Report.{Report}
use Rattle.host.specs.Fields.{Field, null}
use Rattle.host.specs.Calls.{no_bind, no_report, Reported, Stands, Untouched, any_truncates}
use Rattle.tape_host.specs.Tapes.{shown}

-- every field stands in its place and is reported, and no byte outside the places changes
pub record Wrote (fs : List Field) (places : List BindRecord) (reports' : List Report) (arena arena' : List ℕ) (truncated : Bool) : Type 0 where
  pub reported : (k : ℕ) → k < length places → Reported (slice_index_or fs k null) (get_or places k no_bind).capacity (slice_index_or reports' k no_report)
  pub stands : (k : ℕ) → k < length places → Stands (slice_index_or fs k null) (get_or places k no_bind).start (get_or places k no_bind).capacity arena'
  pub untouched : Untouched places arena arena'
  pub marked : any_truncates (shown fs) 0 places ≡ truncated
