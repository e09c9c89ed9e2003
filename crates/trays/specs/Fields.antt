-- The first column of a result, row by row.
use Rattle.std.specs.Prelude.{ℕ, List, [], ◌∷◌, Some, None, Ok, Err, Option, Result}
use Rattle.mysql.specs.declared.bind.Column.{Column}
use Rattle.mysql.specs.declared.fault.Fault.{Fault}
use Rattle.mysql.specs.Answers.{through, next}
use Rattle.mysql.specs.Faults.{host_failed}
use Rattle.host.specs.Meanings.{Event, row, failure}
use Rattle.rows.specs.Dues as dues
use Rattle.rows.specs.Dues.{TypedBytes}

-- bytes, or none where it is null
abbrev pub Field : Type 0
Field = Option (List ℕ)

abbrev pub bytes_shown : Option TypedBytes → Field
bytes_shown None = None
bytes_shown (Some v) = Some v.bytes

-- what must be read of a row that is shown, before the others
abbrev pub before_others : Result (Option TypedBytes) Fault → Result (List Field) Fault → Result (List Field) Fault
before_others shown others = next shown (λ v. through (λ fields. bytes_shown v ∷ fields) others)

-- what the first column of each row has, in order; or what the first event is refused with that is refused, or that is not read
abbrev pub fields_of : List Column → (arena : ℕ) → List Event → Result (List Field) Fault
fields_of pairs arena [] = Ok []
fields_of pairs arena (row r ∷ es) = next (dues.fetched pairs arena (row r ∷ [])) (λ fetched. before_others (dues.read pairs (Some r) 0) (fields_of pairs arena es))
fields_of pairs arena (failure n ∷ es) = Err (host_failed n)
