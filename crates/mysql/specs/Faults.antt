-- What a fault says beside its refusal: a column, and what the host failed with.
use Rattle.std.specs.Prelude.{ℕ, cond, Some, None, Option, ◌==◌}
use Rattle.mysql.specs.declared.fault.Refusal.{Refusal}
use Rattle.mysql.specs.declared.fault.Refusal.TheVariants.{HostFailed}
use Rattle.mysql.specs.declared.fault.Fault.{Fault}
use Rattle.mysql.specs.declared.fault.HostError.{HostError}
use Rattle.mysql.specs.Refusals.{number_of, names_column, kind_of}

-- a refusal of which nothing more is known
abbrev pub refused : Refusal → Fault
refused r = record { refusal = r; column = 255; host = 0 }

-- the host failed with an error number
abbrev pub host_failed : ℕ → Fault
host_failed n = record { refusal = HostFailed; column = 255; host = n }

-- the column put in, where the refusal can name one
abbrev pub at_column : Fault → ℕ → Fault
at_column f k = cond (names_column f.refusal) (record { refusal = f.refusal; column = k; host = f.host }) f

-- the column that a fault names, and 255 where it names none
abbrev pub column_of : Fault → ℕ
column_of f = cond (names_column f.refusal) f.column 255

-- what the host failed with: refusal 9 has it, and no other
abbrev pub host_error_of : Fault → Option HostError
host_error_of f = cond (number_of f.refusal == 9) (Some (record { number = f.host; kind = kind_of f.host })) None
