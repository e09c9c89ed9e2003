-- The answers to questions of a recorded result: what is said of it, each in a word.
use Rattle.std.specs.Prelude.{ℕ, ◌==◌, cond, List, [], ◌∷◌, ◌++◌, Some, None, Option, Ok, Err, codes}
use Rattle.std.specs.Fmt.{decimal}
use Rattle.mysql.specs.declared.fault.Fault.{Fault}
use Rattle.mysql.specs.declared.fault.HostError.{HostError}
use Rattle.mysql.specs.Refusals.{number_of}
use Rattle.mysql.specs.Faults.{column_of, host_error_of}
use Rattle.mysql.specs.Kept.{row_of}
use Rattle.walk.specs.Walks.{Said, unopened, a_row, a_column, refused, the_end}
use Rattle.answers.specs.Texts.{number, refusal, hexadecimal}
use Rattle.answers.specs.Singles.{kind_number}

-- what a host failed with: its number and the number of its kind
abbrev pub failure_part : HostError → List ℕ
failure_part e = codes ":" ++ (decimal e.number ++ (codes ":" ++ decimal (kind_number e.kind)))

abbrev pub failure_parts : Option HostError → List ℕ
failure_parts None = []
failure_parts (Some e) = failure_part e

-- a fetch that was refused: a failure, a lost figure with its column, or any other refusal
abbrev pub refused_word : Fault → Option HostError → List ℕ
refused_word f (Some e) = codes " fail" ++ failure_part e
refused_word f None = cond (number_of f.refusal == 10) (codes " lost:" ++ decimal (column_of f)) (refusal f)

abbrev pub said_word : Said → List ℕ
said_word (unopened f) = codes " refused:" ++ (decimal (number_of f.refusal) ++ failure_parts (host_error_of f))
said_word a_row = codes " row"
said_word (a_column (Ok None)) = codes " null"
said_word (a_column (Ok (Some v))) = number (row_of v.tpe) ++ (codes ":" ++ hexadecimal v.bytes)
said_word (a_column (Err f)) = cond (number_of f.refusal == 12) (codes " ?") (refusal f)
said_word (refused f) = refused_word f (host_error_of f)
said_word the_end = codes " end"

abbrev pub said_words : List Said → List ℕ
said_words [] = []
said_words (x ∷ xs) = said_word x ++ said_words xs
