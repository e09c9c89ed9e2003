-- What is answered to each question, over an arena of some length: in words, each with a space before it.
use Rattle.std.specs.Prelude.{◌≡◌, ℕ, ◌^◌, cond, List, Some, None, Option, Ok, Err, Result}
use Rattle.std.specs.Borrow.{Bor}
use Rattle.std.specs.Fmt.{signed_decimal}
use Rattle.mysql.specs.declared.backend.MysqlType.{MysqlType}
use Rattle.mysql.specs.declared.fault.Fault.{Fault}
use Rattle.mysql.specs.declared.fault.Refusal.TheVariants.{UnexpectedNull}
use Rattle.mysql.specs.Faults.{refused}
use Rattle.mysql.specs.Refusals.{kind_of}
use Rattle.mysql.specs.Types.{type_of, size_of}
use Rattle.mysql.specs.Taken.{flags_of}
use Rattle.mysql.specs.Kept.{keeps}
use Rattle.readings.specs.Integers.{integer}
use Rattle.readings.specs.Times.{time}
use Rattle.tape_host.specs.declared.tapes.Tape.{Tape}
use Rattle.tape_host.specs.Tapes.{Opened}
use Rattle.tape_host.specs.Tapes as tape
use Rattle.tray.specs.declared.tray.Tray.{Tray}
use Rattle.tray.specs.Trays.{Fresh}
use Rattle.tray.specs.Trays as tray
use Rattle.recorded.specs.declared.question.Question.{Question}
use Rattle.recorded.specs.declared.question.Question.TheVariants as question
use Rattle.walk.specs.Walks.{walk_said}
use Rattle.answers.specs.Texts.{number, refusal}
use Rattle.answers.specs.Singles.{asks, type_word, size_word, flags_word, kind_number, integer_word, time_words, keeps_word}
use Rattle.answers.specs.Events.{said_words}
use Rattle.answers.specs.Trays.{tray_words}

-- a value that may be null, read
abbrev pub read : {X : Type 0} → (MysqlType → List ℕ → Result X Fault) → MysqlType → Option (Bor (List ℕ)) → Result X Fault
read reads t None = Err (refused UnexpectedNull)
read reads t (Some bytes) = reads t bytes.now

-- what is said of a tape's events, or that the bytes are none
abbrev pub tape_words : Result Tape Fault → List (Option MysqlType) → (arena : ℕ) → List ℕ
tape_words (Ok t) wanted arena = said_words (walk_said (tape.means t) wanted arena)
tape_words (Err f) wanted arena = refusal f

abbrev pub TapeAnswered : (arena : ℕ) → List (Option MysqlType) → (bytes text : List ℕ) → Type 0
TapeAnswered arena wanted bytes text = (taken : Result Tape Fault) × Opened bytes taken × (text ≡ tape_words taken wanted arena)

abbrev pub TrayAnswered : (arena rows : ℕ) → List (Option MysqlType) → (text : List ℕ) → Type 0
TrayAnswered arena rows wanted text = (t : Tray) × Fresh rows (tray.means t) × (text ≡ tray_words (walk_said (tray.means t) wanted arena))

abbrev pub Answered : (arena : ℕ) → Question → List ℕ → Type 0
Answered arena (question.Asks t) text = text ≡ asks t
Answered arena (question.Type code flags) text = text ≡ type_word (type_of code flags)
Answered arena (question.Size code) text = text ≡ size_word (size_of code)
Answered arena (question.Kept t code) text = text ≡ number (cond (keeps t code) 1 0)
Answered arena (question.Keeps t) text = text ≡ keeps_word t
Answered arena (question.Flags flags) text = text ≡ flags_word flags (flags_of flags)
Answered arena (question.Kind n) text = text ≡ number (kind_number (kind_of n))
Answered arena (question.Int t bytes) text = text ≡ integer_word signed_decimal (read (integer (2 ^ 31)) t bytes)
Answered arena (question.Big t bytes) text = text ≡ integer_word signed_decimal (read (integer (2 ^ 63)) t bytes)
Answered arena (question.Time t bytes) text = text ≡ time_words (read time t bytes)
Answered arena (question.Tape wanted bytes) text = TapeAnswered arena wanted.now bytes.now text
Answered arena (question.Tray rows wanted) text = TrayAnswered arena rows wanted.now text
