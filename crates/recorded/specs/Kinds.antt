-- The kinds of questions, and the words that they go by.
use Rattle.std.specs.Prelude.{ℕ, List, codes}
use Rattle.recorded.specs.declared.question.Kind.{Kind}
use Rattle.recorded.specs.declared.question.Kind.TheVariants as kind
use Rattle.recorded.specs.declared.question.Question.{Question}
use Rattle.recorded.specs.declared.question.Question.TheVariants as question

abbrev pub word_of : Kind → List ℕ
word_of kind.Asks = codes "asks"
word_of kind.Type = codes "type"
word_of kind.Size = codes "size"
word_of kind.Kept = codes "kept"
word_of kind.Keeps = codes "keeps"
word_of kind.Flags = codes "flags"
word_of kind.Kind = codes "kind"
word_of kind.Int = codes "int"
word_of kind.Big = codes "big"
word_of kind.Time = codes "time"
word_of kind.Tape = codes "tape"
word_of kind.Tray = codes "tray"

-- of which kind a question is
abbrev pub kind_of : Question → Kind
kind_of (question.Asks t) = kind.Asks
kind_of (question.Type code flags) = kind.Type
kind_of (question.Size code) = kind.Size
kind_of (question.Kept t code) = kind.Kept
kind_of (question.Keeps t) = kind.Keeps
kind_of (question.Flags flags) = kind.Flags
kind_of (question.Kind n) = kind.Kind
kind_of (question.Int t bytes) = kind.Int
kind_of (question.Big t bytes) = kind.Big
kind_of (question.Time t bytes) = kind.Time
kind_of (question.Tape wanted bytes) = kind.Tape
kind_of (question.Tray rows wanted) = kind.Tray
