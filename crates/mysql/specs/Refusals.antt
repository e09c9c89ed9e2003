-- The table of refusals: each has a number, and from the number follow the layer that refused and whether a column
-- can be named. And the kind of failure that each error number of a host stands for.
use Rattle.std.specs.Prelude.{ℕ, Bool, cond, ◌||◌, [], ◌∷◌, ◌==◌}
use Rattle.mysql.specs.declared.fault.Refusal.{Refusal}
use Rattle.mysql.specs.declared.fault.Refusal.TheVariants.{Unopened, AlreadyOpened, ArenaLength, NoSuchColumn, NoCurrentRow, UnknownFlags, LayoutTooLong, HostFailed, NumericOverflow, NoRoom, NoType, UnexpectedNull, WrongType, TooShort, InvalidSign, NegativeTime, OutOfRange, NotUtf8, ManyDots, InvalidInteger, BrokenTape}
use Rattle.mysql.specs.declared.fault.Layer.{Layer}
use Rattle.mysql.specs.declared.fault.Layer.TheVariants.{Host, Session, Reading}
use Rattle.mysql.specs.declared.result.DatabaseErrorKind.{DatabaseErrorKind}
use Rattle.mysql.specs.declared.result.DatabaseErrorKind.TheVariants.{UniqueViolation, ForeignKeyViolation, UnableToSendCommand, SerializationFailure, ReadOnlyTransaction, NotNullViolation, CheckViolation, ClosedConnection, Unknown, RestrictViolation, ExclusionViolation}
use Rattle.mysql.specs.Ranges.{between, among}

abbrev pub number_of : Refusal → ℕ
number_of Unopened = 1
number_of AlreadyOpened = 2
number_of ArenaLength = 3
number_of NoSuchColumn = 4
number_of NoCurrentRow = 5
number_of UnknownFlags = 7
number_of LayoutTooLong = 8
number_of HostFailed = 9
number_of NumericOverflow = 10
number_of NoRoom = 11
number_of NoType = 12
number_of UnexpectedNull = 13
number_of WrongType = 14
number_of TooShort = 15
number_of InvalidSign = 16
number_of NegativeTime = 17
number_of OutOfRange = 18
number_of NotUtf8 = 19
number_of ManyDots = 20
number_of InvalidInteger = 21
number_of BrokenTape = 23

abbrev pub layer_number : Layer → ℕ
layer_number Host = 1
layer_number Session = 2
layer_number Reading = 3

-- 9 and 23 come from the host, 13 to 21 from a reading, the others from the session
abbrev pub layer_of : Refusal → Layer
layer_of r = cond (among (9 ∷ 23 ∷ []) (number_of r)) Host (cond (between 13 21 (number_of r)) Reading Session)

-- 7, 10 and 12 to 21 can name a column
abbrev pub names_column : Refusal → Bool
names_column r = among (7 ∷ 10 ∷ []) (number_of r) || between 12 21 (number_of r)

-- the numbers of the kinds of failure, which are the original's
abbrev pub kind_number : DatabaseErrorKind → ℕ
kind_number UniqueViolation = 0
kind_number ForeignKeyViolation = 1
kind_number UnableToSendCommand = 2
kind_number SerializationFailure = 3
kind_number ReadOnlyTransaction = 4
kind_number NotNullViolation = 5
kind_number CheckViolation = 6
kind_number ClosedConnection = 7
kind_number Unknown = 8
kind_number RestrictViolation = 9
kind_number ExclusionViolation = 10

-- the kind of failure, by MySQL's error number
abbrev pub kind_of : ℕ → DatabaseErrorKind
kind_of n =
    cond (among (1062 ∷ 1586 ∷ 1859 ∷ []) n) UniqueViolation
    (cond (among (1216 ∷ 1217 ∷ 1451 ∷ 1452 ∷ 1830 ∷ 1834 ∷ []) n) ForeignKeyViolation
    (cond (n == 1792) ReadOnlyTransaction
    (cond (among (1048 ∷ 1364 ∷ []) n) NotNullViolation
    (cond (n == 3819) CheckViolation
    (cond (n == 1213) SerializationFailure Unknown)))))
