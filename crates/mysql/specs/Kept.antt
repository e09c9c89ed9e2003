-- Which pairs of a wanted type and a column's code are kept, by ranges of codes. Where a pair is kept, the column is bound
-- with its own code and flags, and the reading converts; where it is not, the column is bound as the wanted type asks.
use Rattle.std.specs.Prelude.{ℕ, ◌+◌, Bool, false, cond, ◌||◌, List, [], ◌∷◌, map, sum_by, ◌==◌, nat_lt}
use Rattle.std.specs.List.{range_with_len}
use Rattle.mysql.specs.declared.backend.MysqlType.{MysqlType}
use Rattle.mysql.specs.declared.backend.MysqlType.TheVariants.{Tiny, UnsignedTiny, Short, UnsignedShort, Long, UnsignedLong, LongLong, UnsignedLongLong, Float, Double, Numeric, Time, Date, DateTime, Timestamp, String, Blob, Bit, Set, Enum}
use Rattle.mysql.specs.Ranges.{between, among}

-- the codes of numbers: decimal, tiny, short, long, float, double, big, medium, and the new decimal
abbrev pub number_code : ℕ → Bool
number_code c = between 0 5 c || among (8 ∷ 9 ∷ 246 ∷ []) c

abbrev pub keeps : MysqlType → ℕ → Bool
keeps Tiny c = number_code c
keeps UnsignedTiny c = number_code c
keeps Short c = number_code c
keeps UnsignedShort c = number_code c
keeps Long c = number_code c
keeps UnsignedLong c = number_code c
keeps LongLong c = number_code c
keeps UnsignedLongLong c = number_code c
keeps Float c = number_code c
keeps Double c = false
keeps Numeric c = number_code c
keeps Time c = false
keeps Date c = false
keeps DateTime c = false
keeps Timestamp c = false
keeps String c = c == 245 || between 247 254 c
keeps Blob c = between 249 252 c
keeps Bit c = false
keeps Set c = between 247 254 c
keeps Enum c = between 247 254 c

-- the number of a type
abbrev pub row_of : MysqlType → ℕ
row_of Tiny = 0
row_of UnsignedTiny = 1
row_of Short = 2
row_of UnsignedShort = 3
row_of Long = 4
row_of UnsignedLong = 5
row_of LongLong = 6
row_of UnsignedLongLong = 7
row_of Float = 8
row_of Double = 9
row_of Numeric = 10
row_of Time = 11
row_of Date = 12
row_of DateTime = 13
row_of Timestamp = 14
row_of String = 15
row_of Blob = 16
row_of Bit = 17
row_of Set = 18
row_of Enum = 19

-- all types, in the order of their numbers
abbrev pub types : List MysqlType
types = Tiny ∷ UnsignedTiny ∷ Short ∷ UnsignedShort ∷ Long ∷ UnsignedLong ∷ LongLong ∷ UnsignedLongLong ∷ Float ∷ Double ∷ Numeric ∷ Time ∷ Date ∷ DateTime ∷ Timestamp ∷ String ∷ Blob ∷ Bit ∷ Set ∷ Enum ∷ []

-- the codes that have names: 0 to 19, and 245 to 255; they are the columns 0 to 30 of the table
abbrev pub code_at : ℕ → ℕ
code_at k = cond (nat_lt k 20) k (k + 225)

abbrev pub named_codes : List ℕ
named_codes = map code_at (range_with_len 0 31)

-- how many pairs of a type and a named code are kept
abbrev pub kept_pairs : ℕ
kept_pairs = sum_by (λ t. sum_by (λ c. cond (keeps t c) 1 0) named_codes) types
