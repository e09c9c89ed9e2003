-- Eight worked examples, as one table: a line has a few questions with what is due to each, by the definitions that the contracts of the
-- calls cite.
use Rattle.std.specs.Prelude.{◌≡◌, ℕ, zero, suc, ◌^◌, Bool, false, List, [], ◌∷◌, ℤ, pos, neg_ℤ, Some, Ok, Err, Result, ◌==◌, slice_index_or, get_or}
use Rattle.std.specs.List.{AllByRecursion}
use Rattle.mysql.specs.declared.backend.MysqlType.{MysqlType}
use Rattle.mysql.specs.declared.backend.MysqlType.TheVariants.{Tiny, Double, Numeric, String, Blob}
use Rattle.mysql.specs.declared.bind.Column.{Column}
use Rattle.mysql.specs.declared.fault.Fault.{Fault}
use Rattle.mysql.specs.declared.fault.Refusal.TheVariants.{UnknownFlags, LayoutTooLong, NoRoom, OutOfRange, ManyDots, InvalidInteger}
use Rattle.mysql.specs.Faults.{refused}
use Rattle.mysql.specs.Types.{pair_of, type_of}
use Rattle.mysql.specs.Taken.{flags_of, taken_pair}
use Rattle.readings.specs.Integers.{integer}
use Rattle.host.specs.Fields.{Field, null, held}
use Rattle.host.specs.Meanings.{Row, row}
use Rattle.rows.specs.declared.answers.Fetch.{Fetch}
use Rattle.rows.specs.declared.answers.Fetch.TheVariants as fetch
use Rattle.layout.specs.Tables.{no_pair}
use Rattle.rows.specs.Bounds.{row_need}
use Rattle.rows.specs.Dues.{opening, fetched}

-- a question, with what is due to it
pub data Example : Type 0 where
  -- an opening of columns over an arena of so many bytes, no type wanted of any
  opens : (arena : ℕ) → List Column → Result (List Column) Fault → Example
  -- how many bytes a row of these fields needs
  needs : List Column → List Field → ℕ → Example
  -- a fetch over an arena of so many bytes, where a row of these fields is next
  fetches : (arena : ℕ) → List Column → List Field → Result Fetch Fault → Example
  -- flags that a column takes from its field
  flags : ℕ → Result ℕ Fault → Example
  -- the code and flags that a column is bound with, of which a type is wanted
  binds : MysqlType → Column → Result (ℕ × ℕ) Fault → Example
  -- the code and flags that a type asks for, and the type that these stand for
  asks : MysqlType → ℕ × ℕ → Example
  stands_for : ℕ × ℕ → Result MysqlType Fault → Example
  -- a value read as an Integer (32 bits), or as a BigInt (64 bits)
  reads_integer : MysqlType → List ℕ → Result ℤ Fault → Example
  reads_big_int : MysqlType → List ℕ → Result ℤ Fault → Example

-- each column carries its own code only
abbrev pub own_code : List Column → (column code : ℕ) → Bool
own_code columns column code = code == (slice_index_or columns column no_pair).code

-- a row of these fields, at every code and sign
abbrev pub row_of : List Field → Row
row_of fields column code unsigned = get_or fields column null

abbrev pub Holds : Example → Type 0
Holds (opens arena columns due) = opening false arena (own_code columns) [] columns ≡ due
Holds (needs columns fields due) = row_need (row_of fields) 0 columns ≡ due
Holds (fetches arena columns fields due) = fetched columns arena (row (row_of fields) ∷ []) ≡ due
Holds (flags n due) = flags_of n ≡ due
Holds (binds t column due) = taken_pair (Some t) column.code column.flags ≡ due
Holds (asks t due) = pair_of t ≡ due
Holds (stands_for pair due) = type_of pair.0 pair.1 ≡ due
Holds (reads_integer t bytes due) = integer (2 ^ 31) t bytes ≡ due
Holds (reads_big_int t bytes due) = integer (2 ^ 63) t bytes ≡ due

-- columns without flags
abbrev pub plain : ℕ → Column
plain code = record { code = code; flags = 0 }

-- a number and a text; two texts
abbrev pub number_and_text : List Column
number_and_text = plain 3 ∷ plain 253 ∷ []

abbrev pub two_texts : List Column
two_texts = plain 253 ∷ plain 253 ∷ []

-- the number 7 in four bytes; a text of so many letters a
abbrev pub seven : Field
seven = held false (7 ∷ 0 ∷ 0 ∷ 0 ∷ [])

abbrev pub letters : ℕ → List ℕ
letters zero = []
letters (suc n) = 97 ∷ letters n

abbrev pub text : ℕ → Field
text n = held false (letters n)

-- the double 2 to the 63, whose bit pattern is 0x43E0000000000000, lowest byte first
abbrev pub top_double : List ℕ
top_double = 0 ∷ 0 ∷ 0 ∷ 0 ∷ 0 ∷ 0 ∷ 0xE0 ∷ 0x43 ∷ []

-- "-12.99", "12.x", ".5" and "1.2.3"
abbrev pub minus_twelve_99 : List ℕ
minus_twelve_99 = 45 ∷ 49 ∷ 50 ∷ 46 ∷ 57 ∷ 57 ∷ []

abbrev pub twelve_x : List ℕ
twelve_x = 49 ∷ 50 ∷ 46 ∷ 120 ∷ []

abbrev pub dot_five : List ℕ
dot_five = 46 ∷ 53 ∷ []

abbrev pub one_two_three : List ℕ
one_two_three = 49 ∷ 46 ∷ 50 ∷ 46 ∷ 51 ∷ []

abbrev pub table : List (List Example)
table =
    -- an arena of 12 bytes
    (opens 12 number_and_text (Ok number_and_text)
    ∷ needs number_and_text (seven ∷ text 8 ∷ []) 12 ∷ fetches 12 number_and_text (seven ∷ text 8 ∷ []) (Ok fetch.Row)
    ∷ needs number_and_text (seven ∷ text 9 ∷ []) 13 ∷ fetches 12 number_and_text (seven ∷ text 9 ∷ []) (Err (refused NoRoom)) ∷ [])
    -- an arena of 10 bytes
    ∷ (opens 10 two_texts (Ok two_texts)
    ∷ fetches 10 two_texts (text 8 ∷ text 1 ∷ []) (Ok fetch.Row) ∷ fetches 10 two_texts (text 1 ∷ text 9 ∷ []) (Ok fetch.Row)
    ∷ fetches 10 two_texts (text 0 ∷ text 10 ∷ []) (Err (refused NoRoom)) ∷ [])
    -- the smallest arena of two texts
    ∷ (opens 2 two_texts (Ok two_texts) ∷ opens 1 two_texts (Err (refused LayoutTooLong)) ∷ [])
    -- flags
    ∷ (flags 0x7C3FFFFF (Ok 0x7C3FFFFF) ∷ flags 0x00400000 (Err (refused UnknownFlags)) ∷ [])
    -- a decimal, wanted as two types
    ∷ (binds Tiny (plain 246) (Ok (246, 0)) ∷ binds Double (plain 246) (Ok (5, 0)) ∷ [])
    -- there and back
    ∷ (asks Blob (252, 0) ∷ stands_for (252, 0) (Ok String) ∷ [])
    -- the float at the top
    ∷ (reads_big_int Double top_double (Ok (pos 9223372036854775807)) ∷ reads_integer Double top_double (Err (refused OutOfRange)) ∷ [])
    -- numeric text, alike in both widths
    ∷ (reads_integer Numeric minus_twelve_99 (Ok (neg_ℤ (pos 12))) ∷ reads_big_int Numeric minus_twelve_99 (Ok (neg_ℤ (pos 12)))
    ∷ reads_integer Numeric twelve_x (Ok (pos 12)) ∷ reads_big_int Numeric twelve_x (Ok (pos 12))
    ∷ reads_integer Numeric dot_five (Err (refused InvalidInteger)) ∷ reads_big_int Numeric dot_five (Err (refused InvalidInteger))
    ∷ reads_integer Numeric one_two_three (Err (refused ManyDots)) ∷ reads_big_int Numeric one_two_three (Err (refused ManyDots)) ∷ [])
    ∷ []

-- every question of every line has the answer that is due
abbrev pub WorkedExamples : Type 0
WorkedExamples = AllByRecursion (AllByRecursion Holds) table
