-- What C is told of an answer: a number of its own for a good one, and minus its number for a refusal. What is written through a pointer stays as
-- it was where there is nothing to write.
use Rattle.std.specs.Prelude.{◌≡◌, ℕ, ℤ, pos, ◌-ℤ◌, List, Some, None, Ok, Err, Option, Result}
use Rattle.mysql.specs.declared.fault.Fault.{Fault}
use Rattle.mysql.specs.Refusals.{number_of}
use Rattle.outlets.specs.declared.size.TapeSize.{TapeSize}
use Rattle.outlets.specs.declared.count.RowCounts.{RowCounts}
use Rattle.outlets.specs.Sizes.{Sized}
use Rattle.outlets.specs.Recorded.{RecordedCounts, RecordedOutlet}

abbrev pub told : Fault → ℤ
told f = pos 0 -ℤ pos (number_of f.refusal)

-- 0 for an answer that is written, or the refusal
abbrev pub status : {X : Type 0} → Result X Fault → ℤ
status (Ok x) = pos 0
status (Err f) = told f

abbrev pub written : {X : Type 0} → X → Result X Fault → X
written before (Ok x) = x
written before (Err f) = before

pub record SizeTold (bytes : List ℕ) (before : TapeSize) (result : ℤ) (after : TapeSize) : Type 0 where
  pub answer : Result TapeSize Fault
  pub is : Sized bytes answer
  pub tells : result ≡ status answer
  pub writes : after ≡ written before answer

pub record CountsTold (bytes a a' : List ℕ) (before : RowCounts) (result : ℤ) (after : RowCounts) : Type 0 where
  pub answer : Result RowCounts Fault
  pub is : RecordedCounts bytes a a' answer
  pub tells : result ≡ status answer
  pub writes : after ≡ written before answer

-- the length of an outlet, -1000 for no row of the class, or the refusal
abbrev pub length_or : Result (Option ℕ) Fault → ℤ
length_or (Ok (Some n)) = pos n
length_or (Ok None) = pos 0 -ℤ pos 1000
length_or (Err f) = told f

pub record OutletTold (bytes a a' : List ℕ) (class : ℤ) (before : List ℕ) (result : ℤ) (after : List ℕ) : Type 0 where
  pub answer : Result (Option ℕ) Fault
  pub is : RecordedOutlet bytes a a' class before answer after
  pub tells : result ≡ length_or answer
