-- The whole number of a value, by the form in which the value holds it.
-- Assumes nothing.
use Rattle.std.proofs.Common.{◌≡◌, ℕ, List, ℤ, pos, Ok, Err, Result, sym, refl, ap, ◌∙◌, w8, w16, w32, w64, to_z, Bor}
use lib.Ieee.{Float, of_bits, binary32, binary64}
use Rattle.mysql.specs.declared.fault.Fault.{Fault}
use Rattle.mysql.specs.declared.backend.MysqlType.{MysqlType}
use Rattle.mysql.specs.declared.backend.MysqlType.TheVariants as tpe
use Rattle.readings.specs.declared.value.NumericRepresentation.{NumericRepresentation}
use Rattle.readings.specs.declared.value.NumericRepresentation.TheVariants as number
use Rattle.mysql.specs.Answers.{through, next}
use Rattle.readings.specs.Bytes.{prefix}
use Rattle.readings.specs.Floats.{IsNumber, truncated}
use Rattle.numeric.specs.Decimals.{decimal}
use Rattle.numeric.specs.Targets.{in_range}
use Rattle.readings.specs.Integers.{integer}
use Rattle.readings.specs.Values.{HoldsFloat, Holds}
use Rattle.readings.proofs.Patterns.{by_pattern_32, by_pattern_64, same_part}

abbrev pub by_form : ℕ → NumericRepresentation → Result ℤ Fault
by_form half (number.Tiny x) = in_range half x
by_form half (number.UnsignedTiny x) = in_range half (pos x)
by_form half (number.Small x) = in_range half x
by_form half (number.UnsignedSmall x) = in_range half (pos x)
by_form half (number.Medium x) = in_range half x
by_form half (number.UnsignedMedium x) = in_range half (pos x)
by_form half (number.Big x) = in_range half x
by_form half (number.UnsignedBig x) = in_range half (pos x)
by_form half (number.Float x) = next (truncated x) (in_range half)
by_form half (number.Double x) = next (truncated x) (in_range half)
by_form half (number.Decimal text) = decimal half text.now

carried : {X Y Z : Type 0} (r : Result X Fault) (f : X → Y) (k : Y → Result Z Fault) (l : X → Result Z Fault) (h : Result Y Fault)
    → ((x : X) → l x ≡ k (f x)) → h ≡ through f r → next r l ≡ next h k
carried (Ok x) f k l h e i = rw i (e x)
carried (Err z) f k l h e i = rw i refl

carried_float : (form : Float → NumericRepresentation) (by_bits : ℕ → Float) (half : ℕ) → ((x : Float) → by_form half (form x) ≡ next (truncated x) (in_range half))
    → (b : Result ℕ Fault) (h : Result NumericRepresentation Fault) → HoldsFloat form by_bits b h
    → next b (λ n. next (truncated (by_bits n)) (in_range half)) ≡ next h (by_form half)
carried_float form by_bits half e (Ok n) h w =
    rw w.1 (ap (λ r. next r (in_range half)) (sym (same_part w.0 (by_bits n) w.2)) ∙ sym (e w.0))
carried_float form by_bits half e (Err z) h w = rw w refl

pub integer_is : (half : ℕ) (t : MysqlType) (raw : Bor (List ℕ)) (h : Result NumericRepresentation Fault) → Holds t raw h → integer half t raw.now ≡ next h (by_form half)
integer_is half tpe.Tiny raw h w = carried (prefix 1 raw.now) (λ n. number.Tiny (to_z w8 n)) (by_form half) _ h (λ n. refl) w
integer_is half tpe.UnsignedTiny raw h w = carried (prefix 1 raw.now) number.UnsignedTiny (by_form half) _ h (λ n. refl) w
integer_is half tpe.Short raw h w = carried (prefix 2 raw.now) (λ n. number.Small (to_z w16 n)) (by_form half) _ h (λ n. refl) w
integer_is half tpe.UnsignedShort raw h w = carried (prefix 2 raw.now) number.UnsignedSmall (by_form half) _ h (λ n. refl) w
integer_is half tpe.Long raw h w = carried (prefix 4 raw.now) (λ n. number.Medium (to_z w32 n)) (by_form half) _ h (λ n. refl) w
integer_is half tpe.UnsignedLong raw h w = carried (prefix 4 raw.now) number.UnsignedMedium (by_form half) _ h (λ n. refl) w
integer_is half tpe.LongLong raw h w = carried (prefix 8 raw.now) (λ n. number.Big (to_z w64 n)) (by_form half) _ h (λ n. refl) w
integer_is half tpe.UnsignedLongLong raw h w = carried (prefix 8 raw.now) number.UnsignedBig (by_form half) _ h (λ n. refl) w
integer_is half tpe.Float raw h w = carried_float number.Float _ half (λ x. refl) (prefix 4 raw.now) h w
integer_is half tpe.Double raw h w = carried_float number.Double _ half (λ x. refl) (prefix 8 raw.now) h w
integer_is half tpe.Numeric raw h w = rw w refl
integer_is half tpe.Time raw h w = rw w refl
integer_is half tpe.Date raw h w = rw w refl
integer_is half tpe.DateTime raw h w = rw w refl
integer_is half tpe.Timestamp raw h w = rw w refl
integer_is half tpe.String raw h w = rw w refl
integer_is half tpe.Blob raw h w = rw w refl
integer_is half tpe.Bit raw h w = rw w refl
integer_is half tpe.Set raw h w = rw w refl
integer_is half tpe.Enum raw h w = rw w refl

pub formed : (half : ℕ) (t : MysqlType) (raw : Bor (List ℕ)) (n m : NumericRepresentation) → Holds t raw (Ok n) → n ≡ m → by_form half m ≡ integer half t raw.now
formed half t raw n m w i = ap (by_form half) (sym i) ∙ sym (integer_is half t raw (Ok n) w)

-- the bits read as the library does
held_float : (form : Float → NumericRepresentation) (float by_bits : ℕ → Float) → ((n : ℕ) → IsNumber (float n) (by_bits n))
    → (b : Result ℕ Fault) → HoldsFloat form by_bits b (through (λ n. form (float n)) b)
held_float form float by_bits h (Ok n) = (float n, refl, h n)
held_float form float by_bits h (Err z) = refl

pub held_single : (raw : Bor (List ℕ)) → Holds tpe.Float raw (through (λ n. number.Float (of_bits binary32 n)) (prefix 4 raw.now))
held_single raw = held_float number.Float (of_bits binary32) _ by_pattern_32 (prefix 4 raw.now)

pub held_double : (raw : Bor (List ℕ)) → Holds tpe.Double raw (through (λ n. number.Double (of_bits binary64 n)) (prefix 8 raw.now))
held_double raw = held_float number.Double (of_bits binary64) _ by_pattern_64 (prefix 8 raw.now)
