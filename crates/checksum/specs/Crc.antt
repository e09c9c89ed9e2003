-- CRC-32, as IEEE 802.3, gzip and zlib have it. A register of 32 bits begins with all of them set. Each byte is put over its lowest eight bits by
-- an exclusive or, and then eight bits are shifted out at the low end; where a bit that went out was set, the polynomial is put over what is left.
-- The checksum is the register with every bit turned.
use Rattle.std.specs.Prelude.{ℕ, zero, suc, ◌/◌, ◌%◌, cond, List, fold, ◌==◌, bit_xor}

-- x^32 + x^26 + x^23 + x^22 + x^16 + x^12 + x^11 + x^10 + x^8 + x^7 + x^5 + x^4 + x^2 + x + 1, without its highest power, and the bit of the
-- highest left power lowest: EDB88320 in hexadecimal
abbrev pub polynomial : ℕ
polynomial = 3988292384

-- 32 bits, all set
abbrev pub all_set : ℕ
all_set = 4294967295

-- a bit is shifted out
abbrev pub shifted : ℕ → ℕ
shifted r = cond (r % 2 == 1) (bit_xor (r / 2) polynomial) (r / 2)

-- something is done so many times
unfoldable pub times : ℕ → (ℕ → ℕ) → ℕ → ℕ
times zero f x = x
times (suc n) f x = f (times n f x)

-- a byte more
abbrev pub with_byte : ℕ → ℕ → ℕ
with_byte r b = times 8 shifted (bit_xor r b)

abbrev pub register_after : List ℕ → ℕ
register_after bytes = fold with_byte all_set bytes

abbrev pub crc32 : List ℕ → ℕ
crc32 bytes = bit_xor (register_after bytes) all_set
