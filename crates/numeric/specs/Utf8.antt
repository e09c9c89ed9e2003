-- UTF-8, by the grammar of RFC 3629, section 4: bytes are UTF-8 where they are characters in a row, and a character is one of the
-- sequences of one to four bytes below. So no character is written longer than it needs to be, none is a surrogate (D800 to
-- DFFF), and none lies above 10FFFF.
use Rattle.std.specs.Prelude.{ℕ, Bool, true, ◌&&◌, ◌||◌, List, [], ◌∷◌, ◌==◌, nat_le}
use Rattle.mysql.specs.Ranges.{between}

-- UTF8-tail = %x80-BF
abbrev pub tail : ℕ → Bool
tail b = between 0x80 0xBF b

-- UTF8-1 = %x00-7F
abbrev pub one : ℕ → Bool
one a = nat_le a 0x7F

-- UTF8-2 = %xC2-DF UTF8-tail
abbrev pub two : ℕ → ℕ → Bool
two a b = between 0xC2 0xDF a && tail b

-- UTF8-3 = %xE0 %xA0-BF UTF8-tail / %xE1-EC 2( UTF8-tail ) / %xED %x80-9F UTF8-tail / %xEE-EF 2( UTF8-tail )
abbrev pub three : ℕ → ℕ → ℕ → Bool
three a b c = ((a == 0xE0 && between 0xA0 0xBF b) || ((between 0xE1 0xEC a && tail b) || ((a == 0xED && between 0x80 0x9F b) || (between 0xEE 0xEF a && tail b)))) && tail c

-- UTF8-4 = %xF0 %x90-BF 2( UTF8-tail ) / %xF1-F3 3( UTF8-tail ) / %xF4 %x80-8F 2( UTF8-tail )
abbrev pub four : ℕ → ℕ → ℕ → ℕ → Bool
four a b c d = ((a == 0xF0 && between 0x90 0xBF b) || ((between 0xF1 0xF3 a && tail b) || (a == 0xF4 && between 0x80 0x8F b))) && (tail c && tail d)

-- UTF8-octets = *( UTF8-char ): nothing, or a character and then UTF-8 again
abbrev pub utf8 : List ℕ → Bool
utf8 [] = true
utf8 (a ∷ []) = one a
utf8 (a ∷ b ∷ []) = (one a && utf8 (b ∷ [])) || two a b
utf8 (a ∷ b ∷ c ∷ []) = (one a && utf8 (b ∷ c ∷ [])) || ((two a b && utf8 (c ∷ [])) || three a b c)
utf8 (a ∷ b ∷ c ∷ d ∷ r) = (one a && utf8 (b ∷ c ∷ d ∷ r)) || ((two a b && utf8 (c ∷ d ∷ r)) || ((three a b c && utf8 (d ∷ r)) || (four a b c d && utf8 r)))
