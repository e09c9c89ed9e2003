-- What a checksum is of: the bytes that came so far.
use Rattle.std.specs.Prelude.{◌≡◌, ℕ, List}
use Rattle.checksum.specs.declared.Crc32.{Crc32}
use Rattle.checksum.specs.Crc.{register_after}

pub record IsOf (c : Crc32) (bytes : List ℕ) : Type 0 where
  pub register : c.register ≡ register_after bytes
