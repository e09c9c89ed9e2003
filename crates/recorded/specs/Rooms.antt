-- For how many bytes and entries there is room in buffers.
use Rattle.std.specs.Prelude.{ℕ, min, vec_capacity}
use Rattle.recorded.specs.declared.buffers.Buffers.{Buffers}

abbrev pub room : Buffers → ℕ
room b = min (vec_capacity b.bytes) (vec_capacity b.wanted)
