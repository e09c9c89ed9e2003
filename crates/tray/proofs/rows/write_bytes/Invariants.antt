use Rattle.std.proofs.Common.{◌≡◌, ℕ, ◌+◌, ◌%◌, ◌<◌, get_or}
use Rattle.tray.proofs.rows.write_bytes.Given as goal

-- what is written so far
abbrev pub invariant-loop-j : goal.invariant-loop-j
invariant-loop-j l = (i : ℕ) → i < l.j → get_or l.part i 0 ≡ (l.k + (l.offset + i)) % 256
