-- Bytes by the first of them.
-- Assumes nothing.
use Rattle.std.proofs.Common.{◌≡◌, ℕ, ◌-◌, ◌^◌, ◌<◌, ◌≤◌, List, [], ◌∷◌, length, get_or, take, drop, sym, ap, ◌∙◌, arith}
use Rattle.std.proofs.lemmas.List.{take_rest}
use Rattle.std.specs.List.{flat_map}
use Rattle.mysql.specs.declared.bind.Column.{Column}
use Rattle.tape.specs.Format.{row, failure, two, field_bytes, event_bytes, RowOf, EventOf}
use Rattle.tape.specs.Steps.{NoneBegins}

-- the bytes after the first, as a pattern cuts them
abbrev pub tail : List ℕ → List ℕ
tail b = take (length b - 1) (drop 1 b)

pub first_and_tail : (t : ℕ) (b : List ℕ) → 1 ≤ length b → get_or b 0 0 ≡ t → b ≡ t ∷ tail b
first_and_tail t [] l e = absurd (omega arith)
first_and_tail t (a ∷ r) l e = ap (λ k. k ∷ r) e ∙ ap (λ u. t ∷ u) (sym (take_rest (a ∷ r) 1))

-- no event begins bytes where nothing that it needs is behind the first of them

pub no_row : (cs : List Column) (bytes behind : List ℕ) → bytes ≡ 0 ∷ behind → NoneBegins (RowOf cs) (flat_map field_bytes) behind → NoneBegins (EventOf cs) event_bytes bytes
no_row cs bytes behind e none (row fs) rest b = none fs rest (record { fits = b.fits; bytes_are = cc })
no_row cs bytes behind e none (failure n) rest b = let z : ◌≡◌ {A = ℕ} 1 0 = cc in absurd (omega arith)

pub no_number : (cs : List Column) (bytes behind : List ℕ) → bytes ≡ 1 ∷ behind → NoneBegins (λ n. n < 2 ^ 16) two behind → NoneBegins (EventOf cs) event_bytes bytes
no_number cs bytes behind e none (row fs) rest b = let z : ◌≡◌ {A = ℕ} 0 1 = cc in absurd (omega arith)
no_number cs bytes behind e none (failure n) rest b = let few = b.fits.1 in none n rest (record { fits = omega arith; bytes_are = cc })
