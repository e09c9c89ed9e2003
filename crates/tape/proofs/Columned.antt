-- Columns, gone through one after the other.
-- Assumes nothing.
use Rattle.std.proofs.Common.{◌≡◌, ℕ, zero, suc, ◌*◌, ◌≤◌, List, [], ◌∷◌, ◌++◌, length, drop, Some, None, Option, sym, refl, ap, ◌∙◌, subst, arith}
use Rattle.std.proofs.lemmas.List.{append-nil, append_assoc}
use Rattle.std.specs.List.{flat_map, slice_get}
use Rattle.mysql.specs.declared.bind.Column.{Column}
use Rattle.host.specs.Meanings.{ColumnFits}
use Rattle.tape.specs.Format.{column_bytes, ColumnsIn}
use Rattle.tape.specs.Steps.{Begins, NoneBegins}
use Rattle.tape.specs.Views.{ColumnsFrom}
use Rattle.tape.specs.Unique.{column_one, columns_long}

pub columns_count : (bs : List ℕ) (cs : List Column) → ColumnsIn bs cs → length bs ≡ length cs * 5
columns_count bs cs h = sym (ap length h.bytes_are) ∙ columns_long cs

pub column_some : (bs : List ℕ) (cs : List Column) (c : Column) (rest : List ℕ) → ColumnsIn bs cs → Begins ColumnFits column_bytes bs c rest → (Some c ≡ slice_get cs 0) × ColumnsIn rest (drop 1 cs)
column_some bs [] c rest h b = absurd (omega (arith, ap length (b.bytes_are ∙ sym h.bytes_are)))
column_some bs (d ∷ ds) c rest h b =
    let o = column_one c d rest (flat_map column_bytes ds) (b.bytes_are ∙ sym h.bytes_are) in
    (ap Some o.0, record { bytes_are = sym o.1; fit = h.fit.1 })

pub column_none : (bs : List ℕ) (cs : List Column) → ColumnsIn bs cs → NoneBegins ColumnFits column_bytes bs → cs ≡ []
column_none bs [] h none = refl
column_none bs (d ∷ ds) h none = absurd (none d (flat_map column_bytes ds) (record { fits = h.fit.0; bytes_are = h.bytes_are }))

pub column_end : (bs : List ℕ) (cs : List Column) → ColumnsIn bs cs → NoneBegins ColumnFits column_bytes bs → (◌≡◌ {A = Option Column} None (slice_get cs 0)) × ColumnsIn bs (drop 1 cs)
column_end bs cs h none =
    let e = column_none bs cs h none in
    (ap (λ (xs : List Column). slice_get xs 0) (sym e), subst (ColumnsIn bs) (e ∙ ap (drop 1) (sym e)) h)

-- any bytes, as far as columns begin them

pub all_from : (bs : List ℕ) (cs : List Column) → ColumnsIn bs cs → ColumnsFrom bs cs
all_from bs cs h = record {
  behind = [];
  bytes_are = append-nil (flat_map column_bytes cs) ∙ h.bytes_are;
  fit = h.fit;
  over = λ c rest b. absurd (omega (arith, ap length b.bytes_are));
}

pub from_some : (bs : List ℕ) (cs : List Column) (c : Column) (rest : List ℕ) → ColumnsFrom bs cs → Begins ColumnFits column_bytes bs c rest → (Some c ≡ slice_get cs 0) × ColumnsFrom rest (drop 1 cs)
from_some bs [] c rest h b = absurd (h.over c rest (record { fits = b.fits; bytes_are = b.bytes_are ∙ sym h.bytes_are }))
from_some bs (d ∷ ds) c rest h b =
    let o = column_one c d rest (flat_map column_bytes ds ++ h.behind) (b.bytes_are ∙ sym h.bytes_are ∙ append_assoc (column_bytes d) (flat_map column_bytes ds) h.behind) in
    (ap Some o.0, record { behind = h.behind; bytes_are = sym o.1; fit = h.fit.1; over = h.over })

pub from_end : (bs : List ℕ) (cs : List Column) → ColumnsFrom bs cs → NoneBegins ColumnFits column_bytes bs → ◌≡◌ {A = Option Column} None (slice_get cs 0)
from_end bs [] h none = refl
from_end bs (d ∷ ds) h none =
    absurd (none d (flat_map column_bytes ds ++ h.behind) (record { fits = h.fit.0; bytes_are = sym (append_assoc (column_bytes d) (flat_map column_bytes ds) h.behind) ∙ h.bytes_are }))

-- those behind the first ones
pub columns_behind : (n : ℕ) (bs : List ℕ) (cs : List Column) → n ≤ length cs → ColumnsIn bs cs → ColumnsIn (drop (5 * n) bs) (drop n cs)
columns_behind zero bs cs l h = h
columns_behind (suc n) bs [] l h = absurd (omega arith)
columns_behind (suc n) bs (c ∷ cs) l h =
    let k : 5 * suc n ≡ suc (suc (suc (suc (suc (5 * n))))) = omega arith in
    let later = columns_behind n (flat_map column_bytes cs) cs (omega arith) (record { bytes_are = refl; fit = h.fit.1 }) in
    subst (λ b. ColumnsIn (drop (5 * suc n) b) (drop n cs)) h.bytes_are
    (subst (λ m. ColumnsIn (drop m (flat_map column_bytes (c ∷ cs))) (drop n cs)) (sym k) later)

pub get_behind : (n : ℕ) (cs : List Column) → slice_get (drop n cs) 0 ≡ slice_get cs n
get_behind zero cs = refl
get_behind (suc n) [] = refl
get_behind (suc n) (c ∷ cs) = get_behind n cs
