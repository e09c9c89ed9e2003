-- One field more is added up.
use Rattle.std.proofs.Common.{◌≡◌, ℕ, ◌+◌, ◌++◌, List, [], ◌∷◌, cond, length, append_assoc, Some, None, sym, refl, ap, ◌∙◌, subst, arith}
use Rattle.std.proofs.lemmas.List.{length_push, append-nil}
use Rattle.std.proofs.lemmas.List.Sums.{sum_by-append}
use Rattle.std.specs.Option.{is_none}
use Rattle.checksum.specs.declared.Crc32.{Crc32}
use Rattle.checksum.specs.Checksums.{IsOf}
use Rattle.trays.specs.declared.sums.Sums.{Sums}
use Rattle.trays.specs.Fields.{Field}
use Rattle.trays.specs.Sums.{capped, size_of, bytes_of, AddsUp}

bytes_of-append : (xs ys : List Field) → bytes_of (xs ++ ys) ≡ bytes_of xs ++ bytes_of ys
bytes_of-append [] ys = refl
bytes_of-append (None ∷ xs) ys = bytes_of-append xs ys
bytes_of-append (Some bs ∷ xs) ys = ap (λ zs. bs ++ zs) (bytes_of-append xs ys) ∙ sym (append_assoc bs (bytes_of xs) (bytes_of ys))

pub null_added : (s : Sums) (rows nulls : ℕ) → rows ≡ capped (s.rows + 1) → nulls ≡ capped (s.nulls + 1)
    → (before : List Field) → AddsUp s before → AddsUp (record { rows = rows; nulls = nulls; bytes = s.bytes; checksum = s.checksum }) (before ++ None ∷ [])
null_added s rows nulls r n before h = record {
  rows = omega (arith, length_push before None);
  nulls = omega (arith, sum_by-append (λ (x : Field). cond (is_none x) 1 0) before (None ∷ []));
  bytes = omega (arith, sum_by-append size_of before (None ∷ []));
  checksum = subst (IsOf s.checksum) (sym (bytes_of-append before (None ∷ []) ∙ append-nil (bytes_of before))) h.checksum;
}

pub bytes_added : (s : Sums) (rows bytes : ℕ) (checksum : Crc32) (more : List ℕ) → rows ≡ capped (s.rows + 1) → bytes ≡ capped (s.bytes + length more)
    → ((before : List ℕ) → IsOf s.checksum before → IsOf checksum (before ++ more))
    → (before : List Field) → AddsUp s before → AddsUp (record { rows = rows; nulls = s.nulls; bytes = bytes; checksum = checksum }) (before ++ Some more ∷ [])
bytes_added s rows bytes checksum more r b sums before h = record {
  rows = omega (arith, length_push before (Some more));
  nulls = omega (arith, sum_by-append (λ (x : Field). cond (is_none x) 1 0) before (Some more ∷ []));
  bytes = omega (arith, sum_by-append size_of before (Some more ∷ []));
  checksum = subst (IsOf checksum) (sym (bytes_of-append before (Some more ∷ []) ∙ ap (λ zs. bytes_of before ++ zs) (append-nil more))) (sums (bytes_of before) h.checksum);
}
