-- The fields of a row, gone through one after the other.
-- Assumes nothing.
use Rattle.std.proofs.Common.{◌≡◌, ℕ, suc, List, [], ◌∷◌, ◌++◌, length, drop, Some, None, Option, sym, refl, ap, ◌∙◌, subst, arith}
use Rattle.std.proofs.lemmas.List.{append_assoc}
use Rattle.std.specs.List.{flat_map, slice_get}
use Rattle.mysql.specs.declared.bind.Column.{Column}
use Rattle.host.specs.Fields.{Field, FieldAt}
use Rattle.tape.specs.Format.{field_bytes, RowOf, RowContents, RowIn, ColumnsIn}
use Rattle.tape.specs.Steps.{Begins, NoneBegins}
use Rattle.tape.specs.Recordings.{later_fields}
use Rattle.tape.specs.Unique.{field_one}

-- one field for each column
pub as_many_fields : (cs : List Column) (fs : List Field) → RowOf cs fs → length fs ≡ length cs
as_many_fields [] [] h = refl
as_many_fields [] (f ∷ fs) h = absurd h
as_many_fields (c ∷ cs) [] h = absurd h
as_many_fields (c ∷ cs) (f ∷ fs) h = ap suc (as_many_fields cs fs h.1)

-- the first field, and those behind it
pub first_field : (cs : List Column) (fs : List Field) (behind bytes : List ℕ) (c : Column) (f : Field) (rest : List ℕ) → RowOf cs fs → flat_map field_bytes fs ++ behind ≡ bytes
    → Some c ≡ slice_get cs 0 → Begins (FieldAt c.code) field_bytes bytes f rest
    → (Some f ≡ slice_get fs 0) × RowOf (drop 1 cs) (drop 1 fs) × (flat_map field_bytes (drop 1 fs) ++ behind ≡ rest)
first_field [] fs behind bytes c f rest h e first b = cc
first_field (d ∷ cs) [] behind bytes c f rest h e first b = absurd h
first_field (d ∷ cs) (g ∷ fs) behind bytes c f rest h e first b =
    let o = field_one f g rest (flat_map field_bytes fs ++ behind) (b.bytes_are ∙ sym e ∙ append_assoc (field_bytes g) (flat_map field_bytes fs) behind) in
    (ap Some o.0, h.1, sym o.1)

pub some_field : (cs : List Column) (fs : List Field) (behind bytes : List ℕ) (c : Column) → RowOf cs fs → flat_map field_bytes fs ++ behind ≡ bytes → Some c ≡ slice_get cs 0
    → NoneBegins (FieldAt c.code) field_bytes bytes → ⊥
some_field [] fs behind bytes c h e first none = cc
some_field (d ∷ cs) [] behind bytes c h e first none = absurd h
some_field (d ∷ cs) (g ∷ fs) behind bytes c h e first none =
    let same : c ≡ d = cc in
    none g (flat_map field_bytes fs ++ behind) (record {
      fits = subst (λ (k : Column). FieldAt k.code g) (sym same) h.0;
      bytes_are = sym (append_assoc (field_bytes g) (flat_map field_bytes fs) behind) ∙ e;
    })

no_field : (cs : List Column) (fs : List Field) → cs ≡ [] → RowOf cs fs → fs ≡ []
no_field [] [] e h = refl
no_field [] (f ∷ fs) e h = absurd h
no_field (c ∷ cs) fs e h = absurd (omega (arith, ap length e))

pub row_end : (columns bytes : List ℕ) (r : RowContents) → RowIn columns bytes r → r.columns ≡ [] → (◌≡◌ {A = Option Field} None (slice_get r.fields 0)) × RowIn columns bytes (later_fields r)
row_end columns bytes r h e =
    let z = no_field r.columns r.fields e h.row_of in
    let same : later_fields r ≡ r =
    ap (λ (xs : List Column). record { columns = xs; fields = drop 1 r.fields; rest = r.rest }) (ap (drop 1) e ∙ sym e)
    ∙ ap (λ (xs : List Field). record { columns = r.columns; fields = xs; rest = r.rest }) (ap (drop 1) z ∙ sym z) in
    (ap (λ (xs : List Field). slice_get xs 0) (sym z), subst (RowIn columns bytes) (sym same) h)

pub row_step : (columns bytes : List ℕ) (r : RowContents) (c : Column) (later : List ℕ) (f : Field) (rest : List ℕ) → RowIn columns bytes r
    → (Some c ≡ slice_get r.columns 0) × ColumnsIn later (drop 1 r.columns) → Begins (FieldAt c.code) field_bytes bytes f rest
    → (Some f ≡ slice_get r.fields 0) × RowIn later rest (later_fields r)
row_step columns bytes r c later f rest h k b =
    let s = first_field r.columns r.fields r.rest bytes c f rest h.row_of h.bytes_are k.0 b in
    (s.0, record { columns_in = k.1; row_of = s.1; bytes_are = s.2 })
