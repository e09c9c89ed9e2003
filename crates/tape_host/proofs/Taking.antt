-- A row's fields, taken off its bytes by the codes that its places ask for.
-- Assumes nothing.
use Rattle.std.proofs.Common.{◌≡◌, ℕ, zero, suc, ◌+◌, ◌<◌, ◌≤◌, true, eqb, List, [], ◌∷◌, ◌++◌, Some, None, Option, length, get_or, drop, sym, ap, ◌∙◌, subst, arith}
use Rattle.std.specs.Borrow.{Bor}
use Rattle.std.specs.List.{flat_map}
use Rattle.std.specs.Option.{unwrap_or}
use Rattle.std.proofs.lemmas.Bool.{and_parts, eqb-true}
use Rattle.std.proofs.lemmas.List.{drop_more, drop_all, append_assoc}
use Rattle.mysql.specs.declared.bind.Column.{Column}
use Rattle.host.specs.declared.records.BindRecord.{BindRecord}
use Rattle.host.specs.Fields.{Field, null, FieldAt}
use Rattle.host.specs.Meanings.{no_column}
use Rattle.host.specs.Calls.{no_bind}
use Rattle.tape.proofs.Rowed.{as_many_fields}
use Rattle.tape.specs.declared.field.Field.{Field as View}
use Rattle.tape.specs.declared.event.Row.{Row}
use Rattle.tape.specs.Format.{field_bytes, RowContents}
use Rattle.tape.specs.Steps.{Begins, Takes}
use Rattle.tape.specs.Unique.{field_one, row_one}
use Rattle.tape.specs.Views.{field_of, RowShows}
use Rattle.tape_host.specs.Codes.{own_codes}
use Rattle.tape_host.specs.Formeds.{fields_fit}
use Rattle.tape_host.specs.Walks.{Left, Asked}

-- the field that begins bytes is the one that is taken
pub first_taken : (code : ℕ) (bytes : List ℕ) (o : Option (View × Bor (List ℕ))) (d p : View × Bor (List ℕ)) → p ≡ unwrap_or o d → Takes (FieldAt code) field_bytes field_of bytes o
    → (f : Field) (rest : List ℕ) → Begins (FieldAt code) field_bytes bytes f rest → (field_of p.0 ≡ f) × (p.1.now ≡ rest)
first_taken code bytes None d p e none f rest b = absurd (none f rest b)
first_taken code bytes (Some q) d p e took f rest b =
    let o = field_one (field_of q.0) f q.1.now rest (took.bytes_are ∙ sym b.bytes_are) in
    (ap (λ (x : View × Bor (List ℕ)). field_of x.0) e ∙ o.0, ap (λ (x : View × Bor (List ℕ)). x.1.now) e ∙ o.1)

code_at : (cs : List Column) (bs : List BindRecord) → own_codes cs bs ≡ true → (k : ℕ) → k < length bs → (get_or bs k no_bind).code ≡ (get_or cs k no_column).code
code_at cs [] e k l = absurd (omega arith)
code_at [] (b ∷ bs) e k l = cc
code_at (c ∷ cs) (b ∷ bs) e zero l = eqb-true b.code c.code (and_parts (eqb b.code c.code) (own_codes cs bs) e).0
code_at (c ∷ cs) (b ∷ bs) e (suc k) l = code_at cs bs (and_parts (eqb b.code c.code) (own_codes cs bs) e).1 k (omega arith)

module _ (row : Row) (bs : List BindRecord) (asked : Asked row bs) (r : RowContents) (shows : RowShows row r) where
  same : asked.contents ≡ r
  same = row_one row.columns.now row.bytes.now asked.contents r asked.shows shows

  pub as_many : length bs ≡ length r.columns
  as_many = subst (λ (x : RowContents). length bs ≡ length x.columns) same asked.as_many

  coded : own_codes r.columns bs ≡ true
  coded = subst (λ (x : RowContents). own_codes x.columns bs ≡ true) same asked.coded

  -- a field that is taken off by the code that its place asks for is the next one of the row
  pub field_taken : (k : ℕ) (rest : List ℕ) → k < length bs → Left r k rest → (field : Field) (after : List ℕ)
      → ((f : Field) (q : List ℕ) → Begins (FieldAt (get_or bs k no_bind).code) field_bytes rest f q → (field ≡ f) × (after ≡ q))
      → (field ≡ get_or r.fields k null) × Left r (k + 1) after
  field_taken k rest l left field after took =
      let f = get_or r.fields k null in
      let others = drop (k + 1) r.fields in
      let split : drop k r.fields ≡ f ∷ others = drop_more r.fields k null (omega (arith, as_many, as_many_fields r.columns r.fields shows.row_of)) in
      let t = took f (flat_map field_bytes others ++ r.rest) (record {
        fits = subst (λ (c : ℕ). FieldAt c f) (sym (code_at r.columns bs coded k l)) (fields_fit r.columns r.fields shows.row_of k);
        bytes_are =
            sym (append_assoc (field_bytes f) (flat_map field_bytes others) r.rest)
            ∙ ap (λ fs. flat_map field_bytes fs ++ r.rest) (sym split) ∙ left;
      }) in
      (t.0, sym t.1)

  -- past the last field there is what is behind the row
  pub left_behind : (k : ℕ) (rest : List ℕ) → length bs ≤ k → Left r k rest → rest ≡ r.rest
  left_behind k rest l left =
      sym left ∙ ap (λ fs. flat_map field_bytes fs ++ r.rest) (drop_all k r.fields (omega (arith, as_many, as_many_fields r.columns r.fields shows.row_of)))
