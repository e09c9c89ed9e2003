-- Bytes that are gone through, one thing after the other: what stands in all of them, and what in those that are left.
-- Assumes nothing.
use Rattle.std.proofs.Common.{◌≡◌, ℕ, suc, List, [], ◌∷◌, ◌++◌, drop, Some, None, Option, sym, refl, ap, ◌∙◌, subst, arith}
use Rattle.std.proofs.lemmas.List.{append_assoc}
use Rattle.std.specs.List.{flat_map, slice_get}
use Rattle.mysql.specs.declared.bind.Column.{Column}
use Rattle.host.specs.Fields.{Field, FieldAt}
use Rattle.tape.specs.Format.{Event, field_bytes, event_bytes, RowOf, EventOf, EventsOf}
use Rattle.tape.specs.Steps.{Begins, NoneBegins}
use Rattle.tape.specs.Unique.{event_one}
use Rattle.tape.specs.Views.{ColumnsFrom}
use Rattle.tape.proofs.Rowed.{first_field, some_field}

pub record Standing {Y : Type 0} (Fits : List Y → Type 0) (bytes_of : Y → List ℕ) (bytes behind : List ℕ) : Type 0 where
  pub things : List Y
  pub fits : Fits things
  pub are : flat_map bytes_of things ++ behind ≡ bytes

pub record Walk {Y : Type 0} (All Left : List Y → Type 0) (bytes_of : Y → List ℕ) (bytes rest : List ℕ) : Type 0 where
  pub whole : (behind : List ℕ) → Standing Left bytes_of rest behind → Standing All bytes_of bytes behind
  pub left : (behind : List ℕ) → Standing All bytes_of bytes behind → Standing Left bytes_of rest behind

pub walk_start : {Y : Type 0} {All : List Y → Type 0} {bytes_of : Y → List ℕ} {bytes : List ℕ} → Walk All All bytes_of bytes bytes
walk_start = record { whole = λ behind s. s; left = λ behind s. s }

pub walk_on : {Y : Type 0} {All Left Later : List Y → Type 0} {bytes_of : Y → List ℕ} {bytes rest after : List ℕ} → Walk All Left bytes_of bytes rest → (y : Y) → bytes_of y ++ after ≡ rest
    → ((ys : List Y) → Later ys → Left (y ∷ ys)) → ((behind : List ℕ) → Standing Left bytes_of rest behind → Standing Later bytes_of after behind) → Walk All Later bytes_of bytes after
walk_on {bytes_of = bytes_of} walk y first more less = record {
  whole = λ behind s. walk.whole behind (record { things = y ∷ s.things; fits = more s.things s.fits; are = append_assoc (bytes_of y) (flat_map bytes_of s.things) behind ∙ ap (λ u. bytes_of y ++ u) s.are ∙ first });
  left = λ behind s. less behind (walk.left behind s);
}

-- the fields of a row

one_field_more : (cs : List Column) (c : Column) (f : Field) (fs : List Field) → Some c ≡ slice_get cs 0 → FieldAt c.code f → RowOf (drop 1 cs) fs → RowOf cs (f ∷ fs)
one_field_more [] c f fs e h k = cc
one_field_more (d ∷ cs) c f fs e h k = let same : c ≡ d = cc in (subst (λ (x : Column). FieldAt x.code f) same h, k)

pub record FieldsWalked (cs : List Column) (bytes columns rest : List ℕ) : Type 0 where
  pub left : List Column
  pub columns_from : ColumnsFrom columns left
  pub walk : Walk (RowOf cs) (RowOf left) field_bytes bytes rest

pub fields_on : (cs : List Column) (bytes columns rest later : List ℕ) (c : Column) (f : Field) (after : List ℕ) (w : FieldsWalked cs bytes columns rest)
    → (Some c ≡ slice_get w.left 0) × ColumnsFrom later (drop 1 w.left) → Begins (FieldAt c.code) field_bytes rest f after → FieldsWalked cs bytes later after
fields_on cs bytes columns rest later c f after w k b = record {
  left = drop 1 w.left;
  columns_from = k.1;
  walk =
      walk_on w.walk f b.bytes_are (λ fs h. one_field_more w.left c f fs k.0 b.fits h)
      (λ behind s. let p = first_field w.left s.things behind rest c f after s.fits s.are k.0 b in record { things = drop 1 s.things; fits = p.1; are = p.2 });
}

pub fields_cut : (cs : List Column) (bytes columns rest : List ℕ) (c : Column) (w : FieldsWalked cs bytes columns rest) → Some c ≡ slice_get w.left 0 → NoneBegins (FieldAt c.code) field_bytes rest
    → NoneBegins (RowOf cs) (flat_map field_bytes) bytes
fields_cut cs bytes columns rest c w first none fs behind b =
    let s = w.walk.left behind (record { things = fs; fits = b.fits; are = b.bytes_are }) in
    some_field w.left s.things behind rest c s.fits s.are first none

no_columns : (cs : List Column) → ◌≡◌ {A = Option Column} None (slice_get cs 0) → RowOf cs []
no_columns [] e = tt
no_columns (c ∷ cs) e = cc

pub fields_all : (cs : List Column) (bytes columns rest : List ℕ) (w : FieldsWalked cs bytes columns rest) → ◌≡◌ {A = Option Column} None (slice_get w.left 0)
    → (fs : List Field) × Begins (RowOf cs) (flat_map field_bytes) bytes fs rest
fields_all cs bytes columns rest w e =
    let s = w.walk.whole rest (record { things = []; fits = no_columns w.left e; are = refl }) in
    (s.things, record { fits = s.fits; bytes_are = s.are })

-- events

one_event_less : (cs : List Column) (m : ℕ) (rest : List ℕ) (e : Event) (after : List ℕ) → Begins (EventOf cs) event_bytes rest e after → (behind : List ℕ) (es : List Event) → EventsOf cs (suc m) es
    → flat_map event_bytes es ++ behind ≡ rest → Standing (EventsOf cs m) event_bytes after behind
one_event_less cs m rest e after b behind [] h are = absurd (omega (arith, h.0))
one_event_less cs m rest e after b behind (f ∷ es) h are =
    let o = event_one cs e f after (flat_map event_bytes es ++ behind) b.fits h.1.0 (b.bytes_are ∙ sym are ∙ append_assoc (event_bytes f) (flat_map event_bytes es) behind) in
    record { things = es; fits = (omega (arith, h.0), h.1.1); are = sym o.1 }

pub events_on : (cs : List Column) (n m : ℕ) (bytes rest : List ℕ) (e : Event) (after : List ℕ) → Walk (EventsOf cs n) (EventsOf cs (suc m)) event_bytes bytes rest → Begins (EventOf cs) event_bytes rest e after
    → Walk (EventsOf cs n) (EventsOf cs m) event_bytes bytes after
events_on cs n m bytes rest e after w b =
    walk_on w e b.bytes_are (λ es h. (ap suc h.0, (b.fits, h.1))) (λ behind s. one_event_less cs m rest e after b behind s.things s.fits s.are)

some_event : (cs : List Column) (m : ℕ) (rest behind : List ℕ) (es : List Event) → EventsOf cs (suc m) es → flat_map event_bytes es ++ behind ≡ rest → NoneBegins (EventOf cs) event_bytes rest → ⊥
some_event cs m rest behind [] h are none = absurd (omega (arith, h.0))
some_event cs m rest behind (e ∷ es) h are none =
    none e (flat_map event_bytes es ++ behind) (record { fits = h.1.0; bytes_are = sym (append_assoc (event_bytes e) (flat_map event_bytes es) behind) ∙ are })

pub events_cut : (cs : List Column) (n m : ℕ) (bytes rest : List ℕ) → Walk (EventsOf cs n) (EventsOf cs (suc m)) event_bytes bytes rest → NoneBegins (EventOf cs) event_bytes rest
    → NoneBegins (EventsOf cs n) (flat_map event_bytes) bytes
events_cut cs n m bytes rest w none es behind b =
    let s = w.left behind (record { things = es; fits = b.fits; are = b.bytes_are }) in
    some_event cs m rest behind s.things s.fits s.are none

pub events_all : (cs : List Column) (n : ℕ) (bytes rest : List ℕ) → Walk (EventsOf cs n) (EventsOf cs 0) event_bytes bytes rest → (es : List Event) × Begins (EventsOf cs n) (flat_map event_bytes) bytes es rest
events_all cs n bytes rest w =
    let s = w.whole rest (record { things = []; fits = (refl, tt); are = refl }) in
    (s.things, record { fits = s.fits; bytes_are = s.are })
