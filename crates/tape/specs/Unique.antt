-- Proofs, not definitions: bytes can be read by the format in one way only, and so what a type says of the contents of its bytes has one
-- proof. They stand here, since the ghost members of types name them, and such a member may name nothing of proofs/.
use Rattle.std.proofs.Common.{◌≡◌, ℕ, ◌*◌, ◌/◌, ◌%◌, Bool, true, false, List, [], ◌∷◌, ◌++◌, length, take, drop, Some, None, Option, sym, refl, ap, ◌∙◌, subst, arith}
use Rattle.std.proofs.lemmas.List.{append_assoc, append-nil, take_at, drop_at}
use Rattle.std.proofs.Props.{props}
use mathlib.Core.HLevel.{Σ_prop_path}
use Rattle.std.specs.List.{flat_map, AllByRecursion}
use Rattle.mysql.specs.declared.bind.Column.{Column}
use Rattle.host.specs.Fields.{Field, null, held, HeldAt, FieldAt}
use Rattle.tape.specs.Format.{Event, row, failure, Contents, two, four, tag, field_bytes, event_bytes, column_bytes, RowOf, EventOf, ColumnsIn, EventsIn, Holds, RowContents, RowIn, TapeOf}

-- numbers

pub two_one : (n m : ℕ) (r s : List ℕ) → two n ++ r ≡ two m ++ s → (n ≡ m) × (r ≡ s)
two_one n m r s e =
    let a : n % 256 ≡ m % 256 = cc in
    let b : n / 256 ≡ m / 256 = cc in
    (omega arith, cc)

pub four_one : (n m : ℕ) (r s : List ℕ) → four n ++ r ≡ four m ++ s → (n ≡ m) × (r ≡ s)
four_one n m r s e =
    let a : n % 256 ≡ m % 256 = cc in
    let b : n / 256 % 256 ≡ m / 256 % 256 = cc in
    let c : n / 65536 % 256 ≡ m / 65536 % 256 = cc in
    let d : n / 16777216 ≡ m / 16777216 = cc in
    (omega arith, cc)

-- as many bytes, and what is after them
pub cut_one : (a b r s : List ℕ) → length a ≡ length b → a ++ r ≡ b ++ s → (a ≡ b) × (r ≡ s)
cut_one a b r s l e = (
  sym (take_at a r (length a) refl) ∙ ap (take (length a)) e ∙ take_at b s (length a) (sym l),
  sym (drop_at a r (length a) refl) ∙ ap (drop (length a)) e ∙ drop_at b s (length a) (sym l),
)

-- fields and events

pub held_one : (k l : Bool) (a b r s : List ℕ) → field_bytes (held k a) ++ r ≡ field_bytes (held l b) ++ s → (tag k ≡ tag l) × (a ≡ b) × (r ≡ s)
held_one k l a b r s e =
    let t : tag k ≡ tag l = cc in
    let u : four (length a) ++ (a ++ r) ≡ four (length b) ++ (b ++ s) = cc in
    let f = four_one (length a) (length b) (a ++ r) (b ++ s) u in
    let c = cut_one a b r s f.0 f.1 in
    (t, c.0, c.1)

pub field_one : (f g : Field) (r s : List ℕ) → field_bytes f ++ r ≡ field_bytes g ++ s → (f ≡ g) × (r ≡ s)
field_one null null r s e = (refl, cc)
field_one null (held false b) r s e = let z : ◌≡◌ {A = ℕ} 0 1 = cc in absurd (omega arith)
field_one null (held true b) r s e = let z : ◌≡◌ {A = ℕ} 0 2 = cc in absurd (omega arith)
field_one (held false a) null r s e = let z : ◌≡◌ {A = ℕ} 1 0 = cc in absurd (omega arith)
field_one (held true a) null r s e = let z : ◌≡◌ {A = ℕ} 2 0 = cc in absurd (omega arith)
field_one (held false a) (held false b) r s e = let h = held_one false false a b r s e in (ap (held false) h.1, h.2)
field_one (held true a) (held true b) r s e = let h = held_one true true a b r s e in (ap (held true) h.1, h.2)
field_one (held false a) (held true b) r s e = let h = held_one false true a b r s e in let z : ◌≡◌ {A = ℕ} 1 2 = h.0 in absurd (omega arith)
field_one (held true a) (held false b) r s e = let h = held_one true false a b r s e in let z : ◌≡◌ {A = ℕ} 2 1 = h.0 in absurd (omega arith)

pub fields_one : (cs : List Column) (fs gs : List Field) (r s : List ℕ) → RowOf cs fs → RowOf cs gs → flat_map field_bytes fs ++ r ≡ flat_map field_bytes gs ++ s → (fs ≡ gs) × (r ≡ s)
fields_one [] [] [] r s h k e = (refl, e)
fields_one [] (f ∷ fs) gs r s h k e = absurd h
fields_one [] [] (g ∷ gs) r s h k e = absurd k
fields_one (c ∷ cs) [] gs r s h k e = absurd h
fields_one (c ∷ cs) (f ∷ fs) [] r s h k e = absurd k
fields_one (c ∷ cs) (f ∷ fs) (g ∷ gs) r s h k e =
    let p = field_one f g (flat_map field_bytes fs ++ r) (flat_map field_bytes gs ++ s)
    (sym (append_assoc (field_bytes f) (flat_map field_bytes fs) r) ∙ e ∙ append_assoc (field_bytes g) (flat_map field_bytes gs) s) in
    let q = fields_one cs fs gs r s h.1 k.1 p.1 in
    (ap (λ x. x ∷ fs) p.0 ∙ ap (λ xs. g ∷ xs) q.0, q.1)

pub event_one : (cs : List Column) (e f : Event) (r s : List ℕ) → EventOf cs e → EventOf cs f → event_bytes e ++ r ≡ event_bytes f ++ s → (e ≡ f) × (r ≡ s)
event_one cs (row fs) (row gs) r s h k e =
    let t : flat_map field_bytes fs ++ r ≡ flat_map field_bytes gs ++ s = cc in
    let p = fields_one cs fs gs r s h k t in
    (ap row p.0, p.1)
event_one cs (row fs) (failure n) r s h k e = let z : ◌≡◌ {A = ℕ} 0 1 = cc in absurd (omega arith)
event_one cs (failure n) (row gs) r s h k e = let z : ◌≡◌ {A = ℕ} 1 0 = cc in absurd (omega arith)
event_one cs (failure n) (failure m) r s h k e =
    let t : two n ++ r ≡ two m ++ s = cc in
    let p = two_one n m r s t in
    (ap failure p.0, p.1)

pub events_one : (cs : List Column) (es fs : List Event) (r s : List ℕ) → length es ≡ length fs → AllByRecursion (EventOf cs) es → AllByRecursion (EventOf cs) fs → flat_map event_bytes es ++ r ≡ flat_map event_bytes fs ++ s → (es ≡ fs) × (r ≡ s)
events_one cs [] [] r s l h k e = (refl, e)
events_one cs [] (f ∷ fs) r s l h k e = absurd (omega arith)
events_one cs (e ∷ es) [] r s l h k q = absurd (omega arith)
events_one cs (e ∷ es) (f ∷ fs) r s l h k q =
    let p = event_one cs e f (flat_map event_bytes es ++ r) (flat_map event_bytes fs ++ s) h.0 k.0
    (sym (append_assoc (event_bytes e) (flat_map event_bytes es) r) ∙ q ∙ append_assoc (event_bytes f) (flat_map event_bytes fs) s) in
    let o = events_one cs es fs r s (omega arith) h.1 k.1 p.1 in
    (ap (λ x. x ∷ es) p.0 ∙ ap (λ xs. f ∷ xs) o.0, o.1)

-- columns

pub column_one : (c d : Column) (r s : List ℕ) → column_bytes c ++ r ≡ column_bytes d ++ s → (c ≡ d) × (r ≡ s)
column_one c d r s e =
    let a : c.code ≡ d.code = cc in
    let t : four c.flags ++ r ≡ four d.flags ++ s = cc in
    let p = four_one c.flags d.flags r s t in
    (◌∙◌ {b = record { code = d.code; flags = c.flags }} (ap (λ (k : ℕ). record { code = k; flags = c.flags }) a) (ap (λ (n : ℕ). record { code = d.code; flags = n }) p.0), p.1)

pub columns_one : (cs ds : List Column) → flat_map column_bytes cs ≡ flat_map column_bytes ds → cs ≡ ds
columns_one [] [] e = refl
columns_one [] (d ∷ ds) e = absurd (omega (arith, ap length e))
columns_one (c ∷ cs) [] e = absurd (omega (arith, ap length e))
columns_one (c ∷ cs) (d ∷ ds) e =
    let p = column_one c d (flat_map column_bytes cs) (flat_map column_bytes ds) e in
    ap (λ x. x ∷ cs) p.0 ∙ ap (λ xs. d ∷ xs) (columns_one cs ds p.1)

pub columns_long : (cs : List Column) → length (flat_map column_bytes cs) ≡ length cs * 5
columns_long [] = refl
columns_long (c ∷ cs) = omega (arith, columns_long cs)

pub columns_in_one : (bytes : List ℕ) (cs ds : List Column) → ColumnsIn bytes cs → ColumnsIn bytes ds → cs ≡ ds
columns_in_one bytes cs ds h k = columns_one cs ds (h.bytes_are ∙ sym k.bytes_are)

-- contents

contents_is : (t u : Contents) → t.columns ≡ u.columns → t.events ≡ u.events → t ≡ u
contents_is t u a b = ap (λ (cs : List Column). record { columns = cs; events = t.events }) a ∙ ap (λ (es : List Event). record { columns = u.columns; events = es }) b

events_in_one : (cs : List Column) (bytes : List ℕ) (count : ℕ) (es fs : List Event) → EventsIn cs bytes count es → EventsIn cs bytes count fs → es ≡ fs
events_in_one cs bytes count es fs h k =
    (events_one cs es fs [] [] (h.events_of.0 ∙ sym k.events_of.0) h.events_of.1 k.events_of.1
    (append-nil (flat_map event_bytes es) ∙ h.bytes_are ∙ sym (append-nil (flat_map event_bytes fs) ∙ k.bytes_are))).0

pub contents_one : (columns events : List ℕ) (count : ℕ) (t u : Contents) → Holds columns events count t → Holds columns events count u → t ≡ u
contents_one columns events count t u h k =
    let a = columns_in_one columns t.columns u.columns h.columns_in k.columns_in in
    contents_is t u a
    (events_in_one u.columns events count t.events u.events (subst (λ cs. EventsIn cs events count t.events) a h.events_in) k.events_in)

pub tape_one : (bytes : List ℕ) (t u : Contents) → TapeOf bytes t → TapeOf bytes u → t ≡ u
tape_one bytes t u h k =
    let e = h.bytes_are ∙ sym k.bytes_are in
    let w = two_one (length t.columns) (length u.columns) _ _ e in
    let n = two_one (length t.events) (length u.events) _ _ w.1 in
    let q = cut_one (flat_map column_bytes t.columns) (flat_map column_bytes u.columns) (flat_map event_bytes t.events) (flat_map event_bytes u.events)
    (columns_long t.columns ∙ ap (λ k. k * 5) w.0 ∙ sym (columns_long u.columns)) n.1 in
    let c = columns_one t.columns u.columns q.0 in
    contents_is t u c
    (events_one u.columns t.events u.events [] [] n.0 (subst (λ cs. AllByRecursion (EventOf cs) t.events) c h.events_of) k.events_of (ap (λ bs. bs ++ []) q.1)).0

pub row_one : (columns bytes : List ℕ) (p q : RowContents) → RowIn columns bytes p → RowIn columns bytes q → p ≡ q
row_one columns bytes p q h k =
    let a = columns_in_one columns p.columns q.columns h.columns_in k.columns_in in
    let b = fields_one q.columns p.fields q.fields p.rest q.rest (subst (λ cs. RowOf cs p.fields) a h.row_of) k.row_of (h.bytes_are ∙ sym k.bytes_are) in
    ap (λ (cs : List Column). record { columns = cs; fields = p.fields; rest = p.rest }) a
    ∙ ap (λ (fs : List Field). record { columns = q.columns; fields = fs; rest = p.rest }) b.0
    ∙ ap (λ (r : List ℕ). record { columns = q.columns; fields = q.fields; rest = r }) b.1

-- facts have one proof

HeldAt-prop : (s : Option ℕ) (lost : Bool) (bs : List ℕ) → IsProp (HeldAt s lost bs)
HeldAt-prop None lost bs = hlevel props
HeldAt-prop (Some size) lost bs = hlevel props

FieldAt-prop : (code : ℕ) (f : Field) → IsProp (FieldAt code f)
FieldAt-prop code null = hlevel props
FieldAt-prop code (held lost bs) = hlevel (props, HeldAt-prop)

RowOf-prop : (cs : List Column) (fs : List Field) → IsProp (RowOf cs fs)
RowOf-prop [] [] = hlevel props
RowOf-prop [] (f ∷ fs) = hlevel props
RowOf-prop (c ∷ cs) [] = hlevel props
RowOf-prop (c ∷ cs) (f ∷ fs) = hlevel (FieldAt-prop c.code f, RowOf-prop cs fs)

EventOf-prop : (cs : List Column) (e : Event) → IsProp (EventOf cs e)
EventOf-prop cs (row fs) = RowOf-prop cs fs
EventOf-prop cs (failure n) = hlevel props

Holds-prop : (columns events : List ℕ) (count : ℕ) (t : Contents) → IsProp (Holds columns events count t)
Holds-prop columns events count t = hlevel (props, EventOf-prop)

RowIn-prop : (columns bytes : List ℕ) (p : RowContents) → IsProp (RowIn columns bytes p)
RowIn-prop columns bytes p = hlevel (props, RowOf-prop)

pub one_contents : (columns events : List ℕ) (count : ℕ) → IsProp ((t : Contents) × Holds columns events count t)
one_contents columns events count x y = Σ_prop_path (Holds-prop columns events count) (contents_one columns events count x.0 y.0 x.1 y.1)

pub one_row : (columns bytes : List ℕ) → IsProp ((p : RowContents) × RowIn columns bytes p)
one_row columns bytes x y = Σ_prop_path (RowIn-prop columns bytes) (row_one columns bytes x.0 y.0 x.1 y.1)
