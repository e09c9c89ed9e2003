-- The rules in words, from the rules by the order of checks.
use Rattle.std.proofs.Common.{◌≡◌, ℕ, zero, suc, ◌+◌, ◌<◌, ◌≤◌, Bool, true, false, cond, ◌&&◌, ◌==◌, ltb, List, [], ◌∷◌, length, get_or, is_some, Some, None, Ok, Err, Option, Result, ◌≢◌, sym, refl, ap, ◌∙◌, subst, arith}
use Rattle.std.proofs.lemmas.Bool.{ltb-true, ltb-false}
use Rattle.mysql.specs.declared.backend.MysqlType.{MysqlType}
use Rattle.mysql.specs.declared.bind.Column.{Column}
use Rattle.mysql.specs.declared.fault.Fault.{Fault}
use Rattle.mysql.specs.declared.fault.Refusal.TheVariants.{Unopened, AlreadyOpened, ArenaLength, NoSuchColumn, UnknownFlags, LayoutTooLong, NumericOverflow, NoRoom, NoType}
use Rattle.mysql.specs.Answers.{next}
use Rattle.mysql.specs.Faults.{refused, host_failed, at_column}
use Rattle.mysql.specs.Kept.{keeps}
use Rattle.mysql.specs.Taken.{own_pair, taken_pair}
use Rattle.mysql.specs.Refusals.{number_of}
use Rattle.mysql.specs.declared.backend.MysqlType.TheVariants as types
use Rattle.mysql.specs.Ranges.{between, among}
use Rattle.mysql.specs.Types.{size_of, type_of, by_sign, text_type, has, known, pair_of}
use Rattle.host.specs.Fields.{Field, held}
use Rattle.host.specs.Fields as field
use Rattle.host.specs.Meanings.{Row, Event, Meaning}
use Rattle.host.specs.Meanings as event
use Rattle.host.specs.Calls.{unsupported_type}
use Rattle.layout.specs.Tables.{opening_size, no_pair}
use Rattle.rows.specs.Bounds.{wanted_of, with_pair, bound_from, bound, all_carried, field_at, loses, first_loss, row_need}
use Rattle.rows.specs.Dues as dues
use Rattle.play.specs.Histories.{Said, opened, row, end, null, bytes, number, moment, refused_with, Entry, granted, bound_with}
use Rattle.play.specs.Rules.{opening_said, fetch_said, fetch_due, shown_said}
use Rattle.play.specs.Words.{When, Lowest, OwnTaken, UnknownTaken, First, BoundAs, Carried, OpeningWhen, type_at, ReadingWhen, LosesAt, LosesNone, RowNext, FetchWhen}

-- lowest numbers

lowest_here : (P : ℕ → Type 0) (n : ℕ) → P 0 → Lowest P (suc n) 0
lowest_here P n p = record { within = omega arith; holds = p; none_before = λ j l q. absurd (omega arith) }

lowest_next : (P : ℕ → Type 0) (n k : ℕ) → (P 0 → ⊥) → Lowest (λ j. P (suc j)) n k → Lowest P (suc n) (suc k)
lowest_next P n k nope l = record { within = let w = l.within in omega arith; holds = l.holds; none_before = none }
  where
    none : (j : ℕ) → j < suc k → P j → ⊥
    none zero h p = nope p
    none (suc j) h p = l.none_before j (omega arith) p

lowest_same : (P : ℕ → Type 0) (n j k : ℕ) → Lowest P n j → Lowest P n k → j ≡ k
lowest_same P n j k a b = by (ltb j k) (ltb k j) refl refl
  where
    by : (x y : Bool) → ltb j k ≡ x → ltb k j ≡ y → j ≡ k
    by true y e f = absurd (b.none_before j (ltb-true j k e) a.holds)
    by false true e f = absurd (a.none_before k (ltb-true k j f) b.holds)
    by false false e f = let p = ltb-false j k e in let q = ltb-false k j f in omega arith

-- the same holds of two properties
lowest_of : (P Q : ℕ → Type 0) (n k : ℕ) → ((j : ℕ) → P j → Q j) → ((j : ℕ) → Q j → P j) → Lowest P n k → Lowest Q n k
lowest_of P Q n k f g l = record { within = l.within; holds = f k l.holds; none_before = λ j h q. l.none_before j h (g j q) }

-- carried codes

abbrev CarriedFrom : (ℕ → ℕ → Bool) → ℕ → List Column → ℕ → Type 0
CarriedFrom carries i ps k = carries (i + k) (get_or ps k no_pair).code ≡ true

both : (a b : Bool) → (a && b) ≡ true → (a ≡ true) × (b ≡ true)
both true b e = (refl, e)
both false b e = cc

carried_all : (carries : ℕ → ℕ → Bool) (i : ℕ) (ps : List Column) → all_carried carries i ps ≡ true → (k : ℕ) → k < length ps → CarriedFrom carries i ps k
carried_all carries i [] e k l = absurd (omega arith)
carried_all carries i (c ∷ cs) e zero l = let z : i + 0 ≡ i = omega arith in ap (λ (j : ℕ). carries j c.code) z ∙ (both (carries i c.code) (all_carried carries (suc i) cs) e).0
carried_all carries i (c ∷ cs) e (suc k) l =
    let z : i + suc k ≡ suc i + k = omega arith in
    ap (λ (j : ℕ). carries j (get_or cs k no_pair).code) z ∙ carried_all carries (suc i) cs (both (carries i c.code) (all_carried carries (suc i) cs) e).1 k (omega arith)

-- if each is, all are
all_are : (carries : ℕ → ℕ → Bool) (i : ℕ) (ps : List Column) → ((k : ℕ) → k < length ps → CarriedFrom carries i ps k) → all_carried carries i ps ≡ true
all_are carries i [] h = refl
all_are carries i (c ∷ cs) h =
    let z : i ≡ i + 0 = omega arith in
    rw (ap (λ (j : ℕ). carries j c.code) z ∙ h 0 (omega arith))
    (all_are carries (suc i) cs (λ k l. let y : suc i + k ≡ i + suc k = omega arith in ap (λ (j : ℕ). carries j (get_or cs k no_pair).code) y ∙ h (suc k) (omega arith)))

abbrev Lacking : (ℕ → ℕ → Bool) → ℕ → List Column → Type 0
Lacking carries i ps = (k : ℕ) × (k < length ps) × (CarriedFrom carries i ps k → ⊥)

lacking_by : (carries : ℕ → ℕ → Bool) (i : ℕ) (c : Column) (cs : List Column) (b : Bool) → carries i c.code ≡ b → (all_carried carries (suc i) cs ≡ false → Lacking carries (suc i) cs) → (b && all_carried carries (suc i) cs) ≡ false
    → Lacking carries i (c ∷ cs)
lacking_by carries i c cs false f rest e = (0, omega arith, λ h. let z : i + 0 ≡ i = omega arith in let y : true ≡ false = sym h ∙ ap (λ (j : ℕ). carries j c.code) z ∙ f in cc)
lacking_by carries i c cs true f rest e =
    let l = rest e in
    (suc l.0, let w = l.1 in omega arith, λ h. let z : suc i + l.0 ≡ i + suc l.0 = omega arith in l.2 (ap (λ (j : ℕ). carries j (get_or cs l.0 no_pair).code) z ∙ h))

lacking : (carries : ℕ → ℕ → Bool) (i : ℕ) (ps : List Column) → all_carried carries i ps ≡ false → Lacking carries i ps
lacking carries i [] e = cc
lacking carries i (c ∷ cs) e = lacking_by carries i c cs (carries i c.code) refl (lacking carries (suc i) cs) e

-- bound columns

-- the flags of the k-th column from i on are taken, and not known
record UnknownFrom (wanted : List (Option MysqlType)) (i : ℕ) (cs : List Column) (k : ℕ) : Type 0 where
  own : OwnTaken (wanted_of wanted (i + k)) (get_or cs k no_pair)
  unknown : known (get_or cs k no_pair).flags ≡ false

-- what is bound of a column, by whether its flags are taken and not known
data Pairing (o : Option MysqlType) (c : Column) (r : Result (ℕ × ℕ) Fault) : Type 0 where
  is_known : (OwnTaken o c → known c.flags ≡ true) → (p : ℕ × ℕ) → r ≡ Ok p → Pairing o c r
  is_unknown : OwnTaken o c → known c.flags ≡ false → r ≡ Err (refused UnknownFlags) → Pairing o c r

own_pairing : (o : Option MysqlType) (c : Column) (b : Bool) → known c.flags ≡ b → OwnTaken o c → Pairing o c (cond b (Ok (c.code, c.flags)) (Err (refused UnknownFlags)))
own_pairing o c true e own = is_known (λ q. e) (c.code, c.flags) refl
own_pairing o c false e own = is_unknown own e refl

wanted_pairing : (t : MysqlType) (c : Column) (b : Bool) → keeps t c.code ≡ b → Pairing (Some t) c (cond b (own_pair c.code c.flags) (Ok (pair_of t)))
wanted_pairing t c true e = own_pairing (Some t) c (known c.flags) refl e
wanted_pairing t c false e = is_known (λ q. let y : true ≡ false = sym q ∙ e in cc) (pair_of t) refl

pairing : (o : Option MysqlType) (c : Column) → Pairing o c (taken_pair o c.code c.flags)
pairing None c = own_pairing None c (known c.flags) refl tt
pairing (Some t) c = wanted_pairing t c (keeps t c.code) refl

-- all flags that are taken are known, or the lowest that is not
data Binding (wanted : List (Option MysqlType)) (i : ℕ) (cs : List Column) (r : Result (List Column) Fault) : Type 0 where
  all_known : ((k : ℕ) → k < length cs → UnknownFrom wanted i cs k → ⊥) → (ps : List Column) → r ≡ Ok ps → Binding wanted i cs r
  one_unknown : (k : ℕ) → Lowest (UnknownFrom wanted i cs) (length cs) k → r ≡ Err (at_column (refused UnknownFlags) (i + k)) → Binding wanted i cs r

unknown_on : (wanted : List (Option MysqlType)) (i : ℕ) (c : Column) (cs : List Column) (k : ℕ) → UnknownFrom wanted (suc i) cs k → UnknownFrom wanted i (c ∷ cs) (suc k)
unknown_on wanted i c cs k u = let z : suc i + k ≡ i + suc k = omega arith in record { own = subst (λ (j : ℕ). OwnTaken (wanted_of wanted j) (get_or cs k no_pair)) z u.own; unknown = u.unknown }

unknown_back : (wanted : List (Option MysqlType)) (i : ℕ) (c : Column) (cs : List Column) (k : ℕ) → UnknownFrom wanted i (c ∷ cs) (suc k) → UnknownFrom wanted (suc i) cs k
unknown_back wanted i c cs k u = let z : i + suc k ≡ suc i + k = omega arith in record { own = subst (λ (j : ℕ). OwnTaken (wanted_of wanted j) (get_or cs k no_pair)) z u.own; unknown = u.unknown }

module _ (wanted : List (Option MysqlType)) (i : ℕ) (c : Column) (cs : List Column) where
  known_first : (OwnTaken (wanted_of wanted i) c → known c.flags ≡ true) → UnknownFrom wanted i (c ∷ cs) 0 → ⊥
  known_first h u =
      let z : i + 0 ≡ i = omega arith in
      let y : true ≡ false = sym (h (subst (λ (j : ℕ). OwnTaken (wanted_of wanted j) c) z u.own)) ∙ u.unknown in cc

  none_known : (OwnTaken (wanted_of wanted i) c → known c.flags ≡ true) → ((k : ℕ) → k < length cs → UnknownFrom wanted (suc i) cs k → ⊥) → (k : ℕ) → k < suc (length cs) → UnknownFrom wanted i (c ∷ cs) k → ⊥
  none_known h g zero l u = known_first h u
  none_known h g (suc k) l u = g k (omega arith) (unknown_back wanted i c cs k u)

  bind_more : (r : Result (ℕ × ℕ) Fault) (rest : Result (List Column) Fault) → Pairing (wanted_of wanted i) c r → Binding wanted (suc i) cs rest → Binding wanted i (c ∷ cs) (with_pair i r rest)
  bind_more r rest (is_unknown own u e) b =
      let z : i ≡ i + 0 = omega arith in
      one_unknown 0
      (lowest_here (UnknownFrom wanted i (c ∷ cs)) (length cs) (record { own = subst (λ (j : ℕ). OwnTaken (wanted_of wanted j) c) z own; unknown = u }))
      (ap (λ (x : Result (ℕ × ℕ) Fault). with_pair i x rest) e ∙ ap (λ (j : ℕ). Err (at_column (refused UnknownFlags) j)) z)
  bind_more r rest (is_known h p e) (all_known g ps e') =
      all_known (none_known h g) (record { code = p.0; flags = p.1 } ∷ ps) (rw (e, e') refl)
  bind_more r rest (is_known h p e) (one_unknown k l e') =
      let z : suc i + k ≡ i + suc k = omega arith in
      one_unknown (suc k)
      (lowest_next (UnknownFrom wanted i (c ∷ cs)) (length cs) k (known_first h)
      (lowest_of (UnknownFrom wanted (suc i) cs) (λ j. UnknownFrom wanted i (c ∷ cs) (suc j)) (length cs) k (unknown_on wanted i c cs) (unknown_back wanted i c cs) l))
      (rw (e, e') (ap (λ (j : ℕ). Err (at_column (refused UnknownFlags) j)) z))

binding : (wanted : List (Option MysqlType)) (i : ℕ) (cs : List Column) → Binding wanted i cs (bound_from wanted i cs)
binding wanted i [] = all_known (λ k l u. absurd (omega arith)) [] refl
binding wanted i (c ∷ cs) = bind_more wanted i c cs (taken_pair (wanted_of wanted i) c.code c.flags) (bound_from wanted (suc i) cs) (pairing (wanted_of wanted i) c) (binding wanted (suc i) cs)

-- of all columns
first_unknown : (wanted : List (Option MysqlType)) (cs : List Column) (k : ℕ) → UnknownFrom wanted 0 cs k → UnknownTaken wanted cs k
first_unknown wanted cs k u = let z : 0 + k ≡ k = omega arith in record { own = subst (λ (j : ℕ). OwnTaken (wanted_of wanted j) (get_or cs k no_pair)) z u.own; unknown = u.unknown }

from_unknown : (wanted : List (Option MysqlType)) (cs : List Column) (k : ℕ) → UnknownTaken wanted cs k → UnknownFrom wanted 0 cs k
from_unknown wanted cs k u = let z : k ≡ 0 + k = omega arith in record { own = subst (λ (j : ℕ). OwnTaken (wanted_of wanted j) (get_or cs k no_pair)) z u.own; unknown = u.unknown }

-- lost figures

abbrev LosesFrom : Row → ℕ → List Column → ℕ → Type 0
LosesFrom r i ps k = loses (size_of (get_or ps k no_pair).code) (field_at r (i + k) (get_or ps k no_pair)) ≡ true

data Losing (r : Row) (i : ℕ) (ps : List Column) (o : Option ℕ) : Type 0 where
  none_lost : ((k : ℕ) → k < length ps → LosesFrom r i ps k → ⊥) → o ≡ None → Losing r i ps o
  one_lost : (k : ℕ) → Lowest (LosesFrom r i ps) (length ps) k → o ≡ Some (i + k) → Losing r i ps o

module _ (r : Row) (i : ℕ) (c : Column) (cs : List Column) where
  loses_on : (k : ℕ) → LosesFrom r (suc i) cs k → LosesFrom r i (c ∷ cs) (suc k)
  loses_on k h = let z : suc i + k ≡ i + suc k = omega arith in subst (λ (j : ℕ). loses (size_of (get_or cs k no_pair).code) (field_at r j (get_or cs k no_pair)) ≡ true) z h

  loses_back : (k : ℕ) → LosesFrom r i (c ∷ cs) (suc k) → LosesFrom r (suc i) cs k
  loses_back k h = let z : i + suc k ≡ suc i + k = omega arith in subst (λ (j : ℕ). loses (size_of (get_or cs k no_pair).code) (field_at r j (get_or cs k no_pair)) ≡ true) z h

  keeps_first : loses (size_of c.code) (field_at r i c) ≡ false → LosesFrom r i (c ∷ cs) 0 → ⊥
  keeps_first e h = let z : i ≡ i + 0 = omega arith in let y : false ≡ true = sym e ∙ ap (λ (j : ℕ). loses (size_of c.code) (field_at r j c)) z ∙ h in cc

  none_before_it : loses (size_of c.code) (field_at r i c) ≡ false → ((k : ℕ) → k < length cs → LosesFrom r (suc i) cs k → ⊥) → (k : ℕ) → k < suc (length cs) → LosesFrom r i (c ∷ cs) k → ⊥
  none_before_it e g zero l h = keeps_first e h
  none_before_it e g (suc k) l h = g k (omega arith) (loses_back k h)

  lose_more : (b : Bool) (rest : Option ℕ) → loses (size_of c.code) (field_at r i c) ≡ b → Losing r (suc i) cs rest → Losing r i (c ∷ cs) (cond b (Some i) rest)
  lose_more true rest e l =
      let z : i ≡ i + 0 = omega arith in
      one_lost 0 (lowest_here (LosesFrom r i (c ∷ cs)) (length cs) (ap (λ (j : ℕ). loses (size_of c.code) (field_at r j c)) (sym z) ∙ e)) (ap Some z)
  lose_more false rest e (none_lost g o) = none_lost (none_before_it e g) o
  lose_more false rest e (one_lost k l o) =
      let z : suc i + k ≡ i + suc k = omega arith in
      one_lost (suc k)
      (lowest_next (LosesFrom r i (c ∷ cs)) (length cs) k (keeps_first e)
      (lowest_of (LosesFrom r (suc i) cs) (λ j. LosesFrom r i (c ∷ cs) (suc j)) (length cs) k loses_on loses_back l))
      (o ∙ ap Some z)

losing : (r : Row) (i : ℕ) (ps : List Column) → Losing r i ps (first_loss r i ps)
losing r i [] = none_lost (λ k l h. absurd (omega arith)) refl
losing r i (c ∷ cs) = lose_more r i c cs (loses (size_of c.code) (field_at r i c)) (first_loss r (suc i) cs) refl (losing r (suc i) cs)

loses_first : (r : Row) (ps : List Column) (k : ℕ) → LosesFrom r 0 ps k → LosesAt r ps k
loses_first r ps k h = let z : 0 + k ≡ k = omega arith in subst (λ (j : ℕ). loses (size_of (get_or ps k no_pair).code) (field_at r j (get_or ps k no_pair)) ≡ true) z h

loses_from : (r : Row) (ps : List Column) (k : ℕ) → LosesAt r ps k → LosesFrom r 0 ps k
loses_from r ps k h = let z : k ≡ 0 + k = omega arith in subst (λ (j : ℕ). loses (size_of (get_or ps k no_pair).code) (field_at r j (get_or ps k no_pair)) ≡ true) z h

-- what is said, told apart by a number
abbrev kind : Said → ℕ
kind opened = 1
kind row = 2
kind end = 3
kind null = 4
kind (bytes t bs) = 5
kind (number n) = 6
kind (moment t) = 7
kind (refused_with f) = 10 + number_of f.refusal

clash : (x s t : Said) → x ≡ s → x ≡ t → (kind s ≡ kind t → ⊥) → ⊥
clash x s t e q h = h (ap kind (sym e ∙ q))

never : {A B : Type 0} → (A → ⊥) → (B → ⊥) → When A B
never f g = (λ a. absurd (f a), λ b. absurd (g b))

exactly : {A B : Type 0} → A → B → When A B
exactly a b = (λ x. b, λ x. a)

-- fetches

no_row : {P : Row → Type 0} → RowNext [] P → ⊥
no_row w = let y = w.next in cc

no_row_at_failure : {P : Row → Type 0} (k : ℕ) (es : List Event) → RowNext (event.failure k ∷ es) P → ⊥
no_row_at_failure k es w = let y = w.next in cc

-- the row that is next is this one
of_row : {P : Row → Type 0} (r : Row) (es : List Event) → RowNext (event.row r ∷ es) P → P r
of_row {P = P} r es w = let y = w.next in let same : w.fields ≡ r = cc in subst P same w.holds

this_row : {P : Row → Type 0} (r : Row) (es : List Event) → P r → RowNext (event.row r ∷ es) P
this_row r es p = record { fields = r; rest = es; next = refl; holds = p }

module _ (n : ℕ) (pairs : List Column) (said : Said) where
  at_end : said ≡ end → FetchWhen n pairs [] said
  at_end e =
      record {
        ended = exactly e refl;
        failed = λ k. never (λ q. clash said end (refused_with (host_failed k)) e q (λ y. omega arith)) (λ w. let y = w.1 in cc);
        lost_figure = λ k. never (λ q. clash said end (refused_with (at_column (refused NumericOverflow) k)) e q (λ y. omega arith)) no_row;
        no_room = never (λ q. clash said end (refused_with (refused NoRoom)) e q (λ y. omega arith)) no_row;
        shown = never (λ q. clash said end row e q (λ y. omega arith)) no_row;
      }

  at_failure : (j : ℕ) (es : List Event) → said ≡ refused_with (host_failed j) → FetchWhen n pairs (event.failure j ∷ es) said
  at_failure j es e =
      record {
        ended = never (λ q. clash said (refused_with (host_failed j)) end e q (λ y. omega arith)) (λ w. cc);
        failed = λ k. (
          λ q. let y : refused_with (host_failed j) ≡ refused_with (host_failed k) = sym e ∙ q in let f : host_failed j ≡ host_failed k = cc in (es, ap (λ (x : Fault). event.failure x.host ∷ es) f),
          λ w. let y = w.1 in let same : j ≡ k = cc in e ∙ ap (λ (x : ℕ). refused_with (host_failed x)) same,
        );
        lost_figure = λ k. never (λ q. clash said (refused_with (host_failed j)) (refused_with (at_column (refused NumericOverflow) k)) e q (λ y. omega arith)) (no_row_at_failure j es);
        no_room = never (λ q. clash said (refused_with (host_failed j)) (refused_with (refused NoRoom)) e q (λ y. omega arith)) (no_row_at_failure j es);
        shown = never (λ q. clash said (refused_with (host_failed j)) row e q (λ y. omega arith)) (no_row_at_failure j es);
      }

  at_loss : (r : Row) (es : List Event) (j : ℕ) → Lowest (LosesAt r pairs) (length pairs) j → said ≡ refused_with (at_column (refused NumericOverflow) j) → FetchWhen n pairs (event.row r ∷ es) said
  at_loss r es j l e =
      record {
        ended = never (λ q. clash said (refused_with (at_column (refused NumericOverflow) j)) end e q (λ y. omega arith)) (λ w. cc);
        failed = λ k. never (λ q. clash said (refused_with (at_column (refused NumericOverflow) j)) (refused_with (host_failed k)) e q (λ y. omega arith)) (λ w. let y = w.1 in cc);
        lost_figure = λ k. (
          λ q.
              let y : refused_with (at_column (refused NumericOverflow) j) ≡ refused_with (at_column (refused NumericOverflow) k) = sym e ∙ q in
              let f : at_column (refused NumericOverflow) j ≡ at_column (refused NumericOverflow) k = cc in
              this_row r es (subst (Lowest (LosesAt r pairs) (length pairs)) (ap (λ (x : Fault). x.column) f) l),
          λ w. e ∙ ap (λ (x : ℕ). refused_with (at_column (refused NumericOverflow) x)) (lowest_same (LosesAt r pairs) (length pairs) j k l (of_row r es w)),
        );
        no_room = never (λ q. clash said (refused_with (at_column (refused NumericOverflow) j)) (refused_with (refused NoRoom)) e q (λ y. omega arith)) (λ w. let x : LosesNone r pairs × (n < row_need r 0 pairs) = of_row r es w in x.0 j l.within l.holds);
        shown = never (λ q. clash said (refused_with (at_column (refused NumericOverflow) j)) row e q (λ y. omega arith)) (λ w. let x : LosesNone r pairs × (row_need r 0 pairs ≤ n) = of_row r es w in x.0 j l.within l.holds);
      }

  no_room_left : (r : Row) (es : List Event) → LosesNone r pairs → n < row_need r 0 pairs → said ≡ refused_with (refused NoRoom) → FetchWhen n pairs (event.row r ∷ es) said
  no_room_left r es none l e =
      record {
        ended = never (λ q. clash said (refused_with (refused NoRoom)) end e q (λ y. omega arith)) (λ w. cc);
        failed = λ k. never (λ q. clash said (refused_with (refused NoRoom)) (refused_with (host_failed k)) e q (λ y. omega arith)) (λ w. let y = w.1 in cc);
        lost_figure = λ k. never (λ q. clash said (refused_with (refused NoRoom)) (refused_with (at_column (refused NumericOverflow) k)) e q (λ y. omega arith)) (λ w. let x = of_row r es w in none k x.within x.holds);
        no_room = exactly e (this_row r es (none, l));
        shown = never (λ q. clash said (refused_with (refused NoRoom)) row e q (λ y. omega arith)) (λ w. let x : LosesNone r pairs × (row_need r 0 pairs ≤ n) = of_row r es w in let y = x.1 in omega arith);
      }

  is_shown : (r : Row) (es : List Event) → LosesNone r pairs → row_need r 0 pairs ≤ n → said ≡ row → FetchWhen n pairs (event.row r ∷ es) said
  is_shown r es none l e =
      record {
        ended = never (λ q. clash said row end e q (λ y. omega arith)) (λ w. cc);
        failed = λ k. never (λ q. clash said row (refused_with (host_failed k)) e q (λ y. omega arith)) (λ w. let y = w.1 in cc);
        lost_figure = λ k. never (λ q. clash said row (refused_with (at_column (refused NumericOverflow) k)) e q (λ y. omega arith)) (λ w. let x = of_row r es w in none k x.within x.holds);
        no_room = never (λ q. clash said row (refused_with (refused NoRoom)) e q (λ y. omega arith)) (λ w. let x : LosesNone r pairs × (n < row_need r 0 pairs) = of_row r es w in let y = x.1 in omega arith);
        shown = exactly e (this_row r es (none, l));
      }

  at_row : (r : Row) (es : List Event) (o : Option ℕ) (long : Bool) → Losing r 0 pairs o → ltb n (row_need r 0 pairs) ≡ long → said ≡ fetch_said (dues.row_fetched o long) → FetchWhen n pairs (event.row r ∷ es) said
  at_row r es o long (one_lost k l q) z e =
      at_loss r es k (lowest_of (LosesFrom r 0 pairs) (LosesAt r pairs) (length pairs) k (loses_first r pairs) (loses_from r pairs) l)
      (e ∙ ap (λ (x : Option ℕ). fetch_said (dues.row_fetched x long)) q ∙ (let y : 0 + k ≡ k = omega arith in ap (λ (j : ℕ). refused_with (at_column (refused NumericOverflow) j)) y))
  at_row r es o true (none_lost h q) z e =
      no_room_left r es (λ k l p. h k l (loses_from r pairs k p)) (ltb-true n (row_need r 0 pairs) z) (e ∙ ap (λ (x : Option ℕ). fetch_said (dues.row_fetched x true)) q)
  at_row r es o false (none_lost h q) z e =
      is_shown r es (λ k l p. h k l (loses_from r pairs k p)) (ltb-false n (row_need r 0 pairs) z) (e ∙ ap (λ (x : Option ℕ). fetch_said (dues.row_fetched x false)) q)

  pub fetch_when : (coming : List Event) → said ≡ fetch_said (dues.fetched pairs n coming) → FetchWhen n pairs coming said
  fetch_when [] e = at_end e
  fetch_when (event.failure k ∷ es) e = at_failure k es e
  fetch_when (event.row r ∷ es) e = at_row r es (first_loss r 0 pairs) (ltb n (row_need r 0 pairs)) (losing r 0 pairs) refl e

-- openings
module _ (m : Meaning) (n : ℕ) (before : List Entry) (wanted : List (Option MysqlType)) (said : Said) where
  -- an opening was granted before
  again : (granted before ≢ None) → said ≡ refused_with (refused AlreadyOpened) → OpeningWhen m n before wanted said
  again some e =
      record {
        already_opened = exactly e some;
        arena_length = never (λ q. clash said (refused_with (refused AlreadyOpened)) (refused_with (refused ArenaLength)) e q (λ y. omega arith)) (λ w. some w.0);
        unknown_flags = λ k. never (λ q. clash said (refused_with (refused AlreadyOpened)) (refused_with (at_column (refused UnknownFlags) k)) e q (λ y. omega arith)) (λ w. some w.0.none_before);
        too_long = never (λ q. clash said (refused_with (refused AlreadyOpened)) (refused_with (refused LayoutTooLong)) e q (λ y. omega arith)) (λ w. some w.is_first.none_before);
        not_carried = never (λ q. clash said (refused_with (refused AlreadyOpened)) (refused_with (host_failed unsupported_type)) e q (λ y. omega arith)) (λ w. some w.is_first.none_before);
        granted_when = never (λ q. clash said (refused_with (refused AlreadyOpened)) opened e q (λ y. omega arith)) (λ w. some w.is_first.none_before);
      }

  long_arena : granted before ≡ None → 65536 < n → said ≡ refused_with (refused ArenaLength) → OpeningWhen m n before wanted said
  long_arena none l e =
      record {
        already_opened = never (λ q. clash said (refused_with (refused ArenaLength)) (refused_with (refused AlreadyOpened)) e q (λ y. omega arith)) (λ w. w none);
        arena_length = exactly e (none, l);
        unknown_flags = λ k. never (λ q. clash said (refused_with (refused ArenaLength)) (refused_with (at_column (refused UnknownFlags) k)) e q (λ y. omega arith)) (λ w. let x = w.0.short in omega arith);
        too_long = never (λ q. clash said (refused_with (refused ArenaLength)) (refused_with (refused LayoutTooLong)) e q (λ y. omega arith)) (λ w. let x = w.is_first.short in omega arith);
        not_carried = never (λ q. clash said (refused_with (refused ArenaLength)) (refused_with (host_failed unsupported_type)) e q (λ y. omega arith)) (λ w. let x = w.is_first.short in omega arith);
        granted_when = never (λ q. clash said (refused_with (refused ArenaLength)) opened e q (λ y. omega arith)) (λ w. let x = w.is_first.short in omega arith);
      }

  module _ (is_first : First n before) where
    flags_unknown : (j : ℕ) → Lowest (UnknownTaken wanted m.columns) (length m.columns) j → said ≡ refused_with (at_column (refused UnknownFlags) j) → OpeningWhen m n before wanted said
    flags_unknown j l e =
        record {
          already_opened = never (λ q. clash said (refused_with (at_column (refused UnknownFlags) j)) (refused_with (refused AlreadyOpened)) e q (λ y. omega arith)) (λ w. w is_first.none_before);
          arena_length = never (λ q. clash said (refused_with (at_column (refused UnknownFlags) j)) (refused_with (refused ArenaLength)) e q (λ y. omega arith)) (λ w. let x = is_first.short in let z = w.1 in omega arith);
          unknown_flags = λ k. (
            λ q.
                let y : refused_with (at_column (refused UnknownFlags) j) ≡ refused_with (at_column (refused UnknownFlags) k) = sym e ∙ q in
                let f : at_column (refused UnknownFlags) j ≡ at_column (refused UnknownFlags) k = cc in
                (is_first, subst (Lowest (UnknownTaken wanted m.columns) (length m.columns)) (ap (λ (x : Fault). x.column) f) l),
            λ w. e ∙ ap (λ (x : ℕ). refused_with (at_column (refused UnknownFlags) x)) (lowest_same (UnknownTaken wanted m.columns) (length m.columns) j k l w.1),
          );
          too_long = never (λ q. clash said (refused_with (at_column (refused UnknownFlags) j)) (refused_with (refused LayoutTooLong)) e q (λ y. omega arith)) (λ w. w.all_known j l.within l.holds);
          not_carried = never (λ q. clash said (refused_with (at_column (refused UnknownFlags) j)) (refused_with (host_failed unsupported_type)) e q (λ y. omega arith)) (λ w. w.all_known j l.within l.holds);
          granted_when = never (λ q. clash said (refused_with (at_column (refused UnknownFlags) j)) opened e q (λ y. omega arith)) (λ w. w.all_known j l.within l.holds);
        }

    module _ (known_all : (k : ℕ) → k < length m.columns → UnknownTaken wanted m.columns k → ⊥) (ps : List Column) (b : bound wanted m.columns ≡ Ok ps) where
      these : (P : List Column → Type 0) → P ps → BoundAs m n before wanted P
      these P p = record { is_first = is_first; all_known = known_all; pairs = ps; bound_with = b; holds = p }

      of_these : (P : List Column → Type 0) → BoundAs m n before wanted P → P ps
      of_these P w = let y : ◌≡◌ {A = Result (List Column) Fault} (Ok w.pairs) (Ok ps) = sym w.bound_with ∙ b in let same : w.pairs ≡ ps = cc in subst P same w.holds

      abbrev Long : List Column → Type 0
      Long pairs = n < opening_size pairs

      abbrev Lacks : List Column → Type 0
      Lacks pairs = (opening_size pairs ≤ n) × ((k : ℕ) × (k < length pairs) × (Carried m pairs k → ⊥))

      abbrev AllCarried : List Column → Type 0
      AllCarried pairs = (opening_size pairs ≤ n) × ((k : ℕ) → k < length pairs → Carried m pairs k)

      places_long : Long ps → said ≡ refused_with (refused LayoutTooLong) → OpeningWhen m n before wanted said
      places_long l e =
          record {
            already_opened = never (λ q. clash said (refused_with (refused LayoutTooLong)) (refused_with (refused AlreadyOpened)) e q (λ y. omega arith)) (λ w. w is_first.none_before);
            arena_length = never (λ q. clash said (refused_with (refused LayoutTooLong)) (refused_with (refused ArenaLength)) e q (λ y. omega arith)) (λ w. let x = is_first.short in let z = w.1 in omega arith);
            unknown_flags = λ k. never (λ q. clash said (refused_with (refused LayoutTooLong)) (refused_with (at_column (refused UnknownFlags) k)) e q (λ y. omega arith)) (λ w. known_all k w.1.within w.1.holds);
            too_long = exactly e (these Long l);
            not_carried = never (λ q. clash said (refused_with (refused LayoutTooLong)) (refused_with (host_failed unsupported_type)) e q (λ y. omega arith)) (λ w. let x = (of_these Lacks w).0 in omega arith);
            granted_when = never (λ q. clash said (refused_with (refused LayoutTooLong)) opened e q (λ y. omega arith)) (λ w. let x = (of_these AllCarried w).0 in omega arith);
          }

      one_lacks : Lacks ps → said ≡ refused_with (host_failed unsupported_type) → OpeningWhen m n before wanted said
      one_lacks l e =
          record {
            already_opened = never (λ q. clash said (refused_with (host_failed unsupported_type)) (refused_with (refused AlreadyOpened)) e q (λ y. omega arith)) (λ w. w is_first.none_before);
            arena_length = never (λ q. clash said (refused_with (host_failed unsupported_type)) (refused_with (refused ArenaLength)) e q (λ y. omega arith)) (λ w. let x = is_first.short in let z = w.1 in omega arith);
            unknown_flags = λ k. never (λ q. clash said (refused_with (host_failed unsupported_type)) (refused_with (at_column (refused UnknownFlags) k)) e q (λ y. omega arith)) (λ w. known_all k w.1.within w.1.holds);
            too_long = never (λ q. clash said (refused_with (host_failed unsupported_type)) (refused_with (refused LayoutTooLong)) e q (λ y. omega arith)) (λ w. let x = of_these Long w in let z = l.0 in omega arith);
            not_carried = exactly e (these Lacks l);
            granted_when = never (λ q. clash said (refused_with (host_failed unsupported_type)) opened e q (λ y. omega arith)) (λ w. let c = l.1 in c.2 ((of_these AllCarried w).1 c.0 c.1));
          }

      all_carry : AllCarried ps → said ≡ opened → OpeningWhen m n before wanted said
      all_carry l e =
          record {
            already_opened = never (λ q. clash said opened (refused_with (refused AlreadyOpened)) e q (λ y. omega arith)) (λ w. w is_first.none_before);
            arena_length = never (λ q. clash said opened (refused_with (refused ArenaLength)) e q (λ y. omega arith)) (λ w. let x = is_first.short in let z = w.1 in omega arith);
            unknown_flags = λ k. never (λ q. clash said opened (refused_with (at_column (refused UnknownFlags) k)) e q (λ y. omega arith)) (λ w. known_all k w.1.within w.1.holds);
            too_long = never (λ q. clash said opened (refused_with (refused LayoutTooLong)) e q (λ y. omega arith)) (λ w. let x = of_these Long w in let z = l.0 in omega arith);
            not_carried = never (λ q. clash said opened (refused_with (host_failed unsupported_type)) e q (λ y. omega arith)) (λ w. let c = (of_these Lacks w).1 in c.2 (l.1 c.0 c.1));
            granted_when = exactly e (these AllCarried l);
          }

  -- by the order of checks

  by_carried : First n before → ((k : ℕ) → k < length m.columns → UnknownTaken wanted m.columns k → ⊥) → (ps : List Column) → bound wanted m.columns ≡ Ok ps → opening_size ps ≤ n → (b : Bool) → all_carried m.carries 0 ps ≡ b
      → said ≡ opening_said (cond b (Ok ps) (Err (host_failed unsupported_type))) → OpeningWhen m n before wanted said
  by_carried is_first known_all ps b short true c e =
      all_carry is_first known_all ps b (short, λ k l. let z : k ≡ 0 + k = omega arith in ap (λ (j : ℕ). m.carries j (get_or ps k no_pair).code) z ∙ carried_all m.carries 0 ps c k l) e
  by_carried is_first known_all ps b short false c e =
      let l = lacking m.carries 0 ps c in
      one_lacks is_first known_all ps b (short, (l.0, l.1, λ h. let z : 0 + l.0 ≡ l.0 = omega arith in l.2 (ap (λ (j : ℕ). m.carries j (get_or ps l.0 no_pair).code) z ∙ h))) e

  by_places : First n before → ((k : ℕ) → k < length m.columns → UnknownTaken wanted m.columns k → ⊥) → (ps : List Column) → bound wanted m.columns ≡ Ok ps → (long : Bool) → ltb n (opening_size ps) ≡ long
      → said ≡ opening_said (cond long (Err (refused LayoutTooLong)) (cond (all_carried m.carries 0 ps) (Ok ps) (Err (host_failed unsupported_type)))) → OpeningWhen m n before wanted said
  by_places is_first known_all ps b true l e = places_long is_first known_all ps b (ltb-true n (opening_size ps) l) e
  by_places is_first known_all ps b false l e = by_carried is_first known_all ps b (ltb-false n (opening_size ps) l) (all_carried m.carries 0 ps) refl e

  by_binding : First n before → (r : Result (List Column) Fault) → Binding wanted 0 m.columns r → bound wanted m.columns ≡ r → said ≡ opening_said (next r (dues.placed n m.carries)) → OpeningWhen m n before wanted said
  by_binding is_first r (all_known h ps q) b e =
      by_places is_first (λ k l u. h k l (from_unknown wanted m.columns k u)) ps (b ∙ q) (ltb n (opening_size ps)) refl (e ∙ ap (λ (x : Result (List Column) Fault). opening_said (next x (dues.placed n m.carries))) q)
  by_binding is_first r (one_unknown k l q) b e =
      flags_unknown is_first k
      (lowest_of (UnknownFrom wanted 0 m.columns) (UnknownTaken wanted m.columns) (length m.columns) k (first_unknown wanted m.columns) (from_unknown wanted m.columns) l)
      (e ∙ ap (λ (x : Result (List Column) Fault). opening_said (next x (dues.placed n m.carries))) q ∙ (let y : 0 + k ≡ k = omega arith in ap (λ (j : ℕ). refused_with (at_column (refused UnknownFlags) j)) y))

  by_length : granted before ≡ None → (long : Bool) → ltb 65536 n ≡ long → said ≡ opening_said (cond long (Err (refused ArenaLength)) (next (bound wanted m.columns) (dues.placed n m.carries))) → OpeningWhen m n before wanted said
  by_length none true l e = long_arena none (ltb-true 65536 n l) e
  by_length none false l e = by_binding (record { none_before = none; short = ltb-false 65536 n l }) (bound wanted m.columns) (binding wanted 0 m.columns) refl e

  by_grant : (g : Option (List (Option MysqlType))) → granted before ≡ g → said ≡ opening_said (dues.opening (is_some g) n m.carries wanted m.columns) → OpeningWhen m n before wanted said
  by_grant (Some x) q e = again (λ y. let z : ◌≡◌ {A = Option (List (Option MysqlType))} (Some x) None = sym q ∙ y in cc) e
  by_grant None q e = by_length q (ltb 65536 n) refl e

  pub opening_when : said ≡ opening_said (dues.opening (is_some (granted before)) n m.carries wanted m.columns) → OpeningWhen m n before wanted said
  opening_when e = by_grant (granted before) refl e

-- a fetch of an opened session does not say that it is unopened
module _ (n : ℕ) where
  row_opened : (o : Option ℕ) (long : Bool) → fetch_said (dues.row_fetched o long) ≡ refused_with (refused Unopened) → ⊥
  row_opened (Some k) long e = clash (refused_with (at_column (refused NumericOverflow) k)) (refused_with (at_column (refused NumericOverflow) k)) (refused_with (refused Unopened)) refl e (λ y. omega arith)
  row_opened None true e = clash (refused_with (refused NoRoom)) (refused_with (refused NoRoom)) (refused_with (refused Unopened)) refl e (λ y. omega arith)
  row_opened None false e = clash row row (refused_with (refused Unopened)) refl e (λ y. omega arith)

  fetched_opened : (pairs : List Column) (coming : List Event) → fetch_said (dues.fetched pairs n coming) ≡ refused_with (refused Unopened) → ⊥
  fetched_opened pairs [] e = clash end end (refused_with (refused Unopened)) refl e (λ y. omega arith)
  fetched_opened pairs (event.failure k ∷ es) e = clash (refused_with (host_failed k)) (refused_with (host_failed k)) (refused_with (refused Unopened)) refl e (λ y. omega arith)
  fetched_opened pairs (event.row r ∷ es) e = row_opened (first_loss r 0 pairs) (ltb n (row_need r 0 pairs)) e

  not_some : (o : Option (List Column)) (coming : List Event) → fetch_said (fetch_due o n coming) ≡ refused_with (refused Unopened) → is_some o ≡ false
  not_some None coming e = refl
  not_some (Some ps) coming e = absurd (fetched_opened ps coming e)

granted_none : {X : Type 0} (o : Option X) → is_some o ≡ false → o ≡ None
granted_none (Some x) e = cc
granted_none None e = refl

-- a fetch is refused with 1 exactly where no opening was granted: `bound` are the columns as they are bound, where one was
pub unopened_when : (n : ℕ) (said : Said) (columns : List Column) (grants : Option (List (Option MysqlType))) (coming : List Event) → is_some (bound_with columns grants) ≡ is_some grants
    → said ≡ fetch_said (fetch_due (bound_with columns grants) n coming) → When (said ≡ refused_with (refused Unopened)) (grants ≡ None)
unopened_when n said columns grants coming same e = (
  λ q. granted_none grants (sym same ∙ not_some n (bound_with columns grants) coming (sym e ∙ q)),
  λ g. e ∙ ap (λ (o : Option (List (Option MysqlType))). fetch_said (fetch_due (bound_with columns o) n coming)) g,
)

-- readings

-- a code and flags without a type are refused with 12
abbrev Untyped : Result MysqlType Fault → Type 0
Untyped t = (f : Fault) → t ≡ Err f → f ≡ refused NoType

or_else : (b : Bool) (x : MysqlType) (t : Result MysqlType Fault) → Untyped t → Untyped (cond b (Ok x) t)
or_else true x t h f e = cc
or_else false x t h f e = h f e

at_last : Untyped (Err (refused NoType))
at_last f e = cc

no_type_is : (code flags : ℕ) → Untyped (type_of code flags)
no_type_is code flags =
    or_else (code == 1) (by_sign flags types.UnsignedTiny types.Tiny) _
    (or_else (code == 2) (by_sign flags types.UnsignedShort types.Short) _
    (or_else (among (3 ∷ 9 ∷ []) code) (by_sign flags types.UnsignedLong types.Long) _
    (or_else (code == 8) (by_sign flags types.UnsignedLongLong types.LongLong) _
    (or_else (code == 13 && has flags 32) types.UnsignedShort _
    (or_else (code == 4) types.Float _
    (or_else (code == 5) types.Double _
    (or_else (among (0 ∷ 246 ∷ []) code) types.Numeric _
    (or_else (code == 7) types.Timestamp _
    (or_else (code == 10) types.Date _
    (or_else (code == 11) types.Time _
    (or_else (code == 12) types.DateTime _
    (or_else (code == 16) types.Bit _
    (or_else (code == 245) types.String _
    (or_else (between 249 254 code) (text_type flags) _
    at_last))))))))))))))

module _ (r : Row) (pairs : List Column) (k : ℕ) (said : Said) where
  abbrev here : Field
  here = field_at r k (get_or pairs k no_pair)

  past_columns : length pairs ≤ k → said ≡ refused_with (refused NoSuchColumn) → ReadingWhen r pairs k said
  past_columns l e =
      record {
        no_column = exactly e l;
        is_null = never (λ q. clash said (refused_with (refused NoSuchColumn)) null e q (λ y. omega arith)) (λ w. let x = w.within in omega arith);
        has_bytes = λ t bs. never (λ q. clash said (refused_with (refused NoSuchColumn)) (bytes t bs) e q (λ y. omega arith)) (λ w. let x = w.0.within in omega arith);
        no_type = never (λ q. clash said (refused_with (refused NoSuchColumn)) (refused_with (at_column (refused NoType) k)) e q (λ y. omega arith)) (λ w. let x = w.1.within in omega arith);
      }

  a_null : k < length pairs → here ≡ field.null → said ≡ null → ReadingWhen r pairs k said
  a_null l f e =
      record {
        no_column = never (λ q. clash said null (refused_with (refused NoSuchColumn)) e q (λ y. omega arith)) (λ w. omega arith);
        is_null = exactly e (record { within = l; field = f });
        has_bytes = λ t bs. never (λ q. clash said null (bytes t bs) e q (λ y. omega arith)) (λ w. let y : field.null ≡ held w.0.lost bs = sym f ∙ w.0.field in cc);
        no_type = never (λ q. clash said null (refused_with (at_column (refused NoType) k)) e q (λ y. omega arith)) (λ w. let y : field.null ≡ held w.1.lost w.0 = sym f ∙ w.1.field in cc);
      }

  some_bytes : (lost : Bool) (xs : List ℕ) (u : MysqlType) → k < length pairs → here ≡ held lost xs → type_at pairs k ≡ Ok u → said ≡ bytes u xs → ReadingWhen r pairs k said
  some_bytes lost xs u l f t e =
      record {
        no_column = never (λ q. clash said (bytes u xs) (refused_with (refused NoSuchColumn)) e q (λ y. omega arith)) (λ w. omega arith);
        is_null = never (λ q. clash said (bytes u xs) null e q (λ y. omega arith)) (λ w. let y : held lost xs ≡ field.null = sym f ∙ w.field in cc);
        has_bytes = λ v bs. (
          λ q.
              let y : bytes u xs ≡ bytes v bs = sym e ∙ q in
              let same_type : u ≡ v = cc in
              let same_bytes : xs ≡ bs = cc in
              (record { within = l; lost = lost; field = f ∙ ap (held lost) same_bytes }, t ∙ ap Ok same_type),
          λ w.
              let y : held lost xs ≡ held w.0.lost bs = sym f ∙ w.0.field in
              let same_bytes : xs ≡ bs = cc in
              let z : ◌≡◌ {A = Result MysqlType Fault} (Ok u) (Ok v) = sym t ∙ w.1 in
              let same_type : u ≡ v = cc in
              e ∙ ap (λ (x : MysqlType). bytes x xs) same_type ∙ ap (bytes v) same_bytes,
        );
        no_type = never (λ q. clash said (bytes u xs) (refused_with (at_column (refused NoType) k)) e q (λ y. omega arith)) (λ w. let z : ◌≡◌ {A = Result MysqlType Fault} (Ok u) (Err (refused NoType)) = sym t ∙ w.2 in cc);
      }

  no_type_there : (lost : Bool) (xs : List ℕ) → k < length pairs → here ≡ held lost xs → type_at pairs k ≡ Err (refused NoType) → said ≡ refused_with (at_column (refused NoType) k) → ReadingWhen r pairs k said
  no_type_there lost xs l f t e =
      record {
        no_column = never (λ q. clash said (refused_with (at_column (refused NoType) k)) (refused_with (refused NoSuchColumn)) e q (λ y. omega arith)) (λ w. omega arith);
        is_null = never (λ q. clash said (refused_with (at_column (refused NoType) k)) null e q (λ y. omega arith)) (λ w. let y : held lost xs ≡ field.null = sym f ∙ w.field in cc);
        has_bytes = λ v bs. never (λ q. clash said (refused_with (at_column (refused NoType) k)) (bytes v bs) e q (λ y. omega arith)) (λ w. let z : ◌≡◌ {A = Result MysqlType Fault} (Err (refused NoType)) (Ok v) = sym t ∙ w.1 in cc);
        no_type = exactly e (xs, record { within = l; lost = lost; field = f }, t);
      }

  by_type : (lost : Bool) (xs : List ℕ) → k < length pairs → here ≡ held lost xs → (t : Result MysqlType Fault) → type_at pairs k ≡ t → said ≡ shown_said (dues.typed k xs t) → ReadingWhen r pairs k said
  by_type lost xs l f (Ok u) t e = some_bytes lost xs u l f t e
  by_type lost xs l f (Err g) t e =
      let is : g ≡ refused NoType = no_type_is (get_or pairs k no_pair).code (get_or pairs k no_pair).flags g t in
      no_type_there lost xs l f (t ∙ ap Err is) (e ∙ ap (λ (x : Fault). refused_with (at_column x k)) is)

  by_field : k < length pairs → (f : Field) → here ≡ f → said ≡ shown_said (dues.field_shown k (get_or pairs k no_pair) f) → ReadingWhen r pairs k said
  by_field l field.null f e = a_null l f e
  by_field l (held lost xs) f e = by_type lost xs l f (type_at pairs k) refl e

  by_column : (b : Bool) → ltb k (length pairs) ≡ b → said ≡ shown_said (cond b (dues.row_shown pairs (Some r) k) (Err (refused NoSuchColumn))) → ReadingWhen r pairs k said
  by_column false l e = past_columns (ltb-false k (length pairs) l) e
  by_column true l e = by_field (ltb-true k (length pairs) l) here refl e

  pub reading_when : said ≡ shown_said (dues.read pairs (Some r) k) → ReadingWhen r pairs k said
  reading_when e = by_column (ltb k (length pairs)) refl e
