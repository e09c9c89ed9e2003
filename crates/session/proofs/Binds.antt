-- The columns that are bound, one after the other.
use Rattle.std.proofs.Common.{◌≡◌, ℕ, suc, ◌+◌, ◌<◌, Bool, true, false, cond, List, [], ◌∷◌, ◌++◌, length, get_or, drop, Some, None, Ok, Err, Option, Result, sym, refl, ap, ◌∙◌, append_assoc, add-one, arith, drop-cons}
use Rattle.std.proofs.lemmas.List.{append-nil, drop_all}
use Rattle.mysql.specs.declared.backend.MysqlType.{MysqlType}
use Rattle.mysql.specs.declared.bind.Column.{Column}
use Rattle.mysql.specs.declared.fault.Fault.{Fault}
use Rattle.mysql.specs.Answers.{through}
use Rattle.mysql.specs.declared.fault.Refusal.TheVariants.{UnknownFlags}
use Rattle.mysql.specs.Faults.{refused, at_column}
use Rattle.mysql.specs.Kept.{keeps}
use Rattle.mysql.specs.Refusals.{names_column}
use Rattle.mysql.specs.Types.{pair_of, known}
use Rattle.mysql.specs.Taken.{own_pair, taken_pair}
use Rattle.host.specs.Meanings.{no_column}
use Rattle.rows.specs.Bounds.{wanted_of, with_pair, bound_from, bound}
use Rattle.rows.specs.Dues.{faulted}

-- the columns before i are bound, the others are to come
abbrev pub SoFar : List (Option MysqlType) → List Column → ℕ → List Column → Type 0
SoFar wanted cs i pairs = bound wanted cs ≡ through (λ qs. pairs ++ qs) (bound_from wanted i (drop i cs))

abbrev pair_from : ℕ × ℕ → Column
pair_from p = record { code = p.0; flags = p.1 }

joined_on : (xs : List Column) (x : Column) (r : Result (List Column) Fault) → through (λ qs. xs ++ qs) (through (λ ps. x ∷ ps) r) ≡ through (λ qs. (xs ++ x ∷ []) ++ qs) r
joined_on xs x (Ok qs) = ap Ok (sym (append_assoc xs (x ∷ []) qs))
joined_on xs x (Err f) = refl

module _ (wanted : List (Option MysqlType)) (cs : List Column) (i : ℕ) (pairs : List Column) (l : i < length cs) where
  -- the column that is next, as it is bound
  abbrev here : Result (ℕ × ℕ) Fault
  here = taken_pair (wanted_of wanted i) (get_or cs i no_column).code (get_or cs i no_column).flags

  abbrev rest : Result (List Column) Fault
  rest = bound_from wanted (i + 1) (drop (i + 1) cs)

  unfolded : bound_from wanted i (drop i cs) ≡ with_pair i here rest
  unfolded = ap (bound_from wanted i) (drop-cons cs i no_column l) ∙ rw add-one refl

  more : (t : Result (ℕ × ℕ) Fault) (p : ℕ × ℕ) → faulted i t ≡ Ok p → through (λ qs. pairs ++ qs) (with_pair i t rest) ≡ through (λ qs. (pairs ++ pair_from p ∷ []) ++ qs) rest
  more (Ok q) p e = let same : q ≡ p = cc in ap (λ (x : ℕ × ℕ). through (λ qs. pairs ++ qs) (with_pair i (Ok x) rest)) same ∙ joined_on pairs (pair_from p) rest
  more (Err f) p e = cc

  refused_by : (t : Result (ℕ × ℕ) Fault) (f : Fault) → faulted i t ≡ Err f → through (λ qs. pairs ++ qs) (with_pair i t rest) ≡ Err f
  refused_by (Ok q) f e = cc
  refused_by (Err g) f e = cc

  pub so_far_more : (p : ℕ × ℕ) → faulted i here ≡ Ok p → SoFar wanted cs i pairs → SoFar wanted cs (i + 1) (pairs ++ pair_from p ∷ [])
  so_far_more p e h = h ∙ ap (through (λ qs. pairs ++ qs)) unfolded ∙ more here p e

  pub refused_here : (f : Fault) → faulted i here ≡ Err f → SoFar wanted cs i pairs → bound wanted cs ≡ Err f
  refused_here f e h = h ∙ ap (through (λ qs. pairs ++ qs)) unfolded ∙ refused_by here f e

nothing_before : (r : Result (List Column) Fault) → r ≡ through (λ qs. [] ++ qs) r
nothing_before (Ok qs) = refl
nothing_before (Err f) = refl

module _ (wanted : List (Option MysqlType)) (cs pairs : List Column) where
  pub so_far_none : pairs ≡ [] → SoFar wanted cs 0 pairs
  so_far_none e = nothing_before (bound wanted cs) ∙ ap (λ (ps : List Column). through (λ qs. ps ++ qs) (bound wanted cs)) (sym e)

  pub all_bound : (i : ℕ) → i ≡ length cs → SoFar wanted cs i pairs → bound wanted cs ≡ Ok pairs
  all_bound i e h = h ∙ ap (λ (z : List Column). through (λ qs. pairs ++ qs) (bound_from wanted i z)) (drop_all i cs (omega arith)) ∙ ap Ok (append-nil pairs)

-- as many are bound as the result has

one_more : (k n : ℕ) (t : Result (ℕ × ℕ) Fault) (rest : Result (List Column) Fault) (pairs : List Column) → ((ps : List Column) → rest ≡ Ok ps → length ps ≡ n) → with_pair k t rest ≡ Ok pairs → length pairs ≡ suc n
one_more k n (Ok p) (Ok ps) pairs long e = let same : record { code = p.0; flags = p.1 } ∷ ps ≡ pairs = cc in sym (ap length same) ∙ ap suc (long ps refl)
one_more k n (Ok p) (Err f) pairs long e = cc
one_more k n (Err f) rest pairs long e = cc

pub bound_long : (wanted : List (Option MysqlType)) (k : ℕ) (cs pairs : List Column) → bound_from wanted k cs ≡ Ok pairs → length pairs ≡ length cs
bound_long wanted k [] [] e = refl
bound_long wanted k [] (p ∷ ps) e = cc
bound_long wanted k (c ∷ cs) pairs e = one_more k (length cs) (taken_pair (wanted_of wanted k) c.code c.flags) (bound_from wanted (suc k) cs) pairs (bound_long wanted (suc k) cs) e

-- columns are refused for their flags, and for nothing else

own_refusal : (b : Bool) (code flags : ℕ) (f : Fault) → cond {A = Result (ℕ × ℕ) Fault} b (Ok (code, flags)) (Err (refused UnknownFlags)) ≡ Err f → f.refusal ≡ UnknownFlags
own_refusal true code flags f e = cc
own_refusal false code flags f e = let is : refused UnknownFlags ≡ f = cc in sym (ap (λ (x : Fault). x.refusal) is)

kept_refusal : (b : Bool) (t : MysqlType) (code flags : ℕ) (f : Fault) → cond b (own_pair code flags) (Ok (pair_of t)) ≡ Err f → f.refusal ≡ UnknownFlags
kept_refusal true t code flags f e = own_refusal (known flags) code flags f e
kept_refusal false t code flags f e = cc

taken_refusal : (o : Option MysqlType) (code flags : ℕ) (f : Fault) → taken_pair o code flags ≡ Err f → f.refusal ≡ UnknownFlags
taken_refusal None code flags f e = own_refusal (known flags) code flags f e
taken_refusal (Some t) code flags f e = kept_refusal (keeps t code) t code flags f e

at_refusal : (f : Fault) (k : ℕ) (b : Bool) → (cond b (record { refusal = f.refusal; column = k; host = f.host }) f).refusal ≡ f.refusal
at_refusal f k true = refl
at_refusal f k false = refl

first_refusal : (k : ℕ) (t : Result (ℕ × ℕ) Fault) (rest : Result (List Column) Fault) (f : Fault) → ((g : Fault) → t ≡ Err g → g.refusal ≡ UnknownFlags) → ((g : Fault) → rest ≡ Err g → g.refusal ≡ UnknownFlags)
    → with_pair k t rest ≡ Err f → f.refusal ≡ UnknownFlags
first_refusal k (Ok p) (Ok ps) f a b e = cc
first_refusal k (Ok p) (Err g) f a b e = let is : g ≡ f = cc in sym (ap (λ (x : Fault). x.refusal) is) ∙ b g refl
first_refusal k (Err g) rest f a b e = let is : at_column g k ≡ f = cc in sym (ap (λ (x : Fault). x.refusal) is) ∙ at_refusal g k (names_column g.refusal) ∙ a g refl

pub bound_refusal : (wanted : List (Option MysqlType)) (k : ℕ) (cs : List Column) (f : Fault) → bound_from wanted k cs ≡ Err f → f.refusal ≡ UnknownFlags
bound_refusal wanted k [] f e = cc
bound_refusal wanted k (c ∷ cs) f e =
    first_refusal k (taken_pair (wanted_of wanted k) c.code c.flags) (bound_from wanted (suc k) cs) f (taken_refusal (wanted_of wanted k) c.code c.flags) (bound_refusal wanted (suc k) cs) e
