-- Answers that were kept.
use Rattle.std.proofs.Common.{◌≡◌, ℕ, suc, ◌+◌, ◌≤◌, Bool, true, false, ◌||◌, is_some as option_is_some, Some, None, Option, List, [], ◌∷◌, ◌++◌, map, take, drop, length, Ok, Err, Result, Vec, vec_items, sym, refl, ap, ◌∙◌, subst, arith}
use Rattle.std.proofs.lemmas.List.{length-map, length_push, map-append, take_all, take-append-drop, take-append-le}
use Rattle.std.proofs.Math.Seq.{take-nil}
use Rattle.std.specs.declared.alloc.Global.{Global}
use Rattle.std.specs.declared.alloc.AllocError.{AllocError}
use Rattle.play.specs.declared.calls.Answer.{Answer}
use Rattle.play.specs.Histories.{Said, Entry, granted}
use Rattle.play.specs.Lays.{Lay, reach_from, reached}
use Rattle.play.specs.Moves.{lay_of, standing}
use Rattle.play.specs.Plays.{IsReady, Heard}
use Rattle.host.specs.Meanings.{Meaning}
use Rattle.host.specs.Calls.{freed}
use Rattle.layout.specs.Moves.{Beyond}
use Rattle.rows.specs.Reach.{capacities_of}
use Rattle.rows.specs.Standing.{pairs_of}
use Rattle.session.specs.declared.answers.Slip.{Slip}
use Rattle.session.specs.declared.state.Session.{Session}
use Rattle.session.specs.declared.state.Opened as state
use Rattle.session.specs.Stages.{table}
use Rattle.session.specs.Sessions.{is_open}
use Rattle.play.specs.declared.calls.Call.{Call}
use Rattle.play.specs.Calls.{asked_of, said_by}
use Rattle.play.specs.Law.{Lawful}
use Rattle.play.specs.Machine.{State, start, answer, after, Ideal, told}
use Rattle.play.specs.Collected.{history, Keeps, KeepsOne}
use Rattle.play.proofs.Runs.{earlier}
use Rattle.play.proofs.Lawful.{lawful}
use Rattle.play.proofs.Plays.{told_ideal, new_is}

abbrev Kept : Type 0
Kept = Answer (Vec ℕ Global)

abbrev saids : List Kept → List Said
saids xs = map (said_by vec_items) xs

abbrev told_saids : List Entry → List Said
told_saids es = map (λ (e : Entry). e.said) es

as_many : (xs ys : List Kept) (said : Said) → saids ys ≡ saids xs ++ said ∷ [] → length ys ≡ length xs + 1
as_many xs ys said e = sym (length-map ys (said_by vec_items)) ∙ ap length e ∙ length_push (saids xs) said ∙ ap (λ (n : ℕ). n + 1) (length-map xs (said_by vec_items))

-- memory ran out, now or before
pub keeps_none : (xs : List Kept) (ended ended' : Result Unit AllocError) (es : List Entry) (e : Entry) → ((ended' ≡ Ok tt) → ⊥) → Keeps xs ended es → Keeps xs ended' (es ++ e ∷ [])
keeps_none xs ended ended' es e out so_far =
    let long : length (es ++ e ∷ []) ≡ length es + 1 = length_push es e in
    let few = so_far.few in
    record {
      few = omega arith;
      first =
          so_far.first
          ∙ sym (take-append-le (length xs) (told_saids es) (e.said ∷ []) (rw (length-map es (λ (d : Entry). d.said)) few))
          ∙ ap (take (length xs)) (sym (map-append (λ (d : Entry). d.said) es (e ∷ [])));
      all = λ q. absurd (out q);
    }

pub keeps_more : (xs ys : List Kept) (r : Result Unit AllocError) (es : List Entry) (e : Entry) → KeepsOne r xs ys e.said → Keeps xs (Ok tt) es → Keeps ys r (es ++ e ∷ [])
keeps_more xs ys (Ok u) es e w so_far =
    let long : length (es ++ e ∷ []) ≡ length es + 1 = length_push es e in
    let many = as_many xs ys e.said w in
    let same = so_far.all refl in
    let whole : saids xs ≡ told_saids es = so_far.first ∙ take_all (length xs) (told_saids es) (rw (length-map es (λ (d : Entry). d.said)) (omega arith)) in
    record {
      few = omega arith;
      first =
          w ∙ ap (λ (ss : List Said). ss ++ e.said ∷ []) whole ∙ sym (map-append (λ (d : Entry). d.said) es (e ∷ []))
          ∙ sym (take_all (length ys) (told_saids (es ++ e ∷ [])) (rw (length-map (es ++ e ∷ []) (λ (d : Entry). d.said)) (omega arith)));
      all = λ q. omega arith;
    }
keeps_more xs ys (Err f) es e w so_far = rw w (keeps_none xs (Ok tt) (Err f) es e (λ q. cc) so_far)

-- the first answers of an ideal session
zipped : (x : State) (calls : List Call) (xs : List Kept) → saids xs ≡ take (length xs) (told_saids (told x calls)) → history calls xs ≡ take (length xs) (told x calls)
zipped x [] xs h = sym (take-nil (length xs))
zipped x (c ∷ cs) [] h = refl
zipped x (c ∷ cs) (a ∷ rest) h =
    let h' : said_by vec_items a ∷ saids rest ≡ answer x (asked_of c) ∷ take (length rest) (told_saids (told (after x (asked_of c)) cs)) = h in
    let front : said_by vec_items a ≡ answer x (asked_of c) = cc in
    let others : saids rest ≡ take (length rest) (told_saids (told (after x (asked_of c)) cs)) = cc in
    ap (λ (s : Said). record { asked = asked_of c; said = s } ∷ history cs rest) front
    ∙ ap (λ (es : List Entry). record { asked = asked_of c; said = answer x (asked_of c) } ∷ es) (zipped (after x (asked_of c)) cs rest others)

pub kept_lawful : (m : Meaning) (n : ℕ) (calls : List Call) (xs : List Kept) (ended : Result Unit AllocError) → Keeps xs ended (told (start m n) calls) → Lawful m n (history calls xs)
kept_lawful m n calls xs ended w =
    let es = told (start m n) calls in
    let whole : Ideal (start m n) (take (length xs) es ++ drop (length xs) es) = subst (Ideal (start m n)) (sym (take-append-drop (length xs) es)) (told_ideal (start m n) calls) in
    subst (Lawful m n) (sym (zipped (start m n) calls xs w.first)) (lawful m n (take (length xs) es) (earlier (start m n) (take (length xs) es) (drop (length xs) es) whole))

told_long : (x : State) (calls : List Call) → length (told x calls) ≡ length calls
told_long x [] = refl
told_long x (c ∷ cs) = ap suc (told_long (after x (asked_of c)) cs)

-- no answer is kept yet
nothing_kept : (xs : List Kept) (ended : Result Unit AllocError) → xs ≡ [] → Keeps xs ended []
nothing_kept xs ended e = rw e (record { few = omega arith; first = refl; all = λ q. refl })

no_places : (o : Option state.Opened) → option_is_some o ≡ false → (pairs_of (table o) ≡ []) × (capacities_of (table o) ≡ [])
no_places (Some o) e = cc
no_places None e = (refl, refl)

-- all that is kept and left where a new session s over this host played the calls
module _ {H : Type 0} (means : H → Meaning) (host : H) (calls : List Call) (s s' : Session H) (a a' : List ℕ) (slip : Option Slip) (new : is_open s ≡ false) (owns : s.host ≡ host) where
  abbrev m : Meaning
  m = means host

  abbrev pub from : State
  from = start m (length a)

  stands_new : standing means s a ≡ from
  stands_new = new_is (means s.host) s a new ∙ ap (λ (h : H). start (means h) (length a)) owns

  lay_new : lay_of (means s.host) s ≡ record { pairs = []; capacities = []; coming = m.coming }
  lay_new = λ i. record { pairs = (no_places s.opened new).0 i; capacities = (no_places s.opened new).1 i; coming = (means (owns i)).coming }

  module _ {L : Type 0} (answers_of : L → List Kept) (ended_of : L → Result Unit AllocError) (l l' : L) (none : answers_of l ≡ []) (w : IsReady means s a → Heard means (λ x es. Keeps (answers_of x) (ended_of x) es) calls slip s s' a a' l l') where
    w' : Heard means (λ x es. Keeps (answers_of x) (ended_of x) es) calls slip s s' a a' l l'
    w' = w (λ o. let y : true ≡ false = sym o ∙ new in cc)

    pub kept : Keeps (answers_of l') (ended_of l') (told from calls)
    kept = subst (λ (x : State). Keeps (answers_of l') (ended_of l') (told x calls)) stands_new (w'.hears [] (nothing_kept (answers_of l) (ended_of l) none))

    pub few : length (answers_of l') ≤ length calls
    few = let e = told_long from calls in let k = kept.few in omega arith

    pub all : ended_of l' ≡ Ok tt → length (answers_of l') ≡ length calls
    all q = kept.all q ∙ told_long from calls

    pub past : Beyond (reached m (length a) (told from calls)) a a'
    past =
        subst (λ (y : Lay). Beyond (reach_from (length a) m.columns y (told from calls)) a a') lay_new
        (subst (λ (h : H). Beyond (reach_from (length a) (means h).columns (lay_of (means s.host) s) (told from calls)) a a') owns
        (subst (λ (x : State). Beyond (reach_from (length a) (means s.host).columns (lay_of (means s.host) s) (told x calls)) a a') stands_new w'.left.past))

    pub untouched : granted (told from calls) ≡ None → a' ≡ a
    untouched q =
        let g : option_is_some (granted (told (standing means s a) calls)) ≡ false = ap (λ (x : State). option_is_some (granted (told x calls))) stands_new ∙ ap option_is_some q in
        let o : is_open s' ≡ false = w'.left.opened ∙ ap (λ (b : Bool). b || option_is_some (granted (told (standing means s a) calls))) new ∙ g in
        (w'.left.untouched o).arena

    pub let_go : freed (means s'.host) ≡ freed m
    let_go = λ i. record { columns = same_columns i; carries = same_carries i; coming = []; current = None; bound = None; error = 0 }
      where
        same_columns : (means s'.host).columns ≡ m.columns
        same_columns = w'.left.columns ∙ ap (λ (h : H). (means h).columns) owns

        same_carries : (means s'.host).carries ≡ m.carries
        same_carries = w'.left.carries ∙ ap (λ (h : H). (means h).carries) owns
