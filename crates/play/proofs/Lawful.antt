-- What the ideal session says is lawful.
use Rattle.std.proofs.Common.{◌≡◌, ℕ, Bool, true, false, ltb, List, [], ◌∷◌, ◌++◌, drop, is_some, Some, None, Option, sym, refl, ap, ◌∙◌, subst}
use Rattle.mysql.specs.declared.bind.Column.{Column}
use Rattle.host.specs.Meanings.{Row, Event, Meaning}
use Rattle.host.specs.Meanings as event
use Rattle.rows.specs.Bounds.{first_loss, row_need}
use Rattle.rows.specs.Dues as dues
use Rattle.play.specs.Histories.{Asked, opening, fetch, reading, Said, row, Entry, granted, removed, showing_from, NoFetch}
use Rattle.play.specs.Rules.{fetch_said, fetch_due, reading_due, shown_said}
use Rattle.play.specs.Law.{Shows, Exactly, Lawful}
use Rattle.play.specs.Machine.{State, start, shown_if, fetch_at, answer, after, Ideal}
use Rattle.play.specs.Words.{InWords}
use Rattle.play.proofs.Words.{fetch_when, opening_when, unopened_when, reading_when}
use Rattle.play.proofs.Runs.{run, later, earlier, says_due, rests, Went, from_start}

-- none is shown where it is said that none is
pub none_shown : {X : Type 0} (o : Option X) → is_some o ≡ false → o ≡ None
none_shown (Some x) e = cc
none_shown None e = refl

-- where a fetch says that a row is shown, columns are bound, a row was next, and it is what is shown
record RowNext (s : State) (b : Option (List Column)) (coming : List Event) : Type 0 where
  pairs : List Column
  binds : b ≡ Some pairs
  fields : Row
  rest : List Event
  met : coming ≡ event.row fields ∷ rest
  shows : (n : ℕ) → row ≡ fetch_said (fetch_due b n coming) → shown_if (dues.fetched pairs n coming) coming ≡ Some fields

row_shows : (loss : Option ℕ) (long : Bool) (r : Row) (es : List Event) → row ≡ fetch_said (dues.row_fetched loss long) → shown_if (dues.row_fetched loss long) (event.row r ∷ es) ≡ Some r
row_shows (Some k) long r es e = cc
row_shows None true r es e = cc
row_shows None false r es e = refl

row_next : (s : State) (n : ℕ) (b : Option (List Column)) (coming : List Event) → row ≡ fetch_said (fetch_due b n coming) → RowNext s b coming
row_next s n None coming e = cc
row_next s n (Some pairs) [] e = cc
row_next s n (Some pairs) (event.failure k ∷ es) e = cc
row_next s n (Some pairs) (event.row r ∷ es) e =
    record { pairs = pairs; binds = refl; fields = r; rest = es; met = refl; shows = λ k f. row_shows (first_loss r 0 pairs) (ltb k (row_need r 0 pairs)) r es f }

module _ (m : Meaning) (n : ℕ) (history : List Entry) (ideal : Ideal (start m n) history) where
  module _ (before rest : List Entry) (split : history ≡ before ++ rest) where
    -- the session after the earlier part
    abbrev pub at : State
    at = run (start m n) before

    pub whole : Ideal (start m n) (before ++ rest)
    whole = subst (Ideal (start m n)) split ideal

    pub said_so : Ideal at rest
    said_so = later (start m n) before rest whole

    pub came : Went (start m n) at (granted before) (removed before) (showing_from false before)
    came = from_start m n before (earlier (start m n) before rest whole)

  row_shows_itself : (before between after' : List Entry) (asked : Asked) (said : Said)
      → history ≡ before ++ record { asked = fetch; said = row } ∷ (between ++ record { asked = asked; said = said } ∷ after')
      → NoFetch between → Shows m before asked said
  row_shows_itself before between after' asked said e quiet =
      let rest = record { asked = fetch; said = row } ∷ (between ++ record { asked = asked; said = said } ∷ after') in
      let s = at before rest e in
      let h = said_so before rest e in
      let w = came before rest e in
      let x = row_next s s.arena s.bound s.coming h.0 in
      let t = after s fetch in
      let t_is : t ≡ fetch_at s (Some x.pairs) = ap (fetch_at s) x.binds in
      let bound : t.bound ≡ Some x.pairs = ap (λ (y : State). y.bound) t_is ∙ x.binds in
      let shown : t.shown ≡ Some x.fields = ap (λ (y : State). y.shown) t_is ∙ x.shows s.arena h.0 in
      let here = later t between (record { asked = asked; said = said } ∷ after') h.1 in
      let says : said ≡ answer t asked = here.0 ∙ ap (λ (y : State). answer y asked) (rests t x.pairs bound between quiet) in
      record {
        pairs = x.pairs;
        bound = sym w.bound_as ∙ x.binds;
        fields = x.fields;
        rest = x.rest;
        met = sym w.coming ∙ x.met;
        answers = λ due d.
            says ∙ says_due t asked due
            (ap (λ (y : Option (List Column)). reading_due y t.shown asked) bound ∙ ap (λ (y : Option Row). reading_due (Some x.pairs) y asked) shown ∙ d);
      }

  refused_exactly : (before after' : List Entry) (asked : Asked) (said : Said) → history ≡ before ++ record { asked = asked; said = said } ∷ after' → Exactly m n before asked said
  refused_exactly before after' asked said e =
      let rest = record { asked = asked; said = said } ∷ after' in
      let s = at before rest e in
      let h = (said_so before rest e).0 in
      let w = came before rest e in
      record {
        openings = λ wanted q. rw q at h ∙ rw (w.opens, w.arena, w.carries, w.columns) refl;
        fetches = λ q. rw q at h ∙ rw (w.bound_as, w.arena, w.coming) refl;
        no_row = λ due q d. h ∙ says_due s asked due (rw (w.bound_as, none_shown s.shown (w.shows_as ∙ q)) d);
      }

  in_words : InWords m n history
  in_words =
      record {
        openings = λ before after' wanted said e. opening_when m n before wanted said ((refused_exactly before after' (opening wanted) said e).openings wanted refl);
        unopened = λ before after' said e.
            let w = came before (record { asked = fetch; said = said } ∷ after') e in
            unopened_when n said m.columns (granted before) (drop (removed before) m.coming) (sym (ap is_some w.bound_as) ∙ w.opens) ((refused_exactly before after' fetch said e).fetches refl);
        fetches = λ before after' said pairs e b.
            fetch_when n pairs said (drop (removed before) m.coming)
            ((refused_exactly before after' fetch said e).fetches refl ∙ ap (λ (o : Option (List Column)). fetch_said (fetch_due o n (drop (removed before) m.coming))) b);
        readings = λ before between after' k said pairs e quiet b.
            let x = row_shows_itself before between after' (reading k) said e quiet in
            let y : ◌≡◌ {A = Option (List Column)} (Some x.pairs) (Some pairs) = sym x.bound ∙ b in
            let same : x.pairs ≡ pairs = cc in
            record {
              fields = x.fields;
              rest = x.rest;
              next = x.met;
              holds = reading_when x.fields pairs k said (x.answers (shown_said (dues.read x.pairs (Some x.fields) k)) refl ∙ ap (λ (ps : List Column). shown_said (dues.read ps (Some x.fields) k)) same);
            };
      }

  pub lawful : Lawful m n history
  lawful = record { row_shows_itself = row_shows_itself; refused_exactly = refused_exactly; in_words = in_words }
