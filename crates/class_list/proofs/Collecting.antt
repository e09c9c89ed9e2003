-- What was collected of the lines that were told.
use Rattle.std.proofs.Common.{◌≡◌, Bool, true, false, List, [], ◌∷◌, ◌++◌, map, Ok, Err, Result, sym, refl, ap, ◌∙◌, subst}
use Rattle.class_list.specs.declared.lines.Line.{Line as HeldLine}
use Rattle.class_list.specs.declared.loading.LoadError.{LoadError}
use Rattle.class_list.specs.declared.loading.LoadError.TheVariants as error
use Rattle.class_list.specs.declared.telling.NotListed.{NotListed}
use Rattle.class_list.specs.Lines.{Line}
use Rattle.class_list.specs.Lists.{lines_in, outcome_of}
use Rattle.class_list.specs.Loads.{LoadsAs, HoldsIf}
use Rattle.class_list.specs.Told.{told}

none_held : (held : List HeldLine) → map told held ≡ [] → held ≡ []
none_held [] e = refl
none_held (line ∷ held) e = absurd cc

none_cut : {A : Type 0} (held : List HeldLine) (next : Line) (later : List Line) → [] ≡ map told held ++ next ∷ later → A
none_cut [] next later e = absurd cc
none_cut (line ∷ held) next later e = absurd cc

nothing : (full : Bool) (held : List HeldLine) → HoldsIf full held [] → held ≡ []
nothing false held h = none_held held h
nothing true held h = none_cut held h.next h.later h.there

module _ (held : List HeldLine) where
  pub not_listed : (all : Result (List Line) NotListed) (full : Bool) (e : NotListed) → Err e ≡ outcome_of all → HoldsIf full held (lines_in all) → LoadsAs all held (Err (error.NotListed e))
  not_listed (Ok lines) full e h k = absurd cc
  not_listed (Err f) full e h k = (nothing full held k, let same : e ≡ f = cc in ap (λ (x : NotListed). Err (error.NotListed x)) same)

  pub cut_short : (all : Result (List Line) NotListed) → Ok tt ≡ outcome_of all → HoldsIf true held (lines_in all) → LoadsAs all held (Err error.OutOfMemory)
  cut_short (Ok lines) h k = k
  cut_short (Err f) h k = absurd cc

  pub whole : (all : Result (List Line) NotListed) → Ok tt ≡ outcome_of all → HoldsIf false held (lines_in all) → LoadsAs all held (Ok tt)
  whole (Ok lines) h k = k
  whole (Err f) h k = absurd cc
