-- What loading a class list comes to.
use Rattle.std.specs.Prelude.{◌≡◌, Bool, true, false, List, [], ◌∷◌, ◌++◌, map, vec_items, Ok, Err, Result}
use Rattle.class_list.specs.declared.lines.Line.{Line as HeldLine}
use Rattle.class_list.specs.declared.loading.Collector.{Collector}
use Rattle.class_list.specs.declared.loading.LoadError.{LoadError}
use Rattle.class_list.specs.declared.loading.LoadError.TheVariants as error
use Rattle.class_list.specs.declared.telling.NotListed.{NotListed}
use Rattle.class_list.specs.Lines.{Line}
use Rattle.class_list.specs.Told.{told}

-- the lines that are held are those before a line for which there was no memory
pub record CutShort (held : List HeldLine) (all : List Line) : Type 0 where
  pub next : Line
  pub later : List Line
  pub there : all ≡ map told held ++ next ∷ later

-- all lines are held; or where memory ran out the first of them; or none where there is no class list
abbrev pub LoadsAs : Result (List Line) NotListed → List HeldLine → Result (Unit {0}) LoadError → Type 0
LoadsAs (Ok all) held (Ok x) = map told held ≡ all
LoadsAs (Ok all) held (Err error.OutOfMemory) = CutShort held all
LoadsAs (Ok all) held (Err (error.NotListed e)) = ⊥
LoadsAs (Err e) held r = (held ≡ []) × (r ≡ Err (error.NotListed e))

-- what a collector holds of the lines that it was told
abbrev pub HoldsIf : (full : Bool) → List HeldLine → List Line → Type 0
HoldsIf false held all = map told held ≡ all
HoldsIf true held all = CutShort held all

abbrev pub Holds : Collector → List Line → Type 0
Holds c all = HoldsIf c.is_full (vec_items c.lines) all
