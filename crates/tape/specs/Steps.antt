-- Steps over bytes: each takes one thing off their front.
use Rattle.std.specs.Prelude.{◌≡◌, ℕ, List, ◌++◌, Some, None, Option}
use Rattle.std.specs.Borrow.{Bor}

-- a thing that keeps to its rules begins bytes, and rest is what is behind it
pub record Begins {Y : Type 0} (Fits : Y → Type 0) (bytes_of : Y → List ℕ) (bytes : List ℕ) (y : Y) (rest : List ℕ) : Type 0 where
  pub fits : Fits y
  pub bytes_are : bytes_of y ++ rest ≡ bytes

-- no such thing begins them
abbrev pub NoneBegins : {Y : Type 0} → (Y → Type 0) → (Y → List ℕ) → List ℕ → Type 0
NoneBegins {Y} Fits bytes_of bytes = (y : Y) (rest : List ℕ) → Begins Fits bytes_of bytes y rest → ⊥

-- the thing that begins the bytes is taken, and handed out with those behind it; none is, where none begins them
abbrev pub Takes : {X Y : Type 0} → (Y → Type 0) → (Y → List ℕ) → (X → Y) → List ℕ → Option (X × Bor (List ℕ)) → Type 0
Takes Fits bytes_of means bytes None = NoneBegins Fits bytes_of bytes
Takes Fits bytes_of means bytes (Some p) = Begins Fits bytes_of bytes (means p.0) p.1.now

-- the same, where only the bytes behind the thing are handed out
abbrev pub Passes : {Y : Type 0} → (Y → Type 0) → (Y → List ℕ) → List ℕ → Option (Bor (List ℕ)) → Type 0
Passes Fits bytes_of bytes None = NoneBegins Fits bytes_of bytes
Passes {Y} Fits bytes_of bytes (Some rest) = (y : Y) × Begins Fits bytes_of bytes y rest.now
