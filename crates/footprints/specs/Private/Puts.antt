-- What is put into a list of regions.
use Rattle.std.specs.Prelude.{ℕ, ◌⊎◌, List}
use Rattle.st_meaning.specs.st_frame.Footprint.{Has}

-- all that was there is there, and what is new is one of these: all of them are there, but those that are left
pub record PutsBut (P L : ℕ → Type 0) (old new : List ℕ) : Type 0 where
  pub kept : (r : ℕ) → Has old r → Has new r
  pub only : (r : ℕ) → Has new r → Has old r ⊎ P r
  pub all : (r : ℕ) → P r → Has new r ⊎ L r

abbrev pub Nothing : ℕ → Type 0
Nothing r = ⊥

abbrev pub Puts : (ℕ → Type 0) → List ℕ → List ℕ → Type 0
Puts P old new = PutsBut P Nothing old new

-- those to which one of the items leads
abbrev pub Via : {A : Type 0} → List A → (A → ℕ → Type 0) → ℕ → Type 0
Via {A} xs F r = (x : A) × Has xs x × F x r

-- items are taken one after the other, and these are left
pub record Takes {A : Type 0} (F : A → ℕ → Type 0) (whole left : List A) (old new : List ℕ) : Type 0 where
  pub within : (x : A) → Has left x → Has whole x
  pub puts : PutsBut (Via whole F) (Via left F) old new
