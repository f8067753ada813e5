-- Where routines have their outputs: a body in variables of its class, any other routine in its locals.
use Rattle.std.specs.Prelude.{◌≡◌, ℕ, List, Some, slice_get}
use Rattle.st_tree.specs.declared.declaration.SectionSort.TheVariants as sort
use Rattle.st_values.specs.Program.{Recipient, to_local, to_variable, Parameter, Routine, Program, lookup, body_of}

abbrev pub EachOutput : (Recipient → Type 0) → Routine → Type 0
EachOutput P x = (i : ℕ) (q : Parameter) → slice_get x.parameters i ≡ Some q → q.sort ≡ sort.Output → P q.to

abbrev pub InLocal : Recipient → Type 0
InLocal to = (n : ℕ) × (to ≡ to_local n)

abbrev pub InVariable : Recipient → Type 0
InVariable to = (k : ℕ) × (to ≡ to_variable k)

pub record OutputsPlaced (p : Program) : Type 0 where
  pub functions : (k : ℕ) (x : Routine) → slice_get p.functions k ≡ Some x → EachOutput InLocal x
  pub methods : (c : ℕ) (name : List ℕ) (x : Routine) → lookup p c name ≡ Some x → EachOutput InLocal x
  pub bodies : (c : ℕ) (x : Routine) → body_of p c ≡ Some x → EachOutput InVariable x
