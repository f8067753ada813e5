-- The locals of a call have few values.
use Rattle.std.specs.Prelude.{◌≡◌, ◌≤◌, ℕ, ◌+◌, if◌then◌else◌, List, [], ◌∷◌, Option, Some, None, slice_get}
use Rattle.st_values.specs.Program.{Variable, Routine, a_program, Class, Program, class_at}
use Rattle.st_values.specs.Shape.{Shape, shape_of}
use Rattle.st_meaning.specs.Call.{is_in_out}
use Rattle.st_meaning.specs.st_frame.Footprint.{Has}
use Rattle.mem_layout.specs.loaded_meaning.Sized.{values_of}

abbrev pub shape_values : Option Shape → ℕ
shape_values None = 0
shape_values (Some sh) = values_of sh

-- an in-out is one value
abbrev pub local_values : Program → Variable → ℕ
local_values p v = if is_in_out v.sort then 1 else shape_values (shape_of p v.kind)

abbrev pub values_of_locals : Program → List Variable → ℕ
values_of_locals p [] = 0
values_of_locals p (v ∷ vs) = local_values p v + values_of_locals p vs

-- A program is not called: its body has whatever locals it declares.
pub record LocalsAre (p : Program) : Type 0 where
  pub functions : (k : ℕ) (r : Routine) → slice_get p.functions k ≡ Some r → values_of_locals p r.locals ≤ 1_024
  pub methods : (c : ℕ) (k : Class) (r : Routine) → class_at p c ≡ Some k → Has k.methods r → values_of_locals p r.locals ≤ 1_024
  pub bodies : (c : ℕ) (k : Class) → class_at p c ≡ Some k → (k.sort ≡ a_program → ⊥) → values_of_locals p k.body.locals ≤ 1_024
