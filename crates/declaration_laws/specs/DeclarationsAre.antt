-- What is promised of what a program declares, beside its bodies and its classes' chains.
use Rattle.std.specs.Prelude.{◌≡◌, ◌<◌, ℕ, List, length, Some, IsTrue, slice_get}
use Rattle.st_types.specs.declared.st_type.StType.TheVariants as type
use Rattle.st_values.specs.Program.{Routine, Class, Program, class_at, class_number, conforms, lookup, body_of}
use Rattle.st_values.specs.Shape.{Elementary, path_shape}
use Rattle.st_meaning.specs.Enter.{programs_of}
use Rattle.st_meaning.specs.ProcessImage.{Located, located_of}
use Rattle.st_meaning.specs.st_frame.Footprint.{Has}
use Rattle.st_meaning.specs.st_frame.Promise.Declarations.{Each, VariableFits, LocalIs, ParameterIs}
use Rattle.st_meaning.specs.st_frame.Promise.Programs.{TaskRegionIs}

-- the locals and the parameters of a routine
pub record RoutineDeclared (p : Program) (r : Routine) : Type 0 where
  pub locals : Each (LocalIs p) r.locals
  pub parameters : Each (ParameterIs p r) r.parameters

pub record DeclarationsAre (p : Program) : Type 0 where
  pub numbered : (c : ℕ) (k : Class) → class_at p c ≡ Some k → class_number p k.name ≡ Some c
  pub itself : (c : ℕ) (k : Class) → class_at p c ≡ Some k → IsTrue (conforms p c (type.Instance c))
  pub methods : (c : ℕ) (name : List ℕ) (r : Routine) → lookup p c name ≡ Some r → RoutineDeclared p r
  pub bodies : (c : ℕ) (r : Routine) → body_of p c ≡ Some r → RoutineDeclared p r
  pub functions : (k : ℕ) (r : Routine) → slice_get p.functions k ≡ Some r → RoutineDeclared p r
  pub few : length p.regions < 2_147_483_648
  pub regions : Each (λ x. VariableFits p x.variable) p.regions
  pub located : (x : Located) → Has (located_of p) x → path_shape p x.path ≡ Some (Elementary x.elem)
  pub tasks : (t r : ℕ) → Has (programs_of p t) r → TaskRegionIs p r
