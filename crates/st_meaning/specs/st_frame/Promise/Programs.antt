-- Programs: classes, routines, regions and tasks are right.
use Rattle.std.specs.Prelude.{◌≡◌, ◌<◌, ◌++◌, ℕ, true, List, length, Option, Some, None, IsTrue, slice_get}
use Rattle.st_types.specs.declared.st_type.StType.{StType}
use Rattle.st_types.specs.declared.st_type.StType.TheVariants as type
use Rattle.st_rules.specs.Chains.{is_among}
use Rattle.st_values.specs.Program.{Variable, Routine, a_program, Class, Region, Program, class_at, class_number, chain_of, class_variables, conforms, lookup, body_of}
use Rattle.st_values.specs.Shape.{Elementary, path_shape}
use Rattle.st_meaning.specs.Enter.{programs_of}
use Rattle.st_meaning.specs.ProcessImage.{Located, located_of}
use Rattle.st_meaning.specs.st_frame.Footprint.{Has}
use Rattle.st_meaning.specs.st_frame.Promise.Declarations.{Each, VariableFits, RoutineIs}

-- the class conforms to the one whose text it is
abbrev pub Above : Program → ℕ → Option ℕ → Type 0
Above p c None = ⊥
Above p c (Some d) = IsTrue (conforms p c (type.Instance d))

-- the chain of a class ends with that of the other
abbrev pub EndsWith : Program → ℕ → ℕ → Type 0
EndsWith p c d = (below : List ℕ) × (chain_of (class_at p c) ≡ below ++ chain_of (class_at p d))

-- a region of a task is an instance of a program
pub record TaskRegionIs (p : Program) (r : ℕ) : Type 0 where
  pub region : Region
  pub class : ℕ
  pub text : Class
  pub there : slice_get p.regions r ≡ Some region
  pub marked : region.program ≡ true
  pub kind : region.variable.kind ≡ type.Instance class
  pub class_there : class_at p class ≡ Some text
  pub sort : text.sort ≡ a_program

pub record ProgramIs (p : Program) : Type 0 where
  -- classes: names, conformity, variables
  pub numbered : (c : ℕ) (k : Class) → class_at p c ≡ Some k → class_number p k.name ≡ Some c
  pub itself : (c : ℕ) (k : Class) → class_at p c ≡ Some k → IsTrue (conforms p c (type.Instance c))
  pub upward : (c d : ℕ) (t : StType) → IsTrue (conforms p c (type.Instance d)) → IsTrue (conforms p d t) → IsTrue (conforms p c t)
  pub variables_above : (c d k : ℕ) (v : Variable) → IsTrue (conforms p c (type.Instance d)) → slice_get (class_variables p d) k ≡ Some v → slice_get (class_variables p c) k ≡ Some v
  -- chains: classes of the program, and behind a class whatever stands behind its bases
  pub bases : (c d : ℕ) → is_among d (chain_of (class_at p c)) ≡ true → d < length p.classes
  pub chains : (c d : ℕ) → IsTrue (conforms p c (type.Instance d)) → EndsWith p c d
  -- routines: whose text they are, and that they are right
  pub methods_above : (c : ℕ) (name : List ℕ) (r : Routine) → lookup p c name ≡ Some r → Above p c r.class
  pub methods : (c : ℕ) (name : List ℕ) (r : Routine) → lookup p c name ≡ Some r → RoutineIs p r
  pub bodies_own : (c : ℕ) (r : Routine) → body_of p c ≡ Some r → r.class ≡ Some c
  pub bodies : (c : ℕ) (r : Routine) → body_of p c ≡ Some r → RoutineIs p r
  pub functions : (k : ℕ) (r : Routine) → slice_get p.functions k ≡ Some r → RoutineIs p r × (r.class ≡ None)
  -- regions, addresses and tasks
  pub few : length p.regions < 2_147_483_648
  pub regions : Each (λ x. VariableFits p x.variable) p.regions
  pub located : (x : Located) → Has (located_of p) x → path_shape p x.path ≡ Some (Elementary x.elem)
  pub tasks : (t r : ℕ) → Has (programs_of p t) r → TaskRegionIs p r
