-- What layouts, first images and footprints ask of a program, of those that are accepted.
use Rattle.std.specs.Prelude.{◌≡◌, ℕ, false, List, Some, slice_get}
use Rattle.st_types.specs.declared.st_type.StType.{StType}
use Rattle.st_tree.specs.declared.path.Path.{Path}
use Rattle.st_values.specs.Program.{Variable, Routine, a_program, Class, Program, class_at, lookup}
use Rattle.st_values.specs.Shape.{Shape, shape_of, path_shape}
use Rattle.st_meaning.specs.Call.{is_in_out}
use Rattle.st_meaning.specs.st_frame.Footprint.{Has}
use Rattle.region_instances.specs.Instances.{RegionsUnfold}
use Rattle.mem_layout.specs.Layout.{HasShape, RegionsHaveShapes}
use Rattle.mem_layout.specs.store_bytes.InitialLaws.{StartsInRange}
use Rattle.program_laws.specs.Accepted.{IsAccepted}

-- the locals of a routine but its in-outs, which are addresses, have types that can be laid out
abbrev pub LocalsHaveShapes : Program → Routine → Type 0
LocalsHaveShapes p r = (v : Variable) → Has r.locals v → is_in_out v.sort ≡ false → HasShape p v.kind

-- of whatever is called: a program is not, and has whatever locals it declares
pub record CalledHaveShapes (p : Program) : Type 0 where
  pub functions : (k : ℕ) (r : Routine) → slice_get p.functions k ≡ Some r → LocalsHaveShapes p r
  pub methods : (c : ℕ) (name : List ℕ) (r : Routine) → lookup p c name ≡ Some r → LocalsHaveShapes p r
  pub bodies : (c : ℕ) (k : Class) → class_at p c ≡ Some k → (k.sort ≡ a_program → ⊥) → LocalsHaveShapes p k.body

pub record AcceptedLayouts : Type 0 where
  -- the types of regions can be laid out, and their initial values are in range
  pub shapes : (p : Program) → IsAccepted p → RegionsHaveShapes p
  pub starts : (p : Program) → IsAccepted p → StartsInRange p
  -- they unfold, so that what they hold is found
  pub unfolds : (p : Program) → IsAccepted p → RegionsUnfold p
  -- so can the types of locals, and that of whatever a path leads to
  pub called : (p : Program) → IsAccepted p → CalledHaveShapes p
  pub parts : (p : Program) (q : Path) (t : StType) (sh : Shape) → IsAccepted p → path_shape p q ≡ Some sh → shape_of p t ≡ Some sh → HasShape p t
