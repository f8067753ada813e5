-- A first load that a hook stops: FB_init of K divides by a variable that is 0. The refusal names K and the line of the statement.
use Rattle.std.proofs.Common.{◌≡◌, [], ◌∷◌, Some, None, refl}
use Rattle.std.specs.Prelude.{codes}
use Rattle.plc_num.specs.Wrapping.{wrapped}
use Rattle.plc_text.specs.declared.fault.FaultKind.TheVariants as fault
use Rattle.st_types.specs.declared.st_type.StType.{out-StType}
use Rattle.st_types.specs.declared.st_type.StType.TheVariants as type
use Rattle.st_tree.specs.declared.declaration.SectionSort.TheVariants as sort
use Rattle.st_tree.specs.declared.expression.Operator.TheVariants as operator
use Rattle.st_tree.specs.declared.program.Target.TheVariants as target
use Rattle.st_values.specs.Program.{Program, class_number, class_variables, conforms, lookup}
use Rattle.st_meaning.proofs.Builder.{bool, dint, lit, var, op, set, variable, own, method, class, program_class, instance_of, task}
use Rattle.st_change.specs.Hook.{stopped}
use Rattle.st_change.specs.Change.{start}

abbrev sample : Program
sample = record {
  types = [];
  classes =
      class (codes "K") 0 [] [] (own (codes "Z") dint ∷ [])
      (method (codes "FB_INIT") 1 (Some 0) bool (variable sort.Input (codes "BINITRETAINS") bool None ∷ variable sort.Input (codes "BINCOPYCODE") bool None ∷ [])
      (set 1 dint (target.Variable 0) (op dint (lit dint (codes "1")) operator.Divide (var dint (target.Variable 0))) ∷ [])
      ∷ [])
      ∷ program_class (codes "P") 1 (own (codes "K1") (type.Instance 0) ∷ []) []
      ∷ [];
  interfaces = [];
  functions = [];
  regions = instance_of (codes "P1") 1 ∷ [];
  tasks = task (codes "MAIN") (0 ∷ []) ∷ [];
}

refused : start sample ≡ stopped (codes "K") fault.Divide 1
unfolding wrapped class_number class_variables conforms lookup out-StType denote.Hole.Carrier.out
refused = refl
