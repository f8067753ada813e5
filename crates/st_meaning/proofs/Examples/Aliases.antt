-- Two in-outs that are bound to one variable: `FUNCTION F : DINT VAR_IN_OUT a, b : DINT; END_VAR a := a + 1; b := b + 1; F := a;` called
-- as `y := F(a := x, b := x);` with x at %QD0 and y at %QD1.
use Rattle.std.proofs.Common.{◌≡◌, ℤ, pos, [], ◌∷◌, None, refl}
use Rattle.std.specs.Prelude.{codes}
use Rattle.plc_num.specs.Wrapping.{wrapped}
use Rattle.cycle_journal.specs.declared.entry.CycleReply.TheVariants as reply
use Rattle.st_tree.specs.declared.declaration.SectionSort.TheVariants as sort
use Rattle.st_tree.specs.declared.expression.Operator.TheVariants as operator
use Rattle.st_tree.specs.declared.program.Target.TheVariants as target
use Rattle.st_values.specs.Program.{Program, class_number, class_variables, conforms, lookup}
use Rattle.st_values.specs.Value.{number, instance, no_members, member_then, Store}
use Rattle.st_meaning.specs.Cycle.{cycle}
use Rattle.st_meaning.proofs.Builder.{dint, lit, var, op, arg, invoke, set, variable, located, method, program_class, instance_of, task}

abbrev sample : Program
sample = record {
  types = [];
  classes =
      program_class (codes "P") 0 (located (codes "X") dint (codes "%QD0") ∷ located (codes "Y") dint (codes "%QD1") ∷ [])
      (set 1 dint (target.Variable 1) (invoke dint (target.Function 0) (codes "F") (arg 0 (var dint (target.Variable 0)) ∷ arg 1 (var dint (target.Variable 0)) ∷ [])) ∷ [])
      ∷ [];
  interfaces = [];
  functions =
      method (codes "F") 1 None dint (variable sort.InOut (codes "A") dint None ∷ variable sort.InOut (codes "B") dint None ∷ [])
      (set 1 dint (target.Local 1) (op dint (var dint (target.Local 1)) operator.Plus (lit dint (codes "1")))
      ∷ set 1 dint (target.Local 2) (op dint (var dint (target.Local 2)) operator.Plus (lit dint (codes "1")))
      ∷ set 1 dint (target.Local 0) (var dint (target.Local 1))
      ∷ [])
      ∷ [];
  regions = instance_of (codes "P1") 0 ∷ [];
  tasks = task (codes "MAIN") (0 ∷ []) ∷ [];
}

abbrev store : ℤ → ℤ → Store
store x y = member_then (codes "P1") (instance (codes "P") (member_then (codes "X") (number x) (member_then (codes "Y") (number y) no_members))) no_members

both : cycle sample (0 ∷ []) 0 0 [] (store (pos 0) (pos 0)) ≡ (reply.Done 5 (2 ∷ 0 ∷ 0 ∷ 0 ∷ 2 ∷ 0 ∷ 0 ∷ 0 ∷ []), store (pos 2) (pos 2))
unfolding wrapped class_number class_variables conforms lookup
both = refl
