-- A fault undoes its cycle: `x := x + 1;` on line 2 and `x := x / d;` on line 3, with x at %QD0 and d at %ID0.
use Rattle.std.proofs.Common.{◌≡◌, ℤ, pos, [], ◌∷◌, refl}
use Rattle.std.specs.Prelude.{codes}
use Rattle.plc_num.specs.Wrapping.{wrapped}
use Rattle.plc_text.specs.declared.fault.FaultKind.TheVariants as fault
use Rattle.cycle_journal.specs.declared.entry.CycleReply.TheVariants as reply
use Rattle.st_tree.specs.declared.expression.Operator.TheVariants as operator
use Rattle.st_tree.specs.declared.program.Target.TheVariants as target
use Rattle.st_values.specs.Program.{Program, class_number, class_variables, conforms, lookup}
use Rattle.st_values.specs.Value.{number, instance, no_members, member_then, Store}
use Rattle.st_meaning.specs.Cycle.{cycle}
use Rattle.st_meaning.proofs.Builder.{dint, lit, var, op, set, located, program_class, instance_of, task}

abbrev sample : Program
sample = record {
  types = [];
  classes =
      program_class (codes "P") 0 (located (codes "X") dint (codes "%QD0") ∷ located (codes "D") dint (codes "%ID0") ∷ [])
      (set 2 dint (target.Variable 0) (op dint (var dint (target.Variable 0)) operator.Plus (lit dint (codes "1")))
      ∷ set 3 dint (target.Variable 0) (op dint (var dint (target.Variable 0)) operator.Divide (var dint (target.Variable 1)))
      ∷ [])
      ∷ [];
  interfaces = [];
  functions = [];
  regions = instance_of (codes "P1") 0 ∷ [];
  tasks = task (codes "MAIN") (0 ∷ []) ∷ [];
}

abbrev store : ℤ → ℤ → Store
store x d = member_then (codes "P1") (instance (codes "P") (member_then (codes "X") (number x) (member_then (codes "D") (number d) no_members))) no_members

faults : cycle sample (0 ∷ []) 0 0 (0 ∷ 0 ∷ 0 ∷ 0 ∷ []) (store (pos 0) (pos 7)) ≡ (reply.Fault (record { kind = fault.Divide; line = 3 }), store (pos 0) (pos 7))
unfolding wrapped class_number class_variables conforms lookup
faults = refl

ends : cycle sample (0 ∷ []) 0 2 (1 ∷ 0 ∷ 0 ∷ 0 ∷ []) (store (pos 0) (pos 7)) ≡ (reply.Done 2 (1 ∷ 0 ∷ 0 ∷ 0 ∷ []), store (pos 1) (pos 1))
unfolding wrapped class_number class_variables conforms lookup
ends = refl
