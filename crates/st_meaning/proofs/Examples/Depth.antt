-- Calls within calls: `IF n > 1 THEN m := THIS.m(n - 1) + 1; ELSE m := 1; END_IF` on line 3, called with the input: 64 are allowed.
use Rattle.std.proofs.Common.{◌≡◌, ℤ, pos, [], ◌∷◌, Some, None, refl}
use Rattle.std.specs.Prelude.{codes}
use Rattle.plc_num.specs.Wrapping.{wrapped}
use Rattle.plc_text.specs.declared.fault.FaultKind.TheVariants as fault
use Rattle.cycle_journal.specs.declared.entry.CycleReply.TheVariants as reply
use Rattle.st_types.specs.declared.st_type.StType.TheVariants as type
use Rattle.st_tree.specs.declared.declaration.SectionSort.TheVariants as sort
use Rattle.st_tree.specs.declared.expression.Operator.TheVariants as operator
use Rattle.st_tree.specs.declared.program.Target.TheVariants as target
use Rattle.st_tree.specs.Expression.{Positional}
use Rattle.st_values.specs.Program.{Program, class_number, class_variables, conforms, lookup}
use Rattle.st_values.specs.Value.{number, instance, no_members, member_then, Store}
use Rattle.st_meaning.specs.Cycle.{cycle}
use Rattle.st_meaning.proofs.Builder.{bool, dint, lit, var, op, dot, send, send_this, set, when, variable, own, located, method, class, program_class, instance_of, task}

abbrev sample : Program
sample = record {
  types = [];
  classes =
      class (codes "F") 0 [] [] []
      (method (codes "M") 2 (Some 0) dint (variable sort.Input (codes "N") dint None ∷ [])
      (when 3 (op bool (var dint (target.Local 1)) operator.Greater (lit dint (codes "1")))
      (set 3 dint (target.Local 0)
      (op dint
      (send_this dint (type.Instance 0) (dot dint (target.Method 0) (codes "M") ∷ []) (Positional (op dint (var dint (target.Local 1)) operator.Minus (lit dint (codes "1"))) ∷ []))
      operator.Plus (lit dint (codes "1")))
      ∷ [])
      (set 3 dint (target.Local 0) (lit dint (codes "1")) ∷ [])
      ∷ [])
      ∷ [])
      ∷ program_class (codes "P") 1 (own (codes "F1") (type.Instance 0) ∷ located (codes "D") dint (codes "%ID0") ∷ located (codes "X") dint (codes "%QD0") ∷ [])
      (set 5 dint (target.Variable 2) (send dint (type.Instance 0) (target.Variable 0) (dot dint (target.Method 0) (codes "M") ∷ []) (Positional (var dint (target.Variable 1)) ∷ [])) ∷ [])
      ∷ [];
  interfaces = [];
  functions = [];
  regions = instance_of (codes "P1") 1 ∷ [];
  tasks = task (codes "MAIN") (0 ∷ []) ∷ [];
}

abbrev store : ℤ → ℤ → Store
store d x = member_then (codes "P1") (instance (codes "P") (member_then (codes "F1") (instance (codes "F") no_members) (member_then (codes "D") (number d) (member_then (codes "X") (number x) no_members)))) no_members

deep : cycle sample (0 ∷ []) 0 0 (64 ∷ []) (store (pos 0) (pos 0)) ≡ (reply.Done 193 (64 ∷ 0 ∷ 0 ∷ 0 ∷ []), store (pos 64) (pos 64))
unfolding wrapped class_number class_variables conforms lookup
deep = refl

too_deep : cycle sample (0 ∷ []) 0 0 (65 ∷ []) (store (pos 0) (pos 0)) ≡ (reply.Fault (record { kind = fault.Depth; line = 3 }), store (pos 0) (pos 0))
unfolding wrapped class_number class_variables conforms lookup
too_deep = refl
