-- Calls by the class of the instance that is held: through a reference, an interface variable and SUPER; `?=` that finds no such instance.
use Rattle.std.proofs.Common.{◌≡◌, ℕ, ℤ, pos, List, [], ◌∷◌, ◌++◌, Option, Some, None, refl}
use Rattle.std.specs.Prelude.{codes}
use Rattle.plc_num.specs.Wrapping.{wrapped}
use Rattle.plc_text.specs.declared.fault.FaultKind.TheVariants as fault
use Rattle.cycle_journal.specs.declared.entry.CycleReply.TheVariants as reply
use Rattle.st_types.specs.declared.st_type.StType.{StType, out-StType}
use Rattle.st_types.specs.declared.st_type.StType.TheVariants as type
use Rattle.st_tree.specs.declared.expression.Operator.TheVariants as operator
use Rattle.st_tree.specs.declared.path.Step.TheVariants as step
use Rattle.st_tree.specs.declared.program.Note.{Note}
use Rattle.st_tree.specs.declared.program.Target.TheVariants as target
use Rattle.st_tree.specs.Expression.{Expression}
use Rattle.st_tree.specs.Statement.{Statement}
use Rattle.st_values.specs.Program.{Program, class_number, class_variables, conforms, lookup}
use Rattle.st_values.specs.Value.{Path, number, reference, array, instance, no_values, value_then, no_members, member_then, Store}
use Rattle.st_meaning.specs.Cycle.{cycle}
use Rattle.st_meaning.proofs.Builder.{dint, int, lit, var, op, ref, dot, index, caret, send, send_super, set, set_at, attempt, own, located, method, class, program_class, instance_of, task}

abbrev drives : StType
drives = type.Array (pos 1) (pos 2) (type.Interface 0)

-- `t[k].v()`, and `r^.v()`
abbrev through_interface : List ℕ → Expression Note
through_interface k = send int drives (target.Variable 3) (index (type.Interface 0) (lit dint k) ∷ dot int (target.Method 0) (codes "V") ∷ []) []

abbrev through_reference : Expression Note
through_reference = send int (type.Reference 0) (target.Variable 2) (caret (type.Instance 0) ∷ dot int (target.Method 0) (codes "V") ∷ []) []

abbrev first_lines : List (Statement Note)
first_lines =
    set 6 (type.Reference 0) (target.Variable 2) (ref (type.Reference 1) (type.Instance 1) (target.Variable 0) [])
    ∷ set_at 6 (type.Interface 0) drives (target.Variable 3) (index (type.Interface 0) (lit dint (codes "1")) ∷ []) (var (type.Instance 1) (target.Variable 0))
    ∷ attempt 6 (type.Interface 0) drives (target.Variable 3) (index (type.Interface 0) (lit dint (codes "2")) ∷ []) (var (type.Instance 2) (target.Variable 1))
    ∷ set 7 int (target.Variable 4) (op int through_reference operator.Plus (through_interface (codes "1")))
    ∷ []

abbrev sample : List (Statement Note) → Program
sample body = record {
  types = [];
  classes =
      class (codes "CA") 0 [] (0 ∷ []) [] (method (codes "V") 2 (Some 0) int [] (set 2 int (target.Local 0) (lit int (codes "1")) ∷ []) ∷ [])
      ∷ class (codes "CB") 1 (0 ∷ []) (0 ∷ []) []
      (method (codes "V") 3 (Some 1) int []
      (set 3 int (target.Local 0) (op int (send_super int (type.Instance 0) (dot int (target.Method 0) (codes "V") ∷ []) []) operator.Plus (lit int (codes "10"))) ∷ [])
      ∷ [])
      ∷ class (codes "CS") 2 [] [] [] []
      ∷ program_class (codes "P") 3
      (own (codes "B1") (type.Instance 1) ∷ own (codes "S1") (type.Instance 2) ∷ own (codes "R") (type.Reference 0) ∷ own (codes "T") drives
      ∷ located (codes "X") int (codes "%QW0") ∷ located (codes "N") int (codes "%QW1") ∷ [])
      body
      ∷ [];
  interfaces = record { name = codes "IV"; methods = record { name = codes "V"; parameters = [] } ∷ [] } ∷ [];
  functions = [];
  regions = instance_of (codes "P1") 3 ∷ [];
  tasks = task (codes "MAIN") (0 ∷ []) ∷ [];
}

abbrev store : Option Path → Option Path → Option Path → ℤ → Store
store r t1 t2 x =
    member_then (codes "P1")
    (instance (codes "P")
    (member_then (codes "B1") (instance (codes "CB") no_members)
    (member_then (codes "S1") (instance (codes "CS") no_members)
    (member_then (codes "R") (reference r)
    (member_then (codes "T") (array (pos 1) (value_then (reference t1) (value_then (reference t2) no_values)))
    (member_then (codes "X") (number x) (member_then (codes "N") (number (pos 0)) no_members)))))))
    no_members

abbrev b1 : Path
b1 = record { region = 0; steps = step.Field 0 ∷ [] }

-- 11 twice: 22 in two bytes, and 0 in two more
calls : cycle (sample first_lines) (0 ∷ []) 0 0 [] (store None None None (pos 0)) ≡ (reply.Done 12 (22 ∷ 0 ∷ 0 ∷ 0 ∷ []), store (Some b1) (Some b1) None (pos 22))
unfolding wrapped class_number class_variables conforms lookup out-StType denote.Hole.Carrier.out
calls = refl

-- with `n := t[2].v();` on line 8
is_null : cycle (sample (first_lines ++ set 8 int (target.Variable 5) (through_interface (codes "2")) ∷ [])) (0 ∷ []) 0 0 [] (store None None None (pos 0)) ≡ (reply.Fault (record { kind = fault.Null; line = 8 }), store None None None (pos 0))
unfolding wrapped class_number class_variables conforms lookup out-StType denote.Hole.Carrier.out
is_null = refl
