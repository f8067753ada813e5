-- FOR at the end of a type: `FOR u := 250 TO 255 DO n := n + 1; END_FOR` with u at %QB4 and n at %QD0; and a step of 0.
use Rattle.std.proofs.Common.{◌≡◌, ℤ, pos, List, [], ◌∷◌, Some, None, refl}
use Rattle.std.specs.Prelude.{codes}
use Rattle.plc_num.specs.Wrapping.{wrapped}
use Rattle.plc_text.specs.declared.fault.FaultKind.TheVariants as fault
use Rattle.cycle_journal.specs.declared.entry.CycleReply.TheVariants as reply
use Rattle.st_tree.specs.declared.expression.Operator.TheVariants as operator
use Rattle.st_tree.specs.declared.program.Note.{Note}
use Rattle.st_tree.specs.declared.program.Target.TheVariants as target
use Rattle.st_tree.specs.Statement.{Statement, For, statements}
use Rattle.st_values.specs.Program.{Program, class_number, class_variables, conforms, lookup}
use Rattle.st_values.specs.Value.{number, instance, no_members, member_then, Store}
use Rattle.st_meaning.specs.Cycle.{cycle}
use Rattle.st_meaning.proofs.Builder.{dint, usint, note, lit, var, op, set, located, program_class, instance_of, task}

abbrev sample : List (Statement Note) → Program
sample body = record {
  types = [];
  classes = program_class (codes "P") 0 (located (codes "U") usint (codes "%QB4") ∷ located (codes "N") dint (codes "%QD0") ∷ []) body ∷ [];
  interfaces = [];
  functions = [];
  regions = instance_of (codes "P1") 0 ∷ [];
  tasks = task (codes "MAIN") (0 ∷ []) ∷ [];
}

abbrev store : ℤ → ℤ → Store
store u n = member_then (codes "P1") (instance (codes "P") (member_then (codes "U") (number u) (member_then (codes "N") (number n) no_members))) no_members

abbrev upward : Statement Note
upward =
    For 1 (note usint (target.Variable 0)) (codes "U") (lit usint (codes "250")) (lit usint (codes "255")) None
    (statements (set 1 dint (target.Variable 1) (op dint (var dint (target.Variable 1)) operator.Plus (lit dint (codes "1"))) ∷ []))

-- six turns: the step after the last wraps to 0, which is written
wraps : cycle (sample (upward ∷ [])) (0 ∷ []) 0 0 [] (store (pos 9) (pos 0)) ≡ (reply.Done 13 (6 ∷ 0 ∷ 0 ∷ 0 ∷ 0 ∷ []), store (pos 0) (pos 6))
unfolding wrapped class_number class_variables conforms lookup
wraps = refl

standing : Statement Note
standing = For 2 (note usint (target.Variable 0)) (codes "U") (lit usint (codes "1")) (lit usint (codes "3")) (Some (lit usint (codes "0"))) (statements [])

no_step : cycle (sample (standing ∷ [])) (0 ∷ []) 0 0 [] (store (pos 9) (pos 0)) ≡ (reply.Fault (record { kind = fault.Step; line = 2 }), store (pos 9) (pos 0))
unfolding wrapped class_number class_variables conforms lookup standing
no_step = refl
