-- Outputs are read and written one after another, each place evaluated then: `F(q => i, r => a[i]);` where F leaves 1 in q and 7 in r.
-- Behind it CASE with a range, and REPEAT with CONTINUE.
use Rattle.std.proofs.Common.{◌≡◌, ℕ, ℤ, pos, List, [], ◌∷◌, Some, None, refl}
use Rattle.std.specs.Prelude.{codes}
use Rattle.plc_num.specs.Wrapping.{wrapped}
use Rattle.cycle_journal.specs.declared.entry.CycleReply.TheVariants as reply
use Rattle.st_types.specs.declared.st_type.StType.{StType, out-StType}
use Rattle.st_types.specs.declared.st_type.StType.TheVariants as type
use Rattle.st_tree.specs.declared.declaration.SectionSort.TheVariants as sort
use Rattle.st_tree.specs.declared.expression.Operator.TheVariants as operator
use Rattle.st_tree.specs.declared.expression.Root.TheVariants as root
use Rattle.st_tree.specs.declared.program.Note.{Note}
use Rattle.st_tree.specs.declared.program.Target.{Target}
use Rattle.st_tree.specs.declared.program.Target.TheVariants as target
use Rattle.st_tree.specs.declared.statement.LabelEnd.{LabelEnd}
use Rattle.st_tree.specs.declared.statement.LabelEnd.TheVariants as label
use Rattle.st_tree.specs.Expression.{Argument, Output, no_selectors, arguments, selectors}
use Rattle.st_tree.specs.Statement.{Statement, Call, Case, Repeat, Continue, If, branch_then, no_branches, Nothing, statements, cases}
use Rattle.st_values.specs.Program.{to_local, Routine, Program, class_number, class_variables, conforms, lookup}
use Rattle.st_values.specs.Value.{number, array, instance, no_values, value_then, no_members, member_then, Store}
use Rattle.st_meaning.specs.Cycle.{cycle}
use Rattle.st_meaning.proofs.Builder.{bool, int, note, typed, lit, var, op, out, index, set, variable, own, located, program_class, instance_of, task}

abbrev row : StType
row = type.Array (pos 0) (pos 1) int

abbrev i : Target
i = target.Variable 0

abbrev a : Target
a = target.Variable 1

abbrev x : Target
x = target.Variable 2

abbrev function : Routine
function = record {
  name = codes "F";
  line = 1;
  class = None;
  parameters = record { sort = sort.Output; to = to_local 0 } ∷ record { sort = sort.Output; to = to_local 1 } ∷ [];
  locals = variable sort.Output (codes "Q") int None ∷ variable sort.Output (codes "R") int None ∷ [];
  body = statements (set 1 int (target.Local 0) (lit int (codes "1")) ∷ set 1 int (target.Local 1) (lit int (codes "7")) ∷ []);
}

abbrev sample : List (Statement Note) → Program
sample body = record {
  types = [];
  classes = program_class (codes "P") 0 (own (codes "I") int ∷ own (codes "A") row ∷ located (codes "X") int (codes "%QW0") ∷ []) body ∷ [];
  interfaces = [];
  functions = function ∷ [];
  regions = instance_of (codes "P1") 0 ∷ [];
  tasks = task (codes "MAIN") (0 ∷ []) ∷ [];
}

abbrev store : ℤ → ℤ → ℤ → ℤ → Store
store k v w z =
    member_then (codes "P1")
    (instance (codes "P") (member_then (codes "I") (number k) (member_then (codes "A") (array (pos 0) (value_then (number v) (value_then (number w) no_values))) (member_then (codes "X") (number z) no_members))))
    no_members

abbrev to_element : ℕ → Argument Note
to_element k = Output (note int (target.Parameter k)) [] (typed int) (root.Name (note row a) []) (selectors (index int (var int i) ∷ []))

abbrev calls : List (Argument Note) → Statement Note
calls xs = Call 3 (typed int) (root.Name (note int (target.Function 0)) (codes "F")) no_selectors (arguments xs)

-- 7 goes to a[1], since i is 1 by then
one_by_one : cycle (sample (calls (out 0 int i ∷ to_element 1 ∷ []) ∷ [])) (0 ∷ []) 0 0 [] (store (pos 0) (pos 0) (pos 0) (pos 0)) ≡ (reply.Done 4 (0 ∷ 0 ∷ []), store (pos 1) (pos 0) (pos 7) (pos 0))
unfolding wrapped class_number class_variables conforms lookup out-StType denote.Hole.Carrier.out
one_by_one = refl

-- and to a[0] the other way round
as_written : cycle (sample (calls (to_element 1 ∷ out 0 int i ∷ []) ∷ [])) (0 ∷ []) 0 0 [] (store (pos 0) (pos 0) (pos 0) (pos 0)) ≡ (reply.Done 4 (0 ∷ 0 ∷ []), store (pos 1) (pos 7) (pos 0) (pos 0))
unfolding wrapped class_number class_variables conforms lookup out-StType denote.Hole.Carrier.out
as_written = refl

abbrev ending : ℤ → LabelEnd Note
ending z = label.Int (note int (target.Constant z)) []

-- REPEAT i := i + 1; IF i < 3 THEN CONTINUE; END_IF CASE i OF 1, 2: ; 3..5: x := x + i; ELSE x := 100; END_CASE UNTIL i = 6 END_REPEAT
abbrev repeats : Statement Note
repeats =
    Repeat 2
    (statements
    (set 3 int i (op int (var int i) operator.Plus (lit int (codes "1")))
    ∷ If 4 (branch_then (op bool (var int i) operator.Less (lit int (codes "3"))) (statements (Continue 4 ∷ [])) no_branches) Nothing
    ∷ Case 5 (var int i)
    (cases
    ((record { first = ending (pos 1); last = None } ∷ record { first = ending (pos 2); last = None } ∷ [], statements [])
    ∷ (record { first = ending (pos 3); last = Some (ending (pos 5)) } ∷ [], statements (set 6 int x (op int (var int x) operator.Plus (var int i)) ∷ []))
    ∷ []))
    Nothing
    ∷ []))
    (op bool (var int i) operator.Equal (lit int (codes "6")))

-- 3 + 4 + 5; ticks: 1 for REPEAT; 2 turns of 3 statements and a test, 3 turns of 4 and a test, a last one of 3 and a test
turns : cycle (sample (repeats ∷ [])) (0 ∷ []) 0 0 [] (store (pos 0) (pos 0) (pos 0) (pos 0)) ≡ (reply.Done 28 (12 ∷ 0 ∷ []), store (pos 6) (pos 0) (pos 0) (pos 12))
unfolding wrapped class_number class_variables conforms lookup
turns = refl
