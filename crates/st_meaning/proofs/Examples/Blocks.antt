-- A body of a derived block: it has the in-out and the temporary variable of its base, and SUPER() runs the base's body with the same in-out
-- and fresh temporary variables. Base: `io := io + t; t := 100;` with `VAR_TEMP t : INT := 3;`. Derived: `t := t + 1; SUPER(); io := io + t;`.
use Rattle.std.proofs.Common.{◌≡◌, ℕ, ℤ, pos, List, [], ◌∷◌, Some, None, refl}
use Rattle.std.specs.Prelude.{codes}
use Rattle.plc_num.specs.Wrapping.{wrapped}
use Rattle.cycle_journal.specs.declared.entry.CycleReply.TheVariants as reply
use Rattle.st_types.specs.declared.st_type.StType.{out-StType}
use Rattle.st_types.specs.declared.st_type.StType.TheVariants as type
use Rattle.st_tree.specs.declared.declaration.SectionSort.TheVariants as sort
use Rattle.st_tree.specs.declared.expression.Operator.TheVariants as operator
use Rattle.st_tree.specs.declared.expression.Root.TheVariants as root
use Rattle.st_tree.specs.declared.program.Note.{Note}
use Rattle.st_tree.specs.declared.program.Target.{Target}
use Rattle.st_tree.specs.declared.program.Target.TheVariants as target
use Rattle.st_tree.specs.Expression.{no_selectors, arguments}
use Rattle.st_tree.specs.Statement.{Statement, Call, statements}
use Rattle.st_values.specs.Program.{to_local, a_block, Class, Program, class_number, class_variables, conforms, lookup}
use Rattle.st_values.specs.Value.{number, instance, no_members, member_then, Store}
use Rattle.st_meaning.specs.Cycle.{cycle}
use Rattle.st_meaning.proofs.Builder.{int, note, typed, lit, var, op, arg, set, variable, starting, own, located, program_class, instance_of, task}

abbrev block : List ℕ → ℕ → List ℕ → List (Statement Note) → Class
block name c bases ss = record {
  name = name;
  sort = a_block;
  chain = c ∷ bases;
  interfaces = [];
  own = [];
  methods = [];
  body = record {
    name = name;
    line = 1;
    class = Some c;
    parameters = record { sort = sort.InOut; to = to_local 0 } ∷ [];
    locals = variable sort.InOut (codes "IO") int None ∷ starting (variable sort.Temp (codes "T") int None) (pos 3) ∷ [];
    body = statements ss;
  };
}

abbrev io : Target
io = target.Local 0

abbrev t : Target
t = target.Local 1

abbrev sample : Program
sample = record {
  types = [];
  classes =
      block (codes "A") 0 [] (set 1 int io (op int (var int io) operator.Plus (var int t)) ∷ set 1 int t (lit int (codes "100")) ∷ [])
      ∷ block (codes "K") 1 (0 ∷ [])
      (set 2 int t (op int (var int t) operator.Plus (lit int (codes "1")))
      ∷ Call 2 (typed int) (root.Super (typed (type.Instance 0))) no_selectors (arguments [])
      ∷ set 2 int io (op int (var int io) operator.Plus (var int t))
      ∷ [])
      ∷ program_class (codes "P") 2 (own (codes "K1") (type.Instance 1) ∷ located (codes "X") int (codes "%QW0") ∷ [])
      (Call 4 (typed int) (root.Name (note (type.Instance 1) (target.Variable 0)) (codes "K1")) no_selectors (arguments (arg 0 (var int (target.Variable 1)) ∷ [])) ∷ [])
      ∷ [];
  interfaces = [];
  functions = [];
  regions = instance_of (codes "P1") 2 ∷ [];
  tasks = task (codes "MAIN") (0 ∷ []) ∷ [];
}

abbrev store : ℤ → Store
store x = member_then (codes "P1") (instance (codes "P") (member_then (codes "K1") (instance (codes "K") no_members) (member_then (codes "X") (number x) no_members))) no_members

inherited : cycle sample (0 ∷ []) 0 0 [] (store (pos 0)) ≡ (reply.Done 8 (7 ∷ 0 ∷ []), store (pos 7))
unfolding wrapped class_number class_variables conforms lookup out-StType denote.Hole.Carrier.out
inherited = refl
