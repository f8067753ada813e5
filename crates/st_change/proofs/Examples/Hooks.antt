-- Hooks in order. Items lie in an array in a cell; each hook writes one digit more to g. The first load writes 1, 1 for the inits of the
-- items and 8 for that of the cell; the change 5 and 2, 2 for the exits, 3, 3 and 6 for the inits, 4, 4 and 7 for the reinits. In between a
-- reference to the second item is taken, which goes on with it.
use Rattle.std.proofs.Common.{◌≡◌, ℕ, ℤ, pos, List, [], ◌∷◌, ◌++◌, Option, Some, None, refl}
use Rattle.std.specs.Prelude.{codes}
use Rattle.plc_num.specs.Wrapping.{wrapped}
use Rattle.cycle_journal.specs.declared.entry.CycleReply.TheVariants as reply
use Rattle.st_types.specs.declared.st_type.StType.{StType, out-StType}
use Rattle.st_types.specs.declared.st_type.StType.TheBlock.{hidden-the_row-StType-0, shown-the_row-StType-0}
use Rattle.st_types.specs.declared.st_type.StType.TheVariants as type
use Rattle.st_tree.specs.declared.declaration.SectionSort.TheVariants as sort
use Rattle.st_tree.specs.declared.expression.Operator.TheVariants as operator
use Rattle.st_tree.specs.declared.path.Step.TheVariants as step
use Rattle.st_tree.specs.declared.program.Note.{Note}
use Rattle.st_tree.specs.declared.program.Target.TheVariants as target
use Rattle.st_tree.specs.Expression.{Null}
use Rattle.st_tree.specs.Statement.{Statement}
use Rattle.st_values.specs.Program.{Variable, Routine, Program, class_number, class_variables, conforms, lookup}
use Rattle.st_values.specs.Value.{Path, Value, number, reference, array, instance, no_values, value_then, no_members, member_then, Store}
use Rattle.st_meaning.specs.Cycle.{cycle}
use Rattle.st_meaning.proofs.Builder.{bool, int, dint, ulint, typed, lit, var, op, ref, dot, index, caret, send, set, when, variable, own, located, method, class, program_class, global, instance_of, task}
use Rattle.st_change.specs.From.{class_pairs, structure_pairs, region_pairs}
use Rattle.st_change.specs.Counterpart.{kept}
use Rattle.st_change.specs.Hook.{ran}
use Rattle.st_change.specs.Change.{start, change}

-- g := g * 10 + digit
abbrev notes : List ℕ → Statement Note
notes digit = set 1 ulint (target.Region 0) (op ulint (op ulint (var ulint (target.Region 0)) operator.Times (lit ulint (codes "10"))) operator.Plus (lit ulint digit))

-- hooks that write these digits: at an init, at an init with a copy, at an exit, at a reinit
abbrev hooks : ℕ → List ℕ → List ℕ → List ℕ → List ℕ → List Routine
hooks c fresh copied exits again =
    method (codes "FB_INIT") 1 (Some c) bool (variable sort.Input (codes "BINITRETAINS") bool None ∷ variable sort.Input (codes "BINCOPYCODE") bool None ∷ [])
    (when 1 (var bool (target.Local 2)) (notes copied ∷ []) (notes fresh ∷ []) ∷ [])
    ∷ method (codes "FB_EXIT") 1 (Some c) bool (variable sort.Input (codes "BINCOPYCODE") bool None ∷ []) (notes exits ∷ [])
    ∷ method (codes "FB_REINIT") 1 (Some c) bool [] (notes again ∷ [])
    ∷ []

abbrev hit : Routine
hit =
    method (codes "HIT") 1 (Some 0) dint []
    (set 1 dint (target.Variable 0) (op dint (var dint (target.Variable 0)) operator.Plus (lit dint (codes "1"))) ∷ set 1 dint (target.Local 0) (var dint (target.Variable 0)) ∷ [])

abbrev pair : StType
pair = type.Array (pos 0) (pos 1) (type.Instance 0)

-- the number of `items` in the cell
abbrev body : ℕ → List (Statement Note)
body k =
    when 1 (op bool (var (type.Reference 0) (target.Region 1)) operator.Equal (Null (typed (type.Reference 0))))
    (set 1 (type.Reference 0) (target.Region 1)
    (ref (type.Reference 0) (type.Instance 1) (target.Variable 0) (dot pair (target.Variable k) (codes "ITEMS") ∷ index (type.Instance 0) (lit dint (codes "1")) ∷ []))
    ∷ [])
    []
    ∷ set 1 dint (target.Variable 1) (send dint (type.Reference 0) (target.Region 1) (caret (type.Instance 0) ∷ dot dint (target.Method 3) (codes "HIT") ∷ []) [])
    ∷ set 1 ulint (target.Variable 2) (var ulint (target.Region 0))
    ∷ []

abbrev sample : List Variable → ℕ → Program
sample before k = record {
  types = [];
  classes =
      class (codes "ITEM") 0 [] [] (own (codes "N") dint ∷ []) (hooks 0 (codes "1") (codes "3") (codes "2") (codes "4") ++ hit ∷ [])
      ∷ class (codes "CELL") 1 [] [] (before ++ own (codes "ITEMS") pair ∷ []) (hooks 1 (codes "8") (codes "6") (codes "5") (codes "7"))
      ∷ program_class (codes "P") 2 (own (codes "C1") (type.Instance 1) ∷ located (codes "X") dint (codes "%QD0") ∷ located (codes "Y") ulint (codes "%QL1") ∷ []) (body k)
      ∷ [];
  interfaces = [];
  functions = [];
  regions = global (own (codes "G") ulint) ∷ global (own (codes "R") (type.Reference 0)) ∷ instance_of (codes "P1") 2 ∷ [];
  tasks = task (codes "MAIN") (2 ∷ []) ∷ [];
}

abbrev old : Program
old = sample [] 0

abbrev new : Program
new = sample (own (codes "SPEED") int ∷ []) 1

abbrev item : ℤ → Value
item n = instance (codes "ITEM") (member_then (codes "N") (number n) no_members)

abbrev items : ℤ → ℤ → Value
items a b = array (pos 0) (value_then (item a) (value_then (item b) no_values))

abbrev second : ℕ → Path
second k = record { region = 2; steps = step.Field 0 ∷ step.Field k ∷ step.Element (pos 1) ∷ [] }

abbrev old_cell : ℤ → ℤ → Value
old_cell a b = instance (codes "CELL") (member_then (codes "ITEMS") (items a b) no_members)

abbrev new_cell : ℤ → ℤ → Value
new_cell a b = instance (codes "CELL") (member_then (codes "SPEED") (number (pos 0)) (member_then (codes "ITEMS") (items a b) no_members))

abbrev store : ℤ → Option Path → Value → ℤ → ℤ → Store
store g r cell x y =
    member_then (codes "G") (number g)
    (member_then (codes "R") (reference r)
    (member_then (codes "P1") (instance (codes "P") (member_then (codes "C1") cell (member_then (codes "X") (number x) (member_then (codes "Y") (number y) no_members)))) no_members))

loads : start old ≡ ran (store (pos 118) None (old_cell (pos 0) (pos 0)) (pos 0) (pos 0)) 99991
unfolding wrapped class_number class_variables conforms lookup class_pairs structure_pairs region_pairs kept out-StType denote.Hole.Carrier.out denote.Hole.Carrier.shown denote.Hole.Carrier.hidden hidden-the_row-StType-0 shown-the_row-StType-0
loads = refl

first : cycle old (0 ∷ 1 ∷ 2 ∷ []) 0 0 [] (store (pos 118) None (old_cell (pos 0) (pos 0)) (pos 0) (pos 0))
    ≡ (reply.Done 7 (1 ∷ 0 ∷ 0 ∷ 0 ∷ 0 ∷ 0 ∷ 0 ∷ 0 ∷ 118 ∷ 0 ∷ 0 ∷ 0 ∷ 0 ∷ 0 ∷ 0 ∷ 0 ∷ []), store (pos 118) (Some (second 0)) (old_cell (pos 0) (pos 1)) (pos 1) (pos 118))
unfolding wrapped class_number class_variables conforms lookup class_pairs structure_pairs region_pairs kept out-StType denote.Hole.Carrier.out denote.Hole.Carrier.shown denote.Hole.Carrier.hidden hidden-the_row-StType-0 shown-the_row-StType-0
first = refl

changes : change old new (store (pos 118) (Some (second 0)) (old_cell (pos 0) (pos 1)) (pos 1) (pos 118)) ≡ ran (store (pos 118522336447) (Some (second 1)) (new_cell (pos 0) (pos 1)) (pos 1) (pos 118)) 99979
unfolding wrapped class_number class_variables conforms lookup class_pairs structure_pairs region_pairs kept out-StType denote.Hole.Carrier.out denote.Hole.Carrier.shown denote.Hole.Carrier.hidden hidden-the_row-StType-0 shown-the_row-StType-0
changes = refl

goes_on : cycle new (0 ∷ 1 ∷ 2 ∷ []) 0 1 [] (store (pos 118522336447) (Some (second 1)) (new_cell (pos 0) (pos 1)) (pos 1) (pos 118))
    ≡ (reply.Done 6 (2 ∷ 0 ∷ 0 ∷ 0 ∷ 0 ∷ 0 ∷ 0 ∷ 0 ∷ 191 ∷ 84 ∷ 123 ∷ 152 ∷ 27 ∷ 0 ∷ 0 ∷ 0 ∷ []), store (pos 118522336447) (Some (second 1)) (new_cell (pos 0) (pos 2)) (pos 2) (pos 118522336447))
unfolding wrapped class_number class_variables conforms lookup class_pairs structure_pairs region_pairs kept out-StType denote.Hole.Carrier.out denote.Hole.Carrier.shown denote.Hole.Carrier.hidden hidden-the_row-StType-0 shown-the_row-StType-0
goes_on = refl
