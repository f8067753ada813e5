-- Marks. `speed` goes on as `velocity`, which is renamed from it; `n`, which is not to be copied, starts anew. A global that is initialised at
-- each change starts anew though its region is kept, and the one beside it goes on.
use Rattle.std.proofs.Common.{◌≡◌, ℤ, pos, true, false, List, [], ◌∷◌, Some, None, refl}
use Rattle.std.specs.Prelude.{codes}
use Rattle.plc_num.specs.Wrapping.{wrapped}
use Rattle.st_types.specs.declared.st_type.StType.{out-StType}
use Rattle.st_values.specs.Program.{Variable, Program, class_number, class_variables, conforms, lookup}
use Rattle.st_values.specs.Value.{number, instance, no_members, member_then, Store}
use Rattle.st_meaning.proofs.Builder.{dint, starting, own, located, program_class, global, instance_of, task}
use Rattle.st_change.specs.From.{class_pairs, structure_pairs, region_pairs}
use Rattle.st_change.specs.Counterpart.{kept}
use Rattle.st_change.specs.Hook.{ran}
use Rattle.st_change.specs.Change.{change}

abbrev of_program : List Variable → Program
of_program vs = record {
  types = [];
  classes = program_class (codes "P") 0 vs [] ∷ [];
  interfaces = [];
  functions = [];
  regions = instance_of (codes "P1") 0 ∷ [];
  tasks = task (codes "MAIN") (0 ∷ []) ∷ [];
}

abbrev n : Variable
n = starting (own (codes "N") dint) (pos 5)

abbrev velocity : Variable
velocity = record (own (codes "VELOCITY") dint) { marks = record { no_copy = false; init_on_change = false; renamed_from = Some (codes "SPEED") } }

abbrev uncopied : Variable
uncopied = record n { marks = record { no_copy = true; init_on_change = false; renamed_from = None } }

abbrev x : Variable
x = located (codes "X") dint (codes "%QD0")

abbrev before : ℤ → ℤ → ℤ → Store
before a b c = member_then (codes "P1") (instance (codes "P") (member_then (codes "SPEED") (number a) (member_then (codes "N") (number b) (member_then (codes "X") (number c) no_members)))) no_members

abbrev after : ℤ → ℤ → ℤ → Store
after a b c = member_then (codes "P1") (instance (codes "P") (member_then (codes "VELOCITY") (number a) (member_then (codes "N") (number b) (member_then (codes "X") (number c) no_members)))) no_members

renames : change (of_program (own (codes "SPEED") dint ∷ n ∷ x ∷ [])) (of_program (velocity ∷ uncopied ∷ x ∷ [])) (before (pos 1) (pos 6) (pos 1)) ≡ ran (after (pos 1) (pos 5) (pos 1)) 100000
unfolding wrapped class_number class_variables conforms lookup class_pairs structure_pairs region_pairs kept out-StType denote.Hole.Carrier.out
renames = refl

abbrev g : Variable
g = record (starting (own (codes "G") dint) (pos 5)) { marks = record { no_copy = false; init_on_change = true; renamed_from = None } }

abbrev h : Variable
h = starting (own (codes "H") dint) (pos 5)

abbrev of_globals : Program
of_globals = record {
  types = [];
  classes = program_class (codes "P") 0 (x ∷ []) [] ∷ [];
  interfaces = [];
  functions = [];
  regions = global g ∷ global h ∷ instance_of (codes "P1") 0 ∷ [];
  tasks = task (codes "MAIN") (2 ∷ []) ∷ [];
}

abbrev globals : ℤ → ℤ → ℤ → Store
globals a b c = member_then (codes "G") (number a) (member_then (codes "H") (number b) (member_then (codes "P1") (instance (codes "P") (member_then (codes "X") (number c) no_members)) no_members))

starts_anew : change of_globals of_globals (globals (pos 6) (pos 6) (pos 6)) ≡ ran (globals (pos 5) (pos 6) (pos 6)) 100000
unfolding wrapped class_number class_variables conforms lookup class_pairs structure_pairs region_pairs kept out-StType denote.Hole.Carrier.out
starts_anew = refl
