-- A change by place and by writes: `velocity` is renamed from `speed`, `n` is not to be copied, and of `a` the first element is gone.
use Rattle.std.proofs.Common.{◌≡◌, ℤ, pos, true, false, List, [], ◌∷◌, Some, None, refl}
use Rattle.std.specs.Prelude.{codes}
use Rattle.plc_num.specs.Wrapping.{wrapped}
use Rattle.st_types.specs.declared.elem.Elem.TheVariants as elem
use Rattle.st_types.specs.declared.st_type.StType.{out-StType}
use Rattle.st_types.specs.declared.st_type.StType.TheBlock.{hidden-the_row-StType-0, shown-the_row-StType-0}
use Rattle.st_types.specs.declared.st_type.StType.TheVariants as type
use Rattle.st_tree.specs.declared.path.Path.{Path}
use Rattle.st_tree.specs.declared.path.Step.{Step}
use Rattle.st_tree.specs.declared.path.Step.TheVariants as step
use Rattle.st_values.specs.Program.{Variable, Program, class_number, class_variables, conforms, lookup}
use Rattle.st_values.specs.Value.{number, array, instance, Values, no_values, value_then, no_members, member_then, Store}
use Rattle.st_values.specs.Shape.{Elementary}
use Rattle.st_meaning.proofs.Builder.{dint, own, program_class, instance_of, task}
use Rattle.st_change.specs.From.{class_pairs, structure_pairs, region_pairs, old_path}
use Rattle.st_change.specs.Counterpart.{kept}
use Rattle.st_change.specs.Change.{carry_store}
use Rattle.st_change.specs.carry_places.Places.{old_at, goes}
use Rattle.st_change.specs.carry_places.StoreWrites.{StoreWrite, stored}

abbrev of_program : List Variable → Program
of_program vs = record {
  types = [];
  classes = program_class (codes "P") 0 vs [] ∷ [];
  interfaces = [];
  functions = [];
  regions = instance_of (codes "P1") 0 ∷ [];
  tasks = task (codes "MAIN") (0 ∷ []) ∷ [];
}

abbrev velocity : Variable
velocity = record (own (codes "VELOCITY") dint) { marks = record { no_copy = false; init_on_change = false; renamed_from = Some (codes "SPEED") } }

abbrev uncopied : Variable
uncopied = record (own (codes "N") dint) { marks = record { no_copy = true; init_on_change = false; renamed_from = None } }

abbrev old_program : Program
old_program = of_program (own (codes "N") dint ∷ own (codes "SPEED") dint ∷ own (codes "A") (type.Array (pos 1) (pos 3) dint) ∷ [])

abbrev new_program : Program
new_program = of_program (velocity ∷ uncopied ∷ own (codes "A") (type.Array (pos 2) (pos 4) dint) ∷ [])

abbrev three : ℤ → ℤ → ℤ → Values
three a b c = value_then (number a) (value_then (number b) (value_then (number c) no_values))

abbrev before : Store
before =
    member_then (codes "P1")
    (instance (codes "P") (member_then (codes "N") (number (pos 6)) (member_then (codes "SPEED") (number (pos 7)) (member_then (codes "A") (array (pos 1) (three (pos 11) (pos 12) (pos 13))) no_members)))) no_members

abbrev after : ℤ → Values → Store
after v vs =
    member_then (codes "P1")
    (instance (codes "P") (member_then (codes "VELOCITY") (number v) (member_then (codes "N") (number (pos 0)) (member_then (codes "A") (array (pos 2) vs) no_members)))) no_members

abbrev held : Store
held = after (pos 0) (three (pos 0) (pos 0) (pos 0))

abbrev place : List Step → Path
place ss = record { region = 0; steps = ss }

-- each place that goes on, with its old path, and what was there
velocity_path : old_path old_program new_program (place (step.Field 0 ∷ [])) ≡ Some (place (step.Field 1 ∷ []))
unfolding wrapped class_number class_variables conforms lookup class_pairs structure_pairs region_pairs kept out-StType denote.Hole.Carrier.out denote.Hole.Carrier.shown denote.Hole.Carrier.hidden hidden-the_row-StType-0 shown-the_row-StType-0
velocity_path = refl

velocity_from : old_at old_program new_program before (place (step.Field 0 ∷ [])) ≡ Some (Elementary elem.Dint, number (pos 7))
unfolding wrapped class_number class_variables conforms lookup class_pairs structure_pairs region_pairs kept out-StType denote.Hole.Carrier.out denote.Hole.Carrier.shown denote.Hole.Carrier.hidden hidden-the_row-StType-0 shown-the_row-StType-0
velocity_from = refl

element_from : old_at old_program new_program before (place (step.Field 2 ∷ step.Element (pos 3) ∷ [])) ≡ Some (Elementary elem.Dint, number (pos 13))
unfolding wrapped class_number class_variables conforms lookup class_pairs structure_pairs region_pairs kept out-StType denote.Hole.Carrier.out denote.Hole.Carrier.shown denote.Hole.Carrier.hidden hidden-the_row-StType-0 shown-the_row-StType-0
element_from = refl

-- the last element is new
nothing_from : old_at old_program new_program before (place (step.Field 2 ∷ step.Element (pos 4) ∷ [])) ≡ None
unfolding wrapped class_number class_variables conforms lookup class_pairs structure_pairs region_pairs kept out-StType denote.Hole.Carrier.out denote.Hole.Carrier.shown denote.Hole.Carrier.hidden hidden-the_row-StType-0 shown-the_row-StType-0
nothing_from = refl

velocity_goes : goes old_program new_program false (place (step.Field 0 ∷ [])) ≡ true
unfolding wrapped class_number class_variables conforms lookup class_pairs structure_pairs region_pairs kept out-StType denote.Hole.Carrier.out denote.Hole.Carrier.shown denote.Hole.Carrier.hidden hidden-the_row-StType-0 shown-the_row-StType-0
velocity_goes = refl

uncopied_stays : goes old_program new_program false (place (step.Field 1 ∷ [])) ≡ false
unfolding wrapped class_number class_variables conforms lookup class_pairs structure_pairs region_pairs kept out-StType denote.Hole.Carrier.out denote.Hole.Carrier.shown denote.Hole.Carrier.hidden hidden-the_row-StType-0 shown-the_row-StType-0
uncopied_stays = refl

-- three writes are what is carried
abbrev writes : List StoreWrite
writes =
    record { path = place (step.Field 2 ∷ step.Element (pos 3) ∷ []); value = number (pos 13) }
    ∷ record { path = place (step.Field 2 ∷ step.Element (pos 2) ∷ []); value = number (pos 12) }
    ∷ record { path = place (step.Field 0 ∷ []); value = number (pos 7) }
    ∷ []

carried : carry_store old_program new_program false before held ≡ after (pos 7) (three (pos 12) (pos 13) (pos 0))
unfolding wrapped class_number class_variables conforms lookup class_pairs structure_pairs region_pairs kept out-StType denote.Hole.Carrier.out denote.Hole.Carrier.shown denote.Hole.Carrier.hidden hidden-the_row-StType-0 shown-the_row-StType-0
carried = refl

written : stored held writes ≡ Some (after (pos 7) (three (pos 12) (pos 13) (pos 0)))
unfolding wrapped class_number class_variables conforms lookup class_pairs structure_pairs region_pairs kept out-StType denote.Hole.Carrier.out denote.Hole.Carrier.shown denote.Hole.Carrier.hidden hidden-the_row-StType-0 shown-the_row-StType-0
written = refl
