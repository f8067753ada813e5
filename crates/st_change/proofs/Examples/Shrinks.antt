-- An array of ten instances becomes one of five. A reference to the eighth is lost; the fourth goes on with what it held.
use Rattle.std.proofs.Common.{◌≡◌, ℤ, pos, [], ◌∷◌, Option, Some, None, refl}
use Rattle.std.specs.Prelude.{codes}
use Rattle.plc_num.specs.Wrapping.{wrapped}
use Rattle.st_types.specs.declared.st_type.StType.{out-StType}
use Rattle.st_types.specs.declared.st_type.StType.TheBlock.{hidden-the_row-StType-0, shown-the_row-StType-0}
use Rattle.st_types.specs.declared.st_type.StType.TheVariants as type
use Rattle.st_tree.specs.declared.path.Step.TheVariants as step
use Rattle.st_values.specs.Program.{Program, class_number, class_variables, conforms, lookup}
use Rattle.st_values.specs.Value.{Path, Value, number, reference, array, instance, Values, no_values, value_then, no_members, member_then, Store}
use Rattle.st_meaning.proofs.Builder.{dint, own, class, global}
use Rattle.st_change.specs.From.{class_pairs, structure_pairs, region_pairs}
use Rattle.st_change.specs.Counterpart.{kept}
use Rattle.st_change.specs.Hook.{ran}
use Rattle.st_change.specs.Change.{change}

abbrev sample : ℤ → Program
sample last = record {
  types = [];
  classes = class (codes "ITEM") 0 [] [] (own (codes "N") dint ∷ []) [] ∷ [];
  interfaces = [];
  functions = [];
  regions = global (own (codes "ITEMS") (type.Array (pos 0) last (type.Instance 0))) ∷ global (own (codes "R") (type.Reference 0)) ∷ [];
  tasks = [];
}

abbrev item : ℤ → Value
item n = instance (codes "ITEM") (member_then (codes "N") (number n) no_members)

abbrev five : Values → Values
five rest =
    value_then (item (pos 0)) (value_then (item (pos 0)) (value_then (item (pos 0)) (value_then (item (pos 1)) (value_then (item (pos 0)) rest))))

abbrev ten : Values
ten = five (value_then (item (pos 0)) (value_then (item (pos 0)) (value_then (item (pos 1)) (value_then (item (pos 0)) (value_then (item (pos 0)) no_values)))))

abbrev eighth : Path
eighth = record { region = 0; steps = step.Element (pos 7) ∷ [] }

abbrev store : Values → Option Path → Store
store vs r = member_then (codes "ITEMS") (array (pos 0) vs) (member_then (codes "R") (reference r) no_members)

lost : change (sample (pos 9)) (sample (pos 4)) (store ten (Some eighth)) ≡ ran (store (five no_values) None) 100000
unfolding wrapped class_number class_variables conforms lookup class_pairs structure_pairs region_pairs kept out-StType denote.Hole.Carrier.out denote.Hole.Carrier.shown denote.Hole.Carrier.hidden hidden-the_row-StType-0 shown-the_row-StType-0
lost = refl

-- the same program again: all is kept
stays : change (sample (pos 4)) (sample (pos 4)) (store (five no_values) None) ≡ ran (store (five no_values) None) 100000
unfolding wrapped class_number class_variables conforms lookup class_pairs structure_pairs region_pairs kept out-StType denote.Hole.Carrier.out denote.Hole.Carrier.shown denote.Hole.Carrier.hidden hidden-the_row-StType-0 shown-the_row-StType-0
stays = refl
