-- Types that changed: an enumeration with one value more and a number of another type start anew; a number of the same type goes on.
use Rattle.std.proofs.Common.{◌≡◌, ℕ, ℤ, pos, List, [], ◌∷◌, refl}
use Rattle.std.specs.Prelude.{codes}
use Rattle.plc_num.specs.Wrapping.{wrapped}
use Rattle.st_types.specs.declared.st_type.StType.{StType, out-StType}
use Rattle.st_types.specs.declared.st_type.StType.TheVariants as type
use Rattle.st_values.specs.Program.{an_enumeration, Program, class_number, class_variables, conforms, lookup}
use Rattle.st_values.specs.Value.{number, instance, no_members, member_then, Store}
use Rattle.st_meaning.proofs.Builder.{int, dint, starting, own, located, program_class, instance_of, task}
use Rattle.st_change.specs.From.{class_pairs, structure_pairs, region_pairs}
use Rattle.st_change.specs.Counterpart.{kept}
use Rattle.st_change.specs.Hook.{ran}
use Rattle.st_change.specs.Change.{change}

abbrev sample : List (List ℕ) → StType → ℤ → Program
sample more t z = record {
  types = record { name = codes "MODE"; body = an_enumeration (codes "OFF" ∷ codes "RUN" ∷ more) } ∷ [];
  classes = program_class (codes "P") 0 (starting (own (codes "N") t) z ∷ own (codes "M") (type.Enumeration 0) ∷ located (codes "X") dint (codes "%QD0") ∷ []) [] ∷ [];
  interfaces = [];
  functions = [];
  regions = instance_of (codes "P1") 0 ∷ [];
  tasks = task (codes "MAIN") (0 ∷ []) ∷ [];
}

abbrev store : ℤ → ℤ → ℤ → Store
store n m x = member_then (codes "P1") (instance (codes "P") (member_then (codes "N") (number n) (member_then (codes "M") (number m) (member_then (codes "X") (number x) no_members)))) no_members

anew : change (sample [] int (pos 0)) (sample (codes "HALT" ∷ []) dint (pos 7)) (store (pos 1) (pos 1) (pos 1)) ≡ ran (store (pos 7) (pos 0) (pos 1)) 100000
unfolding wrapped class_number class_variables conforms lookup class_pairs structure_pairs region_pairs kept out-StType denote.Hole.Carrier.out
anew = refl
