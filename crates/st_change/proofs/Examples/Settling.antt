-- A program without marks that changes to itself: each variable comes from itself, so what is carried to its own place is what was there.
use Rattle.std.proofs.Common.{◌≡◌, ℕ, zero, suc, pos, List, [], ◌∷◌, Option, Some, refl, subst}
use Rattle.std.specs.Prelude.{codes}
use Rattle.st_types.specs.declared.elem.Elem.TheVariants as elem
use Rattle.st_types.specs.declared.st_type.StType.{out-StType}
use Rattle.st_types.specs.declared.st_type.StType.TheBlock.{hidden-the_row-StType-0, shown-the_row-StType-0}
use Rattle.st_types.specs.declared.st_type.StType.TheVariants as type
use Rattle.st_values.specs.Program.{Variable, Program, class_number, class_variables}
use Rattle.st_values.specs.Shape.{Shape, Elementary, Reference, Array, Instance, no_fields, field_then, region_shape}
use Rattle.st_meaning.proofs.Builder.{dint, own, class, global}
use Rattle.st_change.specs.From.{old_name, class_pairs, region_pairs, region_name}
use Rattle.st_change.specs.CarryLaws.{Settled, Settles}
use Rattle.st_change.specs.Laws.{Distinct}

abbrev n : Variable
n = own (codes "N") dint

abbrev m : Variable
m = own (codes "M") dint

abbrev sample : Program
sample = record {
  types = [];
  classes = class (codes "ITEM") 0 [] [] (n ∷ m ∷ []) [] ∷ [];
  interfaces = [];
  functions = [];
  regions = global (own (codes "ITEMS") (type.Array (pos 0) (pos 4) (type.Instance 0))) ∷ global (own (codes "R") (type.Reference 0)) ∷ [];
  tasks = [];
}

abbrev item : Shape
item = Instance 0 (codes "ITEM") (field_then n (Elementary elem.Dint) (field_then m (Elementary elem.Dint) no_fields))

first_shape : region_shape sample 0 ≡ Some (Array (pos 0) 5 item)
unfolding class_variables out-StType denote.Hole.Carrier.out denote.Hole.Carrier.shown denote.Hole.Carrier.hidden hidden-the_row-StType-0 shown-the_row-StType-0
first_shape = refl

second_shape : region_shape sample 1 ≡ Some (Reference 0 (codes "ITEM"))
unfolding out-StType denote.Hole.Carrier.out
second_shape = refl

one_shape : (o : Option Shape) (a b : Shape) → o ≡ Some a → o ≡ Some b → a ≡ b
one_shape o a b e f = cc

differ : (r : ℕ) (sh : Shape) → region_shape sample r ≡ Some sh → Distinct sh
differ zero sh e = subst Distinct (one_shape _ _ _ first_shape e) (refl, tt, (refl, tt, tt))
differ (suc zero) sh e = subst Distinct (one_shape _ _ _ second_shape e) tt
differ (suc (suc r)) sh e = cc

item_settles : Settled sample item
unfolding class_number class_pairs
item_settles = (refl, refl, refl, tt, (refl, refl, refl, tt, tt))

settled : (r : ℕ) (sh : Shape) → region_shape sample r ≡ Some sh → Settled sample sh
settled zero sh e = subst (Settled sample) (one_shape _ _ _ first_shape e) item_settles
settled (suc zero) sh e = subst (Settled sample) (one_shape _ _ _ second_shape e) tt
settled (suc (suc r)) sh e = cc

from_itself : (r : ℕ) (name : List ℕ) → region_name sample r ≡ Some name → old_name (region_pairs sample sample) name ≡ Some name
unfolding region_pairs
from_itself zero name e = let d : codes "ITEMS" ≡ name = cc in subst (λ x. old_name (region_pairs sample sample) x ≡ Some x) d refl
from_itself (suc zero) name e = let d : codes "R" ≡ name = cc in subst (λ x. old_name (region_pairs sample sample) x ≡ Some x) d refl
from_itself (suc (suc r)) name e = cc

pub settles : Settles sample
settles = record {
  differ = record { regions = (refl, (refl, tt)); shapes = differ };
  regions = from_itself;
  shapes = settled;
}
