-- The rules of an address that is there.
use Rattle.std.specs.Prelude.{ℕ, Bool, ◌++◌, List, Option}
use Rattle.st_types.specs.declared.st_type.StType.{StType}
use Rattle.st_rules.specs.Faults.{Faults}
use Rattle.st_unit_rules.specs.VariableRules.{address_out_of_place, address_of_another_width, bit_above_seven, address_past_the_image}

abbrev pub address_at : ℕ → Bool → Option StType → List ℕ → Faults
address_at line may t text = address_out_of_place line may ++ address_of_another_width line text t ++ bit_above_seven line text ++ address_past_the_image line text
