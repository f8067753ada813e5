-- The rules of an item that hang on its type alone.
use Rattle.std.specs.Prelude.{ℕ, Bool, not, ◌&&◌, if◌then◌else◌, List, [], ◌++◌, Option, option_map}
use Rattle.st_types.specs.declared.st_type.StType.{StType}
use Rattle.st_tree.specs.declared.declaration.ClassDecl.{ClassDecl}
use Rattle.st_tree.specs.declared.declaration.Item.{Item}
use Rattle.st_tree.specs.declared.declaration.Section.{Section}
use Rattle.st_tree.specs.Initial.{Initial, initial_of}
use Rattle.st_rules.specs.Faults.{Faults}
use Rattle.st_unit_rules.specs.declared_names.Variables.{declares_constants}
use Rattle.st_unit_rules.specs.VariableRules.{Home, may_have_address, may_hold_instances, instance_out_of_place, instance_of_abstract_class, bad_constant, address_faults}

abbrev pub may_be_located : Home → Section ℕ → Bool
may_be_located h section = may_have_address h section.sort && not (declares_constants section)

abbrev pub constant_faults : Section ℕ → ℕ → Option StType → Option (Initial ℕ) → Faults
constant_faults section line t i = if declares_constants section then bad_constant line t i else []

-- of a type at a line
abbrev pub own_faults : List (ClassDecl ℕ) → Home → Section ℕ → Item ℕ → ℕ → Option StType → Faults
own_faults classes h section item line t =
    instance_out_of_place line (may_hold_instances h section.sort) t
    ++ instance_of_abstract_class line classes section.sort t
    ++ constant_faults section line t (option_map initial_of item.initial)
    ++ address_faults line (may_be_located h section) t item.address
