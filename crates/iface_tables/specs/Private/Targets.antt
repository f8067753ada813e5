-- The method that a class runs for a method of an interface, by the names of the interfaces' methods.
use Rattle.std.specs.Prelude.{ℕ, List, Option, None, option_and_then, slice_get, if◌then◌else◌}
use Rattle.st_types.specs.declared.st_type.StType.TheVariants.{Interface}
use Rattle.st_tree.specs.declared.unit.Unit.{Unit}
use Rattle.st_rules.specs.declared.ids.MethodId.{MethodId}
use Rattle.st_rules.specs.Classes.{classes_in, lookup}
use Rattle.st_rules.specs.Interfaces.{interfaces_in, conforms}
use Rattle.st_rules.specs.InterfaceRules.{if_public}

abbrev pub public_method : Unit → ℕ → List ℕ → Option MethodId
public_method unit c name = option_and_then (if_public (classes_in unit.decls)) (lookup (classes_in unit.decls) c name)

abbrev pub named_method : Unit → List (List (List ℕ)) → ℕ → ℕ → ℕ → Option MethodId
named_method unit prototypes c i m = option_and_then (λ names. option_and_then (public_method unit c) (slice_get names m)) (slice_get prototypes i)

abbrev pub target : Unit → List (List (List ℕ)) → ℕ → ℕ → ℕ → Option MethodId
target unit prototypes c i m = if conforms (classes_in unit.decls) (interfaces_in unit.decls) c (Interface i) then named_method unit prototypes c i m else None
