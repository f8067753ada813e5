-- Methods of an interface, one more.
use Rattle.std.specs.Prelude.{◌≡◌, [], ◌∷◌, ◌++◌, None}
use Rattle.st_rules.specs.Faults.{earlier}
use Rattle.check_routines.specs.declared.method_rules.prototypes.CheckedPrototype.{CheckedPrototype}
use Rattle.check_classes.specs.declared.interface_rules.prototypes.CheckedPrototypes.{CheckedPrototypes}

pub record NoPrototypes (x : CheckedPrototypes) : Type 0 where
  pub least : x.least ≡ None
  pub prototypes : x.prototypes ≡ []

pub record AddsPrototype (x before : CheckedPrototypes) (one : CheckedPrototype) : Type 0 where
  pub least : x.least ≡ earlier before.least one.least
  pub prototypes : x.prototypes ≡ before.prototypes ++ one.method ∷ []
