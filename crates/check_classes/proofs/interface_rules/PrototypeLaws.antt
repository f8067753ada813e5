-- All methods of an interface.
use Rattle.std.proofs.Common.{◌≡◌, ℕ, List}
use Rattle.std.specs.Prelude.{flat_map}
use Rattle.st_tree.specs.declared.declaration.Prototype.{Prototype}
use Rattle.st_tree.specs.declared.unit.Decl.{Decl}
use Rattle.st_rules.specs.Faults.{least}
use Rattle.st_unit_rules.specs.Checked.{Each, TypedPrototype}
use Rattle.st_unit_rules.specs.DeclarationRules.{prototype_faults}
use Rattle.check_classes.specs.declared.interface_rules.prototypes.CheckedPrototypes.{CheckedPrototypes}
use Rattle.check_classes.specs.interface_rules.Prototypes.{ChecksPrototypes}

pub prototypes_ended : (x : CheckedPrototypes) (decls : List (Decl ℕ)) (list : List (Prototype ℕ)) → x.least ≡ least (flat_map (prototype_faults decls) list) → Each (TypedPrototype decls) list x.prototypes → ChecksPrototypes x decls list
prototypes_ended x decls list l t = record { least = l; trees = t }
