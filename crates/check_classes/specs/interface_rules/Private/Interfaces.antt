-- An interface from its parts.
use Rattle.std.specs.Prelude.{◌≡◌, ℕ, List, ◌++◌, length}
use Rattle.st_tree.specs.declared.declaration.InterfaceDecl.{InterfaceDecl}
use Rattle.st_tree.specs.declared.name.Name.{Name}
use Rattle.st_tree.specs.declared.unit.Decl.{Decl}
use Rattle.st_rules.specs.Faults.{Faults, earlier}
use Rattle.st_rules.specs.Interfaces.{interfaces_in}
use Rattle.st_unit_rules.specs.Limits.{too_many_methods, too_many_interfaces_above}
use Rattle.check_classes.specs.declared.base_rules.used.CheckedInterfaces.{CheckedInterfaces}
use Rattle.check_classes.specs.declared.interface_rules.interfaces.Broken.{Broken}
use Rattle.check_classes.specs.declared.interface_rules.interfaces.CheckedInterface.{CheckedInterface}
use Rattle.check_classes.specs.declared.interface_rules.prototypes.CheckedPrototypes.{CheckedPrototypes}

abbrev pub count_faults : List (Decl ℕ) → ℕ → InterfaceDecl ℕ → Faults
count_faults decls k d = too_many_methods d.line (length d.methods) ++ too_many_interfaces_above d.line (interfaces_in decls) k

pub record IsInterface (c : CheckedInterface) (heading : ℕ) (own : Name) (broken : Broken) (above : CheckedInterfaces) (protos : CheckedPrototypes) : Type 0 where
  pub least : c.least ≡ earlier (earlier (earlier (earlier broken.names above.least) broken.cycle) protos.least) broken.counts
  pub line : c.interface.line ≡ heading
  pub name : c.interface.name ≡ own
  pub bases : c.interface.bases ≡ above.interfaces
  pub methods : c.interface.methods ≡ protos.prototypes
