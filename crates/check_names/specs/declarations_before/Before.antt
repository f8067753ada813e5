-- What stands before a declaration, and the rules that all declarations share.
use Rattle.std.specs.Prelude.{◌≡◌, ℕ, List, ◌++◌, filter, length}
use Rattle.st_tree.specs.declared.unit.Decl.{Decl}
use Rattle.st_rules.specs.Faults.{Faults}
use Rattle.st_unit_rules.specs.declared_names.Declarations.{Declaration, declarations, name_of, heading_line, is_entry, is_interface, is_class, is_configuration}
use Rattle.st_unit_rules.specs.Cycles.{cycle_faults}
use Rattle.st_unit_rules.specs.Limits.{too_many_declarations}
use Rattle.st_unit_rules.specs.NameRules.{declared_before, name_of_conversion}
use Rattle.check_names.specs.name_spaces.Held.{Holds}
use Rattle.check_names.specs.declared.declarations_before.before.DeclarationsBefore.{DeclarationsBefore}

-- these declarations, and these names in the space of all
pub record StandsBefore (b : DeclarationsBefore) (earlier : List Declaration) (held : List (List ℕ)) : Type 0 where
  pub names : Holds b.names held
  pub count : b.count ≡ length earlier
  pub entries : b.entries ≡ length (filter is_entry earlier)
  pub interfaces : b.interfaces ≡ length (filter is_interface earlier)
  pub classes : b.classes ≡ length (filter is_class earlier)
  pub configurations : b.configurations ≡ length (filter is_configuration earlier)

abbrev pub common_faults : List (Decl ℕ) → List Declaration → List (List ℕ) → Declaration → Faults
common_faults decls earlier names d =
    declared_before names (name_of d)
    ++ name_of_conversion (name_of d)
    ++ cycle_faults (declarations decls) (heading_line d) (length earlier)
    ++ too_many_declarations (heading_line d) (length earlier)
