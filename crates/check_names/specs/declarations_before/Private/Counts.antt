-- One declaration more.
use Rattle.std.specs.Prelude.{◌≡◌, ℕ, ◌+◌, Bool, if◌then◌else◌}
use Rattle.st_unit_rules.specs.declared_names.Declarations.{Declaration, is_entry, is_interface, is_class, is_configuration}
use Rattle.check_names.specs.declared.declarations_before.before.Counts.{Counts}
use Rattle.check_names.specs.declared.declarations_before.before.DeclarationsBefore.{DeclarationsBefore}

abbrev pub one_if : Bool → ℕ
one_if b = if b then 1 else 0

pub record CountsTo (c : Counts) (b : DeclarationsBefore) (d : Declaration) : Type 0 where
  pub entries : c.entries ≡ one_if (is_entry d) + b.entries
  pub interfaces : c.interfaces ≡ one_if (is_interface d) + b.interfaces
  pub classes : c.classes ≡ one_if (is_class d) + b.classes
  pub configurations : c.configurations ≡ one_if (is_configuration d) + b.configurations
