-- Tables of the names of a unit.
use Rattle.std.specs.Prelude.{◌≡◌, ℕ, true, List, None}
use Rattle.st_rules.specs.declared.names.DeclaredNames.{DeclaredNames}
use Rattle.st_rules.specs.Scope.{global_name, value_names, field_list}
use Rattle.name_resolution.specs.declared.places.Which.TheVariants.{All, Inherited, OfInstance}
use Rattle.name_resolution.specs.Private.Places.{Table, found_in, IsTableOf, AreTables, passes, is_variable}
use Rattle.name_resolution.specs.Private.Climb.{AreTablesOf}
use Rattle.name_resolution.specs.Private.Enumerators.{first_having, last_having}

pub record AreNameTables (names : DeclaredNames) (types globals variables : Table) (first last : Table) (values fields all inherited of_instance : List Table) : Type 0 where
  pub types_are : IsTableOf (λ t. t.name) (λ t. true) types names.types
  pub globals_are : IsTableOf global_name (λ g. true) globals names.globals
  pub variables_are : IsTableOf global_name is_variable variables names.globals
  pub first_are : (name : List ℕ) → found_in first name ≡ first_having 0 names.parts name
  pub last_are : (name : List ℕ) → found_in last name ≡ last_having None 0 names.parts name
  pub values_are : AreTables (λ n. n) (λ n. true) value_names values names.parts
  pub fields_are : AreTables (λ f. f.name) (λ f. true) field_list fields names.parts
  pub all_are : AreTablesOf (passes All) all names.classes
  pub inherited_are : AreTablesOf (passes Inherited) inherited names.classes
  pub of_instance_are : AreTablesOf (passes OfInstance) of_instance names.classes
