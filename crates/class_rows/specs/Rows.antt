-- What the rules of classes ask of each declaration. Methods are named by their numbers among all names, bases and interfaces by their
-- places.
use Rattle.std.specs.Prelude.{◌≡◌, ℕ, List, map, option_and_then, filter_map, unwrap_or, is_some}
use Rattle.std.specs.List.{list_any}
use Rattle.st_tree.specs.declared.name.Used.{Used}
use Rattle.st_tree.specs.declared.declaration.ClassDecl.{ClassDecl}
use Rattle.st_tree.specs.declared.declaration.InterfaceDecl.{InterfaceDecl}
use Rattle.st_tree.specs.declared.declaration.Member.{Member}
use Rattle.st_tree.specs.declared.declaration.Method.{Method}
use Rattle.st_rules.specs.Named.{first_place}
use Rattle.st_rules.specs.Modifiers.{is_abstract, is_final, is_override, method_access}
use Rattle.st_rules.specs.Classes.{methods_in}
use Rattle.st_rules.specs.Signatures.{is_hook}
use Rattle.st_rules.specs.ClassRules.{is_block, is_statement, is_in_out_section}
use Rattle.class_rows.specs.declared.rows.MethodRow.{MethodRow}
use Rattle.class_rows.specs.declared.rows.ClassRow.{ClassRow}
use Rattle.class_rows.specs.declared.rows.InterfaceRow.{InterfaceRow}
use Rattle.class_rows.specs.declared.rows.UnitRows.{UnitRows}
use Rattle.class_rows.specs.UnitNames.{all_names, class_names, interface_names}

abbrev pub method_row : {A : Type 0} → List (List ℕ) → Method A → MethodRow
method_row names method = record {
  line = method.line;
  name = unwrap_or (first_place method.name.text names) 0;
  access = method_access method.modifiers;
  is_abstract = is_abstract method.modifiers;
  is_final = is_final method.modifiers;
  is_override = is_override method.modifiers;
  is_hook = is_hook method.name.text;
  has_statements = list_any is_statement method.body;
}

abbrev pub method_rows : {A : Type 0} → List (List ℕ) → List (Member A) → List MethodRow
method_rows names members = map (method_row names) (methods_in members)

-- the places of the first of names, where they are found
abbrev pub places_of : {A : Type 0} → List (List ℕ) → List (Used A) → List ℕ
places_of names used = filter_map (λ name. first_place name.text names) used

abbrev pub class_row : {A : Type 0} → List (List ℕ) → List (List ℕ) → List (List ℕ) → ClassDecl A → ClassRow
class_row names classes interfaces class = record {
  line = class.line;
  is_block = is_block class;
  is_abstract = is_abstract class.modifiers;
  is_final = is_final class.modifiers;
  has_in_outs = list_any is_in_out_section class.members;
  has_extends = is_some class.base;
  base = option_and_then (λ base. first_place base.text classes) class.base;
  implemented = places_of interfaces class.interfaces;
  methods = method_rows names class.members;
}

abbrev pub interface_row : {A : Type 0} → List (List ℕ) → InterfaceDecl A → InterfaceRow
interface_row interfaces interface = record {
  line = interface.line;
  extended = places_of interfaces interface.bases;
}

-- the rows of the classes and interfaces, in their order
pub record AreRows {A : Type 0} (classes : List (ClassDecl A)) (interfaces : List (InterfaceDecl A)) (rows : UnitRows) : Type 0 where
  pub class_rows : rows.classes ≡ map (class_row (all_names classes) (class_names classes) (interface_names interfaces)) classes
  pub interface_rows : rows.interfaces ≡ map (interface_row (interface_names interfaces)) interfaces
