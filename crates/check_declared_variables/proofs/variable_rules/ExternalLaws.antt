-- Externals by the globals that the scope sees.
use Rattle.std.proofs.Common.{◌≡◌, ℕ, List, [], ◌∷◌, ◌++◌, Option, Some, None, refl, sym, ap, ◌∙◌}
use Rattle.std.specs.Prelude.{flat_map, option_and_then}
use Rattle.std.specs.Option.{is_none}
use Rattle.plc_text.specs.declared.code.Code.{Code}
use Rattle.plc_text.specs.declared.code.Code.TheVariants.{E05, E07}
use Rattle.st_types.specs.declared.st_type.StType.{StType}
use Rattle.st_tree.specs.declared.declaration.Item.{Item}
use Rattle.st_tree.specs.declared.declaration.Section.{Section}
use Rattle.st_tree.specs.declared.name.Name.{Name}
use Rattle.st_rules.specs.declared.names.DeclaredGlobal.{DeclaredGlobal}
use Rattle.st_rules.specs.declared.names.DeclaredNames.{DeclaredNames}
use Rattle.st_rules.specs.declared.names.DeclaredVariable.{DeclaredVariable}
use Rattle.st_rules.specs.Faults.{Faults, at, when, least}
use Rattle.st_rules.specs.Scope.{Scope}
use Rattle.st_unit_rules.specs.declared_names.Declarations.{item_line}
use Rattle.st_unit_rules.specs.declared_names.WrittenTypes.{type_written}
use Rattle.st_unit_rules.specs.VariableRules.{global_variable, is_another_type, external_not_found, external_of_another_type, external_faults}
use Rattle.check_declared_variables.specs.variable_rules.Private.Externals as own
use Rattle.check_declared_variables.specs.variable_rules.Private.Externals.{global_in, meant_faults, name_faults}

none_meant : (line : ℕ) (t : Option StType) (n : Name) → when (is_another_type t None) E07 line ≡ []
none_meant line None n = refl
none_meant line (Some t) n = refl

meant_is : (line : ℕ) (t : Option StType) (n : Name) (o : Option DeclaredVariable) → when (is_none o) E05 n.line ++ when (is_another_type t (option_and_then (λ v. v.kind) o)) E07 line ≡ meant_faults line t n o
meant_is line t n None = ap (λ fs. at E05 n.line ++ fs) (none_meant line t n)
meant_is line t n (Some v) = refl

module _ (s : Scope) (item : Item ℕ) where
  each : (ns : List Name) → flat_map (name_faults s.names (item_line item) (type_written s item.kind)) ns ≡ flat_map (λ n. external_not_found s n ++ external_of_another_type s (item_line item) (type_written s item.kind) n) ns
  each [] = refl
  each (n ∷ ns) =
      ap (λ fs. fs ++ flat_map (name_faults s.names (item_line item) (type_written s item.kind)) ns) (sym (meant_is (item_line item) (type_written s item.kind) n (global_in s.names n.text)))
      ∙ ap (λ fs. external_not_found s n ++ external_of_another_type s (item_line item) (type_written s item.kind) n ++ fs) (each ns)

  pub externals_are : own.external_faults s.names (item_line item) (type_written s item.kind) item.names ≡ external_faults s item
  externals_are = each item.names

-- what a name means, by what is found of it
pub fault_found : (line : ℕ) (t : Option StType) (n : Name) (o : Option DeclaredVariable) (v : DeclaredVariable) (r : Option (Code × ℕ)) → o ≡ Some v → r ≡ least (when (is_another_type t v.kind) E07 line) → r ≡ least (meant_faults line t n o)
fault_found line t n o v r h e = e ∙ sym (ap (λ x. least (meant_faults line t n x)) h)

pub fault_missing : (line : ℕ) (t : Option StType) (n : Name) (o : Option DeclaredVariable) (r : Option (Code × ℕ)) → o ≡ None → r ≡ least (at E05 n.line) → r ≡ least (meant_faults line t n o)
fault_missing line t n o r h e = e ∙ sym (ap (λ x. least (meant_faults line t n x)) h)
