-- An item of globals from its parts.
use Rattle.std.proofs.Common.{◌≡◌, ℕ, List, Bool, Option, refl, sym, ap, ◌∙◌, subst}
use Rattle.plc_text.specs.declared.code.Code.{Code}
use Rattle.st_types.specs.declared.st_type.StType.{StType}
use Rattle.st_tree.specs.declared.declaration.Item.{Item}
use Rattle.st_tree.specs.declared.declaration.Section.{Section}
use Rattle.st_tree.specs.declared.unit.Decl.{Decl}
use Rattle.st_tree.specs.declared.unit.Unit.{Unit}
use Rattle.st_rules.specs.Classes.{classes_in}
use Rattle.st_rules.specs.Faults.{least, earlier}
use Rattle.st_rules.specs.Scope.{Scope}
use Rattle.st_rules.proofs.FaultLaws.{least-append}
use Rattle.st_unit_rules.specs.declared_names.Declarations.{declarations, item_line}
use Rattle.st_unit_rules.specs.declared_names.UnitNames.{unit_names}
use Rattle.st_unit_rules.specs.declared_names.WrittenTypes.{type_written}
use Rattle.st_unit_rules.specs.DeclarationRules.{unit, item_too_deep}
use Rattle.st_unit_rules.specs.Limits.{most_steps, variable_too_deep}
use Rattle.st_unit_rules.specs.VariableRules.{of_globals, item_faults}
use Rattle.check_declared_variables.specs.declared.type_rules.types.CheckedType.{CheckedType}
use Rattle.check_declared_variables.specs.type_rules.Types.{ChecksType}
use Rattle.check_limits.specs.declared.type_sizes.sizes.TypeSizes.{TypeSizes}
use Rattle.check_limits.specs.type_sizes.Sizes.{Measures}
use Rattle.check_declared_variables.specs.declared.variable_rules.items.CheckedItem.{CheckedItem}
use Rattle.check_declared_variables.specs.variable_rules.Items.{ChecksItem}
use Rattle.global_rules.specs.declared.shared.SharedItem.{SharedItem}
use Rattle.global_rules.specs.Shared.{ChecksShared}
use Rattle.global_rules.specs.Private.Shared.{IsShared}

module _ (c : SharedItem) (kind : CheckedType) (item : CheckedItem) (decls : List (Decl ℕ)) (written : Item ℕ) where
  pub shared_checks : (s : Scope) (section : Section ℕ) → s ≡ unit decls → ChecksType kind s written.kind → ChecksItem item s of_globals section written → IsShared c kind item decls written → ChecksShared c decls section written
  shared_checks s section e t f w =
      let told : ChecksType kind (unit decls) written.kind = subst (λ (x : Scope). ChecksType kind x written.kind) e t in
      let found : ChecksItem item (unit decls) of_globals section written = subst (λ (x : Scope). ChecksItem item x of_globals section written) e f in
      record {
        kind = w.kind-is ∙ told.kind;
        least = w.least-is told.kind ∙ ap (λ x. earlier x (least (item_too_deep decls (unit decls) written))) found.least
            ∙ sym (least-append (item_faults (unit decls) of_globals section written) (item_too_deep decls (unit decls) written));
      }

  pub shared_parts : (sizes : TypeSizes) (graph : Unit) (line : ℕ) (deep : Option (Code × ℕ)) → c.kind ≡ kind.kind → c.least ≡ earlier item.least deep
      → ((s : Scope) → s.classes ≡ classes_in decls → s.names ≡ unit_names decls → Measures sizes s) → graph.decls ≡ decls → line ≡ item_line written
      → ((s : Scope) → Measures sizes s → kind.kind ≡ type_written s written.kind → deep ≡ least (variable_too_deep s (declarations graph.decls) most_steps line written.kind))
      → IsShared c kind item decls written
  shared_parts sizes graph line deep k l m g n d = record {
    kind-is = k;
    least-is = λ t.
        l
        ∙ ap (earlier item.least) (d (unit decls) (m (unit decls) refl refl) t
        ∙ ap (λ (ds : List (Decl ℕ)). least (variable_too_deep (unit decls) (declarations ds) most_steps line written.kind)) g
        ∙ ap (λ (x : ℕ). least (variable_too_deep (unit decls) (declarations decls) most_steps x written.kind)) n);
  }
