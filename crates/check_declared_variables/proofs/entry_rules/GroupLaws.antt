-- Fields of a structure, one group more.
use Rattle.std.proofs.Common.{◌≡◌, ℕ, ◌+◌, ◌<◌, ◌≤◌, false, List, [], ◌∷◌, ◌++◌, Option, None, refl, sym, ap, ◌∙◌, subst, length, get_or}
use Rattle.std.specs.Prelude.{flat_map, option_map}
use Rattle.plc_text.specs.declared.code.Code.{Code}
use Rattle.st_tree.specs.declared.declaration.FieldGroup.{FieldGroup}
use Rattle.st_tree.specs.declared.initial.Init.{Init}
use Rattle.st_tree.specs.declared.name.Name.{Name}
use Rattle.st_tree.specs.declared.program.Note.{Note}
use Rattle.st_tree.specs.declared.type_spec.TypeSpec.{TypeSpec}
use Rattle.st_tree.specs.Initial.{initial_of}
use Rattle.st_rules.specs.Faults.{least, earlier}
use Rattle.st_rules.specs.Scope.{Scope}
use Rattle.st_unit_rules.specs.declared_names.Declarations.{item_line_of}
use Rattle.st_unit_rules.specs.declared_names.WrittenTypes.{type_written, type_faults}
use Rattle.st_unit_rules.specs.Checked.{Each, IfThere, TypedGroup, TypedInitial, TypedSpec}
use Rattle.st_unit_rules.specs.VariableRules.{instance_out_of_place, initial_if_given}
use Rattle.check_initial_values.proofs.Parts.{joined}
use Rattle.check_declared_variables.specs.declared.type_rules.types.CheckedType.{CheckedType}
use Rattle.check_declared_variables.specs.type_rules.Types.{ChecksType}
use Rattle.check_declared_variables.specs.declared.variable_rules.given.CheckedGiven.{CheckedGiven}
use Rattle.check_declared_variables.specs.variable_rules.Given.{ChecksGiven}
use Rattle.check_declared_variables.proofs.variable_rules.EachLaws.{EachTo, each_begun, each_next, each_least, each_trees}
use Rattle.check_declared_variables.proofs.variable_rules.ItemLaws.{given_typed}
use Rattle.check_declared_variables.specs.declared.entry_rules.groups.CheckedGroup.{CheckedGroup}
use Rattle.check_declared_variables.specs.declared.entry_rules.groups.CheckedGroups.{CheckedGroups}
use Rattle.check_declared_variables.specs.entry_rules.Private.Groups.{group_in, IsGroup, GroupChecks, NoGroups, AddsGroup, GroupsFind}

pub group_checks : (c : CheckedGroup) (s : Scope) (g : FieldGroup ℕ) (line : ℕ) (own : List Name) (found : CheckedType) (given : CheckedGiven) → line ≡ item_line_of g.names → own ≡ g.names → ChecksType found s g.kind
    → ChecksGiven given s found.kind (option_map initial_of g.initial) → IsGroup c line own found given → GroupChecks c s g
group_checks c s g line own found given l n t v w = record {
  least =
      joined c.least (earlier found.least (least (instance_out_of_place line false found.kind))) given.least
      (type_faults s g.kind ++ instance_out_of_place (item_line_of g.names) false (type_written s g.kind)) (initial_if_given s (type_written s g.kind) (option_map initial_of g.initial)) w.least
      (joined (earlier found.least (least (instance_out_of_place line false found.kind))) found.least (least (instance_out_of_place line false found.kind)) (type_faults s g.kind)
      (instance_out_of_place (item_line_of g.names) false (type_written s g.kind)) refl t.least
      (ap (λ m. least (instance_out_of_place m false found.kind)) l ∙ ap (λ u. least (instance_out_of_place (item_line_of g.names) false u)) t.kind))
      (v.least ∙ ap (λ u. least (initial_if_given s u (option_map initial_of g.initial))) t.kind);
  tree = record {
    names = w.names ∙ n;
    kind = subst (λ (u : TypeSpec Note). TypedSpec s g.kind u) (sym w.kind) t.tree;
    initial = subst (λ (j : Option (Init Note)). IfThere (TypedInitial s g.kind) g.initial j) (sym w.initial) (given_typed s found.kind g.kind g.initial given.initial t.kind v.initial);
  };
}

-- so many were looked at
pub record GroupsTo (x : CheckedGroups) (s : Scope) (gs : List (FieldGroup ℕ)) (i : ℕ) : Type 0 where
  pub each : EachTo (TypedGroup s) (group_in s) x.least x.groups gs i

module _ (s : Scope) (gs : List (FieldGroup ℕ)) where
  pub groups_begun : (x : CheckedGroups) → NoGroups x → GroupsTo x s gs 0
  groups_begun x n = record {
    each = each_begun (TypedGroup s) (group_in s) gs x.least x.groups n.least n.groups;
  }

  pub groups_next : (x before : CheckedGroups) (one : CheckedGroup) (i : ℕ) (g : FieldGroup ℕ) → i < length gs → g ≡ get_or gs i g → GroupChecks one s g → AddsGroup x before one → GroupsTo before s gs i → GroupsTo x s gs (i + 1)
  groups_next x before one i g l e f a k = record {
    each = each_next (TypedGroup s) (group_in s) gs x.least before.least one.least x.groups before.groups g one.group i l e a.least f.least f.tree a.groups k.each;
  }

  pub groups_ended : (x : CheckedGroups) (i : ℕ) → length gs ≤ i → GroupsTo x s gs i → GroupsFind x s gs
  groups_ended x i l k = record {
    least = each_least (TypedGroup s) (group_in s) gs x.least x.groups i l k.each;
    trees = each_trees (TypedGroup s) (group_in s) gs x.least x.groups i l k.each;
  }
