-- What a name of TYPE stands for, by its sort.
use Rattle.std.proofs.Common.{◌≡◌, ℕ, false, List, [], ◌∷◌, ◌++◌, Option, Some, None, refl, sym, ap, ◌∙◌, subst, append_assoc}
use Rattle.std.specs.Prelude.{◌&&◌, not, flat_map, option_map}
use Rattle.plc_text.specs.declared.code.Code.{Code}
use Rattle.plc_text.specs.declared.code.Code.TheVariants.{E16}
use Rattle.st_types.specs.declared.st_type.StType.TheVariants as type
use Rattle.st_tree.specs.declared.declaration.FieldGroup.{FieldGroup}
use Rattle.st_tree.specs.declared.declaration.TypeBody.{TypeBody}
use Rattle.st_tree.specs.declared.declaration.TypeBody.TheVariants as body
use Rattle.st_tree.specs.declared.declaration.TypeDecl.{TypeDecl}
use Rattle.st_tree.specs.declared.initial.Init.{Init}
use Rattle.st_tree.specs.declared.name.Name.{Name}
use Rattle.st_tree.specs.declared.program.Note.{Note}
use Rattle.st_tree.specs.declared.type_spec.TypeSpec.{TypeSpec}
use Rattle.st_tree.specs.declared.unit.Decl.{Decl}
use Rattle.st_tree.specs.Initial.{initial_of}
use Rattle.st_rules.specs.Faults.{Faults, least, earlier, when}
use Rattle.st_rules.specs.Scope.{Scope}
use Rattle.st_unit_rules.specs.declared_names.Declarations.{declarations, item_line_of}
use Rattle.st_unit_rules.specs.declared_names.WrittenTypes.{type_written, type_faults}
use Rattle.st_unit_rules.specs.Checked.{Each, TypedEntry, TypedTypeBody, TypedSpec, TypedGroup}
use Rattle.st_unit_rules.specs.Cycles.{leads_to_cycle, own_values}
use Rattle.st_unit_rules.specs.DeclarationRules.{unit, field_given, group_faults, type_body_faults, body_depth}
use Rattle.st_unit_rules.specs.Limits.{most_steps, is_too_deep, too_deep}
use Rattle.st_unit_rules.specs.NameRules.{space_faults, part_names}
use Rattle.st_unit_rules.specs.VariableRules.{initial_if_given, instance_out_of_place}
use Rattle.check_limits.specs.declared.type_sizes.sizes.TypeSizes.{TypeSizes}
use Rattle.check_limits.specs.type_sizes.Sizes.{Measures}
use Rattle.check_initial_values.proofs.Parts.{joined}
use Rattle.check_declared_variables.specs.declared.type_rules.types.CheckedType.{CheckedType}
use Rattle.check_declared_variables.specs.type_rules.Types.{ChecksType}
use Rattle.check_declared_variables.specs.declared.entry_rules.bodies.CheckedBody.{CheckedBody}
use Rattle.check_declared_variables.specs.declared.entry_rules.entries.CheckedEntry.{CheckedEntry}
use Rattle.check_declared_variables.specs.declared.entry_rules.groups.CheckedGroups.{CheckedGroups}
use Rattle.check_declared_variables.specs.entry_rules.Entries.{ChecksEntry}
use Rattle.check_declared_variables.specs.entry_rules.Private.Bodies.{IsAlias, IsEnumeration, IsStructure, BodyChecks}
use Rattle.check_declared_variables.specs.entry_rules.Private.Entries.{IsEntry}
use Rattle.check_declared_variables.specs.entry_rules.Private.Groups.{group_in, GroupsFind}

module _ (decls : List (Decl ℕ)) where
  given_is : (g : FieldGroup ℕ) (i : Option (Init ℕ)) → initial_if_given (unit decls) (type_written (unit decls) g.kind) (option_map initial_of i) ≡ field_given decls g i
  given_is g None = refl
  given_is g (Some i) = refl

  groups_are : (gs : List (FieldGroup ℕ)) → flat_map (group_in (unit decls)) gs ≡ flat_map (group_faults decls) gs
  groups_are [] = refl
  groups_are (g ∷ gs) = ap (λ fs. group_start g ++ fs ++ flat_map (group_in (unit decls)) gs) (given_is g g.initial) ∙ ap (λ fs. group_faults decls g ++ fs) (groups_are gs)
    where
      group_start : FieldGroup ℕ → Faults
      group_start h = type_faults (unit decls) h.kind ++ instance_out_of_place (item_line_of h.names) false (type_written (unit decls) h.kind)

  seen : (c : CheckedBody) (own : Name) (place number : ℕ) (x y : TypeBody ℕ) → x ≡ y → BodyChecks c decls own place number y → BodyChecks c decls own place number x
  seen c own place number x y h f = subst (λ (z : TypeBody ℕ). BodyChecks c decls own place number z) (sym h) f

  module _ (c : CheckedBody) (own : Name) (place number : ℕ) (x : TypeBody ℕ) (s : Scope) (u : s ≡ unit decls) where
    pub alias_arm : (t : TypeSpec ℕ) (found : CheckedType) (sizes : TypeSizes) (values depth : Option (Code × ℕ)) → x ≡ body.Alias t → Measures sizes s → ChecksType found s t → values ≡ least (own_values own.text t)
        → ((v : Scope) → Measures sizes v → found.kind ≡ type_written v t → depth ≡ least (too_deep v (declarations decls) most_steps own.line t)) → IsAlias c found values depth → BodyChecks c decls own place number x
    alias_arm t found sizes values depth h m f v d w =
        let g : ChecksType found (unit decls) t = subst (λ (z : Scope). ChecksType found z t) u f in
        seen c own place number x (body.Alias t) h (record {
          least = joined c.least (earlier found.least values) depth (type_faults (unit decls) t ++ own_values own.text t) (too_deep (unit decls) (declarations decls) most_steps own.line t) w.least
              (joined (earlier found.least values) found.least values (type_faults (unit decls) t) (own_values own.text t) refl g.least v) (d s m f.kind ∙ ap (λ z. least (too_deep z (declarations decls) most_steps own.line t)) u);
          body = subst (λ (y : TypeBody Note). TypedTypeBody decls (body.Alias t) y) (sym w.body) g.tree;
        })

    pub enumeration_arm : (ns us : List Name) → x ≡ body.Enumeration ns → us ≡ ns → IsEnumeration c us → BodyChecks c decls own place number x
    enumeration_arm ns us h q w = seen c own place number x (body.Enumeration us) (h ∙ ap (λ (ys : List Name). body.Enumeration ys) (sym q)) (record {
      least = w.least;
      body = subst (λ (y : TypeBody Note). TypedTypeBody decls (body.Enumeration us) y) (sym w.body) refl;
    })

    pub structure_arm : (gs us : List (FieldGroup ℕ)) (found : CheckedGroups) (sizes : TypeSizes) (depth : Option (Code × ℕ)) → x ≡ body.Structure gs → us ≡ gs → Measures sizes s → GroupsFind found s us
        → ((v : Scope) → Measures sizes v → depth ≡ least (when (is_too_deep v (type.Structure number) && not (leads_to_cycle (declarations decls) place)) E16 own.line)) → IsStructure c found depth → BodyChecks c decls own place number x
    structure_arm gs us found sizes depth h q m f d w =
        let g : GroupsFind found (unit decls) us = subst (λ (z : Scope). GroupsFind found z us) u f in
        seen c own place number x (body.Structure us) (h ∙ ap (λ (ys : List (FieldGroup ℕ)). body.Structure ys) (sym q)) (record {
          least = joined c.least found.least depth (flat_map (group_faults decls) us) (when (is_too_deep (unit decls) (type.Structure number) && not (leads_to_cycle (declarations decls) place)) E16 own.line) w.least
              (g.least ∙ ap least (groups_are us)) (d s m ∙ ap (λ z. least (when (is_too_deep z (type.Structure number) && not (leads_to_cycle (declarations decls) place)) E16 own.line)) u);
          body = subst (λ (y : TypeBody Note). TypedTypeBody decls (body.Structure us) y) (sym w.body) g.trees;
        })

  pub entry_checks : (c : CheckedEntry) (place number : ℕ) (t : TypeDecl ℕ) (own : Name) (names : Option (Code × ℕ)) (list parts : List Name) (found : CheckedBody) → list ≡ part_names t.body → parts ≡ list → names ≡ least (space_faults parts) → own ≡ t.name
      → BodyChecks found decls t.name place number t.body → IsEntry c own names found → ChecksEntry c decls place number t
  entry_checks c place number t own names list parts found p q n o g w = record {
    least = joined c.least names found.least (space_faults (part_names t.body)) (type_body_faults decls t.name.text t.body ++ body_depth decls t.name.line place number t.body) w.least (n ∙ ap (λ ns. least (space_faults ns)) (q ∙ p)) g.least
        ∙ ap least (sym (append_assoc (space_faults (part_names t.body)) (type_body_faults decls t.name.text t.body) (body_depth decls t.name.line place number t.body)));
    tree = record {
      name = w.name ∙ o;
      body = subst (λ (y : TypeBody Note). TypedTypeBody decls t.body y) (sym w.body) g.body;
    };
  }
