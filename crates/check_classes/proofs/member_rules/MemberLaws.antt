-- Members of a class from their parts, and one after the other.
use Rattle.std.proofs.Common.{◌≡◌, ℕ, false, List, [], ◌∷◌, ◌++◌, Option, Some, None, refl, sym, ap, ◌∙◌, subst}
use Rattle.std.specs.Prelude.{flat_map}
use Rattle.plc_text.specs.declared.code.Code.{Code}
use Rattle.st_tree.specs.declared.declaration.ClassDecl.{ClassDecl}
use Rattle.st_tree.specs.declared.declaration.Member.{Member}
use Rattle.st_tree.specs.declared.declaration.Member.TheVariants as member
use Rattle.st_tree.specs.declared.declaration.Method.{Method}
use Rattle.st_tree.specs.declared.declaration.Section.{Section}
use Rattle.st_tree.specs.declared.program.Note.{Note}
use Rattle.st_tree.specs.declared.unit.Decl.{Decl}
use Rattle.st_rules.specs.declared.names.DeclaredNames.{DeclaredNames}
use Rattle.st_rules.specs.Classes.{classes_in, methods_in}
use Rattle.st_rules.specs.Faults.{Faults, least, earlier}
use Rattle.st_rules.specs.Scope.{Scope}
use Rattle.st_rules.proofs.FaultLaws.{least-append}
use Rattle.st_unit_rules.specs.declared_names.UnitNames.{class_scope, unit_names}
use Rattle.st_unit_rules.specs.declared_names.Variables.{sections_in}
use Rattle.st_unit_rules.specs.Checked.{Each, TypedMember}
use Rattle.st_unit_rules.specs.DeclarationRules.{method_faults}
use Rattle.st_unit_rules.specs.VariableRules.{Home, section_faults, sections_faults}
pub use Rattle.check_routines.proofs.method_rules.MethodLaws.{none_behind}
use Rattle.check_declared_variables.specs.declared.variable_rules.sections.CheckedSection.{CheckedSection}
use Rattle.check_declared_variables.specs.variable_rules.Sections.{ChecksSection}
use Rattle.symbol_table.specs.unit_tables.Scopes.{scope_in}
use Rattle.check_classes.specs.declared.member_rules.members.CheckedMember.{CheckedMember}
use Rattle.check_classes.specs.declared.member_rules.members.CheckedMembers.{CheckedMembers}
use Rattle.check_routines.specs.declared.method_rules.methods.CheckedMethod.{CheckedMethod}
use Rattle.check_classes.specs.member_rules.Members.{ChecksMembers}
use Rattle.check_routines.specs.method_rules.Methods.{ChecksMethod}
use Rattle.check_classes.specs.member_rules.Private.Members.{IsSectionMember, IsMethodMember, member_sections, member_methods, TypedIfGood, ChecksMember}

-- what the scope of a class sees of the unit
module _ (decls : List (Decl ℕ)) (class : ℕ) (s : Scope) (e : s ≡ scope_in decls (Some class) false []) where
  pub own_names : (names : DeclaredNames) → names ≡ unit_names decls → names ≡ s.names
  own_names names n = n ∙ sym (ap (λ z. z.names) e)

  pub own_classes : (classes : List (ClassDecl ℕ)) → classes ≡ classes_in decls → classes ≡ s.classes
  own_classes classes n = n ∙ sym (ap (λ z. z.classes) e)

module _ (decls : List (Decl ℕ)) (h : Home) (class : ℕ) where
  pub section_checks : (c : CheckedMember) (found : CheckedSection) (m : Member ℕ) (x : Section ℕ) (s : Scope) → m ≡ member.Section x → s ≡ class_scope decls (unit_names decls) class → ChecksSection found s h x → IsSectionMember c found → ChecksMember c decls h class m
  section_checks c found m x s e d f w = subst (λ (y : Member ℕ). ChecksMember c decls h class y) (sym e) (
      let g : ChecksSection found (class_scope decls (unit_names decls) class) h x = subst (λ (z : Scope). ChecksSection found z h x) d f in
      record {
        of_section = w.of_section ∙ g.least;
        of_method = w.of_method;
        tree = λ n. subst (λ (y : Member Note). TypedMember decls class (member.Section x) y) (sym w.tree) g.tree;
      })

  pub method_checks : (c : CheckedMember) (found : CheckedMethod) (m : Member ℕ) (x : Method ℕ) → m ≡ member.Method x → ChecksMethod found decls class x → IsMethodMember c found → ChecksMember c decls h class m
  method_checks c found m x e g w = subst (λ (y : Member ℕ). ChecksMember c decls h class y) (sym e) (record {
    of_section = w.of_section;
    of_method = w.of_method ∙ g.least;
    tree = λ n. subst (λ (y : Member Note). TypedMember decls class (member.Method x) y) (sym w.tree) (g.tree (g.least ∙ n));
  })

  -- ---- all members

  sections_are : (ms : List (Member ℕ)) → flat_map (member_sections decls h class) ms ≡ flat_map (section_faults (class_scope decls (unit_names decls) class) h) (sections_in ms)
  sections_are [] = refl
  sections_are (member.Section x ∷ ms) = ap (λ fs. section_faults (class_scope decls (unit_names decls) class) h x ++ fs) (sections_are ms)
  sections_are (member.Method m ∷ ms) = sections_are ms

  methods_are : (ms : List (Member ℕ)) → flat_map (member_methods decls class) ms ≡ flat_map (method_faults decls class) (methods_in ms)
  methods_are [] = refl
  methods_are (member.Section x ∷ ms) = methods_are ms
  methods_are (member.Method m ∷ ms) = ap (λ fs. method_faults decls class m ++ fs) (methods_are ms)

  none_before : (a b : Option (Code × ℕ)) → earlier a b ≡ None → a ≡ None
  none_before None b e = refl
  none_before (Some x) None e = absurd (cc e)
  none_before (Some x) (Some y) e = absurd (cc e)

  all_good : (xs : List (Member ℕ)) (ys : List (Member Note)) → least (flat_map (member_methods decls class) xs) ≡ None → Each (TypedIfGood decls class) xs ys → Each (TypedMember decls class) xs ys
  all_good [] [] n t = tt
  all_good (x ∷ xs) (y ∷ ys) n t =
      let split : earlier (least (member_methods decls class x)) (least (flat_map (member_methods decls class) xs)) ≡ None = sym (least-append (member_methods decls class x) (flat_map (member_methods decls class) xs)) ∙ n in
      (t.0 (none_before _ _ split), all_good xs ys (none_behind (least (member_methods decls class x)) _ split) t.1)
  all_good [] (y ∷ ys) n t = absurd t
  all_good (x ∷ xs) [] n t = absurd t

  pub members_ended : (c : CheckedMembers) (ms : List (Member ℕ)) → c.sections ≡ least (flat_map (member_sections decls h class) ms) → c.methods ≡ least (flat_map (member_methods decls class) ms) → Each (TypedIfGood decls class) ms c.members
      → ChecksMembers c decls h class ms
  unfolding sections_faults
  members_ended c ms a b t = record {
    of_sections = a ∙ ap least (sections_are ms);
    of_methods = b ∙ ap least (methods_are ms);
    trees = λ n. all_good ms c.members (sym b ∙ n) t;
  }
