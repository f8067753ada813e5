-- A class from what was found out about its parts.
use Rattle.std.proofs.Common.{◌≡◌, ℕ, List, ◌++◌, Option, Some, None, refl, sym, ap, ◌∙◌, subst}
use Rattle.std.specs.Prelude.{flat_map}
use Rattle.plc_text.specs.declared.code.Code.{Code}
use Rattle.st_tree.specs.declared.declaration.ClassDecl.{ClassDecl}
use Rattle.st_tree.specs.declared.declaration.Member.{Member}
use Rattle.st_tree.specs.declared.name.Used.{Used}
use Rattle.st_tree.specs.declared.program.Note.{Note}
use Rattle.st_tree.specs.declared.statement.Stmt.{Stmt}
use Rattle.st_tree.specs.declared.unit.Decl.{Decl}
use Rattle.st_tree.specs.Statement.{statements_of}
use Rattle.st_rules.specs.Classes.{classes_in, methods_in}
use Rattle.st_rules.specs.ClassRules.{class_faults}
use Rattle.st_rules.specs.Faults.{Faults, least, earlier}
use Rattle.st_rules.specs.InterfaceRules.{concrete_class_faults}
use Rattle.st_rules.specs.Interfaces.{interfaces_in}
use Rattle.st_rules.specs.Scope.{Scope}
use Rattle.st_rules.specs.Statements.{body_faults}
use Rattle.st_unit_rules.specs.declared_names.UnitNames.{class_scope, unit_names}
use Rattle.st_unit_rules.specs.declared_names.Variables.{sections_in, sections_written}
use Rattle.st_unit_rules.specs.Checked.{Each, IfThere, TypedBody, TypedClass, TypedMember, TypedUsed, class_meant, interface_meant}
use Rattle.st_unit_rules.specs.Cycles.{inner_cycles}
use Rattle.st_unit_rules.specs.DeclarationRules.{base_not_found, class_declaration_faults, class_home, class_limits, interface_not_found, method_faults, signatures}
use Rattle.st_unit_rules.specs.NameRules.{member_name_faults, word_twice}
use Rattle.st_unit_rules.specs.VariableRules.{sections_faults}
use Rattle.st_unit_rules.specs.Worth.{same_worth}
use Rattle.check_initial_values.proofs.Parts.{joined}
use Rattle.check_classes.proofs.member_rules.MemberLaws.{none_behind}
use Rattle.check_classes.specs.declared.class_rules.parts.Broken.{Broken}
use Rattle.check_classes.specs.declared.class_rules.parts.CheckedClass.{CheckedClass}
use Rattle.check_classes.specs.declared.class_rules.parts.Heading.{Heading}
use Rattle.check_classes.specs.declared.class_rules.parts.Trees.{Trees}
use Rattle.check_classes.specs.class_rules.Classes.{ChecksClass}
use Rattle.check_classes.specs.class_rules.Private.Classes.{BrokenBy, TreesFound}
use Rattle.check_classes.specs.class_rules.Private.Parts.{IsClass, IsHeading, least_of}

none_before : (a b : Option (Code × ℕ)) → earlier a b ≡ None → a ≡ None
none_before None b e = refl
none_before (Some x) None e = absurd (cc e)
none_before (Some x) (Some y) e = absurd (cc e)

module _ (decls : List (Decl ℕ)) (place number : ℕ) (d : ClassDecl ℕ) (b : Broken) (p : Trees) where
  abbrev own : Scope
  own = class_scope decls (unit_names decls) number

  -- the rules of a class, one after the other
  least_is : BrokenBy b decls place number d → TreesFound p decls number d → least_of b p ≡ least (class_declaration_faults decls place number d)
  least_is w f =
      let words : Faults = word_twice d.line d.modifiers in
      let names : Faults = words ++ member_name_faults (classes_in decls) number d in
      let base : Faults = names ++ base_not_found decls d.base in
      let above : Faults = base ++ flat_map (interface_not_found decls) d.interfaces in
      let bases : Faults = above ++ class_faults same_worth (classes_in decls) (signatures decls) number in
      let concrete : Faults = bases ++ concrete_class_faults (classes_in decls) (interfaces_in decls) same_worth (signatures decls) number in
      let sections : Faults = concrete ++ sections_faults own (class_home decls d.sort) (sections_in d.members) in
      let cycles : Faults = sections ++ inner_cycles (sections_written (sections_in d.members)) in
      let methods : Faults = cycles ++ flat_map (method_faults decls number) (methods_in d.members) in
      let limits : Faults = methods ++ class_limits decls own place number d in
      joined _ _ p.body.least limits (body_faults own (statements_of d.body)) refl
      (joined _ _ b.limits methods (class_limits decls own place number d) refl
      (joined _ _ p.members.methods cycles (flat_map (method_faults decls number) (methods_in d.members)) refl
      (joined _ _ b.cycles sections (inner_cycles (sections_written (sections_in d.members))) refl
      (joined _ _ p.members.sections concrete (sections_faults own (class_home decls d.sort) (sections_in d.members)) refl
      (joined _ _ b.concrete bases (concrete_class_faults (classes_in decls) (interfaces_in decls) same_worth (signatures decls) number) refl
      (joined _ _ b.bases above (class_faults same_worth (classes_in decls) (signatures decls) number) refl
      (joined _ _ p.interfaces.least base (flat_map (interface_not_found decls) d.interfaces) refl
      (joined _ _ p.base.least names (base_not_found decls d.base) refl
      (joined _ b.words b.names words (member_name_faults (classes_in decls) number d) refl w.words w.names)
      f.base.least)
      f.interfaces.least)
      w.bases)
      w.concrete)
      f.members.of_sections)
      w.cycles)
      f.members.of_methods)
      w.limits)
      f.body.least

  -- where nothing is broken, no method and no statement breaks a rule
  methods_good : least_of b p ≡ None → p.members.methods ≡ None
  methods_good n = none_behind _ p.members.methods (none_before _ b.limits (none_before _ p.body.least n))

  body_good : least_of b p ≡ None → p.body.least ≡ None
  body_good n = none_behind _ p.body.least n

  pub class_checks : (c : CheckedClass) (h : Heading) → IsHeading h d → BrokenBy b decls place number d → TreesFound p decls number d → IsClass c h b p → ChecksClass c decls place number d
  class_checks c h i w f k = record {
    least = k.least ∙ least_is w f;
    tree = λ n. let none : least_of b p ≡ None = sym k.least ∙ n in record {
      line = k.line ∙ i.line;
      sort = k.sort ∙ i.sort;
      modifiers = k.modifiers ∙ i.modifiers;
      name = k.name ∙ i.name;
      base = subst (λ (u : Option (Used Note)). IfThere (TypedUsed (class_meant decls)) d.base u) (sym k.base) f.base.tree;
      interfaces = subst (λ (us : List (Used Note)). Each (TypedUsed (interface_meant decls)) d.interfaces us) (sym k.interfaces) f.interfaces.trees;
      members = subst (λ (ms : List (Member Note)). Each (TypedMember decls number) d.members ms) (sym k.members) (f.members.trees (methods_good none));
      body = subst (λ (ys : List (Stmt Note)). TypedBody own d.body ys) (sym k.body) (f.body.body (body_good none));
    };
  }
