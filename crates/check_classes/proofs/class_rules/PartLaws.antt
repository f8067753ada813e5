-- What a class breaks besides its trees, and what is found out about these, in the scope of the class.
use Rattle.std.proofs.Common.{◌≡◌, ℕ, false, List, [], Option, Some, None, refl, sym, ap, ◌∙◌, subst, map}
use Rattle.plc_text.specs.declared.code.Code.{Code}
use Rattle.st_tree.specs.declared.declaration.ClassDecl.{ClassDecl}
use Rattle.st_tree.specs.declared.declaration.Member.{Member}
use Rattle.st_tree.specs.declared.declaration.Modifier.{Modifier}
use Rattle.st_tree.specs.declared.declaration.Section.{Section}
use Rattle.st_tree.specs.declared.name.Used.{Used}
use Rattle.st_tree.specs.declared.statement.Stmt.{Stmt}
use Rattle.st_tree.specs.declared.unit.Decl.{Decl}
use Rattle.st_tree.specs.declared.unit.Unit.{Unit}
use Rattle.st_rules.specs.declared.signature.Signatures.{Signatures}
use Rattle.st_rules.specs.Classes.{chain, classes_in}
use Rattle.st_rules.specs.ClassRules.{class_faults}
use Rattle.st_rules.specs.Faults.{Faults, least}
use Rattle.st_rules.specs.InterfaceRules.{concrete_class_faults}
use Rattle.st_rules.specs.Interfaces.{interfaces_in}
use Rattle.st_rules.specs.Scope.{Scope}
use Rattle.st_unit_rules.specs.declared_names.UnitNames.{class_scope, unit_names}
use Rattle.st_unit_rules.specs.declared_names.Variables.{sections_in, sections_written}
use Rattle.st_unit_rules.specs.declared.declaration_list.written.WrittenName.{WrittenName}
use Rattle.st_unit_rules.specs.declaration_list.Written.{global_of, names_in_sections}
use Rattle.st_unit_rules.specs.Cycles.{inner_cycles}
use Rattle.st_unit_rules.specs.DeclarationRules.{class_home, class_limits, signatures}
use Rattle.st_unit_rules.specs.NameRules.{member_name_faults, word_twice}
use Rattle.st_unit_rules.specs.VariableRules.{Home}
use Rattle.st_unit_rules.specs.Worth.{same_worth}
use Rattle.check_classes.specs.base_rules.Used.{ChecksBase, ChecksInterfaces}
use Rattle.check_classes.specs.member_rules.Members.{ChecksMembers}
use Rattle.check_routines.specs.routine_rules.Bodies.{FindsBody}
use Rattle.symbol_table.specs.unit_tables.Scopes.{scope_in}
use Rattle.check_classes.specs.declared.class_rules.parts.Broken.{Broken}
use Rattle.check_classes.specs.declared.class_rules.parts.Trees.{Trees}
use Rattle.check_classes.specs.class_rules.Private.Classes.{BrokenBy, TreesFound}

-- the scope of a class
pub own_scope : (decls : List (Decl ℕ)) (number : ℕ) (s : Scope) → s ≡ scope_in decls (Some number) false [] → s ≡ class_scope decls (unit_names decls) number
own_scope decls number s e = e

pub own_chain : (decls : List (Decl ℕ)) (number : ℕ) (s : Scope) (list xs : List ℕ) → s ≡ scope_in decls (Some number) false [] → list ≡ chain s.classes number → xs ≡ list → xs ≡ chain (classes_in decls) number
own_chain decls number s list xs e h q = q ∙ h ∙ ap (λ z. chain z.classes number) e

module _ (decls : List (Decl ℕ)) (place number : ℕ) (d : ClassDecl ℕ) where
  abbrev own : Scope
  own = class_scope decls (unit_names decls) number

  abbrev inner : List (Member ℕ) → Faults
  inner ms = inner_cycles (sections_written (sections_in ms))

  pub broken_is : (b : Broken) (s : Scope) (classes interfaces : Unit) (words : List Modifier) (members : List (Member ℕ)) (list names : List WrittenName) → s ≡ scope_in decls (Some number) false []
      → words ≡ d.modifiers → b.words ≡ least (word_twice d.line words)
      → b.names ≡ least (member_name_faults (classes_in decls) number d)
      → classes.decls ≡ decls → b.bases ≡ least (class_faults same_worth (classes_in classes.decls) (signatures decls) number)
      → interfaces.decls ≡ decls → b.concrete ≡ least (concrete_class_faults (classes_in interfaces.decls) (interfaces_in interfaces.decls) same_worth (signatures decls) number)
      → members ≡ d.members → map global_of list ≡ names_in_sections (sections_in members) → names ≡ list
      → ((ss : List (Section ℕ)) → map global_of names ≡ names_in_sections ss → b.cycles ≡ least (inner_cycles (sections_written ss)))
      → b.limits ≡ least (class_limits decls s place number d) → BrokenBy b decls place number d
  broken_is b s classes interfaces words members list names e w a n k f j g m u q c l = record {
    words = a ∙ ap (λ ws. least (word_twice d.line ws)) w;
    names = n;
    bases = f ∙ ap (λ ds. least (class_faults same_worth (classes_in ds) (signatures decls) number)) k;
    concrete = g ∙ ap (λ ds. least (concrete_class_faults (classes_in ds) (interfaces_in ds) same_worth (signatures decls) number)) j;
    cycles = c (sections_in members) (ap (map global_of) q ∙ u) ∙ ap (λ ms. least (inner ms)) m;
    limits = l ∙ ap (λ z. least (class_limits decls z place number d)) e;
  }

pub trees_are : (decls : List (Decl ℕ)) (number : ℕ) (d : ClassDecl ℕ) (t : Trees) (s : Scope) (classes : Unit) (home : Home) (used : List (Used ℕ)) (members : List (Member ℕ)) (text : List (Stmt ℕ)) → s ≡ scope_in decls (Some number) false []
    → classes.decls ≡ decls → ChecksBase t.base classes.decls d.base
    → used ≡ d.interfaces → ChecksInterfaces t.interfaces classes.decls used
    → home ≡ class_home decls d.sort → members ≡ d.members → ChecksMembers t.members decls home number members
    → text ≡ d.body → FindsBody t.body s text → TreesFound t decls number d
trees_are decls number d t s classes home used members text e k b u i h m f x y = record {
  base = subst (λ (ds : List (Decl ℕ)). ChecksBase t.base ds d.base) k b;
  interfaces = subst (λ (ds : List (Decl ℕ)). ChecksInterfaces t.interfaces ds d.interfaces) k (subst (λ (us : List (Used ℕ)). ChecksInterfaces t.interfaces classes.decls us) u i);
  members = subst (λ (z : Home). ChecksMembers t.members decls z number d.members) h (subst (λ (ms : List (Member ℕ)). ChecksMembers t.members decls home number ms) m f);
  body = subst (λ (z : Scope). FindsBody t.body z d.body) e (subst (λ (ys : List (Stmt ℕ)). FindsBody t.body s ys) x y);
}
