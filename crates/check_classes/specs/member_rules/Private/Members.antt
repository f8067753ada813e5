-- Members of a class, one after the other.
use Rattle.std.specs.Prelude.{◌≡◌, ℕ, List, [], ◌∷◌, ◌++◌, None}
use Rattle.st_tree.specs.declared.declaration.Member.{Member}
use Rattle.st_tree.specs.declared.declaration.Member.TheVariants as member
use Rattle.st_tree.specs.declared.program.Note.{Note}
use Rattle.st_tree.specs.declared.unit.Decl.{Decl}
use Rattle.st_rules.specs.Faults.{Faults, least, earlier}
use Rattle.st_unit_rules.specs.declared_names.UnitNames.{class_scope, unit_names}
use Rattle.st_unit_rules.specs.Checked.{TypedMember}
use Rattle.st_unit_rules.specs.DeclarationRules.{method_faults}
use Rattle.st_unit_rules.specs.VariableRules.{Home, section_faults}
use Rattle.check_declared_variables.specs.declared.variable_rules.sections.CheckedSection.{CheckedSection}
use Rattle.check_classes.specs.declared.member_rules.members.CheckedMember.{CheckedMember}
use Rattle.check_classes.specs.declared.member_rules.members.CheckedMembers.{CheckedMembers}
use Rattle.check_routines.specs.declared.method_rules.methods.CheckedMethod.{CheckedMethod}

pub record IsSectionMember (c : CheckedMember) (found : CheckedSection) : Type 0 where
  pub of_section : c.section ≡ found.least
  pub of_method : c.method ≡ None
  pub tree : c.member ≡ member.Section found.section

pub record IsMethodMember (c : CheckedMember) (found : CheckedMethod) : Type 0 where
  pub of_section : c.section ≡ None
  pub of_method : c.method ≡ found.least
  pub tree : c.member ≡ member.Method found.method

-- what a member breaks, if it is a section
abbrev pub member_sections : List (Decl ℕ) → Home → ℕ → Member ℕ → Faults
member_sections decls h c (member.Section x) = section_faults (class_scope decls (unit_names decls) c) h x
member_sections decls h c (member.Method m) = []

-- what a member breaks, if it is a method
abbrev pub member_methods : List (Decl ℕ) → ℕ → Member ℕ → Faults
member_methods decls c (member.Section x) = []
member_methods decls c (member.Method m) = method_faults decls c m

-- typed, where it breaks nothing as a method
abbrev pub TypedIfGood : List (Decl ℕ) → ℕ → Member ℕ → Member Note → Type 0
TypedIfGood decls c x y = least (member_methods decls c x) ≡ None → TypedMember decls c x y

pub record ChecksMember (c : CheckedMember) (decls : List (Decl ℕ)) (home : Home) (class : ℕ) (m : Member ℕ) : Type 0 where
  pub of_section : c.section ≡ least (member_sections decls home class m)
  pub of_method : c.method ≡ least (member_methods decls class m)
  pub tree : TypedIfGood decls class m c.member

pub record NoMembers (x : CheckedMembers) : Type 0 where
  pub of_sections : x.sections ≡ None
  pub of_methods : x.methods ≡ None
  pub members : x.members ≡ []

pub record AddsMember (x before : CheckedMembers) (one : CheckedMember) : Type 0 where
  pub of_sections : x.sections ≡ earlier before.sections one.section
  pub of_methods : x.methods ≡ earlier before.methods one.method
  pub members : x.members ≡ before.members ++ one.member ∷ []
