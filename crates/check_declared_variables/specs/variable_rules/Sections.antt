-- What is found out about sections.
use Rattle.std.specs.Prelude.{◌≡◌, ℕ, List}
use Rattle.st_tree.specs.declared.declaration.Section.{Section}
use Rattle.st_rules.specs.Faults.{least}
use Rattle.st_rules.specs.Scope.{Scope}
use Rattle.st_unit_rules.specs.VariableRules.{Home, section_faults, sections_faults}
use Rattle.st_unit_rules.specs.Checked.{Each, TypedSection}
use Rattle.check_declared_variables.specs.declared.variable_rules.sections.CheckedSection.{CheckedSection}
use Rattle.check_declared_variables.specs.declared.variable_rules.sections.CheckedSections.{CheckedSections}

pub record ChecksSection (c : CheckedSection) (s : Scope) (h : Home) (section : Section ℕ) : Type 0 where
  pub least : c.least ≡ least (section_faults s h section)
  pub tree : TypedSection s section c.section

pub record ChecksSections (c : CheckedSections) (s : Scope) (h : Home) (sections : List (Section ℕ)) : Type 0 where
  pub least : c.least ≡ least (sections_faults s h sections)
  pub trees : Each (TypedSection s) sections c.sections
