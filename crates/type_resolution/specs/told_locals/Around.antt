-- What stands around a routine or a program: the names of the unit, and the class, where it is in one.
use Rattle.std.specs.Prelude.{◌≡◌, ℕ, List, []}
use Rattle.st_tree.specs.declared.declaration.Section.{Section}
use Rattle.st_rules.specs.declared.names.DeclaredVariable.{DeclaredVariable}
use Rattle.st_rules.specs.Classes.{classes_in}
use Rattle.st_rules.specs.Interfaces.{interfaces_in}
use Rattle.st_rules.specs.Scope.{Scope}
use Rattle.name_resolution.specs.Tables.{Knows}
use Rattle.st_unit_rules.specs.declared_names.Variables.{members_declared, routine_locals}
use Rattle.st_unit_rules.specs.declared_names.UnitNames.{locals_of, program_locals}
use Rattle.type_resolution.specs.declared.told_locals.around.Around.{Around}
use Rattle.type_resolution.specs.declared.told_locals.around.Declaring.{Declaring}
use Rattle.type_resolution.specs.declared.told_locals.around.Declaring.TheVariants as code

-- the scope before the locals are known
abbrev pub scope_around : Around → Scope
scope_around a = record {
  classes = classes_in a.classes.now.decls;
  interfaces = interfaces_in a.classes.now.decls;
  names = a.names.now.names;
  class = a.class;
  in_method = a.in_method;
  locals = [];
}

-- the tables know the unit
pub record IsAround (a : Around) : Type 0 where
  pub knows : Knows a.names.now (classes_in a.classes.now.decls)
  pub same : a.interfaces.now ≡ a.classes.now

-- what is declared, in a scope in which locals are known
abbrev pub declared_in : Declaring → Scope → List DeclaredVariable
declared_in (code.Routine name of sections) s = routine_locals s name.now.text of.now sections.now
declared_in (code.Program sections) s = members_declared s 0 0 sections.now

abbrev pub sections_of : Declaring → List (Section ℕ)
sections_of (code.Routine name of sections) = sections.now
sections_of (code.Program sections) = sections.now

-- with all that can be told
abbrev pub all_told : Declaring → Scope → List DeclaredVariable
all_told (code.Routine name of sections) s = locals_of s name.now.text of.now sections.now
all_told (code.Program sections) s = program_locals s sections.now
