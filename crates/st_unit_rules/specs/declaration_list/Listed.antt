-- A declaration, as the code lends it.
use Rattle.st_unit_rules.specs.declared_names.Declarations.{Declaration, an_entry, a_global, an_interface, a_class, a_function, a_program, a_configuration}
use Rattle.st_unit_rules.specs.declared.declaration_list.listed.Declared.{Declared}
use Rattle.st_unit_rules.specs.declared.declaration_list.listed.Declared.TheVariants as code
use Rattle.st_unit_rules.specs.declaration_list.Written.{global_of}

abbrev pub declared_as : Declared → Declaration
declared_as (code.Entry t) = an_entry t.now
declared_as (code.Global w) = a_global (global_of w)
declared_as (code.Interface i) = an_interface i.now
declared_as (code.Class c) = a_class c.now
declared_as (code.Function f) = a_function f.now
declared_as (code.Program p) = a_program p.now
declared_as (code.Configuration c) = a_configuration c.now
