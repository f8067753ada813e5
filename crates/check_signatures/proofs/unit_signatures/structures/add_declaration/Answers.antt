use Rattle.check_signatures.proofs.unit_signatures.StructureLaws.{types_added, globals_add_none, interface_adds_none, class_adds_none, function_adds_none, program_adds_none, configuration_adds_none}
use Rattle.check_signatures.proofs.unit_signatures.structures.add_declaration.Goals as goal

pub returns-in_ok-add_entries-in-Types : goal.returns-in_ok-add_entries-in-Types
returns-in_ok-add_entries-in-Types c = types_added _ _ _ _ _ _ _ c.in-Types.is c.as_slice.ensures c.in_ok-add_entries-in-Types.ensures

pub returns-in-Globals : goal.returns-in-Globals
returns-in-Globals c = globals_add_none _ _ _ _ c.in-Globals.is

pub returns-in-Interface : goal.returns-in-Interface
returns-in-Interface c = interface_adds_none _ _ _ _ c.in-Interface.is

pub returns-in-Class : goal.returns-in-Class
returns-in-Class c = class_adds_none _ _ _ _ c.in-Class.is

pub returns-in-Function : goal.returns-in-Function
returns-in-Function c = function_adds_none _ _ _ _ c.in-Function.is

pub returns-in-Program : goal.returns-in-Program
returns-in-Program c = program_adds_none _ _ _ _ c.in-Program.is

pub returns-in-Configuration : goal.returns-in-Configuration
returns-in-Configuration c = configuration_adds_none _ _ _ _ c.in-Configuration.is
