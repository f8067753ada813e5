use Rattle.check_signatures.proofs.unit_signatures.RoutineLaws.{interface_added, types_no_interface, globals_no_interface, class_no_interface, function_no_interface, program_no_interface, configuration_no_interface}
use Rattle.check_signatures.proofs.unit_signatures.interfaces.add_declaration.Goals as goal

pub returns-in_ok-push-in-Interface : goal.returns-in_ok-push-in-Interface
returns-in_ok-push-in-Interface c = interface_added c.args.weighed.now _ _ _ _ _ c.in-Interface.interface _ _ c.in-Interface.is c.as_slice.ensures c.in_ok-one-in-Interface.ensures c.in_ok-push-in-Interface.ensures.ok

pub returns-in-Types : goal.returns-in-Types
returns-in-Types c = types_no_interface c.args.weighed.now _ _ _ _ _ c.in-Types.is

pub returns-in-Globals : goal.returns-in-Globals
returns-in-Globals c = globals_no_interface c.args.weighed.now _ _ _ _ c.in-Globals.is

pub returns-in-Class : goal.returns-in-Class
returns-in-Class c = class_no_interface c.args.weighed.now _ _ _ _ c.in-Class.is

pub returns-in-Function : goal.returns-in-Function
returns-in-Function c = function_no_interface c.args.weighed.now _ _ _ _ c.in-Function.is

pub returns-in-Program : goal.returns-in-Program
returns-in-Program c = program_no_interface c.args.weighed.now _ _ _ _ c.in-Program.is

pub returns-in-Configuration : goal.returns-in-Configuration
returns-in-Configuration c = configuration_no_interface c.args.weighed.now _ _ _ _ c.in-Configuration.is
