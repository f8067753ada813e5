use Rattle.check_signatures.proofs.unit_signatures.RoutineLaws.{class_added, types_no_class, globals_no_class, interface_no_class, function_no_class, program_no_class, configuration_no_class}
use Rattle.check_signatures.proofs.unit_signatures.classes.add_declaration.Goals as goal

pub returns-in_ok-after-in-Class : goal.returns-in_ok-after-in-Class
returns-in_ok-after-in-Class c = class_added c.args.weighed.now _ _ _ _ _ _ _ c.in-Class.class _ _ c.in-Class.is c.as_slice-members.ensures c.in_ok-one-in-Class.ensures c.in_ok-push-in-Class.ensures.ok c.in_ok-after-in-Class.ensures

pub returns-in-Types : goal.returns-in-Types
returns-in-Types c = types_no_class c.args.weighed.now _ _ _ _ _ _ c.in-Types.is

pub returns-in-Globals : goal.returns-in-Globals
returns-in-Globals c = globals_no_class c.args.weighed.now _ _ _ _ _ c.in-Globals.is

pub returns-in-Interface : goal.returns-in-Interface
returns-in-Interface c = interface_no_class c.args.weighed.now _ _ _ _ _ c.in-Interface.is

pub returns-in-Function : goal.returns-in-Function
returns-in-Function c = function_no_class c.args.weighed.now _ _ _ _ _ c.in-Function.is

pub returns-in-Program : goal.returns-in-Program
returns-in-Program c = program_no_class c.args.weighed.now _ _ _ _ _ c.in-Program.is

pub returns-in-Configuration : goal.returns-in-Configuration
returns-in-Configuration c = configuration_no_class c.args.weighed.now _ _ _ _ _ c.in-Configuration.is
