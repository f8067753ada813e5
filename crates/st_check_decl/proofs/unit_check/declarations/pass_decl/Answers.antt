use Rattle.std.proofs.lemmas.Result.{err_from_is_err_and}
use Rattle.std.proofs.Common.{refl}
use Rattle.st_check_decl.proofs.unit_check.DeclLaws.{class_fails, class_passes, entries_fail, entries_pass, function_fails, function_passes, interface_fails, interface_passes, program_fails, program_passes, text_fails, text_passes}
use Rattle.st_check_decl.proofs.unit_check.declarations.pass_decl.Goals as goal

pub returns-in_ok-pass_entries-in-Types-clause-passed : goal.returns-in_ok-pass_entries-in-Types-clause-passed
returns-in_ok-pass_entries-in-Types-clause-passed c = entries_pass c.args.side.now.tables.now.decls _ _ c.args.decl.now _ _ _ c.in-Types.is c.as_slice.ensures refl c.in_ok-pass_entries-in-Types.ensures.passed

pub returns-in_err-pass_entries-in-Types-clause-bad : goal.returns-in_err-pass_entries-in-Types-clause-bad
returns-in_err-pass_entries-in-Types-clause-bad c = let p = err_from_is_err_and c.from_residual.result c.from_residual.ensures.1 in rw (p.1, p.2) (entries_fail c.args.side.now.tables.now.decls _ _ c.args.decl.now _ _ _ c.in-Types.is c.as_slice.ensures c.in_err-pass_entries-in-Types.ensures.bad)

pub returns-in_ok-pass_section-in-Globals-clause-passed : goal.returns-in_ok-pass_section-in-Globals-clause-passed
returns-in_ok-pass_section-in-Globals-clause-passed c = text_passes c.args.side.now.tables.now.decls _ _ c.args.decl.now _ c.in-Globals.is c.in_ok-pass_section-in-Globals.ensures.passed

pub returns-in_err-pass_section-in-Globals-clause-bad : goal.returns-in_err-pass_section-in-Globals-clause-bad
returns-in_err-pass_section-in-Globals-clause-bad c = let p = err_from_is_err_and c.from_residual-in_err-pass_section-in-Globals.result c.from_residual-in_err-pass_section-in-Globals.ensures.1 in rw (p.1, p.2) (text_fails c.args.side.now.tables.now.decls _ _ c.args.decl.now _ c.in-Globals.is c.in_err-pass_section-in-Globals.ensures.bad)

pub returns-in_ok-pass_interface-in-Interface-clause-passed : goal.returns-in_ok-pass_interface-in-Interface-clause-passed
returns-in_ok-pass_interface-in-Interface-clause-passed c = interface_passes c.args.side.now.tables.now.decls _ _ c.args.decl.now _ c.in-Interface.is refl c.in_ok-pass_interface-in-Interface.ensures.passed

pub returns-in_err-pass_interface-in-Interface-clause-bad : goal.returns-in_err-pass_interface-in-Interface-clause-bad
returns-in_err-pass_interface-in-Interface-clause-bad c = let p = err_from_is_err_and c.from_residual-in_err-pass_interface-in-Interface.result c.from_residual-in_err-pass_interface-in-Interface.ensures.1 in rw (p.1, p.2) (interface_fails c.args.side.now.tables.now.decls _ _ c.args.decl.now _ c.in-Interface.is c.in_err-pass_interface-in-Interface.ensures.bad)

pub returns-in_ok-pass_class-in-Class-clause-passed : goal.returns-in_ok-pass_class-in-Class-clause-passed
returns-in_ok-pass_class-in-Class-clause-passed c = class_passes c.args.side.now.tables.now.decls _ _ c.args.decl.now _ c.in-Class.is refl c.in_ok-pass_class-in-Class.ensures.passed

pub returns-in_err-pass_class-in-Class-clause-bad : goal.returns-in_err-pass_class-in-Class-clause-bad
returns-in_err-pass_class-in-Class-clause-bad c = let p = err_from_is_err_and c.from_residual-in_err-pass_class-in-Class.result c.from_residual-in_err-pass_class-in-Class.ensures.1 in rw (p.1, p.2) (class_fails c.args.side.now.tables.now.decls _ _ c.args.decl.now _ c.in-Class.is c.in_err-pass_class-in-Class.ensures.bad)

pub returns-in_ok-pass_function-in-Function-clause-passed : goal.returns-in_ok-pass_function-in-Function-clause-passed
returns-in_ok-pass_function-in-Function-clause-passed c = function_passes c.args.side.now.tables.now.decls _ _ c.args.decl.now _ c.in-Function.is refl c.in_ok-pass_function-in-Function.ensures.passed

pub returns-in_err-pass_function-in-Function-clause-bad : goal.returns-in_err-pass_function-in-Function-clause-bad
returns-in_err-pass_function-in-Function-clause-bad c = let p = err_from_is_err_and c.from_residual-in_err-pass_function-in-Function.result c.from_residual-in_err-pass_function-in-Function.ensures.1 in rw (p.1, p.2) (function_fails c.args.side.now.tables.now.decls _ _ c.args.decl.now _ c.in-Function.is c.in_err-pass_function-in-Function.ensures.bad)

pub returns-in_ok-pass_program-in-Program-clause-passed : goal.returns-in_ok-pass_program-in-Program-clause-passed
returns-in_ok-pass_program-in-Program-clause-passed c = program_passes c.args.side.now.tables.now.decls _ _ c.args.decl.now _ c.in-Program.is refl c.in_ok-pass_program-in-Program.ensures.passed

pub returns-in_err-pass_program-in-Program-clause-bad : goal.returns-in_err-pass_program-in-Program-clause-bad
returns-in_err-pass_program-in-Program-clause-bad c = let p = err_from_is_err_and c.from_residual-in_err-pass_program-in-Program.result c.from_residual-in_err-pass_program-in-Program.ensures.1 in rw (p.1, p.2) (program_fails c.args.side.now.tables.now.decls _ _ c.args.decl.now _ c.in-Program.is c.in_err-pass_program-in-Program.ensures.bad)

pub returns-in_ok-pass_whole_configuration-in-Configuration-clause-passed : goal.returns-in_ok-pass_whole_configuration-in-Configuration-clause-passed
returns-in_ok-pass_whole_configuration-in-Configuration-clause-passed c = text_passes c.args.side.now.tables.now.decls _ _ c.args.decl.now _ c.in-Configuration.is c.in_ok-pass_whole_configuration-in-Configuration.ensures.passed

pub returns-in_err-pass_whole_configuration-in-Configuration-clause-bad : goal.returns-in_err-pass_whole_configuration-in-Configuration-clause-bad
returns-in_err-pass_whole_configuration-in-Configuration-clause-bad c = let p = err_from_is_err_and c.from_residual-in_err-pass_whole_configuration-in-Configuration.result c.from_residual-in_err-pass_whole_configuration-in-Configuration.ensures.1 in rw (p.1, p.2) (text_fails c.args.side.now.tables.now.decls _ _ c.args.decl.now _ c.in-Configuration.is c.in_err-pass_whole_configuration-in-Configuration.ensures.bad)
