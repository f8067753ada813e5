use Rattle.std.proofs.lemmas.Result.{err_from_is_err_and}
use Rattle.st_unit_rules.specs.declared_names.Declarations.{an_entry}
use Rattle.st_check_decl.proofs.checked_declarations.PassLaws.{common_of, entry_bad, entry_good, entry_of}
use Rattle.st_check_decl.proofs.checked_declarations.entries.pass_entry.Goals as goal

pub check_entry-requires-clause-sizes : goal.check_entry-requires-clause-sizes
check_entry-requires-clause-sizes c = c.sizes.ensures c.args.s.now (λ i. (c.requires i).classes) (λ i. (c.requires i).names)

pub returns-clause-passed : goal.returns-clause-passed
returns-clause-passed c = entry_good c.args.tables.now.decls _ c.args.entry.now _ _ _ (common_of _ _ _ (an_entry c.args.entry.now) _ (c.graph.ensures) c.common_fault-common.ensures) (entry_of _ _ _ _ _ _ c.graph-2.ensures c.in_ok-found.ensures) c.earlier.ensures _ c.in_ok-add_entry.ensures c.in_ok-settle.ensures.good c.in_ok-settle.ensures.passed

pub returns-in_err-settle-clause-bad : goal.returns-in_err-settle-clause-bad
returns-in_err-settle-clause-bad c = let p = err_from_is_err_and c.from_residual-in_err-settle.result c.from_residual-in_err-settle.ensures.1 in rw (p.1, p.2) (entry_bad c.args.tables.now.decls _ c.args.entry.now _ _ _ (common_of _ _ _ (an_entry c.args.entry.now) _ (c.graph.ensures) c.common_fault-common.ensures) (entry_of _ _ _ _ _ _ c.graph-2.ensures c.in_ok-found.ensures) c.earlier.ensures _ c.in_err-settle.ensures.bad)
