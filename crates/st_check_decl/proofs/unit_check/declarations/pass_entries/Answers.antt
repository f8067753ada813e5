use Rattle.std.proofs.lemmas.Result.{err_from_is_err_and}
use Rattle.st_check_decl.proofs.unit_check.ThroughLaws.{entries_bad, entries_ended, entries_next, went_begun}
use Rattle.st_check_decl.proofs.unit_check.declarations.pass_entries.Goals as goal

pub pass_entry-requires : goal.pass_entry-requires
pass_entry-requires c = c.requires.scope

pub loop-entry-init : goal.loop-entry-init
loop-entry-init c = went_begun c.args.side.now.tables.now.decls _ _

pub loop-entry-preserved : goal.loop-entry-preserved
loop-entry-preserved c = entries_next c.args.side.now.tables.now.decls _ _ _ c.args.entries.now c.loop-entry.entry-index c.entry-item.result c.loop-entry-test.true c.entry-item.is c.loop-entry.invariant c.in_ok-pass_entry.ensures.passed

pub returns-in_err-pass_entry-clause-bad : goal.returns-in_err-pass_entry-clause-bad
returns-in_err-pass_entry-clause-bad c = let p = err_from_is_err_and c.from_residual.result c.from_residual.ensures.1 in rw (p.1, p.2) (entries_bad c.args.side.now.tables.now.decls _ _ c.args.entries.now c.loop-entry.entry-index c.entry-item.result _ c.loop-entry-test.true c.entry-item.is c.loop-entry.invariant c.in_err-pass_entry.ensures.bad)

pub returns-clause-passed : goal.returns-clause-passed
returns-clause-passed c = entries_ended c.args.side.now.tables.now.decls _ _ c.args.entries.now c.loop-entry.entry-index c.loop-entry-test.false c.loop-entry.invariant
