use Rattle.std.proofs.Common.{sym, ◌∙◌}
use Rattle.st_check_decl.proofs.unit_check.SideLaws.{good_of, refused_of, serves}
use Rattle.st_check_decl.proofs.unit_check.checking.check_beside.Goals as goal

pub check_by-requires-clause-side : goal.check_by-requires-clause-side
check_by-requires-clause-side c = serves _ c.args.unit.now c.requires.tables c.requires.scope c.in_ok-programs.ensures c.requires.names c.in_ok-signatures.ensures c.requires.heights

pub check_by-requires-clause-unit : goal.check_by-requires-clause-unit
check_by-requires-clause-unit c = c.as_slice.ensures ∙ (λ i. (sym c.requires.tables i).decls)

pub returns-clause-ok : goal.returns-clause-ok
returns-clause-ok c = good_of _ c.args.unit.now c.as_slice.ensures _ c.check_by.ensures.ok

pub returns-clause-err : goal.returns-clause-err
returns-clause-err c = refused_of _ c.args.unit.now c.as_slice.ensures _ c.check_by.ensures.err
