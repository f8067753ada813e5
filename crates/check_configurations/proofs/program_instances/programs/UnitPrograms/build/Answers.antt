use Rattle.std.proofs.Common.{ap, ◌∙◌}
use Rattle.st_tree.specs.declared.unit.Unit.{Unit}
use Rattle.check_configurations.proofs.program_instances.ProgramLaws.{programs_next, programs_ended}
use Rattle.check_configurations.proofs.program_instances.programs.UnitPrograms.build.Goals as goal

pub loop-decl-init : goal.loop-decl-init
loop-decl-init c = c.none-programs.ensures c.args.tables.now.decls

pub loop-decl-preserved : goal.loop-decl-preserved
loop-decl-preserved c =
    programs_next c.args.tables.now.decls c.as_slice-decls.result.now c.loop-decl.decl-index c.loop-decl.programs c.add_declared.new.self c.decl-item.result c.loop-decl-test.true c.decl-item.is c.in_ok-add_declared.ensures
    c.loop-decl.invariant

pub returns : goal.returns
returns c =
    programs_ended c.args.tables.now.decls c.as_slice-decls.result.now c.loop-decl.decl-index c.loop-decl.programs c.loop-decl-test.false (c.as_slice-decls.ensures ∙ ap (λ (u : Unit). u.decls) c.unit.ensures) c.loop-decl.invariant
