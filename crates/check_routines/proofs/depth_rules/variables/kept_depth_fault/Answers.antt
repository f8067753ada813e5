use Rattle.std.proofs.Common.{refl}
use Rattle.std.specs.Prelude.{not, ◌&&◌}
use Rattle.st_rules.specs.Scope.{is_instance_sort}
use Rattle.st_unit_rules.specs.declared_names.Variables.{is_kept_written, declares_constants}
use Rattle.st_unit_rules.specs.declaration_list.Written.{global_of}
use Rattle.check_names.proofs.name_rules.FaultLists.{faults_next}
use Rattle.check_routines.specs.depth_rules.Private.Variables.{in_program, with_first}
use Rattle.check_routines.proofs.depth_rules.VariableLaws.{names_found}
use Rattle.check_routines.proofs.depth_rules.variables.kept_depth_fault.Goals as goal

pub loop-name-preserved : goal.loop-name-preserved
loop-name-preserved c =
    faults_next (λ n. with_first is_kept_written (in_program c.args.graph.now.decls c.args.s.now c.args.line) (global_of n)) c.args.names.now _ _ _ _ _ c.loop-name-test.true c.name-item.is c.in_ok-one.ensures c.earlier-found.ensures c.loop-name.invariant

pub returns : goal.returns
returns c =
    names_found is_kept_written (in_program c.args.graph.now.decls c.args.s.now c.args.line) (λ x. is_instance_sort x.sort && not (declares_constants x)) (λ x item n. refl) c.args.names.now _ _ c.loop-name-test.false c.loop-name.invariant
