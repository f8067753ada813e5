use Rattle.std.proofs.Common.{refl}
use Rattle.std.specs.Prelude.{not, ◌&&◌}
use Rattle.st_rules.specs.Scope.{is_body_sort}
use Rattle.st_unit_rules.specs.declared_names.Variables.{is_body_written, declares_constants}
use Rattle.st_unit_rules.specs.declaration_list.Written.{global_of}
use Rattle.st_unit_rules.specs.DeclarationRules.{item_too_deep}
use Rattle.check_names.proofs.name_rules.FaultLists.{faults_next}
use Rattle.check_routines.specs.depth_rules.Private.Variables.{with_first}
use Rattle.check_routines.proofs.depth_rules.VariableLaws.{names_found}
use Rattle.check_routines.proofs.depth_rules.variables.body_depth_fault.Goals as goal

pub loop-name-preserved : goal.loop-name-preserved
loop-name-preserved c =
    faults_next (λ n. with_first is_body_written (item_too_deep c.args.graph.now.decls c.args.s.now) (global_of n)) c.args.names.now _ _ _ _ _ c.loop-name-test.true c.name-item.is c.in_ok-one.ensures c.earlier-found.ensures c.loop-name.invariant

pub returns : goal.returns
returns c =
    names_found is_body_written (item_too_deep c.args.graph.now.decls c.args.s.now) (λ x. is_body_sort x.sort && not (declares_constants x)) (λ x item n. refl) c.args.names.now _ _ c.loop-name-test.false c.loop-name.invariant
